-- `far_end::read_response` meets its contract. Assumes nothing.
use mathlib.Core.Path.{ap, ◌∙◌}
use lib.ListN.{drop}
use Rattle.block_reader.specs.Reading.{body_where}
use Rattle.far_end.proofs.Printing.{block_read, block_refused}
use borrow.Author.Rules.{rules}
use Rattle.far_end.proofs.read_response.Goals as goal

pub returns-in-Ok : goal.returns-in-Ok
returns-in-Ok c bytes =
    let a = c.args in
    block_read a.kind a.words.now _ c.read_block-answer.ensures _ c.in-Ok.is c.body_after-body.result.now a.out.now _
    (c.body_after-body.ensures.contents ∙ ap (λ x. body_where x (drop 11 a.words.now)) c.read_block-answer.ensures)
    (search rules) c.copy_words.ensures

pub returns-in-Err : goal.returns-in-Err
returns-in-Err c bytes =
    let a = c.args in
    c.refusal_response.ensures bytes _ ∙ block_refused a.kind a.words.now _ c.read_block-answer.ensures _ c.in-Err.is
