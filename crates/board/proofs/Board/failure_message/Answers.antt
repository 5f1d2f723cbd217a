-- `board::Board::failure_message` meets its contract. Assumes nothing.
use mathlib.Core.Path.{◌≡◌, sym, ap, ◌∙◌}
use Rattle.std.specs.Prelude.{Err}
use borrow.Author.Rules.{rules}
use Rattle.refusals.specs.declared.Refusal.TheVariants.{NotAcceptedNow}
use Rattle.blocks.proofs.Laws.{block-own}
use Rattle.board.proofs.Sending.{failure-9, failure-refused, failure-found}
use Rattle.board.proofs.Board.failure_message.Goals as goal
use Rattle.refusals.specs.Tables.{answer_of}

pub returns-then-in_pass : goal.returns-then-in_pass
returns-then-in_pass c =
    let a = c.args in
    block-own _ 29 _ _ _ NotAcceptedNow (failure-9 a.self a.ordinal (sym c.in_pass.ensures ∙ c.if-in_pass.true))

pub returns : goal.returns
returns c =
    let a = c.args in
    failure-found a.self a.ordinal (sym c.in_pass.ensures ∙ c.if-in_pass.false) _
    (sym (ap answer_of c.in_ok-f.was) ∙ c.record_at.ensures) _ c.header.ensures _ _ _ _
    c.step_frame-frame.ensures c.write_failure.ensures

pub returns-in_err-f : goal.returns-in_err-f
returns-in_err-f c =
    let a = c.args in
    let same : c.from_residual.result ≡ Err c.in_err-f.field-0.0 = search rules in
    rw same
    (failure-refused a.self a.ordinal (sym c.in_pass.ensures ∙ c.if-in_pass.false) _
    (sym (ap answer_of c.in_err-f.was) ∙ c.record_at.ensures) _)
