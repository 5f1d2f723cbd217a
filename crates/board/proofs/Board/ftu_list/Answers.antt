-- `board::Board::ftu_list` meets its contract. Assumes nothing.
use mathlib.Core.Path.{sym, ◌∙◌}
use Rattle.refusals.specs.declared.Refusal.TheVariants.{NotAcceptedNow}
use Rattle.blocks.proofs.Laws.{block-own, block-under}
use Rattle.board.proofs.Sending.{list-9, list-clear}
use Rattle.board.proofs.Board.ftu_list.Goals as goal

pub returns-then-in_pass : goal.returns-then-in_pass
returns-then-in_pass c =
    block-own _ 249 _ _ _ NotAcceptedNow
    (list-9 c.args.self (sym c.in_pass.ensures ∙ c.if-in_pass.true))

pub returns : goal.returns
returns c =
    let own = c.args.self in
    block-under _ _ _ _ _ _ _ (list-clear own (sym c.in_pass.ensures ∙ c.if-in_pass.false))
    (rw (c.header.ensures, c.entries_of-entries.ensures)
    at c.write_list.ensures)
