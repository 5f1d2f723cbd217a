-- `crate_pass::Crate::begin` meets its contract. Assumes nothing.
use mathlib.Core.Path.{sym, ◌∙◌}
use Rattle.crate_pass.specs.Crate.{begun_crate}
use Rattle.crate_pass.proofs.Cleared.{lists-only}
use Rattle.crate_pass.proofs.Crate.begin.Goals as goal

pub returns-then-clears_list : goal.returns-then-clears_list
unfolding begun_crate
returns-then-clears_list c =
    let list = sym c.clears_list.ensures ∙ c.if-clears_list.true in
    let kept = lists-only c.args.kind list in
    rw (list, kept, c.first_code.ensures, c.sent_at.ensures, c.next_board-board.ensures)

pub returns-then-is_rate_pass : goal.returns-then-is_rate_pass
unfolding begun_crate
returns-then-is_rate_pass c =
    let list = sym c.clears_list.ensures ∙ c.if-clears_list.false in
    let rates = sym c.is_rate_pass.ensures ∙ c.if-is_rate_pass.true in
    rw (list, rates, c.first_code.ensures, c.sent_at.ensures, c.next_board-board.ensures)

pub returns-else-is_rate_pass : goal.returns-else-is_rate_pass
unfolding begun_crate
returns-else-is_rate_pass c =
    let list = sym c.clears_list.ensures ∙ c.if-clears_list.false in
    let rates = sym c.is_rate_pass.ensures ∙ c.if-is_rate_pass.false in
    rw (list, rates, c.first_code.ensures, c.sent_at.ensures, c.next_board-board.ensures)
