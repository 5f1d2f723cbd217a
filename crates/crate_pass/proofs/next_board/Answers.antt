-- `crate_pass::next_board` meets its contract. Assumes nothing.
use mathlib.Core.Path.{refl, sym, ◌∙◌}
use Rattle.crate_pass.specs.declared.PassKind.TheVariants.{Ping}
use Rattle.crate_pass.proofs.Next.{next_here, next-none, next-rates}
use Rattle.crate_pass.proofs.next_board.Goals as goal

pub returns-then-from-lt10 : goal.returns-then-from-lt10
returns-then-from-lt10 c = rw c.in-Ping.is (sym (next_here Ping _ _ c.if-from-lt10.true refl))

pub returns-else-from-lt10 : goal.returns-else-from-lt10
returns-else-from-lt10 c = rw c.in-Ping.is (sym (next-none Ping _ _ c.if-from-lt10.false))

pub returns-in-Rates : goal.returns-in-Rates
returns-in-Rates c = rw c.in-Rates.is (c.next_active-in-Rates.ensures ∙ next-rates _ _)
