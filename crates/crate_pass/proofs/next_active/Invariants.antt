-- `crate_pass::next_active` meets its contract. Assumes nothing.
use Prim.Native.Nat.{◌-◌}
use mathlib.Core.Path.{◌≡◌}
use Rattle.crate_pass.specs.declared.PassKind.TheVariants.{Reprogramming}
use Rattle.crate_pass.specs.Crate.{next_board}
use Rattle.crate_pass.proofs.next_active.Given as goal

abbrev pub invariant-loop-b : goal.invariant-loop-b
invariant-loop-b l = next_board Reprogramming l.word l.b ≡ next_board Reprogramming l.word l.from
