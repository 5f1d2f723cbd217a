-- What a crate that there is answers to a reply or a time-up, and what it is then: 11 aside, `served_answer` and the state of `Serves`.
-- Assumes nothing.
use Prim.Native.Nat.{ℕ}
use mathlib.Core.List.{List, [], ◌∷◌}
use Rattle.refusals.specs.Tables.{Answer, rule, lowest}
use Rattle.refusals.specs.Writing.{too_short}
use Rattle.steps.specs.declared.Judged.{Judged}
use Rattle.crate_pass.specs.declared.PassKind.{PassKind}
use Rattle.crate_pass.specs.declared.Outcome.{Outcome}
use Rattle.crate_pass.specs.declared.Crate.{Crate}
use Rattle.crate_pass.specs.Crate.{is_done, moved, unless_refused}

unfoldable pub crate_answer : PassKind → ℕ → Crate → Judged → List ℕ → Answer Outcome
crate_answer kind w k h lent = lowest (rule 12 (is_done k) ∷ too_short 28 lent ∷ []) (moved kind w k h).outcome

unfoldable pub crate_after : PassKind → ℕ → Crate → Judged → List ℕ → Crate
crate_after kind w k h lent = unless_refused (crate_answer kind w k h lent) (moved kind w k h).state k
