-- A reply or a time-up is served exactly where no row of its table applies, and refused with the lowest that does.
-- Assumes nothing.
use Prim.Native.Nat.{ℕ}
use mathlib.Core.List.{List}
use Rattle.refusals.proofs.Tables.{Exactly, exactly}
use Rattle.steps.specs.declared.Judged.{Judged}
use Rattle.crate_pass.specs.declared.PassKind.{PassKind}
use Rattle.crate_pass.specs.declared.Crate.{Crate}
use Rattle.crate_pass.specs.Crate.{moved, served_rules, served_answer}

pub served-exactly : (kind : PassKind) (w c : ℕ) (k : Crate) (h : Judged) (lent : List ℕ)
    → Exactly (served_rules c k lent) (moved kind w k h).outcome (served_answer kind w c k h lent)
unfolding served_answer
served-exactly kind w c k h lent = exactly (served_rules c k lent) (moved kind w k h).outcome tt
