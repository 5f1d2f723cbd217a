-- Calls on one of the four crates: a law for each way that one is answered, and that the answers are exactly what the tables say.
-- Assumes nothing.
use Prim.Native.Nat.{ℕ, ◌<◌, ◌≤◌}
use mathlib.Core.Path.{◌≡◌, refl}
use mathlib.Core.Bool.{true, false}
use mathlib.Core.List.{List, [], ◌∷◌}
use borrow.Author.Tests.{lt-ltb, le-ltb}
use Rattle.refusals.specs.Tables.{given, refused}
use Rattle.refusals.proofs.Tables.{Exactly, exactly}
use Rattle.crate_pass.specs.Crate.{is_done, no_such_crate}
use Rattle.crate_pass.specs.declared.Crate.{Crate}
use Rattle.four_crates.specs.FourCrates.{crate_of, first_answer, sent_on}

module _ (cs : List Crate) (i : ℕ) where
  -- the first frame: 11, nothing outstanding, a reply or a time-up counted, and given
  pub first-11 : 3 < i → refused 11 0 ≡ first_answer cs i
  unfolding first_answer
  first-11 h = rw (lt-ltb _ _ h) refl

  module _ (h : i ≤ 3) where
    pub first-none : is_done (crate_of cs i) ≡ true → refused 12 0 ≡ first_answer cs i
    unfolding first_answer
    first-none d = rw (le-ltb _ _ h, d) refl

    module _ (d : is_done (crate_of cs i) ≡ false) where
      pub first_counted : 1 < (crate_of cs i).sent → refused 12 0 ≡ first_answer cs i
      unfolding first_answer
      first_counted l = rw (le-ltb _ _ h, d, lt-ltb _ _ l) refl

      pub first-given : (crate_of cs i).sent ≤ 1 → given ((crate_of cs i).board, (crate_of cs i).code) ≡ first_answer cs i
      unfolding first_answer
      first-given l = rw (le-ltb _ _ h, d, le-ltb _ _ l) refl

  pub sent-11 : 3 < i → refused 11 0 ≡ sent_on cs i
  unfolding sent_on
  sent-11 h = rw (lt-ltb _ _ h) refl

  pub sent-given : i ≤ 3 → given (crate_of cs i).sent ≡ sent_on cs i
  unfolding sent_on
  sent-given h = rw (le-ltb _ _ h) refl

  pub sent-exactly : Exactly (no_such_crate i ∷ []) (crate_of cs i).sent (sent_on cs i)
  unfolding sent_on
  sent-exactly = exactly (no_such_crate i ∷ []) (crate_of cs i).sent tt
