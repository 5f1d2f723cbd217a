-- What holds of every crate that a reply or a time-up may lead to holds of the crate after it (`after_any`).
-- Assumes nothing.
use Prim.Native.Nat.{ℕ, ◌+◌, ◌<◌, ◌≤◌}
use mathlib.Core.Path.{◌≡◌, refl}
use mathlib.Core.Bool.{Bool, true, false, cond}
use mathlib.Core.List.{List}
use lib.Dec.{ltb}
use lib.ListN.{length}
use borrow.Author.Tests.{ltb-true, ltb-false, leb-false}
use Rattle.refusals.specs.Tables.{given, refused}
use Rattle.steps.specs.declared.Judged.{Judged}
use Rattle.crate_pass.specs.declared.PassKind.{PassKind}
use Rattle.crate_pass.specs.declared.Crate.{Crate}
use Rattle.crate_pass.specs.Crate.{is_done, placed, advanced, stepped, noted, with_reply, with_record, after_good_reply, after_failed_send, moved}
use Rattle.crate_pass.specs.Crate.{unless_refused}
use Rattle.crate_pass.proofs.Answered.{crate_answer, crate_after}

module _ (kind : PassKind) (w : ℕ) (k : Crate) (h : Judged) (P : Crate → Type 0) where
  -- P holds of the crate as it was, after a good reply, and after another or none
  pub record Each : Type 0 where
    pub same : P k
    pub next-step : k.board < 10 → h.good ≡ true → k.code < 3 → P (placed (with_reply k h) k.board (k.code + 1) 0)
    pub next-board : k.board < 10 → h.good ≡ true → 3 ≤ k.code → P (advanced kind w (with_reply k h))
    pub again : k.board < 10 → k.tries < 2 → P (placed k k.board k.code (k.tries + 1))
    pub failed : k.board < 10 → 2 ≤ k.tries → P (advanced kind w (with_record k))

  module _ (each : Each) where
    after-good : k.board < 10 → h.good ≡ true → P (after_good_reply kind w k h).state
    unfolding after_good_reply stepped noted
    after-good d g = go (ltb k.code 3) refl
      where
        go : (t : Bool) → ltb k.code 3 ≡ t → P (cond t (placed (with_reply k h) k.board (k.code + 1) 0) (advanced kind w (with_reply k h)))
        go true e = each.next-step d g (ltb-true _ _ e)
        go false e = each.next-board d g (ltb-false _ _ e)

    after-other : k.board < 10 → P (after_failed_send kind w k).state
    unfolding after_failed_send
    after-other d = go (ltb k.tries 2) refl
      where
        go : (t : Bool) → ltb k.tries 2 ≡ t → P (after_failed_send kind w k).state
        go true e = rw e (each.again d (ltb-true _ _ e))
        go false e = rw e (each.failed d (ltb-false _ _ e))

    after-moved : k.board < 10 → P (moved kind w k h).state
    after-moved d = go h.good refl
      where
        go : (t : Bool) → h.good ≡ t → P (cond t (after_good_reply kind w k h) (after_failed_send kind w k)).state
        go true e = after-good d e
        go false e = after-other d

    pub after_any : (lent : List ℕ) → P (crate_after kind w k h lent)
    unfolding crate_after crate_answer
    after_any lent = go (is_done k) (ltb (length lent) 28) refl
      where
        go : (t u : Bool) → is_done k ≡ t
            → P (unless_refused (cond t (refused 12 0) (cond u (refused 19 0) (given (moved kind w k h).outcome))) (moved kind w k h).state k)
        go true u e = each.same
        go false true e = each.same
        go false false e = after-moved (leb-false _ _ e)
