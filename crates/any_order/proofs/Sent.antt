-- The number of frames goes up with each that is sent, so it tells how many replies and time-ups were counted (`counted_of`).
-- Assumes nothing.
use Prim.Native.Nat.{ℕ, ◌+◌, ◌-◌, ◌<◌, ◌≤◌}
use mathlib.Core.Path.{◌≡◌, refl, ap, ◌∙◌}
use mathlib.Core.List.{[], ◌∷◌}
use mathlib.Core.Bool.{Bool, true, false, cond}
use native.Mathlib.Omega.{arith}
use lib.ListN.{length}
use lib.Dec.{ltb}
use borrow.Author.Tests.{lt-ltb, le-ltb}
use Rattle.steps.specs.declared.Judged.{Judged}
use Rattle.crate_pass.specs.Crate.{counted_frame, placed, advanced, stepped, noted, with_reply, with_record, with_outcome}
use Rattle.crate_pass.specs.Crate.{after_good_reply, after_failed_send, moved}
use Rattle.crate_pass.specs.declared.PassKind.{PassKind}
use Rattle.crate_pass.specs.declared.Outcome.TheVariants.{Again, BoardFailed}
use Rattle.crate_pass.specs.declared.Crate.{Crate}
use Rattle.crate_pass.specs.declared.Moved.{Moved}
use Rattle.any_order.specs.Steps.{step}
use Rattle.any_order.specs.AnyOrder.{step_of}

-- ---- the number goes up with each frame

-- the number that a crate has, having moved from the number n
abbrev Counted : ℕ → Crate → Type 0
Counted n k = k.sent ≡ counted_frame k.board n

module _ (kind : PassKind) (w : ℕ) where
  sent-advanced : (k : Crate) → Counted k.sent (advanced kind w k)
  unfolding advanced placed
  sent-advanced k = refl

  sent-stepped : (k : Crate) → Counted k.sent (stepped kind w k)
  unfolding stepped placed
  sent-stepped k = go (ltb k.code 3)
    where
      go : (t : Bool) → Counted k.sent (cond {A = Crate} t (placed k k.board (k.code + 1) 0) (advanced kind w k))
      go true = refl
      go false = sent-advanced k

  sent-failed-send : (k : Crate) → Counted k.sent (after_failed_send kind w k).state
  unfolding after_failed_send placed with_record
  sent-failed-send k = go (ltb k.tries 2)
    where
      again : Moved
      again = with_outcome Again (placed k k.board k.code (k.tries + 1))

      failed : Moved
      failed = with_outcome BoardFailed (advanced kind w (with_record k))

      go : (t : Bool) → Counted k.sent (cond {A = Moved} t again failed).state
      go true = refl
      go false = sent-advanced (with_record k)

  sent-good : (k : Crate) (h : Judged) → Counted k.sent (after_good_reply kind w k h).state
  unfolding after_good_reply noted
  sent-good k h = sent-stepped (with_reply k h)

  sent-moved : (k : Crate) (h : Judged) → Counted k.sent (moved kind w k h).state
  sent-moved k h = go h.good
    where
      go : (t : Bool) → Counted k.sent (cond {A = Moved} t (after_good_reply kind w k h) (after_failed_send kind w k)).state
      go true = sent-good k h
      go false = sent-failed-send k

counted-one : (k : Crate) (n : ℕ) → n < 65535 → counted_frame k.board n ≡ n + length (step_of k)
unfolding counted_frame step_of
counted-one k n r = go (ltb k.board 10) (ltb n 65535) (lt-ltb _ _ r)
  where
    go : (t u : Bool) → u ≡ true → cond t (cond u (n + 1) n) n ≡ n + length (cond t (step k.board k.code ∷ []) [])
    go true true e = refl
    go true false e = absurd (let z : ◌≡◌ {A = ℕ} 0 1 = cc in omega arith)
    go false u e = omega arith

-- a crate that moved has the number before, and one more where a frame is then outstanding
pub sent-on : (kind : PassKind) (w : ℕ) (k : Crate) (h : Judged) → k.sent < 65535
    → (moved kind w k h).state.sent ≡ k.sent + length (step_of (moved kind w k h).state)
sent-on kind w k h r = sent-moved kind w k h ∙ counted-one (moved kind w k h).state k.sent r

-- ---- how many replies and time-ups were counted

-- "the accepted replies and time-ups of this pass, and one more while a frame is outstanding"
abbrev pub counted_of : Crate → ℕ
counted_of k = k.sent - length (step_of k)

-- what holds of the number of a crate in a pass: it counts the outstanding frame, and can go up
pub record Numbered (k : Crate) : Type 0 where
  pub one : length (step_of k) ≤ k.sent
  pub room : k.sent < 65535

-- at another place one more is counted
pub counted-placed : (k : Crate) (b code tries : ℕ) → k.sent < 65535 → counted_of (placed k b code tries) ≡ k.sent
unfolding placed
counted-placed k b code tries r =
    let next : Crate = placed k b code tries in
    let e : counted_frame b k.sent ≡ k.sent + length (step_of next) = counted-one next k.sent r in
    omega arith

-- the step that is outstanding
pub step-here : (k : Crate) → k.board < 10 → step_of k ≡ step k.board k.code ∷ []
unfolding step_of
step-here k d = rw (lt-ltb _ _ d)

pub step-none : (k : Crate) → 10 ≤ k.board → step_of k ≡ []
unfolding step_of
step-none k d = rw (le-ltb _ _ d)

pub counted-here : (k : Crate) → k.board < 10 → Numbered k → counted_of k + 1 ≡ k.sent
counted-here k d n = let e : length (step_of k) ≡ 1 = ap length (step-here k d) in omega (arith, n.one)
