-- What a call leaves: a law for each way that one returns.
-- Assumes nothing.
use Prim.Native.Nat.{ℕ, ◌≤◌}
use native.Mathlib.Omega.{arith}
use mathlib.Core.Path.{◌≡◌, refl, sym, ap, ◌∙◌}
use mathlib.Core.List.{List, [], ◌∷◌}
use lib.ListN.{length, drop, set}
use borrow.Author.Tests.{eq-eqb, ne_eqb}
use Rattle.call_refusals.specs.CallRefusals.{lower_of, no_room}
use Rattle.call_refusals.proofs.Numbers.{room-one}
use Rattle.steps.specs.declared.Event.{Event}
use Rattle.board.specs.declared.Board.{Board}
use Rattle.reply_series.specs.Series.{Counts}
use Rattle.exports.specs.Exports.{holds, Leaves, GivesCount, CountsItems}

module _ (refusal : ℕ) (made lent : List ℕ) (r : ℕ) (e : r ≡ refusal) where
  pub gives-refused : (r ≡ 0 → ⊥) → Leaves refusal made lent r lent
  unfolding holds
  gives-refused h = record { answer = e; output = rw (sym e, ne_eqb r 0 h) refl }

  module _ (z : r ≡ 0) (after : List ℕ) where
    pub gives : after ≡ made → Leaves refusal made lent 0 after
    unfolding holds
    gives q = record { answer = sym z ∙ e; output = rw (sym e, eq-eqb r 0 z) q }

-- a count
first-set : (n : ℕ) (out : List ℕ) → 1 ≤ length out → set out 0 n ≡ n ∷ drop 1 out
first-set n [] h = absurd (let z : ⊥ = omega arith in z)
first-set n (x ∷ out) h = refl

pub gives-count : (own n : ℕ) (out : List ℕ) (r : ℕ) → r ≡ lower_of own (no_room 1 (length out)) → r ≡ 0 → (m : ℕ) → m ≡ n
    → GivesCount own n out 0 (set out 0 m)
gives-count own n out r e z m em =
    let room = room-one own (length out) r e z in
    gives _ _ out r e z (set out 0 m) (first-set m out room ∙ ap (λ (k : ℕ). k ∷ drop 1 out) em)

-- items handed in
module _ (event : Event) (own : ℕ) (β : Board) (items frame out : List ℕ) (r : ℕ) (e : r ≡ lower_of own (no_room 1 (length out))) where
  pub items_refused : (r ≡ 0 → ⊥) → CountsItems event (lower_of own (no_room 1 (length out))) β items frame out r frame out
  items_refused h = record { many = gives-refused _ _ out r e h; bytes = gives-refused _ _ frame r e h }

  pub items-counted : r ≡ 0 → (n : ℕ) (after : List ℕ) → Counts event β items frame n after
      → CountsItems event (lower_of own (no_room 1 (length out))) β items frame out 0 after (set out 0 n)
  items-counted z n after c = record { many = gives-count own _ out r e z n c.number; bytes = gives _ _ frame r e z after c.bytes }
