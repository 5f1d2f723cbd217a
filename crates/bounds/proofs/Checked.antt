-- What a check of bounds found: whether row 8 applies, and with which place.
-- Assumes nothing.
use Prim.Native.Nat.{ℕ, ◌<◌, ◌≤◌}
use mathlib.Core.Path.{◌≡◌, refl, sym, ap, ◌∙◌}
use mathlib.Core.Bool.{Bool, true, false, cond}
use mathlib.Core.List.{List, [], ◌∷◌}
use mathlib.Core.Logic.{⊎_elim}
use lib.ListN.{length}
use lib.Dec.{ltb}
use borrow.Author.Tests.{ltb-true, ltb-false}
use Rattle.refusals.specs.Tables.{Rule, lowest}
use Rattle.refusals.proofs.Tables.{Exactly, exactly, given-clear, refused-applies}
use Rattle.bounds.specs.Bounds.{lowest_above, above_bound, checked_meaning, bounds_answer}
use Rattle.bounds.specs.CodeShape.{found}
use Rattle.bounds.specs.declared.WordAboveBound.{WordAboveBound}
use Rattle.std.specs.Prelude.{Option, Some, None, Result, Ok, Err}

abbrev pub Checked : Type 0
Checked = Result Unit WordAboveBound

-- the lowest place above its bound is p
abbrev pub above : ℕ → Checked
above p = Err (record { place = p })

-- what a search that gave r says of the words
abbrev pub checked : Option ℕ → Checked
checked (Some p) = above p
checked None = Ok tt

-- ---- a check whose answer is that of one row

module _ (row : Rule) (r : Checked) (e : checked_meaning r ≡ lowest (row ∷ []) tt) where
  -- a word is above its bound: the row applies, with the place
  pub row-above : (p : ℕ) → r ≡ above p → (row.applies ≡ true) × (row.number ≡ 8) × (row.place ≡ p)
  row-above p q = ⊎_elim (λ a. a) (λ a. absurd a) (refused-applies (row ∷ []) tt 8 p (sym e ∙ ap checked_meaning q))

  -- each is within it: the row does not apply
  pub row_within : r ≡ Ok tt → row.applies ≡ false
  row_within q = (given-clear (row ∷ []) tt tt (sym e ∙ ap checked_meaning q)).0

-- ---- the check of a list

module _ (bound : ℕ → ℕ) (l : List ℕ) where
  -- it refuses exactly where the row applies
  pub bounds-exactly : Exactly (above_bound bound (length l) l ∷ []) tt (bounds_answer bound l)
  unfolding bounds_answer
  bounds-exactly = exactly (above_bound bound (length l) l ∷ []) tt tt

  -- the search gave r
  pub answer-found : (r : Option ℕ) → r ≡ found bound l → checked_meaning (checked r) ≡ bounds_answer bound l
  unfolding found bounds_answer
  answer-found r e = rw e (go (ltb (lowest_above bound 0 l) (length l)) refl)
    where
      go : (t : Bool) → ltb (lowest_above bound 0 l) (length l) ≡ t
          → checked_meaning (checked (cond (ltb (lowest_above bound 0 l) (length l)) (Some (lowest_above bound 0 l)) None))
          ≡ lowest (above_bound bound (length l) l ∷ []) tt
      go true q = rw q refl
      go false q = rw q refl

  -- the check found r
  module _ (r : Checked) (e : checked_meaning r ≡ bounds_answer bound l) where
    pub checked-above : (p : ℕ) → r ≡ above p → (p ≡ lowest_above bound 0 l) × (p < length l)
    unfolding bounds_answer
    checked-above p q =
        let a = row-above (above_bound bound (length l) l) r e p q in
        (sym a.2, rw (sym a.2) (ltb-true _ _ a.0))

    pub checked-within : r ≡ Ok tt → length l ≤ lowest_above bound 0 l
    unfolding bounds_answer
    checked-within q = ltb-false _ _ (row_within (above_bound bound (length l) l) r e q)
