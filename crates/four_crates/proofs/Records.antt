-- The search for a failure record, one board at a time; what a record says; records rise in k, 40 at most, and a pass that begins has none.
-- Assumes nothing.
use Prim.Native.Nat.{ℕ, zero, suc, ◌+◌, ◌-◌, ◌/◌, ◌%◌, ◌<◌, ◌≤◌}
use mathlib.Core.Path.{◌≡◌, refl, sym, ap, ◌∙◌}
use mathlib.Core.Bool.{Bool, true, false, cond}
use mathlib.Core.List.{List, [], ◌∷◌}
use native.Mathlib.Omega.{arith}
use native.Mathlib.Numerals.{add-one}
use lib.Dec.{eqb, leb}
use lib.ListN.{length, get_or, replicate}
use borrow.Author.Tests.{lt-ltb, eq-eqb, ne_eqb, eqb-false, le-leb, lt-leb, leb-true, leb-false}
use Rattle.refusals.specs.Tables.{Answer, given, refused, rule, lowest}
use Rattle.refusals.proofs.Tables.{Exactly, exactly}
use Rattle.crate_pass.specs.Crate.{begun_crate}
use Rattle.crate_pass.specs.declared.PassKind.{PassKind}
use Rattle.crate_pass.specs.declared.Crate.{Crate}
use Rattle.crate_pass.proofs.Invariant.{zeros}
use Rattle.four_crates.specs.FourCrates.{crate_of, begun_all, failed_at, failure, records_from, records, record_at, no_such_record, record_answer}
use Rattle.four_crates.specs.declared.Failure.{Failure}

-- the n-th of a list of records, and 18 where it has no more than n
abbrev in_list : List Failure → ℕ → Answer Failure
in_list l n = lowest (rule 18 (leb (length l) n) ∷ []) (get_or l n (failure 0 0))

leb-suc : (m n : ℕ) → leb (suc m) (suc n) ≡ leb m n
leb-suc m n = go (leb m n) refl
  where
    go : (t : Bool) → leb m n ≡ t → leb (suc m) (suc n) ≡ leb m n
    go true e = le-leb (suc m) (suc n) (let h = leb-true m n e in omega arith) ∙ sym e
    go false e = lt-leb (suc m) (suc n) (let h = leb-false m n e in omega arith) ∙ sym e

module _ (cs : List Crate) where
  -- the records from board k on, and the n-th of them
  abbrev pub left : ℕ → List Failure
  left k = records_from cs (40 - k) k

  abbrev pub found : ℕ → ℕ → Answer Failure
  found k n = in_list (left k) n

  left-suc : (k : ℕ) → k < 40 → 40 - k ≡ suc (40 - (k + 1))
  left-suc k h = omega arith

  skip : (k : ℕ) → k < 40 → failed_at cs k ≡ 0 → left k ≡ left (k + 1)
  skip k h e = rw (left-suc k h) (rw (eq-eqb _ _ e, add-one k) refl)

  here : (k : ℕ) → k < 40 → (failed_at cs k ≡ 0 → ⊥) → left k ≡ failure k (failed_at cs k) ∷ left (k + 1)
  here k h e = rw (left-suc k h) (rw (ne_eqb _ _ e, add-one k) refl)

  pub found-skip : (k n : ℕ) → k < 40 → failed_at cs k ≡ 0 → found k n ≡ found (k + 1) n
  found-skip k n h e = ap (λ (l : List Failure). in_list l n) (skip k h e)

  pub found_here : (k : ℕ) → k < 40 → (failed_at cs k ≡ 0 → ⊥) → found k 0 ≡ given (failure k (failed_at cs k))
  found_here k h e =
      ap (λ (l : List Failure). in_list l 0) (here k h e)
      ∙ rw (lt-leb (suc (length (left (k + 1)))) 0 (omega arith)) refl

  pub found-later : (k n : ℕ) → k < 40 → (failed_at cs k ≡ 0 → ⊥) → (n ≡ 0 → ⊥) → found k n ≡ found (k + 1) (n - 1)
  found-later k n h e z =
      let s : n ≡ suc (n - 1) = omega arith in
      ap (λ (l : List Failure). in_list l n) (here k h e)
      ∙ ap (λ (m : ℕ). in_list (failure k (failed_at cs k) ∷ left (k + 1)) m) s
      ∙ rw (leb-suc (length (left (k + 1))) (n - 1)) refl

  pub found_none : (k n : ℕ) → 40 ≤ k → found k n ≡ refused 18 0
  found_none k n h = let z : 40 - k ≡ 0 = omega arith in rw (z, le-leb 0 n (omega arith)) refl

  left-first : left 0 ≡ records cs
  unfolding records
  left-first = refl

  in-records : (n : ℕ) → in_list (records cs) n ≡ record_answer cs n
  unfolding record_answer
  in-records n = refl

  pub found_first : (n : ℕ) → found 0 n ≡ record_answer cs n
  found_first n = ap (λ (l : List Failure). in_list l n) left-first ∙ in-records n

  -- a record of an ordinal is given exactly where there are more than that, and 18 exactly where there are not
  pub record-exactly : (n : ℕ) → Exactly (no_such_record cs n ∷ []) (record_at cs n) (record_answer cs n)
  unfolding record_answer
  record-exactly n = exactly (no_such_record cs n ∷ []) (record_at cs n) tt

-- ---- a record says what failed on its board

-- what holds of each board that failed, with its code, holds of each record
any-from : (cs : List Crate) (P : Failure → Type 0) → ((k : ℕ) → k < 40 → (failed_at cs k ≡ 0 → ⊥) → P (failure k (failed_at cs k)))
    → (n k : ℕ) → k + n ≤ 40 → (i : ℕ) → i < length (records_from cs n k) → P (get_or (records_from cs n k) i (failure 0 0))
any-from cs P f zero k h i l = absurd (let z : ⊥ = omega arith in z)
any-from cs P f (suc n) k h i l = go (eqb (failed_at cs k) 0) refl (any-from cs P f n (suc k) (omega arith)) i l
  where
    go : (t : Bool) → eqb (failed_at cs k) 0 ≡ t
        → ((j : ℕ) → j < length (records_from cs n (suc k)) → P (get_or (records_from cs n (suc k)) j (failure 0 0)))
        → (i : ℕ) → i < length (records_from cs (suc n) k) → P (get_or (records_from cs (suc n) k) i (failure 0 0))
    go true e more i l = rw e (more i (rw e at l))
    go false e more zero l = rw e (f k (omega arith) (eqb-false _ _ e))
    go false e more (suc i) l = rw e (more i (let m : suc i < suc (length (records_from cs n (suc k))) = rw e at l in omega arith))

all-boards : 0 + 40 ≤ 40
all-boards = omega arith

pub record-any : (cs : List Crate) (P : Failure → Type 0) → ((k : ℕ) → k < 40 → (failed_at cs k ≡ 0 → ⊥) → P (failure k (failed_at cs k)))
    → (i : ℕ) → i < length (records cs) → P (record_at cs i)
unfolding records
record-any cs P f i l = any-from cs P f 40 0 all-boards i l

-- ---- "Records stand in rising k, 40 at most"

most : (cs : List Crate) (n k : ℕ) → length (records_from cs n k) ≤ n
most cs zero k = omega arith
most cs (suc n) k = go (eqb (failed_at cs k) 0) (most cs n (suc k))
  where
    go : (t : Bool) → length (records_from cs n (suc k)) ≤ n
        → length (cond t (records_from cs n (suc k)) (failure k (failed_at cs k) ∷ records_from cs n (suc k))) ≤ suc n
    go true h = omega arith
    go false h = omega arith

pub forty-most : (cs : List Crate) → length (records cs) ≤ 40
unfolding records
forty-most cs = most cs 40 0

-- each record's k is m or more, and above the one before
abbrev pub Rises : ℕ → List Failure → Type 0
Rises m [] = Unit
Rises m (f ∷ fs) = (m ≤ f.k) × Rises (suc f.k) fs

rises-lower : (m : ℕ) (fs : List Failure) → Rises (suc m) fs → Rises m fs
rises-lower m [] r = tt
rises-lower m (f ∷ fs) r = (let h = r.0 in omega arith, r.1)

rises : (cs : List Crate) (n k : ℕ) → Rises k (records_from cs n k)
rises cs zero k = tt
rises cs (suc n) k = go (eqb (failed_at cs k) 0) (rises cs n (suc k))
  where
    go : (t : Bool) → Rises (suc k) (records_from cs n (suc k))
        → Rises k (cond t (records_from cs n (suc k)) (failure k (failed_at cs k) ∷ records_from cs n (suc k)))
    go true h = rises-lower k (records_from cs n (suc k)) h
    go false h = (omega arith, h)

pub records-rise : (cs : List Crate) → Rises 0 (records cs)
unfolding records
records-rise cs = rises cs 40 0

-- ---- records "are cleared when a pass begins"

none_from : (cs : List Crate) → ((k : ℕ) → k < 40 → failed_at cs k ≡ 0) → (n k : ℕ) → k + n ≤ 40 → records_from cs n k ≡ []
none_from cs f zero k h = refl
none_from cs f (suc n) k h = rw (eq-eqb _ _ (f k (omega arith))) (none_from cs f n (suc k) (omega arith))

module _ (kind : PassKind) (words : List ℕ) (cs : List Crate) where
  begun-failed : (c : ℕ) → c < 4 → (crate_of (begun_all kind words cs) c).failed ≡ replicate 10 0
  unfolding begun_all begun_crate
  begun-failed zero h = refl
  begun-failed (suc zero) h = refl
  begun-failed (suc (suc zero)) h = refl
  begun-failed (suc (suc (suc zero))) h = refl
  begun-failed (suc (suc (suc (suc c)))) h = absurd (omega arith)

  begun-none : (k : ℕ) → k < 40 → failed_at (begun_all kind words cs) k ≡ 0
  unfolding failed_at
  begun-none k h = rw (lt-ltb _ _ h) (ap (λ (l : List ℕ). get_or l (k % 10) 0) (begun-failed (k / 10) (omega arith)) ∙ zeros 10 (k % 10))

  pub records-begun : records (begun_all kind words cs) ≡ []
  unfolding records
  records-begun = none_from (begun_all kind words cs) begun-none 40 0 all-boards
