-- The failure records of the four crates are the frames of the steps that failed, crate after crate (`records-are`).
-- Assumes nothing.
use Prim.Native.Nat.{ℕ, zero, suc, ◌+◌, ◌*◌, ◌/◌, ◌%◌, ◌<◌}
use mathlib.Core.Path.{◌≡◌, refl, ap, ap₂, ◌∙◌}
use mathlib.Core.List.{List, [], ◌∷◌, ◌++◌, map}
use mathlib.Core.Bool.{Bool, true, false, cond}
use native.Mathlib.Omega.{arith}
use lib.Dec.{eqb}
use lib.ListN.{get_or}
use borrow.Author.Tests.{lt-ltb}
use Rattle.steps.specs.Steps.{step_frame}
use Rattle.crate_pass.specs.declared.Crate.{Crate}
use Rattle.four_crates.specs.FourCrates.{crate_of, failed_at, failure, records_from, records}
use Rattle.four_crates.specs.declared.Failure.{Failure}
use Rattle.any_order.specs.Steps.{step}
use Rattle.any_order.specs.AnyOrder.{of_four}
use Rattle.any_order.proofs.Fetch.{frame_in}
use Rattle.any_order.proofs.Kept.{failed_steps, failed_from, failed-split}

-- ---- the records among some boards, as frames

module _ (block : List ℕ) (cs : List Crate) where
  abbrev pub record_frame : Failure → List ℕ
  record_frame f = step_frame block (f.k / 10) (f.k % 10) f.code

  split-records : (m n k : ℕ) → records_from cs (m + n) k ≡ records_from cs m k ++ records_from cs n (k + m)
  split-records zero n k = ap₂ (records_from cs) (let e : 0 + n ≡ n = omega arith in e) (let e : k ≡ k + 0 = omega arith in e)
  split-records (suc m) n k =
      ap (λ (i : ℕ). records_from cs i k) (let e : suc m + n ≡ suc (m + n) = omega arith in e)
      ∙ go (eqb (failed_at cs k) 0)
      (split-records m n (suc k) ∙ ap (λ (i : ℕ). records_from cs m (suc k) ++ records_from cs n i) (let e : suc k + m ≡ k + suc m = omega arith in e))
    where
      go : (t : Bool) → records_from cs (m + n) (suc k) ≡ records_from cs m (suc k) ++ records_from cs n (k + suc m)
          → cond t (records_from cs (m + n) (suc k)) (failure k (failed_at cs k) ∷ records_from cs (m + n) (suc k))
          ≡ cond t (records_from cs m (suc k)) (failure k (failed_at cs k) ∷ records_from cs m (suc k)) ++ records_from cs n (k + suc m)
      go true ih = ih
      go false ih = ap (λ (fs : List Failure). failure k (failed_at cs k) ∷ fs) ih

  module _ (c : ℕ) (h : c < 4) where
    abbrev codes : List ℕ
    codes = (crate_of cs c).failed

    failed-at : (j : ℕ) → j < 10 → failed_at cs (10 * c + j) ≡ get_or codes j 0
    unfolding failed_at
    failed-at j l =
        let k : 10 * c + j < 40 = omega arith in
        let i : (10 * c + j) / 10 ≡ c = omega arith in
        let b : (10 * c + j) % 10 ≡ j = omega arith in
        rw (lt-ltb _ _ k) (ap₂ (λ (x y : ℕ). get_or (crate_of cs x).failed y 0) i b)

    frame_at : (j code : ℕ) → j < 10 → record_frame (failure (10 * c + j) code) ≡ frame_in block c (step j code)
    frame_at j code l =
        let i : (10 * c + j) / 10 ≡ c = omega arith in
        let b : (10 * c + j) % 10 ≡ j = omega arith in
        ap₂ (λ (x y : ℕ). step_frame block x y code) i b

    crate-records : (n j : ℕ) → j + n ≡ 10 → map record_frame (records_from cs n (10 * c + j)) ≡ map (frame_in block c) (failed_from codes n j)
    crate-records zero j e = refl
    crate-records (suc n) j e =
        rw (failed-at j (omega arith))
        (go (eqb (get_or codes j 0) 0)
        (ap (λ (i : ℕ). map record_frame (records_from cs n i)) (let q : suc (10 * c + j) ≡ 10 * c + suc j = omega arith in q)
        ∙ crate-records n (suc j) (omega arith)))
      where
        go : (t : Bool) → map record_frame (records_from cs n (suc (10 * c + j))) ≡ map (frame_in block c) (failed_from codes n (suc j))
            → map record_frame (cond t (records_from cs n (suc (10 * c + j))) (failure (10 * c + j) (get_or codes j 0) ∷ records_from cs n (suc (10 * c + j))))
            ≡ map (frame_in block c) (cond t [] (step j (get_or codes j 0) ∷ []) ++ failed_from codes n (suc j))
        go true ih = ih
        go false ih = ap₂ (λ (f : List ℕ) (fs : List (List ℕ)). f ∷ fs) (frame_at j (get_or codes j 0) (omega arith)) ih

    -- those of crate c
    records-of : (n k : ℕ) → n ≡ 10 → k ≡ 10 * c → map record_frame (records_from cs n k) ≡ map (frame_in block c) (failed_steps codes 10)
    unfolding failed_steps
    records-of n k e q =
        ap (λ (i : ℕ). map record_frame (records_from cs n i)) (let l : k ≡ 10 * c + 0 = omega arith in l)
        ∙ crate-records n 0 (omega arith)
        ∙ ap (map (frame_in block c)) (failed-split codes n 0 ∙ ap (failed_steps codes) (let l : 0 + n ≡ 10 = omega arith in l))

  map-append : (xs ys : List Failure) → map record_frame (xs ++ ys) ≡ map record_frame xs ++ map record_frame ys
  map-append [] ys = refl
  map-append (x ∷ xs) ys = ap (λ (fs : List (List ℕ)). record_frame x ∷ fs) (map-append xs ys)

  abbrev frames_of : ℕ → List (List ℕ)
  frames_of c = map (frame_in block c) (failed_steps (crate_of cs c).failed 10)

  -- n is ten: with the number itself the check would look into all forty boards
  records-each : (n : ℕ) → n ≡ 10 → map record_frame (records_from cs (n + (n + (n + n))) 0) ≡ of_four frames_of
  records-each n e =
      ap (map record_frame) (split-records n (n + (n + n)) 0)
      ∙ map-append (records_from cs n 0) (records_from cs (n + (n + n)) (0 + n))
      ∙ ap₂ ◌++◌ (records-of 0 (omega arith) n 0 e (omega arith))
      (ap (map record_frame) (split-records n (n + n) (0 + n))
      ∙ map-append (records_from cs n (0 + n)) (records_from cs (n + n) (0 + n + n))
      ∙ ap₂ ◌++◌ (records-of 1 (omega arith) n (0 + n) e (omega arith))
      (ap (map record_frame) (split-records n n (0 + n + n))
      ∙ map-append (records_from cs n (0 + n + n)) (records_from cs n (0 + n + n + n))
      ∙ ap₂ ◌++◌ (records-of 2 (omega arith) n (0 + n + n) e (omega arith)) (records-of 3 (omega arith) n (0 + n + n + n) e (omega arith))))

  pub records-are : map record_frame (records cs) ≡ of_four frames_of
  unfolding records
  records-are = go 10 refl
    where
      go : (n : ℕ) → n ≡ 10 → map record_frame (records cs) ≡ of_four frames_of
      go n e = ap (λ (m : ℕ). map record_frame (records_from cs m 0)) (let q : 40 ≡ n + (n + (n + n)) = omega arith in q) ∙ records-each n e
