-- Cells that do not see each other: a run of items in any order is the run of each cell's items, one cell after the other.
-- Assumes nothing.
use Prim.Native.Nat.{ℕ, zero, suc, ◌<◌, ◌≤◌}
use mathlib.Core.Path.{◌≡◌, refl, sym, ap, ap₂, ◌∙◌}
use mathlib.Core.List.{List, [], ◌∷◌, ◌++◌}
use mathlib.Core.Bool.{cond}
use native.Mathlib.Omega.{arith}
use lib.ListN.{length, get_or, set, length-set}
use lib.Seq.{get_or-set_same, get_or-set_other, ext_get_or}
use lib.Dec.{leb}
use borrow.Author.Tests.{le-leb, lt-leb}
use Rattle.cells.proofs.Order.{Head, here, other, head, Side, high, low, side, only-take, only-skip, from-take, from-skip, only-below-none, only-ordered}
use Rattle.cells.specs.Order.{only, from, below, ordered}

-- ---- cells: `f c s e` is what cell c at s gives for the event e, and what it is then; `no e` is given where there is no such cell
module _ {S E O : Type 0} (d : S) (f : ℕ → S → E → O × S) (no : E → O) where
  abbrev pub Item : Type 0
  Item = ℕ × E

  abbrev pub index : Item → ℕ
  index x = x.0

  abbrev pub index_of : Item × O → ℕ
  index_of t = t.0.0

  -- one item, on all the cells
  unfoldable pub one : List S → Item → O × List S
  one cs x = cond (leb (length cs) x.0) (no x.1, cs) ((f x.0 (get_or cs x.0 d) x.1).0, set cs x.0 (f x.0 (get_or cs x.0 d) x.1).1)

  unfoldable pub end : List S → List Item → List S
  end cs [] = cs
  end cs (x ∷ xs) = end (one cs x).1 xs

  unfoldable pub out : List S → List Item → List (Item × O)
  out cs [] = []
  out cs (x ∷ xs) = (x, (one cs x).0) ∷ out (one cs x).1 xs

  -- the same for the cell c alone
  unfoldable pub end_alone : ℕ → S → List Item → S
  end_alone c s [] = s
  end_alone c s (x ∷ xs) = end_alone c (f c s x.1).1 xs

  unfoldable pub out_alone : ℕ → S → List Item → List (Item × O)
  out_alone c s [] = []
  out_alone c s (x ∷ xs) = (x, (f c s x.1).0) ∷ out_alone c (f c s x.1).1 xs

  -- what one item does: nothing where there is no such cell, and else a step of that cell
  pub one-high : (cs : List S) (x : Item) → length cs ≤ x.0 → one cs x ≡ (no x.1, cs)
  unfolding one
  one-high cs x h = rw (le-leb _ _ h)

  pub one-low : (cs : List S) (x : Item) → x.0 < length cs
      → one cs x ≡ ((f x.0 (get_or cs x.0 d) x.1).0, set cs x.0 (f x.0 (get_or cs x.0 d) x.1).1)
  unfolding one
  one-low cs x h = rw (lt-leb _ _ h)

  pub one-length : (cs : List S) (x : Item) → length (one cs x).1 ≡ length cs
  one-length cs x = go (side index (length cs) x)
    where
      go : Side index (length cs) x → length (one cs x).1 ≡ length cs
      go (high e) = rw (one-high cs x e)
      go (low e) = rw (one-low cs x e) (simp length-set)

  pub end-length : (cs : List S) (xs : List Item) → length (end cs xs) ≡ length cs
  unfolding end
  end-length cs [] = refl
  end-length cs (x ∷ xs) = end-length (one cs x).1 xs ∙ one-length cs x

  end-append : (cs : List S) (xs ys : List Item) → end cs (xs ++ ys) ≡ end (end cs xs) ys
  unfolding end
  end-append cs [] ys = refl
  end-append cs (x ∷ xs) ys = end-append (one cs x).1 xs ys

  out-append : (cs : List S) (xs ys : List Item) → out cs (xs ++ ys) ≡ out cs xs ++ out (end cs xs) ys
  unfolding end out
  out-append cs [] ys = refl
  out-append cs (x ∷ xs) ys = ap (λ l. (x, (one cs x).0) ∷ l) (out-append (one cs x).1 xs ys)

  -- to its own cell, and to another
  one-own : (c : ℕ) (cs : List S) (x : Item) → c < length cs → x.0 ≡ c → get_or (one cs x).1 c d ≡ (f c (get_or cs c d) x.1).1
  one-own c cs x h e = rw (one-low cs x (omega arith)) (rw e (get_or-set_same cs c _ d h))

  one-gives : (c : ℕ) (cs : List S) (x : Item) → c < length cs → x.0 ≡ c → (one cs x).0 ≡ (f c (get_or cs c d) x.1).0
  one-gives c cs x h e = rw (one-low cs x (omega arith)) (rw e refl)

  one-other : (c : ℕ) (cs : List S) (x : Item) → (x.0 ≡ c → ⊥) → get_or (one cs x).1 c d ≡ get_or cs c d
  one-other c cs x n = go (side index (length cs) x)
    where
      go : Side index (length cs) x → get_or (one cs x).1 c d ≡ get_or cs c d
      go (high e) = rw (one-high cs x e)
      go (low e) = rw (one-low cs x e) (get_or-set_other cs x.0 c _ d (λ q. n (sym q)))

  -- a cell's end is what its own items make of it
  pub end-at : (c : ℕ) (cs : List S) (xs : List Item) → c < length cs → get_or (end cs xs) c d ≡ end_alone c (get_or cs c d) (only index c xs)
  unfolding end end_alone only
  end-at c cs [] h = refl
  end-at c cs (x ∷ xs) h = go (head index c x) (end-at c (one cs x).1 xs (rw (one-length cs x) h))
    where
      go : Head index c x → get_or (end (one cs x).1 xs) c d ≡ end_alone c (get_or (one cs x).1 c d) (only index c xs)
          → get_or (end (one cs x).1 xs) c d ≡ end_alone c (get_or cs c d) (only index c (x ∷ xs))
      go (here e) ih = rw (only-take index c x xs e) (ih ∙ ap (λ s. end_alone c s (only index c xs)) (one-own c cs x h e))
      go (other e) ih = rw (only-skip index c x xs e) (ih ∙ ap (λ s. end_alone c s (only index c xs)) (one-other c cs x e))

  -- and what it gives is what its own items get
  pub out_at : (c : ℕ) (cs : List S) (xs : List Item) → c < length cs → only index_of c (out cs xs) ≡ out_alone c (get_or cs c d) (only index c xs)
  unfolding out out_alone only
  out_at c cs [] h = refl
  out_at c cs (x ∷ xs) h = go (head index c x) (out_at c (one cs x).1 xs (rw (one-length cs x) h))
    where
      go : Head index c x → only index_of c (out (one cs x).1 xs) ≡ out_alone c (get_or (one cs x).1 c d) (only index c xs)
          → only index_of c ((x, (one cs x).0) ∷ out (one cs x).1 xs) ≡ out_alone c (get_or cs c d) (only index c (x ∷ xs))
      go (here e) ih =
          rw (only-take index c x xs e)
          (only-take index_of c (x, (one cs x).0) (out (one cs x).1 xs) e
          ∙ ap₂ (λ o l. (x, o) ∷ l) (one-gives c cs x h e) (ih ∙ ap (λ s. out_alone c s (only index c xs)) (one-own c cs x h e)))
      go (other e) ih =
          rw (only-skip index c x xs e)
          (only-skip index_of c (x, (one cs x).0) (out (one cs x).1 xs) e
          ∙ ih ∙ ap (λ s. out_alone c s (only index c xs)) (one-other c cs x e))

  -- a run of one cell's items alone
  out-only : (c : ℕ) (cs : List S) (xs : List Item) → c < length cs → out cs (only index c xs) ≡ out_alone c (get_or cs c d) (only index c xs)
  unfolding out out_alone only
  out-only c cs [] h = refl
  out-only c cs (x ∷ xs) h = go (head index c x) (out-only c (one cs x).1 xs (rw (one-length cs x) h)) (out-only c cs xs h)
    where
      go : Head index c x → out (one cs x).1 (only index c xs) ≡ out_alone c (get_or (one cs x).1 c d) (only index c xs)
          → out cs (only index c xs) ≡ out_alone c (get_or cs c d) (only index c xs)
          → out cs (only index c (x ∷ xs)) ≡ out_alone c (get_or cs c d) (only index c (x ∷ xs))
      go (here e) ih jh =
          rw (only-take index c x xs e)
          (ap₂ (λ o l. (x, o) ∷ l) (one-gives c cs x h e) (ih ∙ ap (λ s. out_alone c s (only index c xs)) (one-own c cs x h e)))
      go (other e) ih jh = rw (only-skip index c x xs e) jh

  -- items that no cell has
  unfoldable pub turned : List Item → List (Item × O)
  turned [] = []
  turned (x ∷ xs) = (x, no x.1) ∷ turned xs

  pub out-from : (cs : List S) (xs : List Item) → from index_of (length cs) (out cs xs) ≡ turned (from index (length cs) xs)
  unfolding out from turned
  out-from cs [] = refl
  out-from cs (x ∷ xs) = go (side index (length cs) x) (rw (one-length cs x) at (out-from (one cs x).1 xs))
    where
      go : Side index (length cs) x → from index_of (length cs) (out (one cs x).1 xs) ≡ turned (from index (length cs) xs)
          → from index_of (length cs) ((x, (one cs x).0) ∷ out (one cs x).1 xs) ≡ turned (from index (length cs) (x ∷ xs))
      go (high e) ih =
          rw (from-take index (length cs) x xs e)
          (from-take index_of (length cs) (x, (one cs x).0) (out (one cs x).1 xs) e ∙ ap₂ (λ (p : O × List S) l. (x, p.0) ∷ l) (one-high cs x e) ih)
      go (low e) ih = rw (from-skip index (length cs) x xs e) (from-skip index_of (length cs) (x, (one cs x).0) (out (one cs x).1 xs) e ∙ ih)

  from_out : (cs : List S) (xs : List Item) → out cs (from index (length cs) xs) ≡ turned (from index (length cs) xs)
  unfolding out from turned
  from_out cs [] = refl
  from_out cs (x ∷ xs) = go (side index (length cs) x) (from_out cs xs)
    where
      go : Side index (length cs) x → out cs (from index (length cs) xs) ≡ turned (from index (length cs) xs)
          → out cs (from index (length cs) (x ∷ xs)) ≡ turned (from index (length cs) (x ∷ xs))
      go (high e) ih =
          rw (from-take index (length cs) x xs e)
          (rw (one-high cs x e) (ap (λ l. (x, no x.1) ∷ l) ih))
      go (low e) ih = rw (from-skip index (length cs) x xs e) ih

  -- ---- the law
  untouched : (k : ℕ) (cs : List S) (xs : List Item) → k < length cs → get_or (end cs (below index k xs)) k d ≡ get_or cs k d
  unfolding end_alone
  untouched k cs xs h = end-at k cs (below index k xs) h ∙ ap (λ l. end_alone k (get_or cs k d) l) (only-below-none index k k xs (omega arith))

  below_out : (k : ℕ) (cs : List S) (xs : List Item) → k ≤ length cs → out cs (below index k xs) ≡ below index_of k (out cs xs)
  unfolding below out
  below_out zero cs xs h = refl
  below_out (suc k) cs xs h =
      out-append cs (below index k xs) (only index k xs)
      ∙ ap₂ ◌++◌ (below_out k cs xs (omega arith))
      (out-only k (end cs (below index k xs)) xs (rw (end-length cs (below index k xs)) h)
      ∙ ap (λ s. out_alone k s (only index k xs)) (untouched k cs xs h)
      ∙ sym (out_at k cs xs h))

  pub in-order-out : (cs : List S) (xs : List Item) → out cs (ordered index (length cs) xs) ≡ ordered index_of (length cs) (out cs xs)
  unfolding ordered
  in-order-out cs xs =
      out-append cs (below index (length cs) xs) (from index (length cs) xs)
      ∙ ap₂ ◌++◌ (below_out (length cs) cs xs (omega arith)) (last ∙ sym (out-from cs xs))
    where
      last : out (end cs (below index (length cs) xs)) (from index (length cs) xs) ≡ turned (from index (length cs) xs)
      last = rw (end-length cs (below index (length cs) xs)) at (from_out (end cs (below index (length cs) xs)) xs)

  pub in-order-end : (cs : List S) (xs : List Item) → end cs (ordered index (length cs) xs) ≡ end cs xs
  in-order-end cs xs =
      ext_get_or d _ _ (end-length cs _ ∙ sym (end-length cs xs))
      (λ i h.
      let k : i < length cs = rw (end-length cs (ordered index (length cs) xs)) at h in
      end-at i cs (ordered index (length cs) xs) k
      ∙ ap (λ l. end_alone i (get_or cs i d) l) (only-ordered index i (length cs) xs k)
      ∙ sym (end-at i cs xs k))
