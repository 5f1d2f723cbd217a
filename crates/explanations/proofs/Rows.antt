-- Rows of a table of refusals: which one is given, and what the rows before it say.
-- Assumes nothing.
use Prim.Native.Nat.{ℕ, zero, suc}
use mathlib.Core.Path.{◌≡◌, refl}
use mathlib.Core.Bool.{Bool, true, false, ◌&&◌, ◌||◌, false≢true, or-true}
use mathlib.Core.List.{List, [], ◌∷◌}
use mathlib.Core.Logic.{inl, inr}
use native.Mathlib.Omega.{arith}
use lib.Dec.{T, ltb, eqb}
use lib.ListN.{take, get_or}
use borrow.Author.Tests.{ltb-true, eq-eqb}
use Rattle.refusals.specs.Tables.{Rule, rule, refused, lowest}
use Rattle.refusals.proofs.Tables.{Clear, Applies, NoneBelow}

pub and_left : (a b : Bool) → (a && b) ≡ true → a ≡ true
and_left true b e = refl
and_left false b e = e

pub and_right : (a b : Bool) → (a && b) ≡ true → b ≡ true
and_right true b e = e
and_right false b e = absurd (false≢true e)

pub never : (t : Bool) → (t ≡ true → ⊥) → t ≡ false
never true h = absurd (h refl)
never false h = refl

-- whether a row with the number n and the place q applies
abbrev pub applied : ℕ → ℕ → List Rule → Bool
applied n q [] = false
applied n q (r ∷ rs) = (eqb r.number n && (eqb r.place q && r.applies)) || applied n q rs

pub applies-applied : (rs : List Rule) (n q : ℕ) → Applies rs n q → applied n q rs ≡ true
applies-applied [] n q h = elim h [ ]
applies-applied (r ∷ rs) n q (inl (t, en, eq)) = rw (eq-eqb _ _ en, eq-eqb _ _ eq, t) refl
applies-applied (r ∷ rs) n q (inr h) = rw (applies-applied rs n q h) (or-true (eqb r.number n && (eqb r.place q && r.applies)))

-- ---- the rows before the one that is given

-- each of the first k rows has a number below n
abbrev numbers_below : ℕ → ℕ → List Rule → Bool
numbers_below zero n rs = true
numbers_below (suc k) n [] = true
numbers_below (suc k) n (r ∷ rs) = ltb r.number n && numbers_below k n rs

-- then none of them applies, where none with a number below n does
pub clear-below : (k n : ℕ) (rs : List Rule) → T (numbers_below k n rs) → NoneBelow rs n → Clear (take k rs)
clear-below zero n rs t h = tt
clear-below (suc k) n [] t h = tt
clear-below (suc k) n (r ∷ rs) t h = go (ltb r.number n) (numbers_below k n rs) refl t (clear-below k n rs)
  where
    go : (a b : Bool) → ltb r.number n ≡ a → T (a && b) → (T b → NoneBelow rs n → Clear (take k rs)) → Clear (take (suc k) (r ∷ rs))
    go true b e t f = (never r.applies (λ s. let l = h.0 s in let m = ltb-true r.number n e in let z : ⊥ = omega arith in z), f t h.1)
    go false b e t f = absurd t

-- and a row that applies, after k that do not, is the one that is given
abbrev pub row_at : ℕ → List Rule → Rule
row_at k rs = get_or rs k (rule 0 false)

pub row-given : {A : Type 0} (k : ℕ) (rs : List Rule) (a : A) → Clear (take k rs) → (row_at k rs).applies ≡ true
    → lowest rs a ≡ refused (row_at k rs).number (row_at k rs).place
row-given zero [] a clear t = absurd (false≢true t)
row-given zero (r ∷ rs) a clear t = rw t refl
row-given (suc k) [] a clear t = absurd (false≢true t)
row-given (suc k) (r ∷ rs) a clear t = rw clear.0 (row-given k rs a clear.1 t)
