-- A series, part after part.
-- Assumes nothing.
use Prim.Native.Nat.{ℕ, suc, ◌+◌, ◌*◌, ◌-◌, ◌<◌}
use native.Mathlib.Numerals.{add-one}
use native.Mathlib.Omega.{arith}
use mathlib.Core.Path.{◌≡◌, ap, ◌∙◌}
use mathlib.Core.List.{List, ◌∷◌}
use lib.ListN.{length, get_or, drop}
use lib.Seq.{drop-drop, drop-cons}

-- i parts of a size, and one more
pub past : (size i : ℕ) (l : List ℕ) → drop size (drop (size * i) l) ≡ drop (size * (i + 1)) l
past size i l = let e : size * i + size ≡ size * (i + 1) = omega arith in drop-drop size (size * i) l ∙ ap (λ (k : ℕ). drop k l) e

-- the element that is next, and those after it
pub next_of : (l : List ℕ) (i : ℕ) → i < length l → drop i l ≡ get_or l i 0 ∷ drop (i + 1) l
next_of l i h = rw (add-one, drop-cons l i 0)

-- one of n, and those after it
pub one_left : (n i : ℕ) → i < n → n - i ≡ suc (n - (i + 1))
one_left n i h = omega arith
