-- The entries of the FTU list, one board at a time.
-- Assumes nothing.
use Prim.Native.Nat.{ℕ, zero, suc, ◌+◌, ◌/◌, ◌%◌, ◌<◌, ◌≤◌}
use mathlib.Core.Path.{◌≡◌, refl, ap, ap₂, ◌∙◌}
use mathlib.Core.List.{List, ◌∷◌}
use native.Mathlib.Omega.{arith}
use lib.ListN.{length, get_or}
use Rattle.ftu_list.specs.declared.Entry.{Entry}
use Rattle.crate_pass.specs.Crate.{silent, entries_in}
use Rattle.crate_pass.specs.declared.Crate.{Crate}
use Rattle.four_crates.specs.FourCrates.{crate_of, entry_at, entries_from, entries_of}

pub length-entries : (cs : List Crate) (n k : ℕ) → length (entries_from cs n k) ≡ n
length-entries cs zero k = refl
length-entries cs (suc n) k = ap suc (length-entries cs n (suc k))

entry-from : (cs : List Crate) (n k i : ℕ) → i < n → get_or (entries_from cs n k) i silent ≡ entry_at cs (k + i)
entry-from cs zero k i h = absurd (let z : ⊥ = omega arith in z)
entry-from cs (suc n) k zero h = ap (entry_at cs) (let e : k ≡ k + 0 = omega arith in e)
entry-from cs (suc n) k (suc i) h = entry-from cs n (suc k) i (omega arith) ∙ ap (entry_at cs) (let e : suc k + i ≡ k + suc i = omega arith in e)

-- board k's entry stands at k
pub entry_of : (cs : List Crate) (k : ℕ) → k < 40 → get_or (entries_of cs) k silent ≡ entry_at cs k
unfolding entries_of
entry_of cs k h = entry-from cs 40 0 k h ∙ ap (entry_at cs) (let e : 0 + k ≡ k = omega arith in e)

pub forty : (cs : List Crate) → length (entries_of cs) ≡ 40
unfolding entries_of
forty cs = length-entries cs 40 0

-- crates with the same parts of the list have the same list
module _ (cs ds : List Crate) (same : (c : ℕ) → c < 4 → entries_in (crate_of cs c) ≡ entries_in (crate_of ds c)) where
  same_from : (n k : ℕ) → k + n ≤ 40 → entries_from cs n k ≡ entries_from ds n k
  same_from zero k h = refl
  same_from (suc n) k h =
      ap₂ (λ (es : List Entry) (l : List Entry). get_or es (k % 10) silent ∷ l) (same (k / 10) (omega arith)) (same_from n (suc k) (omega arith))

  pub same-list : entries_of cs ≡ entries_of ds
  unfolding entries_of
  same-list = same_from 40 0 (omega arith)
