-- What each return of the reply tests is, by the condition that decides it.
-- Assumes nothing.
use Prim.Native.Nat.{ℕ, zero, suc, ◌<◌, ◌≤◌}
use mathlib.Core.Path.{◌≡◌, sym}
use mathlib.Core.Bool.{Bool, true, false}
use mathlib.Core.List.{List, [], ◌∷◌}
use borrow.Author.Tests.{eq-eqb, ne_eqb, lt-ltb, le-ltb}
use lib.ListN.{length, get_or, take}
use Rattle.numbers.specs.Numbers.{id_limit}
use Rattle.crc.specs.Crc.{crc, frame_start}
use Rattle.replies.proofs.Same.{and-true, and-false}
use Rattle.replies.specs.Replies.{same_from, zeros, dna_in, rate_data, data_right, conditions, all_of, good_reply}

-- ---- one condition that fails is enough

fails : (n : ℕ) (ts : List Bool) → get_or ts n true ≡ false → all_of ts ≡ false
fails n [] e = e
fails zero (t ∷ ts) e = rw e
fails (suc n) (t ∷ ts) e = rw (fails n ts e) (and-false t)

module _ (sent r : List ℕ) where
  bad : (n : ℕ) → get_or (conditions sent r) n true ≡ false → false ≡ good_reply sent r
  unfolding good_reply
  bad n e = sym (fails n (conditions sent r) e)

  pub bad-length : (length r ≡ 28 → ⊥) → false ≡ good_reply sent r
  unfolding conditions
  bad-length n = bad 0 (ne_eqb _ _ n)

  pub bad-first : (get_or r 0 0 ≡ 0x40 → ⊥) → false ≡ good_reply sent r
  unfolding conditions
  bad-first n = bad 1 (ne_eqb _ _ n)

  pub bad-destination : (get_or r 1 0 ≡ get_or sent 2 0 → ⊥) → false ≡ good_reply sent r
  unfolding conditions
  bad-destination n = bad 2 (ne_eqb _ _ n)

  pub bad-sender : (get_or r 2 0 ≡ get_or sent 1 0 → ⊥) → false ≡ good_reply sent r
  unfolding conditions
  bad-sender n = bad 3 (ne_eqb _ _ n)

  pub bad-code : (get_or r 4 0 ≡ get_or sent 4 0 → ⊥) → false ≡ good_reply sent r
  unfolding conditions
  bad-code n = bad 4 (ne_eqb _ _ n)

  pub bad-crc : (crc frame_start (take 27 r) ≡ get_or r 27 0 → ⊥) → false ≡ good_reply sent r
  unfolding conditions
  bad-crc n = bad 5 (ne_eqb _ _ n)

  -- where the others hold, the data decide
  pub by-data :
      length r ≡ 28
      → get_or r 0 0 ≡ 0x40
      → get_or r 1 0 ≡ get_or sent 2 0
      → get_or r 2 0 ≡ get_or sent 1 0
      → get_or r 4 0 ≡ get_or sent 4 0
      → crc frame_start (take 27 r) ≡ get_or r 27 0
      → (t : Bool)
      → t ≡ data_right sent r
      → t ≡ good_reply sent r
  unfolding good_reply conditions
  by-data l b d s k x t e = simp (eq-eqb _ _ l, eq-eqb _ _ b, eq-eqb _ _ d, eq-eqb _ _ s, eq-eqb _ _ k, eq-eqb _ _ x, and-true) e

  -- ---- the data

  pub ping-bad : get_or sent 4 0 ≡ 4 → id_limit ≤ dna_in r → false ≡ data_right sent r
  unfolding data_right
  ping-bad p h = simp (eq-eqb _ _ p, le-ltb _ _ h)

  pub ping-zeros : get_or sent 4 0 ≡ 4 → dna_in r < id_limit → same_from 13 13 zeros r ≡ data_right sent r
  unfolding data_right
  ping-zeros p h = simp (eq-eqb _ _ p, lt-ltb _ _ h)

  pub rates-data : get_or sent 4 0 ≡ 5 → rate_data r ≡ data_right sent r
  unfolding data_right
  rates-data p = rw p

  pub others : (get_or sent 4 0 ≡ 4 → ⊥) → (get_or sent 4 0 ≡ 5 → ⊥) → same_from 21 5 sent r ≡ data_right sent r
  unfolding data_right
  others n m = simp (ne_eqb _ _ n, ne_eqb _ _ m)
