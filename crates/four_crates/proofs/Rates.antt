-- The rates of the boards, crate after crate.
-- Assumes nothing.
use Prim.Native.Nat.{ℕ, suc, ◌+◌, ◌*◌, ◌-◌, ◌<◌}
use mathlib.Core.Path.{◌≡◌, refl, sym, ap, ap₂, ◌∙◌}
use mathlib.Core.List.{List, ◌++◌, append_assoc, append-nil}
use native.Mathlib.Omega.{arith}
use lib.ListN.{length, take, drop, replicate, length-append, take-append-drop}
use lib.Seq.{length-take-le, take_at, drop_at, drop-drop}
use Rattle.words.specs.Words.{copied}
use Rattle.words.proofs.Laws.{copied_at}
use Rattle.crate_pass.specs.declared.Crate.{Crate}
use Rattle.four_crates.specs.FourCrates.{crate_of, rates_of_first, rates_of}
use Rattle.four_crates.specs.CodeShape.{PutCrate}

-- `ys`: the part from the crate's place on, after the copy
pub put-here : (c : ℕ) (all words : List ℕ) → c < 4 → length all ≡ 480 → length words ≡ 120 → (ys : List ℕ)
    → ys ≡ copied words (take (480 - 120 * c) (drop (120 * c) all))
    → PutCrate c all words (take (120 * c) all ++ (ys ++ drop (480 - 120 * c) (drop (120 * c) all)))
put-here c all words h n m ys e =
    let at = 120 * c in
    record {
      all-length = n;
      own-length = m;
      put =
          copied_at all (take at all) words all ys at 120 480 (length-take-le at all (omega arith)) m n (omega arith) (sym (take-append-drop at all)) e
          ∙ append_assoc (take at all) words (drop (at + 120) all);
    }

-- the first n crates' rates stand in their places, and zeros in the others'
module _ (cs : List Crate) where
  pub record SoFar (n : ℕ) (all : List ℕ) : Type 0 where
    pub words : all ≡ rates_of_first n cs ++ drop (120 * n) (replicate 480 0)
    pub size : length (rates_of_first n cs) ≡ 120 * n

  pub put_next : (n : ℕ) (all r : List ℕ) → SoFar n all → PutCrate n all (crate_of cs n).rates r → SoFar (suc n) r
  unfolding rates_of_first
  put_next n all r s p =
      let front = rates_of_first n cs in
      let own = (crate_of cs n).rates in
      let zeros : List ℕ = replicate 480 0 in
      let rest = drop (120 * n) zeros in
      let place : 120 * n + 120 ≡ 120 * suc n = omega arith in
      let before : take (120 * n) all ≡ front = ap (take (120 * n)) s.words ∙ take_at front rest (120 * n) s.size in
      let behind : drop (120 * n) all ≡ rest = ap (drop (120 * n)) s.words ∙ drop_at front rest (120 * n) s.size in
      let after : drop (120 * n + 120) all ≡ drop (120 * suc n) zeros =
      sym (drop-drop 120 (120 * n) all) ∙ ap (drop 120) behind ∙ drop-drop 120 (120 * n) zeros ∙ ap (λ (k : ℕ). drop k zeros) place in
      record {
        words = p.put ∙ ap₂ (λ (x y : List ℕ). x ++ (own ++ y)) before after ∙ sym (append_assoc front own (drop (120 * suc n) zeros));
        size = length-append front own ∙ rw (s.size, p.own-length) (omega arith);
      }

  -- one after the other
  pub rates-put : (one two three four : List ℕ)
      → PutCrate 0 (replicate 480 0) (crate_of cs 0).rates one
      → PutCrate 1 one (crate_of cs 1).rates two
      → PutCrate 2 two (crate_of cs 2).rates three
      → PutCrate 3 three (crate_of cs 3).rates four
      → four ≡ rates_of cs
  unfolding rates_of_first
  rates-put one two three four p q r s =
      let none : SoFar 0 (replicate 480 0) = record { words = refl; size = refl } in
      (put_next 3 three four (put_next 2 two three (put_next 1 one two (put_next 0 _ one none p) q) r) s).words ∙ append-nil (rates_of cs)
