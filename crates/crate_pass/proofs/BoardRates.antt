-- A board's twelve words among those of the crate: put in their place by a copy, and each word then.
-- Assumes nothing.
use Prim.Native.Nat.{ℕ, ◌+◌, ◌*◌, ◌-◌, ◌<◌, ◌≤◌}
use mathlib.Core.Path.{◌≡◌, refl, sym, ap, ◌∙◌, subst}
use mathlib.Core.Bool.{Bool, true, false}
use mathlib.Core.List.{List, ◌++◌, append_assoc}
use native.Mathlib.Omega.{arith}
use borrow.Author.Tests.{ltb-true, ltb-false}
use lib.Dec.{ltb}
use lib.ListN.{length, take, drop, get_or, length-append, length-drop, take-append-drop, get_or-append}
use lib.Seq.{length-take-le, get_or-append-add, get_or-take, get_or-drop}
use Rattle.words.specs.Words.{copied}
use Rattle.words.proofs.Laws.{copied_at}
use Rattle.bounds.specs.Bounds.{measurement_bound, RatesKept}
use Rattle.bounds.proofs.Rates.{period}
use Rattle.crate_pass.specs.Crate.{with_twelve}

module _ (b : ℕ) (words twelve : List ℕ) (h : b < 10) (all : length words ≡ 120) (own : length twelve ≡ 12) where
  -- `ys`: the part from the board's place on, after the copy
  pub put-twelve-here : (ys : List ℕ) → ys ≡ copied twelve (take (120 - 12 * b) (drop (12 * b) words))
      → take (12 * b) words ++ (ys ++ drop (120 - 12 * b) (drop (12 * b) words)) ≡ with_twelve b words twelve
  unfolding with_twelve
  put-twelve-here ys e =
      let n = 12 * b in
      copied_at words (take n words) twelve words ys n 12 120 (length-take-le n words (omega arith)) own all (omega arith)
      (sym (take-append-drop n words)) e
      ∙ append_assoc (take n words) twelve (drop (n + 12) words)

  pub length-twelve : length (with_twelve b words twelve) ≡ 120
  unfolding with_twelve
  length-twelve =
      let rest = drop (12 * b + 12) words in
      length-append (take (12 * b) words) (twelve ++ rest)
      ∙ rw (length-take-le (12 * b) words (omega arith), length-append twelve rest, own, length-drop (12 * b + 12) words, all) (omega arith)

  -- ---- each word then is as before, or one of the twelve

  before : (j : ℕ) → j < 12 * b → get_or (with_twelve b words twelve) j 0 ≡ get_or words j 0
  unfolding with_twelve
  before j l =
      let room : j < length (take (12 * b) words) = rw (length-take-le (12 * b) words (omega arith)) l in
      get_or-append (take (12 * b) words) (twelve ++ drop (12 * b + 12) words) 0 j room ∙ get_or-take (12 * b) words j 0 l

  from-here : (i : ℕ) → get_or (with_twelve b words twelve) (12 * b + i) 0 ≡ get_or (twelve ++ drop (12 * b + 12) words) i 0
  unfolding with_twelve
  from-here i =
      ap (λ (n : ℕ). get_or (take (12 * b) words ++ (twelve ++ drop (12 * b + 12) words)) (n + i) 0) (sym (length-take-le (12 * b) words (omega arith)))
      ∙ get_or-append-add (take (12 * b) words) (twelve ++ drop (12 * b + 12) words) i 0

  inside : (i : ℕ) → i < 12 → get_or (with_twelve b words twelve) (12 * b + i) 0 ≡ get_or twelve i 0
  inside i l = from-here i ∙ get_or-append twelve (drop (12 * b + 12) words) 0 i (rw own l)

  after : (i : ℕ) → get_or (with_twelve b words twelve) (12 * b + (12 + i)) 0 ≡ get_or words (12 * b + 12 + i) 0
  after i =
      from-here (12 + i)
      ∙ ap (λ (n : ℕ). get_or (twelve ++ drop (12 * b + 12) words) (n + i) 0) (sym own)
      ∙ get_or-append-add twelve (drop (12 * b + 12) words) i 0
      ∙ get_or-drop (12 * b + 12) words i 0

  -- so the words are within their bounds where those before and the twelve are
  pub kept-twelve : RatesKept words → RatesKept twelve → RatesKept (with_twelve b words twelve)
  kept-twelve f g j = go (ltb j (12 * b)) (ltb j (12 * b + 12)) refl refl
    where
      at : ℕ → Type 0
      at j = get_or (with_twelve b words twelve) j 0 ≤ measurement_bound (4 + j)

      middle : 12 * b ≤ j → j < 12 * b + 12 → at j
      middle l m =
          let i = j - 12 * b in
          let place : 12 * b + i ≡ j = omega arith in
          subst at place (rw (inside i (omega arith), period b i) (g i))

      high : 12 * b + 12 ≤ j → at j
      high m =
          let i = j - (12 * b + 12) in
          let place : 12 * b + (12 + i) ≡ j = omega arith in
          let same : 12 * b + 12 + i ≡ j = omega arith in
          subst at place (rw (after i, same, place) (f j))

      go : (t u : Bool) → ltb j (12 * b) ≡ t → ltb j (12 * b + 12) ≡ u → at j
      go true u l m = rw (before j (ltb-true _ _ l)) (f j)
      go false true l m = middle (ltb-false _ _ l) (ltb-true _ _ m)
      go false false l m = high (ltb-false _ _ m)

-- words of b boards, and words after them
pub kept_append : (b : ℕ) (l m : List ℕ) → length l ≡ 12 * b → RatesKept l → RatesKept m → RatesKept (l ++ m)
kept_append b l m n f g j = go (ltb j (12 * b)) refl
  where
    go : (t : Bool) → ltb j (12 * b) ≡ t → get_or (l ++ m) j 0 ≤ measurement_bound (4 + j)
    go true e = let h : j < length l = rw n (ltb-true _ _ e) in rw (get_or-append l m 0 j h) (f j)
    go false e =
        let h : 12 * b ≤ j = ltb-false _ _ e in
        let i = j - 12 * b in
        let place : 12 * b + i ≡ j = omega arith in
        let there : get_or (l ++ m) (12 * b + i) 0 ≡ get_or m i 0 = ap (λ (k : ℕ). get_or (l ++ m) (k + i) 0) (sym n) ∙ get_or-append-add l m i 0 in
        subst (λ (k : ℕ). get_or (l ++ m) k 0 ≤ measurement_bound (4 + k)) place (rw (there, period b i) (g i))
