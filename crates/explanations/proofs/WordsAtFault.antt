-- 02, c: where one word is named, it is the word at fault, the lowest, and the numbers said to be allowed there are those that remove the refusal.
-- Assumes nothing.
use Prim.Native.Nat.{ℕ, ◌+◌, ◌<◌, ◌≤◌}
use mathlib.Core.Path.{◌≡◌, refl, sym, ap, ap₂, ◌∙◌}
use mathlib.Core.Bool.{Bool, true, false, not, ◌&&◌, ◌||◌, or-false, false≢true}
use mathlib.Core.List.{List, [], ◌∷◌}
use native.Mathlib.Omega.{arith}
use lib.Dec.{ltb, leb, eqb}
use lib.ListN.{length, get_or, set, take, length-set}
use lib.Seq.{get_or-set_same, get_or-set_other, set-get_or}
use borrow.Author.Tests.{ltb-false, leb-true, leb-false, not-true}
use Rattle.refusals.specs.Tables.{refused}
use Rattle.refusals.proofs.Tables.{Clear}
use Rattle.commands.specs.Commands.{block_length, no_events, ids, parameters_of}
use Rattle.commands.specs.declared.RunLength.TheVariants.{Endless, Counted}
use Rattle.commands.specs.declared.Command.{Command}
use Rattle.commands.specs.declared.Command.TheVariants.{Read, Write, Start, Stop, Ping, CrateReset}
use Rattle.command_reader.specs.Reading.{count_in, named_in, is_refusal, command_in, spare_set, read_rules}
use Rattle.explanations.specs.Explaining.{member, is_allowed, range, allowed_at, spare_at}
use Rattle.explanations.specs.TrueReason.{answered, TrueWord}
use Rattle.explanations.specs.declared.Present.{Present}
use Rattle.explanations.proofs.Rows.{and_left, and_right, clear-below}
use Rattle.explanations.proofs.Answers.{rules_in, row-answered, applies-here, none_below, not_named, is-named}
use Rattle.explanations.proofs.AllowedNumbers.{unknown-id, unlisted-parameter, events-zero}

-- the only row with its number applies, at the place that it has
pub alone : (a b : Bool) → (a && b || false) ≡ true → b ≡ true
alone a b e = and_right a b (sym (or-false (a && b)) ∙ e)

-- a list of one number
one : (x n : ℕ) → member x (n ∷ []) ≡ eqb x n
one x n = or-false (eqb x n)

pub clash : {A : Type 0} {t : Bool} → t ≡ true → t ≡ false → A
clash a b = absurd (false≢true (sym b ∙ a))

-- ---- words of which one is another, at the place k

module _ (w : List ℕ) (k x : ℕ) where
  -- they are as many
  pub five-still : ltb (length w) 5 ≡ false → ltb (length (set w k x)) 5 ≡ false
  five-still e = ap (λ (n : ℕ). ltb n 5) (length-set w k x) ∙ e

  pub other : (j : ℕ) → (j ≡ k → ⊥) → get_or (set w k x) j 0 ≡ get_or w j 0
  other j d = get_or-set_other w k j x 0 d

  -- the first is the same
  pub first-still : (0 ≡ k → ⊥) → not (eqb (get_or w 0 0) 0x0040) ≡ false → not (eqb (get_or (set w k x) 0 0) 0x0040) ≡ false
  first-still d e = ap (λ (n : ℕ). not (eqb n 0x0040)) (other 0 d) ∙ e

  -- so is what is named, where none of its words is the other
  named-still : 2 < k → k < 5 → named_in (set w k x) ≡ named_in w
  named-still a b =
      let one = other 1 (λ e. omega arith) in
      let two = other 2 (λ e. omega arith) in
      let five = other 5 (λ e. omega arith) in
      let six = other 6 (λ e. omega arith) in
      rw (one, two, five, six) refl

module _ (w : List ℕ) (p : Present) (q : ℕ) where
  -- ---- 2: word 0 is not 0x0040

  wrong_first : answered w p ≡ refused 2 q → not (eqb (get_or w 0 0) 0x0040) ≡ true
  unfolding read_rules
  wrong_first e = alone (eqb 0 q) _ (applies-here w p 2 q e)

  -- ---- 3: the ID is none of the six

  unknown : answered w p ≡ refused 3 q → member (get_or w 1 0) ids ≡ false
  unfolding read_rules
  unknown e = not-true _ (sym (unknown-id (get_or w 1 0) (get_or w 2 0) (count_in w)) ∙ alone (eqb 0 q) _ (applies-here w p 3 q e))

  -- ---- 4: the ID has no such parameter

  unlisted : answered w p ≡ refused 4 q → (member (get_or w 1 0) ids && not (member (get_or w 2 0) (parameters_of (get_or w 1 0)))) ≡ true
  unfolding read_rules
  unlisted e = sym (unlisted-parameter (get_or w 1 0) (get_or w 2 0) (count_in w)) ∙ alone (eqb 0 q) _ (applies-here w p 4 q e)

  -- ---- 5: word 3 or 4 is not zero

  spare : answered w p ≡ refused 5 q → spare_set w ≡ true
  unfolding read_rules
  spare e = alone (eqb 0 q) _ (applies-here w p 5 q e)

  -- ---- 7: X is 0

  none : answered w p ≡ refused 7 q → no_events (command_in w) ≡ true
  unfolding read_rules
  none e = alone (eqb 0 q) _ (applies-here w p 7 q e)

module _ (w : List ℕ) (p : Present) (q : ℕ) where
  pub word-2 : answered w p ≡ refused 2 q → TrueWord w p 2 0 (get_or w 0 0) (allowed_at 2 w 0)
  unfolding read_rules
  word-2 e =
      let clear = clear-below 1 2 (rules_in w p) tt (none_below w p 2 q e) in
      let five : 5 ≤ length w = ltb-false _ _ clear.0 in
      let put : (x : ℕ) → get_or (set w 0 x) 0 0 ≡ x = λ x. get_or-set_same w 0 x 0 (omega arith) in
      record {
        there = omega arith;
        word = refl;
        fault = one (get_or w 0 0) 0x0040 ∙ not-true _ (wrong_first w p q e);
        lowest = λ k a b. absurd (let z : ⊥ = omega arith in z);
        gone = λ x h.
            not_named (set w 0 x) p 2 0
            (λ r d m. clash (sym (one x 0x0040) ∙ h) (ap (λ (n : ℕ). eqb n 0x0040) (sym (put x)) ∙ not-true _ (wrong_first (set w 0 x) p r d)));
        only = λ x l h.
            is-named (set w 0 x) p 2 0 0
            (row-answered (set w 0 x) p 1 (five-still w 0 x clear.0, tt)
            (ap not (ap (λ (n : ℕ). eqb n 0x0040) (put x) ∙ sym (one x 0x0040) ∙ h)))
            refl;
      }

  pub word-3 : answered w p ≡ refused 3 q → TrueWord w p 3 1 (get_or w 1 0) (allowed_at 3 w 1)
  unfolding read_rules
  word-3 e =
      let clear = clear-below 2 3 (rules_in w p) tt (none_below w p 3 q e) in
      let five : 5 ≤ length w = ltb-false _ _ clear.0 in
      let put : (x : ℕ) → get_or (set w 1 x) 1 0 ≡ x = λ x. get_or-set_same w 1 x 0 (omega arith) in
      record {
        there = omega arith;
        word = refl;
        fault = unknown w p q e;
        lowest = λ k a b. absurd (let z : ⊥ = omega arith in z);
        gone = λ x h.
            not_named (set w 1 x) p 3 1
            (λ r d m. clash h (ap (λ (n : ℕ). member n ids) (sym (put x)) ∙ unknown (set w 1 x) p r d));
        only = λ x l h.
            let w' = set w 1 x in
            is-named w' p 3 1 0
            (row-answered w' p 2 (five-still w 1 x clear.0, (first-still w 1 x (λ z. omega arith) clear.1.0, tt))
            (unknown-id (get_or w' 1 0) (get_or w' 2 0) (count_in w') ∙ ap not (ap (λ (n : ℕ). member n ids) (put x) ∙ h)))
            refl;
      }

  pub word-4 : answered w p ≡ refused 4 q → TrueWord w p 4 2 (get_or w 2 0) (allowed_at 4 w 2)
  unfolding read_rules
  word-4 e =
      let clear = clear-below 3 4 (rules_in w p) tt (none_below w p 4 q e) in
      let five : 5 ≤ length w = ltb-false _ _ clear.0 in
      let put : (x : ℕ) → get_or (set w 2 x) 2 0 ≡ x = λ x. get_or-set_same w 2 x 0 (omega arith) in
      let id : (x : ℕ) → get_or (set w 2 x) 1 0 ≡ get_or w 1 0 = λ x. other w 2 x 1 (λ z. omega arith) in
      let among : ℕ → Bool = λ x. member x (parameters_of (get_or w 1 0)) in
      let listed : (x : ℕ) → member (get_or (set w 2 x) 2 0) (parameters_of (get_or (set w 2 x) 1 0)) ≡ among x =
      λ x. ap₂ (λ (n i : ℕ). member n (parameters_of i)) (put x) (id x) in
      let found = and_left (member (get_or w 1 0) ids) (not (among (get_or w 2 0))) (unlisted w p q e) in
      record {
        there = omega arith;
        word = refl;
        fault = not-true _ (and_right (member (get_or w 1 0) ids) (not (among (get_or w 2 0))) (unlisted w p q e));
        lowest = λ k a b. absurd (let z : ⊥ = omega arith in z);
        gone = λ x h.
            let w' = set w 2 x in
            not_named w' p 4 2
            (λ r d m. clash h (sym (listed x) ∙ not-true _ (and_right (member (get_or w' 1 0) ids) _ (unlisted w' p r d))));
        only = λ x l h.
            let w' = set w 2 x in
            let known = unknown-id (get_or w' 1 0) (get_or w' 2 0) (count_in w') ∙ ap not (ap (λ (n : ℕ). member n ids) (id x) ∙ found) in
            is-named w' p 4 2 0
            (row-answered w' p 3 (five-still w 2 x clear.0, (first-still w 2 x (λ z. omega arith) clear.1.0, (known, tt)))
            (unlisted-parameter (get_or w' 1 0) (get_or w' 2 0) (count_in w')
            ∙ ap₂ ◌&&◌ (ap (λ (n : ℕ). member n ids) (id x) ∙ found) (ap not (listed x ∙ h))))
            refl;
      }

-- ---- 5: the lowest of word 3 and word 4 that is not zero

module _ (w : List ℕ) where
  -- where word 3 is zero, it is word 4
  second : eqb (get_or w 3 0) 0 ≡ true → spare_set w ≡ true → eqb (get_or w 4 0) 0 ≡ false
  unfolding spare_set
  second z s = not-true _ (rw z at s)

  set-by-3 : eqb (get_or w 3 0) 0 ≡ false → spare_set w ≡ true
  unfolding spare_set
  set-by-3 z = rw z refl

  set-by-4 : eqb (get_or w 3 0) 0 ≡ true → eqb (get_or w 4 0) 0 ≡ false → spare_set w ≡ true
  unfolding spare_set
  set-by-4 z f = rw (z, f) refl

module _ (w : List ℕ) (p : Present) (q : ℕ) (e : answered w p ≡ refused 5 q) where
  clear-5 : Clear (take 4 (rules_in w p))
  unfolding read_rules
  clear-5 = clear-below 4 5 (rules_in w p) tt (none_below w p 5 q e)

  five-there : 5 ≤ length w
  unfolding read_rules
  five-there = ltb-false _ _ clear-5.0

  -- with another word 3 or 4 the four refusals before it are not given either
  clear-still : (k x : ℕ) → 2 < k → k < 5 → Clear (take 4 (rules_in (set w k x) p))
  unfolding read_rules
  clear-still k x a b =
      let same = named-still w k x a b in (
        five-still w k x clear-5.0,
        (
          first-still w k x (λ z. omega arith) clear-5.1.0,
          (ap (is_refusal 3) same ∙ clear-5.1.1.0, (ap (is_refusal 4) same ∙ clear-5.1.1.1.0, tt)),
        ),
      )

  -- so 5 is given where one of the two is not zero
  still-5 : (k x : ℕ) → 2 < k → k < 5 → spare_set (set w k x) ≡ true → answered (set w k x) p ≡ refused 5 0
  unfolding read_rules
  still-5 k x a b s = row-answered (set w k x) p 4 (clear-still k x a b) s

  at-4 : eqb (get_or w 3 0) 0 ≡ true → TrueWord w p 5 4 (get_or w 4 0) (allowed_at 5 w 4)
  at-4 z =
      let f = five-there in
      let put : (x : ℕ) → eqb (get_or (set w 4 x) 4 0) 0 ≡ eqb x 0 = λ x. ap (λ (n : ℕ). eqb n 0) (get_or-set_same w 4 x 0 (omega arith)) in
      let zero : (x : ℕ) → eqb (get_or (set w 4 x) 3 0) 0 ≡ true = λ x. ap (λ (n : ℕ). eqb n 0) (other w 4 x 3 (λ y. omega arith)) ∙ z in
      record {
        there = omega arith;
        word = refl;
        fault = one (get_or w 4 0) 0 ∙ second w z (spare w p q e);
        lowest = λ k a b. let s : k ≡ 3 = omega arith in rw s (one (get_or w 3 0) 0 ∙ z);
        gone = λ x h.
            not_named (set w 4 x) p 5 4
            (λ r d m. clash (sym (one x 0) ∙ h) (sym (put x) ∙ second (set w 4 x) (zero x) (spare (set w 4 x) p r d)));
        only = λ x l h.
            let f : eqb (get_or (set w 4 x) 4 0) 0 ≡ false = put x ∙ sym (one x 0) ∙ h in
            is-named (set w 4 x) p 5 4 0 (still-5 4 x (omega arith) (omega arith) (set-by-4 (set w 4 x) (zero x) f)) (rw (zero x) refl);
      }

  at-3 : eqb (get_or w 3 0) 0 ≡ false → TrueWord w p 5 3 (get_or w 3 0) (allowed_at 5 w 3)
  at-3 z =
      let f = five-there in
      let put : (x : ℕ) → eqb (get_or (set w 3 x) 3 0) 0 ≡ eqb x 0 = λ x. ap (λ (n : ℕ). eqb n 0) (get_or-set_same w 3 x 0 (omega arith)) in
      record {
        there = omega arith;
        word = refl;
        fault = one (get_or w 3 0) 0 ∙ z;
        lowest = λ k a b. absurd (let y : ⊥ = omega arith in y);
        gone = λ x h.
            not_named (set w 3 x) p 5 3 (λ r d m. let t = put x ∙ sym (one x 0) ∙ h in absurd (false≢true (rw t at m)));
        only = λ x l h.
            let f : eqb (get_or (set w 3 x) 3 0) 0 ≡ false = put x ∙ sym (one x 0) ∙ h in
            is-named (set w 3 x) p 5 3 0 (still-5 3 x (omega arith) (omega arith) (set-by-3 (set w 3 x) f)) (rw f refl);
      }

  pub word-5 : TrueWord w p 5 (spare_at w) (get_or w (spare_at w) 0) (allowed_at 5 w (spare_at w))
  word-5 = go (eqb (get_or w 3 0) 0) refl
    where
      go : (t : Bool) → eqb (get_or w 3 0) 0 ≡ t → TrueWord w p 5 (spare_at w) (get_or w (spare_at w) 0) (allowed_at 5 w (spare_at w))
      go true z = rw z (at-4 z)
      go false z = rw z (at-3 z)

-- ---- 7: X's first word, and any but zero is allowed there

-- a start that counts no events has an X of two words
counted-block : (c : Command) → no_events c ≡ true → block_length c ≡ 2
counted-block (Read kind) e = absurd (false≢true e)
counted-block Write e = absurd (false≢true e)
counted-block (Start Endless) e = absurd (false≢true e)
counted-block (Start (Counted x)) e = refl
counted-block Stop e = absurd (false≢true e)
counted-block Ping e = absurd (false≢true e)
counted-block (CrateReset c) e = absurd (false≢true e)

-- its first word is zero
first-zero : (w : List ℕ) → no_events (command_in w) ≡ true → get_or w 5 0 ≡ 0
first-zero w e = let z : count_in w ≡ 0 = events-zero (get_or w 1 0) (get_or w 2 0) (count_in w) e in omega arith

not-zero : (x : ℕ) → is_allowed (range 1 0xFFFF) x ≡ true → x ≡ 0 → ⊥
not-zero x h e = let l : 1 ≤ x = leb-true 1 x (and_left (leb 1 x) (leb x 0xFFFF) h) in omega arith

zero_left : (x : ℕ) → x < 65536 → is_allowed (range 1 0xFFFF) x ≡ false → x ≡ 0
zero_left x l h = go (leb 1 x) refl h
  where
    go : (t : Bool) → leb 1 x ≡ t → (t && leb x 0xFFFF) ≡ false → x ≡ 0
    go true e f = absurd (let m = leb-false x 0xFFFF f in let z : ⊥ = omega arith in z)
    go false e f = let m = leb-false 1 x e in omega arith

pub word-7 : (w : List ℕ) (p : Present) (q : ℕ) → answered w p ≡ refused 7 q → TrueWord w p 7 5 (get_or w 5 0) (allowed_at 7 w 5)
unfolding read_rules
word-7 w p q e =
    let clear = clear-below 6 7 (rules_in w p) tt (none_below w p 7 q e) in
    let due : 5 + block_length (command_in w) ≤ length w = ltb-false _ _ clear.1.1.1.1.1.0 in
    let two = counted-block (command_in w) (none w p q e) in
    let zero = first-zero w (none w p q e) in
    let there : 5 < length w = omega arith in
    record {
      there = there;
      word = refl;
      fault = rw zero refl;
      lowest = λ k a b. absurd (let z : ⊥ = omega arith in z);
      gone = λ x h.
          not_named (set w 5 x) p 7 5
          (λ r d m. not-zero x h (sym (get_or-set_same w 5 x 0 there) ∙ first-zero (set w 5 x) (none (set w 5 x) p r d)));
      only = λ x l h.
          let same : set w 5 x ≡ w = ap (set w 5) (zero_left x l h ∙ sym zero) ∙ set-get_or w 5 0 in
          rw same (is-named w p 7 5 q e refl);
    }
