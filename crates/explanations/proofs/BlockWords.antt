-- 02, c: the word of a write's block that is named for 8.
-- Assumes nothing.
use Prim.Native.Nat.{ℕ, ◌+◌, ◌<◌, ◌≤◌}
use mathlib.Core.Path.{◌≡◌, refl, sym, ap, ap₂, subst, ◌∙◌}
use mathlib.Core.Bool.{Bool, true, false, ◌&&◌, or-false}
use mathlib.Core.List.{List}
use native.Mathlib.Omega.{arith}
use lib.Dec.{ltb, leb, eqb, leb-zero}
use lib.ListN.{length, get_or, set, take, drop, length-set, length-drop}
use lib.Seq.{length-take-le, get_or-take, get_or-drop, get_or-set_same}
use borrow.Author.Tests.{ltb-true, ltb-false, lt-ltb, leb-true, leb-false, le-leb, lt-leb, eqb-true, eq-eqb}
use Rattle.refusals.specs.Tables.{refused}
use Rattle.refusals.proofs.Tables.{Clear, clear-append}
use Rattle.bounds.specs.Bounds.{bound_of, lowest_above}
use Rattle.bounds.proofs.Lowest.{lowest-before, lowest-there}
use Rattle.commands.specs.Commands.{block_length, no_events, is_write}
use Rattle.commands.proofs.Each.{is-a-write, write-block}
use Rattle.command_reader.specs.Reading.{named_in, command_in, place_in, read_rules}
use Rattle.explanations.specs.Explaining.{is_allowed, range, allowed_at}
use Rattle.explanations.specs.TrueReason.{answered, TrueWord}
use Rattle.explanations.specs.declared.Present.{Present}
use Rattle.explanations.proofs.Rows.{and_left, and_right, clear-below}
use Rattle.explanations.proofs.Answers.{rules_in, row-answered, applies-here, none_below, not_named, is-named}
use Rattle.explanations.proofs.SameRow.{same_write}
use Rattle.explanations.proofs.FirstWords.{same-command, same-due, clear-five}
use Rattle.explanations.proofs.WordsAtFault.{other}

-- ---- the block

abbrev block_in : List ℕ → List ℕ
block_in w = take 436 (drop 5 w)

word-there : (w : List ℕ) (k : ℕ) → k < 436 → get_or (block_in w) k 0 ≡ get_or w (5 + k) 0
word-there w k l = get_or-take 436 (drop 5 w) k 0 l ∙ get_or-drop 5 w k 0

length-there : (w : List ℕ) → 441 ≤ length w → length (block_in w) ≡ 436
length-there w l = length-take-le 436 (drop 5 w) (rw length-drop (omega arith))

-- counted from 0: the word at the lowest place is above its bound, and those before it are within theirs
above-there : (xs : List ℕ) (k : ℕ) → k < length xs → lowest_above bound_of 0 xs ≡ k → bound_of k < get_or xs k 0
above-there xs k l e = let z : 0 + k ≡ k = omega arith in rw z at (lowest-there bound_of 0 xs k l (e ∙ sym z))

within-before : (xs : List ℕ) (k : ℕ) → k < lowest_above bound_of 0 xs → get_or xs k 0 ≤ bound_of k
within-before xs k l = let z : 0 + k ≡ k = omega arith in rw z at (lowest-before bound_of 0 xs k (omega arith))

-- the place of a word above its bound, where those before it are within theirs
place_is : (w : List ℕ) (k : ℕ) → 441 ≤ length w → k < 436 → ((j : ℕ) → j < k → get_or w (5 + j) 0 ≤ bound_of j) → bound_of k < get_or w (5 + k) 0
    → place_in w ≡ k
place_is w k l small before above = go (leb k (place_in w)) refl (leb (place_in w) k) refl
  where
    n : length (block_in w) ≡ 436
    n = length-there w l

    go : (s : Bool) → leb k (place_in w) ≡ s → (t : Bool) → leb (place_in w) k ≡ t → place_in w ≡ k
    go true a true b = let x : k ≤ place_in w = leb-true _ _ a in let y : place_in w ≤ k = leb-true _ _ b in omega arith
    go true a false b =
        let y : k < place_in w = leb-false _ _ b in
        let z = within-before (block_in w) k y in
        absurd (let m = word-there w k small in let v : get_or w (5 + k) 0 ≤ bound_of k = rw (sym m) z in let u : ⊥ = omega arith in u)
    go false a t b =
        let y : place_in w < k = leb-false _ _ a in
        let z = above-there (block_in w) (place_in w) (omega (arith, n)) refl in
        absurd
        (let m = word-there w (place_in w) (omega arith) in
        let v : bound_of (place_in w) < get_or w (5 + place_in w) 0 = rw (sym m) z in
        let u = before (place_in w) y in
        let x : ⊥ = omega arith in
        x)

-- ---- what is known where 8 is given

within : (x bound : ℕ) → x ≤ bound → is_allowed (range 0 bound) x ≡ true
within x bound l = rw (leb-zero x, le-leb x bound l) refl

module _ (w : List ℕ) (p : Present) (q : ℕ) (e : answered w p ≡ refused 8 q) where
  clear-8 : Clear (take 7 (rules_in w p))
  unfolding read_rules
  clear-8 = clear-below 7 8 (rules_in w p) tt (none_below w p 8 q e)

  row-8 : (eqb (place_in w) q && (is_write (command_in w) && ltb (place_in w) 436)) ≡ true
  unfolding read_rules
  row-8 = sym (or-false _) ∙ applies-here w p 8 q e

  is-write : is_write (command_in w) ≡ true
  is-write = and_left (is_write (command_in w)) (ltb (place_in w) 436) (and_right (eqb (place_in w) q) _ row-8)

  place-there : place_in w ≡ q
  place-there = eqb-true _ _ (and_left (eqb (place_in w) q) (is_write (command_in w) && ltb (place_in w) 436) row-8)

  in_block : q < 436
  in_block = rw (sym place-there) (ltb-true _ _ (and_right (is_write (command_in w)) (ltb (place_in w) 436) (and_right (eqb (place_in w) q) _ row-8)))

  whole : 441 ≤ length w
  unfolding read_rules
  whole =
      let due : 5 + block_length (command_in w) ≤ length w = ltb-false _ _ clear-8.1.1.1.1.1.0 in
      let b = write-block (command_in w) is-write in
      omega arith

  -- the word is above its bound
  above : bound_of q < get_or w (5 + q) 0
  above =
      let n = length-there w whole in
      let l = in_block in
      rw (sym (word-there w q l)) (above-there (block_in w) q (omega arith) place-there)

  -- and those before it are within theirs
  before : (k : ℕ) → k < q → get_or w (5 + k) 0 ≤ bound_of k
  before k l =
      let s = in_block in
      let t = place-there in
      rw (sym (word-there w k (omega arith))) (within-before (block_in w) k (omega arith))

module _ (w : List ℕ) (p : Present) (q : ℕ) (e : answered w p ≡ refused 8 q) where
  -- ---- with another word at that place

  module _ (x : ℕ) where
    abbrev w' : List ℕ
    w' = set w (5 + q) x

    put-there : get_or w' (5 + q) 0 ≡ x
    put-there = let l = whole w p q e in let k = in_block w p q e in get_or-set_same w (5 + q) x 0 (omega arith)

    -- the first five words are the same
    long : 5 ≤ length w'
    long = let l = whole w p q e in rw length-set (omega arith)

    front : (k : ℕ) → k < 5 → get_or w' k 0 ≡ get_or w k 0
    front k l = other w (5 + q) x k (λ z. omega arith)

    still-write : is_write (command_in w') ≡ true
    still-write = same_write (named_in w') (named_in w) (same-command w' w long front) ∙ is-write w p q e

    clear-still : Clear (take 7 (rules_in w' p))
    unfolding read_rules
    clear-still =
        let due : ltb (length w') (5 + block_length (command_in w')) ≡ false =
        ap₂ (λ (n b : ℕ). ltb n (5 + b)) (length-set w (5 + q) x) (same-due w' w long front) ∙ (clear-8 w p q e).1.1.1.1.1.0 in
        let events : no_events (command_in w') ≡ false = ap no_events (is-a-write (command_in w') still-write) in
        let five = clear-below 5 8 (rules_in w p) tt (none_below w p 8 q e) in
        clear-append (take 5 (rules_in w' p)) (take 2 (drop 5 (rules_in w' p))) (clear-five w' w long front p five) (due, (events, tt))

    -- 8 is given at that place again, where it is above its bound too
    still-8 : bound_of q < x → answered w' p ≡ refused 8 q
    unfolding read_rules
    still-8 l =
        let all : 441 ≤ length w' = rw length-set (whole w p q e) in
        let small : (k : ℕ) → k < q → get_or w' (5 + k) 0 ≤ bound_of k = λ k m. rw (other w (5 + q) x (5 + k) (λ z. omega arith)) (before w p q e k m) in
        let large : bound_of q < get_or w' (5 + q) 0 = rw put-there l in
        let at : place_in w' ≡ q = place_is w' q all (in_block w p q e) small large in
        let b : q < 436 = in_block w p q e in
        let t : (is_write (command_in w') && ltb (place_in w') 436) ≡ true = rw (still-write, at, lt-ltb q 436 b) refl in
        row-answered w' p 7 clear-still t ∙ ap (refused 8) at

  pub word-8 : TrueWord w p 8 q (get_or w (5 + q) 0) (allowed_at 8 w q)
  word-8 =
      let l = whole w p q e in
      let k = in_block w p q e in
      record {
        there = omega arith;
        word = refl;
        fault = rw (leb-zero (get_or w (5 + q) 0), lt-leb _ _ (above w p q e)) refl;
        lowest = λ j a b. within (get_or w (5 + j) 0) (bound_of j) (before w p q e j b);
        gone = λ x h.
            not_named (w' x) p 8 q
            (λ r d m.
            let s : r ≡ q = eqb-true r q m in
            let a : bound_of q < x = rw (put-there x) at (subst (λ (n : ℕ). bound_of n < get_or (w' x) (5 + n) 0) s (above (w' x) p r d)) in
            let b : x ≤ bound_of q = leb-true _ _ (and_right (leb 0 x) (leb x (bound_of q)) h) in
            omega arith);
        only = λ x m h. is-named (w' x) p 8 q q (still-8 x (leb-false _ _ (rw (leb-zero x) at h))) (eq-eqb q q refl);
      }
