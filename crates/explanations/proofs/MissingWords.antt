-- 02, c: with as many words added as are said to be missing, that refusal is no longer given; with fewer it is.
-- Assumes nothing.
use Prim.Native.Nat.{ℕ, ◌+◌, ◌-◌, ◌<◌, ◌≤◌}
use mathlib.Core.Path.{◌≡◌, refl, ap}
use mathlib.Core.Bool.{Bool, true, false}
use mathlib.Core.List.{List, ◌++◌}
use native.Mathlib.Omega.{arith}
use lib.Dec.{ltb, eqb}
use lib.ListN.{length, get_or, take, length-append, get_or-append}
use borrow.Author.Tests.{ltb-true, ltb-false, lt-ltb, ne_eqb}
use Rattle.refusals.specs.Tables.{Answer, given, refused, answer_number}
use Rattle.refusals.proofs.Tables.{Clear}
use Rattle.commands.specs.Commands.{block_length}
use Rattle.commands.specs.declared.Command.{Command}
use Rattle.command_reader.specs.Reading.{command_in, read_rules}
use Rattle.explanations.specs.TrueReason.{answered, TrueMissing}
use Rattle.explanations.specs.declared.Present.{Present}
use Rattle.explanations.proofs.Rows.{clear-below}
use Rattle.explanations.proofs.Answers.{rules_in, row-answered, applies-here, none_below}
use Rattle.explanations.proofs.FirstWords.{same-due, clear-five}
use Rattle.explanations.proofs.WordsAtFault.{alone}

-- an answer's number is n, which is not 0, only where n is refused
not-number : (a : Answer Command) (n : ℕ) → 1 ≤ n → ((q : ℕ) → a ≡ refused n q → ⊥) → eqb (answer_number a) n ≡ false
not-number (given c) n l h = ne_eqb 0 n (λ e. omega arith)
not-number (refused m q) n l h = ne_eqb m n (λ e. h q (ap (λ (k : ℕ). refused k q) e))

-- ---- 1: fewer than five words

few : (w : List ℕ) (p : Present) (q : ℕ) → answered w p ≡ refused 1 q → length w < 5
unfolding read_rules
few w p q e = ltb-true _ _ (alone (eqb 0 q) _ (applies-here w p 1 q e))

pub missing-1 : (w : List ℕ) (p : Present) (q : ℕ) → answered w p ≡ refused 1 q → TrueMissing w p 1 (5 - length w)
unfolding read_rules
missing-1 w p q e = let l = few w p q e in record { some = omega arith; added = λ more. go more l (ltb (length more) (5 - length w)) refl }
  where
    go : (more : List ℕ) → length w < 5 → (t : Bool) → ltb (length more) (5 - length w) ≡ t → eqb (answer_number (answered (w ++ more) p)) 1 ≡ t
    go more l true h =
        let m = ltb-true (length more) (5 - length w) h in
        let s : length (w ++ more) < 5 = rw length-append (omega arith) in
        ap (λ (a : Answer Command). eqb (answer_number a) 1) (row-answered (w ++ more) p 0 tt (lt-ltb _ _ s))
    go more l false h =
        not-number (answered (w ++ more) p) 1 (omega arith)
        (λ r d.
        let m = ltb-false (length more) (5 - length w) h in
        let s : length w + length more < 5 = rw length-append at (few (w ++ more) p r d) in
        omega arith)

-- ---- 6: fewer block words than due

short : (w : List ℕ) (p : Present) (q : ℕ) → answered w p ≡ refused 6 q → length w < 5 + block_length (command_in w)
unfolding read_rules
short w p q e = ltb-true _ _ (alone (eqb 0 q) _ (applies-here w p 6 q e))

module _ (w : List ℕ) (p : Present) (q : ℕ) (e : answered w p ≡ refused 6 q) (more : List ℕ) where
  clear-6 : Clear (take 5 (rules_in w p))
  unfolding read_rules
  clear-6 = clear-below 5 6 (rules_in w p) tt (none_below w p 6 q e)

  five : 5 ≤ length w
  unfolding read_rules
  five = ltb-false _ _ clear-6.0

  -- the first five words are the same
  long : 5 ≤ length (w ++ more)
  long = let f = five in rw length-append (omega arith)

  front : (k : ℕ) → k < 5 → get_or (w ++ more) k 0 ≡ get_or w k 0
  front k l = let f = five in get_or-append w more 0 k (omega arith)

  due-still : block_length (command_in (w ++ more)) ≡ block_length (command_in w)
  due-still = same-due (w ++ more) w long front

  added-6 : (t : Bool) → ltb (length more) (5 + block_length (command_in w) - length w) ≡ t → eqb (answer_number (answered (w ++ more) p)) 6 ≡ t
  unfolding read_rules
  added-6 true h =
      let l = short w p q e in
      let m = ltb-true (length more) (5 + block_length (command_in w) - length w) h in
      let s : length (w ++ more) < 5 + block_length (command_in (w ++ more)) = rw (due-still, length-append) (omega arith) in
      ap (λ (a : Answer Command). eqb (answer_number a) 6) (row-answered (w ++ more) p 5 (clear-five (w ++ more) w long front p clear-6) (lt-ltb _ _ s))
  added-6 false h =
      not-number (answered (w ++ more) p) 6 (omega arith)
      (λ r d.
      let m = ltb-false (length more) (5 + block_length (command_in w) - length w) h in
      let s : length w + length more < 5 + block_length (command_in w) = rw (due-still, length-append) at (short (w ++ more) p r d) in
      omega arith)

pub missing-6 : (w : List ℕ) (p : Present) (q : ℕ) → answered w p ≡ refused 6 q → TrueMissing w p 6 (5 + block_length (command_in w) - length w)
missing-6 w p q e = let l = short w p q e in record { some = omega arith; added = λ more. added-6 w p q e more _ refl }
