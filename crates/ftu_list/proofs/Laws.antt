-- Laws of the boards' words, and of how many answered.
-- Assumes nothing.
use Prim.Native.Nat.{ℕ, suc, ◌+◌, ◌-◌, ◌*◌, ◌/◌, ◌%◌, ◌<◌, ◌≤◌}
use mathlib.Core.Path.{◌≡◌, refl, sym, ap, ◌∙◌}
use mathlib.Core.Bool.{Bool, true, false, cond}
use mathlib.Core.List.{List, [], ◌∷◌, ◌++◌, append_assoc, append-nil, map}
use native.Mathlib.Omega.{arith}
use native.Mathlib.Nat.{add-zero, le_of_lt}
use native.Mathlib.Numerals.{add-one}
use lib.Dec.{eqb}
use lib.ListN.{length, take, drop, get_or, replicate, length-append, length-map}
use lib.Seq.{take-suc, drop-cons, length-take-le}
use Rattle.numbers.specs.Numbers.{digits}
use Rattle.configuration.specs.Configuration.{address_of}
use Rattle.ftu_list.specs.List.{entry_words, entry_words_from, answered, list_head, list_body}
use Rattle.ftu_list.specs.declared.Entry.{Entry}
use Rattle.ftu_list.specs.declared.FtuList.{FtuList}

-- a board that did not answer
abbrev pub silent : Entry
silent = record { calls = 0; dna = 0; crc_errors = 0 }

pub length-entry : (k : ℕ) (e : Entry) → length (entry_words k e) ≡ 6
unfolding entry_words
length-entry k e = go (eqb e.calls 0)
  where
    go : (t : Bool) → length (cond t (replicate 6 0) ((address_of (k / 10) (k % 10) + 256 * e.calls) ∷ digits 65536 4 e.dna ++ (e.crc_errors ∷ []))) ≡ 6
    go true = refl
    go false = refl

pub length-entries : (k : ℕ) (es : List Entry) → length (entry_words_from k es) ≡ 6 * length es
length-entries k [] = refl
length-entries k (e ∷ es) =
    length-append (entry_words k e) (entry_words_from (suc k) es) ∙ (let a = length-entry k e in let b = length-entries (suc k) es in omega arith)

entries-snoc : (k : ℕ) (es : List Entry) (e : Entry) → entry_words_from k (es ++ (e ∷ [])) ≡ entry_words_from k es ++ entry_words (k + length es) e
entries-snoc k [] e = append-nil (entry_words k e) ∙ ap (λ (n : ℕ). entry_words n e) (sym (add-zero k))
entries-snoc k (d ∷ es) e =
    ap (λ (l : List ℕ). entry_words k d ++ l) (entries-snoc (suc k) es e)
    ∙ sym (append_assoc (entry_words k d) (entry_words_from (suc k) es) (entry_words (suc k + length es) e))
    ∙ ap (λ (n : ℕ). (entry_words k d ++ entry_words_from (suc k) es) ++ entry_words n e) (let q : suc k + length es ≡ k + suc (length es) = omega arith in q)

-- one board more
pub entries-more : (es : List Entry) (k : ℕ) → k < length es
    → entry_words_from 0 (take (suc k) es) ≡ entry_words_from 0 (take k es) ++ entry_words k (get_or es k silent)
entries-more es k h =
    ap (entry_words_from 0) (take-suc es k silent h)
    ∙ entries-snoc 0 (take k es) (get_or es k silent)
    ∙ ap (λ (n : ℕ). entry_words_from 0 (take k es) ++ entry_words n (get_or es k silent))
    (let l = length-take-le k es (le_of_lt h) in let q : 0 + length (take k es) ≡ k = omega arith in q)

-- how many of the boards from k up to `to` answered: board k, and those after it
pub answered-on : (es : List Entry) (k to : ℕ) → k < to → to ≤ length es
    → answered (take (to - k) (drop k es)) ≡ cond (eqb (get_or es k silent).calls 0) 0 1 + answered (take (to - (k + 1)) (drop (k + 1) es))
answered-on es k to h room =
    let e : to - k ≡ suc (to - suc k) = omega arith in
    ap (λ (n : ℕ). answered (take n (drop k es))) e
    ∙ ap (λ (l : List Entry). answered (take (suc (to - suc k)) l)) (drop-cons es k silent (omega arith))
    ∙ ap (λ (n : ℕ). cond (eqb (get_or es k silent).calls 0) 0 1 + answered (take (to - n) (drop n es))) (sym (add-one k))

-- a list is as long as one made of it, element by element
pub length-mapped : {X Y : Type 0} (f : X → Y) (l : List X) (n : ℕ) → length (map f l) ≡ n → length l ≡ n
length-mapped f l n e = sym (length-map l f) ∙ e

pub length-head : (l : FtuList) → length (list_head l) ≡ 9
unfolding list_head
length-head l = refl

pub length-body : (l : FtuList) → length l.entries ≡ 40 → length (list_body l) ≡ 249
length-body l n = length-append (list_head l) (entry_words_from 0 l.entries) ∙ (let a = length-head l in let b = length-entries 0 l.entries in omega arith)
