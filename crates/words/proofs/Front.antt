-- The words that bytes hold, in lent words that have room for them.
-- Assumes nothing.
use Prim.Native.Nat.{ℕ, ◌/◌, ◌≤◌}
use mathlib.Core.Path.{◌≡◌, sym, ap, ◌∙◌}
use mathlib.Core.List.{List, [], ◌∷◌, ◌++◌, append-nil}
use native.Mathlib.Omega.{arith}
use lib.ListN.{length, take, drop, get_or, drop_of_length-le}
use lib.Seq.{take_at}
use Rattle.std.specs.Prelude.{Result}
use Rattle.refusals.specs.Tables.{Answer}
use Rattle.refusals.specs.Writing.{output_after, Wrote}
use Rattle.refusals.proofs.Writing.{room-writing}
use Rattle.numbers.specs.Numbers.{number}
use Rattle.numbers.proofs.Listed.{listed}
use Rattle.words.specs.Words.{words_in}
use Rattle.words.proofs.Bytes.{length-words}
use Rattle.refusals.specs.declared.Refusal.{Refusal}

module _ (b out after : List ℕ) (w : Result ℕ Refusal) (h : Wrote [] (words_in b) out w after) where
  words-put : length b / 2 ≤ length out → after ≡ words_in b ++ drop (length (words_in b)) out
  words-put room =
      let n = length-words b in
      h.output ∙ ap (λ (a : Answer ℕ). output_after a (words_in b) out) (room-writing [] (words_in b) out (omega arith))

  -- they stand in front
  pub words-front : length b / 2 ≤ length out → take (length b / 2) after ≡ words_in b
  words-front room = ap (take (length b / 2)) (words-put room) ∙ take_at (words_in b) _ (length b / 2) (length-words b)

  pub front_length : length b / 2 ≤ length out → length b / 2 ≡ length (take (length b / 2) after)
  front_length room = sym (ap length (words-front room) ∙ length-words b)

  -- or are all there is
  pub words-whole : length out ≡ length b / 2 → after ≡ words_in b
  words-whole room =
      let n = length-words b in
      words-put (omega arith)
      ∙ ap (λ (l : List ℕ). words_in b ++ l) (drop_of_length-le out {i = length (words_in b)} (omega arith))
      ∙ append-nil (words_in b)

-- the number in four bytes, taken as two words
pub number_in : (b w : List ℕ) → length b ≡ 4 → w ≡ words_in b → number 65536 (get_or w 0 0 ∷ get_or w 1 0 ∷ []) ≡ number 65536 (words_in b)
number_in b w l e =
    let n : length w ≡ 2 = ap length e ∙ length-words b ∙ (let k : length b / 2 ≡ 2 = omega arith in k) in
    ap (number 65536) (listed w 2 n ∙ e)
