-- A static block, written and read back.
-- Assumes nothing.
use Prim.Native.Nat.{ℕ, ◌≤◌}
use native.Mathlib.Omega.{arith}
use mathlib.Core.Path.{◌≡◌, refl, sym, ap, ◌∙◌}
use mathlib.Core.List.{List, [], ◌∷◌, ◌++◌, append-nil}
use lib.ListN.{length, take, drop, replicate, length-append, drop_of_length-le}
use borrow.Author.Tests.{eq-eqb}
use Rattle.std.specs.Prelude.{Result, Ok, Err}
use Rattle.refusals.specs.Tables.{refused, rule, answer_number, answer_of}
use Rattle.refusals.specs.declared.Refusal.{Refusal}
use Rattle.refusals.specs.declared.Refusal.TheVariants.{WrongLength}
use Rattle.refusals.proofs.Writing.{wrote-alike-by, wrote-length, wrote-output, wrote-front}
use Rattle.refusals.proofs.Injective.{answer-injective}
use Rattle.words.specs.Words.{copied}
use Rattle.words.proofs.Laws.{copied-front}
use Rattle.bounds.specs.Bounds.{bound_of, lent_rules}
use Rattle.bounds.proofs.Lent.{lent-6, lent-within}
use Rattle.blocks.specs.Blocks.{header_words, static_rules, block_rules, WroteBlock}
use Rattle.blocks.proofs.Laws.{block-own, block-clear}
use Rattle.blocks.proofs.Tables.{block-exactly}
use Rattle.block_reader.specs.Reading.{block_answer}
use Rattle.block_reader.specs.declared.Kind.TheVariants.{Static}
use Rattle.round_trips.specs.Blocks.{ReadsBack}
use Rattle.round_trips.proofs.Blocks.{written_back}
use Rattle.board.proofs.Answers.{applies-between}
use Rattle.exports.specs.Exports.{header_of_zeros, static_answer, StaticRound}
use Rattle.blocks.specs.declared.Header.{Header}

-- 6 and then the rows of a static block: the writer's answer w, and what the lent words `out` became
abbrev pub WroteLent : List ℕ → List ℕ → (Result ℕ Refusal) → List ℕ → Type 0
WroteLent block out w after = WroteBlock (lent_rules bound_of 436 block) 436 header_of_zeros block out w after

module _ (block out : List ℕ) (w : Result ℕ Refusal) (after : List ℕ) (s : WroteLent block out w after) where
  module _ (n : ℕ) (e : w ≡ Ok n) where
    as-length : WroteLent block out (Ok n) after
    as-length = rw e at s

    pub static-reads : ReadsBack Static (take n after) header_of_zeros block
    static-reads =
        written_back (lent_rules bound_of 436 block) Static header_of_zeros block out n after as-length
        (lent-within bound_of 436 block (block-clear (lent_rules bound_of 436 block) 436 header_of_zeros block out n after as-length))

    pub front_fits : n ≤ length after
    front_fits =
        let due = header_words header_of_zeros ++ block in
        let table = block_rules (lent_rules bound_of 436 block) header_of_zeros block out in
        let q = ap length (wrote-output table due out n after as-length.wrote) ∙ length-append due (drop (length due) out) in
        let k = wrote-length table due out n after as-length.wrote in
        omega arith

    pub front_length : n ≡ length (take n after)
    front_length =
        let due = header_words header_of_zeros ++ block in
        let table = block_rules (lent_rules bound_of 436 block) header_of_zeros block out in
        sym (ap length (wrote-front table due out n after as-length.wrote) ∙ wrote-length table due out n after as-length.wrote)

    -- so the reader does not refuse it
    pub static-read : (b : Result Header Refusal) → answer_of b ≡ block_answer Static (take n after) → answer_number (answer_of b) ≡ answer_number (answer_of w)
    static-read b q = ap answer_number (q ∙ static-reads.header) ∙ sym (ap (λ (x : Result ℕ Refusal). answer_number (answer_of x)) e)

  -- the number is that of the writer's answer
  pub static-round : (r : ℕ) → r ≡ answer_number (answer_of w) → StaticRound block out r after
  static-round r q =
      record {
        number = q ∙ ap answer_number s.wrote.answer;
        output = s.wrote.output;
        reads = λ n e. static-reads n (answer-injective w (Ok n) (s.wrote.answer ∙ e));
      }

-- other words than 436
pub static-6 : (block out : List ℕ) → (length block ≡ 436 → ⊥) → StaticRound block out 6 out
static-6 block out l =
    static-round block out (Err WrongLength) out
    (block-own (lent_rules bound_of 436 block) 436 header_of_zeros block out WrongLength (lent-6 bound_of 436 block l)) 6 refl

-- 436 words, stored in a block of zeros
module _ (block stored out : List ℕ) (l : length block ≡ 436) (es : stored ≡ copied block (replicate 436 0)) (w : Result ℕ Refusal) (after : List ℕ) where
  stored_is : stored ≡ block
  stored_is =
      copied-front block (replicate 436 0) 436 l (omega arith) es
      ∙ ap (λ (m : List ℕ). block ++ m) (drop_of_length-le (replicate 436 0) {i = 436} (omega arith))
      ∙ append-nil block

  pub wrote-lent : WroteBlock (static_rules stored) 436 header_of_zeros stored out w after → WroteLent block out w after
  unfolding block_rules lent_rules
  wrote-lent s =
      let q : WroteBlock (static_rules block) 436 header_of_zeros block out w after = rw stored_is at s in
      record {
        wrote = wrote-alike-by (rule 6 _ ∷ []) [] _ (header_words header_of_zeros ++ block) out w after tt (simp (eq-eqb _ _ l), tt) q.wrote;
        size = q.size;
        fits = q.fits;
      }

-- every refusal has a number of 6 or more: 0 is given exactly where the block is written
pub static-numbers : (block out : List ℕ) (n p : ℕ) → static_answer block out ≡ refused n p → 6 ≤ n
unfolding block_rules lent_rules
static-numbers block out n p e =
    let table = block_rules (lent_rules bound_of 436 block) header_of_zeros block out in
    (applies-between 6 20 table tt n p ((block-exactly (lent_rules bound_of 436 block) header_of_zeros block out tt).refused-only n p e).0).0
