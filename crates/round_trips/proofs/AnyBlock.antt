-- The words of a block of any kind, read, give its header and its body back.
-- Assumes nothing.
use Prim.Native.Nat.{ℕ, ◌+◌, ◌^◌, ◌<◌, ◌≤◌}
use mathlib.Core.Path.{◌≡◌, refl, sym, ap, ◌∙◌}
use mathlib.Core.List.{List, ◌++◌}
use native.Mathlib.Omega.{arith}
use lib.ListN.{length, length-append}
use borrow.Author.Tests.{le-ltb}
use Rattle.refusals.specs.Tables.{given}
use Rattle.numbers.specs.Numbers.{id_limit}
use Rattle.blocks.specs.Blocks.{header_words}
use Rattle.blocks.specs.declared.Header.{Header}
use Rattle.round_trips.specs.Blocks.{as_sent, ReadsBack}
use Rattle.round_trips.proofs.Fields.{header-back}
use Rattle.block_reader.specs.Reading.{body_length, place_above, block_answer, body_where}
use Rattle.block_reader.specs.declared.Kind.{Kind}
use Rattle.block_reader.proofs.Laws.{read-header}

-- the words of a block whose body has the kind's length, and no word above its bound
pub read_back : (kind : Kind) (h : Header) (b : List ℕ) → h.board_id < id_limit → h.trigger_counter < 2 ^ 32 → length b ≡ body_length kind
    → body_length kind ≤ place_above kind b → ReadsBack kind (header_words h ++ b) (as_sent h) b
unfolding header_words
read_back kind h b id counter l free =
    let n : length (header_words h ++ b) ≡ 11 + body_length kind = length-append (header_words h) b ∙ ap (λ (k : ℕ). 11 + k) l in
    let e : block_answer kind (header_words h ++ b) ≡ given (as_sent h) =
    sym (read-header kind (header_words h ++ b) n (le-ltb _ _ free) (as_sent h) (header-back h b (omega arith) counter) (omega arith) refl) in
    record { header = e; body = ap (λ a. body_where a b) e }
