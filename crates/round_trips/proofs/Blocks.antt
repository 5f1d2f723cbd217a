-- Reading a block that was written gives its header and its body back, for each of the four kinds, from the writer's own contract: for every
-- header, body and lent output. And so do its bytes on the wire.
-- Assumes nothing.
use Prim.Native.Nat.{ℕ, ◌+◌, ◌^◌, ◌<◌, ◌≤◌}
use mathlib.Core.Path.{◌≡◌, refl, sym, ap, ◌∙◌}
use mathlib.Core.List.{List, [], ◌∷◌, ◌++◌, append-nil}
use native.Mathlib.Nat.{mod-eq_of_lt}
use native.Mathlib.Omega.{arith}
use lib.ListN.{length, get_or, take, drop, length-append}
use lib.Seq.{take_at, drop_at}
use borrow.Author.Tests.{lt-ltb, eqb-true, not-false}
use Rattle.std.specs.Prelude.{Ok}
use Rattle.refusals.specs.Tables.{Rule}
use Rattle.refusals.proofs.Tables.{Clear}
use Rattle.refusals.proofs.Writing.{wrote-front}
use Rattle.words.specs.Words.{words_in, bytes_of}
use Rattle.numbers.specs.Numbers.{digits, number}
use Rattle.numbers.proofs.Numbers.{number_digits}
use Rattle.words.proofs.Bytes.{Below, words_same}
use Rattle.bounds.specs.Bounds.{bound_of, measurement_bound, lowest_above, RatesKept}
use Rattle.bounds.proofs.Lowest.{lowest-over}
use Rattle.bounds.proofs.Lent.{above_within}
use Rattle.blocks.specs.Blocks.{header_words, static_rules, dynamic_body, temperature_rules, failure_body, block_rules, WroteBlock, WroteStatic, WroteDynamic}
use Rattle.blocks.specs.declared.Header.{Header}
use Rattle.blocks.proofs.Laws.{block-length, block-clear, block-id}
use Rattle.ftu_list.specs.List.{list_body}
use Rattle.ftu_list.specs.declared.FtuList.{FtuList}
use Rattle.round_trips.specs.Blocks.{as_sent, ReadsBack, DynamicBack}
use Rattle.round_trips.proofs.AnyBlock.{read_back}
use Rattle.block_reader.specs.Reading.{body_length, place_above}
use Rattle.block_reader.specs.declared.Kind.{Kind}
use Rattle.block_reader.specs.declared.Kind.TheVariants.{Static, Dynamic, FtuList as List', Failure}

-- the first n words of the lent output, as the writer says that it wrote them
module _ (own : List Rule) (kind : Kind) (h : Header) (b out : List ℕ) (n : ℕ) (after : List ℕ)
    (w : WroteBlock own (body_length kind) h b out (Ok n) after) where
  pub written_back : body_length kind ≤ place_above kind b → ReadsBack kind (take n after) (as_sent h) b
  written_back free =
      rw (wrote-front (block_rules own h b out) (header_words h ++ b) out n after w.wrote)
      (read_back kind h b (block-id own _ h b out n after w) (w.fits n refl) (block-length own _ h b out n after w) free)

-- ---- what a dynamic block measures

four-temperatures : (t : List ℕ) → Clear (temperature_rules t) → length t ≡ 4
four-temperatures t c = eqb-true _ _ (not-false _ c.0)

-- temperatures have no bound but that of a word
free-temperature : (j : ℕ) → j < 4 → measurement_bound j ≡ 0xFFFF
unfolding measurement_bound
free-temperature j h = rw (lt-ltb j 4 h)

measured-within : (t rates : List ℕ) → length t ≡ 4 → ((j : ℕ) → get_or t j 0 ≤ 0xFFFF) → RatesKept rates
    → length (t ++ rates) ≤ lowest_above measurement_bound 0 (t ++ rates)
measured-within t rates four words bounded =
    let first : (j : ℕ) → j < length t → get_or t j 0 ≤ measurement_bound (0 + j) =
    λ j l. rw (free-temperature (0 + j) (omega arith)) (words j) in
    let here : 0 + length t ≡ 4 = omega arith in
    let later : (j : ℕ) → j < length rates → get_or rates j 0 ≤ measurement_bound (0 + length t + j) = λ j l. rw here (bounded j) in
    let e : lowest_above measurement_bound 0 (t ++ rates) ≡ 0 + length t + length rates =
    lowest-over measurement_bound 0 t rates first
    ∙ ap (lowest_above measurement_bound (0 + length t)) (sym (append-nil rates))
    ∙ lowest-over measurement_bound (0 + length t) rates [] later in
    omega (arith, length-append t rates)

-- ---- the four kinds

module _ (h : Header) (out : List ℕ) (n : ℕ) (after : List ℕ) where
  pub static-back : (block : List ℕ) → WroteStatic h block out (Ok n) after → ReadsBack Static (take n after) (as_sent h) block
  static-back block w =
      written_back (static_rules block) Static h block out n after w
      (above_within bound_of 436 block (block-clear (static_rules block) 436 h block out n after w))

  -- of rates within their bounds, as those of every board that is reached are
  pub dynamic_back : (t : ℕ) (temperatures rates : List ℕ) → RatesKept rates
      → WroteDynamic h t temperatures rates out (Ok n) after → DynamicBack (take n after) (as_sent h) t temperatures rates
  dynamic_back t temperatures rates bounded w =
      let own = temperature_rules temperatures in
      let body = dynamic_body t temperatures rates in
      let four = four-temperatures temperatures (block-clear own 487 h body out n after w.block) in
      let long = block-length own 487 h body out n after w.block in
      let free = measured-within temperatures rates four w.words bounded in
      let back = written_back own Dynamic h body out n after w.block (omega arith) in
      record {
        block = back;
        on-time = ap (λ (b : List ℕ). number 65536 (take 3 b)) back.body ∙ number_digits 65536 (omega arith) 3 t;
        temperatures = ap (λ (b : List ℕ). take 4 (drop 3 b)) back.body ∙ take_at temperatures rates 4 four;
        rates = ap (drop 7) back.body ∙ drop_at temperatures rates 4 four;
      }

  -- whatever rows the board puts in front
  module _ (own : List Rule) where
    pub list_back : (l : FtuList) → WroteBlock own 249 h (list_body l) out (Ok n) after → ReadsBack List' (take n after) (as_sent h) (list_body l)
    list_back l w =
        let k = block-length own 249 h (list_body l) out n after w in
        written_back own List' h (list_body l) out n after w (omega arith)

    pub failure-back : (calls : ℕ) (frame : List ℕ) → WroteBlock own 29 h (failure_body calls frame) out (Ok n) after
        → ReadsBack Failure (take n after) (as_sent h) (failure_body calls frame)
    failure-back calls frame w =
        let k = block-length own 29 h (failure_body calls frame) out n after w in
        written_back own Failure h (failure_body calls frame) out n after w (omega arith)

-- a header whose timestamp fits its words reads back as it was
pub sent-whole : (h : Header) → h.timestamp < 2 ^ 48 → as_sent h ≡ h
sent-whole h t = λ i. record {
  board_id = h.board_id;
  firmware_id = h.firmware_id;
  trigger_counter = h.trigger_counter;
  timestamp = mod-eq_of_lt t i;
}

-- ---- from the wire

below-append : (a b : List ℕ) → Below 65536 a → Below 65536 b → Below 65536 (a ++ b)
below-append [] b p q = q
below-append (x ∷ a) b p q = (p.0, below-append a b p.1 q)

header-below : (h : Header) → h.firmware_id < 65536 → Below 65536 (header_words h)
unfolding header_words
header-below h f =
    let low : Below 65536 (digits 65536 2 h.trigger_counter ++ digits 65536 3 h.timestamp ++ (0 ∷ [])) =
    (omega arith, (omega arith, (omega arith, (omega arith, (omega arith, (omega arith, tt)))))) in
    (omega arith, (omega arith, (omega arith, (omega arith, (f, low)))))

-- the bytes of a block's words hold those words, since they have 16 bits (of any numbers their lowest 16 bits: words/proofs/Bytes.antt)
pub wire-back : (h : Header) (b : List ℕ) → h.firmware_id < 65536 → Below 65536 b → words_in (bytes_of (header_words h ++ b)) ≡ header_words h ++ b
wire-back h b f q = words_same (header_words h ++ b) (below-append (header_words h) b (header-below h f) q)
