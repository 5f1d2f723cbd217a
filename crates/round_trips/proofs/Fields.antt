-- The numbers of a header, of a command and of a packet stand whole in the words or bytes that they have.
-- Assumes nothing.
use Prim.Native.Nat.{ℕ, ◌+◌, ◌*◌, ◌/◌, ◌%◌, ◌^◌, ◌<◌, ◌≤◌}
use mathlib.Core.Path.{◌≡◌, sym, ◌∙◌}
use mathlib.Core.Bool.{Bool, true, false}
use mathlib.Core.List.{List, ◌++◌}
use native.Mathlib.Nat.{mod-eq_of_lt}
use native.Mathlib.Omega.{arith}
use Rattle.numbers.specs.Numbers.{digits, number}
use Rattle.numbers.proofs.Numbers.{number_digits}
use Rattle.blocks.specs.Blocks.{header_words}
use Rattle.blocks.specs.declared.Header.{Header}
use Rattle.round_trips.specs.Blocks.{as_sent}
use Rattle.block_reader.specs.Reading.{header_in}
use Rattle.packets.specs.Packets.{bit_of, type1, type2, first_six, packet_bytes}
use Rattle.packets.specs.declared.Fields.{Fields}
use Rattle.packet_reader.specs.Reading.{is_odd, packet_in}

-- the numbers that fit their words stand in them, and of the timestamp its lowest 48 bits
pub header-back : (h : Header) (b : List ℕ) → h.board_id < 2 ^ 64 → h.trigger_counter < 2 ^ 32 → as_sent h ≡ header_in (header_words h ++ b)
unfolding header_in header_words
header-back h b id counter =
    let whole-id : h.board_id % 2 ^ 64 ≡ h.board_id = omega arith in
    let whole-counter : h.trigger_counter % 2 ^ 32 ≡ h.trigger_counter = omega arith in
    let low-time : number 65536 (digits 65536 3 h.timestamp) ≡ (as_sent h).timestamp = number_digits 65536 (omega arith) 3 h.timestamp in
    λ i. record {
      board_id = sym (number_digits 65536 (omega arith) 4 h.board_id ∙ whole-id) i;
      firmware_id = h.firmware_id;
      trigger_counter = sym (number_digits 65536 (omega arith) 2 h.trigger_counter ∙ whole-counter) i;
      timestamp = sym low-time i;
    }

-- X "in 2 words, high first" reads back
pub count-back : (x : ℕ) → x < 2 ^ 32 → number 65536 (digits 65536 2 x) ≡ x
count-back x f = number_digits 65536 (omega arith) 2 x ∙ mod-eq_of_lt f

-- a packet
bit-lt : (t : Bool) → bit_of t < 2
bit-lt true = omega arith
bit-lt false = omega arith

bit-odd : (t : Bool) (x : ℕ) → x % 2 ≡ bit_of t → is_odd x ≡ t
bit-odd true x e = rw e
bit-odd false x e = rw e

module _ (x : ℕ) (f : Fields) (hx : x < 2 ^ 32) (hn : f.n ≤ 40) (hs : f.pulser_setting ≤ 15) where
  pub packet-back : packet_in (packet_bytes x f) ≡ record { number = x; fields = f }
  unfolding first_six
  packet-back =
      let e₁ = bit-lt f.external1 in
      let e₂ = bit-lt f.external2 in
      let ti = bit-lt f.tim_source in
      let pe = bit-lt f.pedestal in
      let l₁ = bit-lt f.lp1 in
      let l₂ = bit-lt f.lp2 in
      let t₁ = type1 f in
      let t₂ = type2 f in
      let number : x % 256 + 256 * (x / 256 % 256 + 256 * (x / 256 / 256 % 256 + 256 * (x / 256 / 256 / 256 % 256))) ≡ x = omega arith in
      let n : t₁ / 4 ≡ f.n = omega arith in
      let setting : t₂ / 8 % 16 ≡ f.pulser_setting = omega arith in
      λ i. record {
        number = number i;
        fields = record {
          n = n i;
          external1 = bit-odd f.external1 t₁ (omega arith) i;
          external2 = bit-odd f.external2 (t₁ / 2) (omega arith) i;
          tim_source = bit-odd f.tim_source (t₂ / 128) (omega arith) i;
          pulser_setting = setting i;
          pedestal = bit-odd f.pedestal (t₂ / 4) (omega arith) i;
          lp2 = bit-odd f.lp2 (t₂ / 2) (omega arith) i;
          lp1 = bit-odd f.lp1 t₂ (omega arith) i;
        };
      }
