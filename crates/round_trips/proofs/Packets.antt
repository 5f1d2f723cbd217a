-- What is written is read back, and what is read, written again, gives the same bytes: no two byte strings read as the same packet.
-- Assumes nothing.
use Prim.Native.Nat.{ℕ, ◌+◌, ◌*◌, ◌/◌, ◌%◌, ◌^◌, ◌<◌, ◌≤◌}
use mathlib.Core.Path.{◌≡◌, refl, sym, ap, ap₂, ◌∙◌, subst}
use mathlib.Core.Bool.{Bool, true, false, not}
use mathlib.Core.List.{List, [], ◌∷◌, ◌++◌}
use native.Mathlib.Nat.{div-div-eq-div-mul}
use native.Mathlib.Omega.{arith}
use lib.Dec.{eqb}
use lib.ListN.{take, get_or}
use borrow.Author.Tests.{le-leb, eq-eqb, eqb-true, eqb-false, not-false}
use Rattle.std.specs.Prelude.{Ok}
use Rattle.crc.specs.Crc.{crc, packet_start}
use Rattle.refusals.specs.Tables.{given, Rule}
use Rattle.refusals.specs.Writing.{writing_rules, Wrote}
use Rattle.refusals.proofs.Writing.{wrote-front, wrote-clear}
use Rattle.numbers.proofs.Listed.{spread, listed}
use Rattle.packets.specs.Packets.{bit_of, type1, type2, first_six, packet_bytes, in_range, write_rules, WrotePacket}
use Rattle.packets.specs.declared.Fields.{Fields}
use Rattle.packets.specs.declared.Packet.{Packet}
use Rattle.packets.proofs.Laws.{within}
use Rattle.packet_reader.specs.Reading.{is_odd, number_in, fields_in, packet_in, read_rules, packet_answer}
use Rattle.packet_reader.proofs.Tables.{read-exactly}
use Rattle.round_trips.proofs.Fields.{packet-back}

-- ---- written, then read

module _ (x : ℕ) (f : Fields) (hx : x < 2 ^ 32) (hn : f.n ≤ 40) (hs : f.pulser_setting ≤ 15) where
  read-bytes : packet_answer (packet_bytes x f) ≡ given (record { number = x; fields = f })
  unfolding first_six read_rules
  read-bytes =
      let c = crc packet_start (first_six x f) in
      let sum : not (eqb c c) ≡ false = simp (eq-eqb c c refl) in
      let range : not (in_range (packet_in (packet_bytes x f)).fields) ≡ false =
      ap (λ (p : Packet). not (in_range p.fields)) (packet-back x f hx hn hs) ∙ simp (le-leb _ _ hn, le-leb _ _ hs) in
      (read-exactly (packet_bytes x f)).clear-only (refl, (sum, (range, tt))) ∙ ap given (packet-back x f hx hn hs)

-- The first n bytes of the lent output, as a writer of a packet with any rows says that it wrote them, read as that packet, where its number has
-- 32 bits and its fields are in range. (A board's trigger has more rows than the writer of packets, among them 15 too.)
pub read_by : (rules : List Rule) (x : ℕ) (f : Fields) (out : List ℕ) (n : ℕ) (after : List ℕ) → Wrote rules (packet_bytes x f) out (Ok n) after
    → x < 2 ^ 32 → not (in_range f) ≡ false → packet_answer (take n after) ≡ given (record { number = x; fields = f })
read_by rules x f out n after w fits range =
    let r = within f (in_range f) refl range in
    ap packet_answer (wrote-front (writing_rules rules (packet_bytes x f) out) (packet_bytes x f) out n after w) ∙ read-bytes x f fits r.0 r.1

-- and so they do, with no premise, where the writer of packets wrote them
pub read-written : (x : ℕ) (f : Fields) (out : List ℕ) (n : ℕ) (after : List ℕ) → WrotePacket (write_rules f) x f out (Ok n) after
    → packet_answer (take n after) ≡ given (record { number = x; fields = f })
read-written x f out n after w =
    read_by (write_rules f) x f out n after w.wrote (w.fits n refl) (wrote-clear (write_rules f) (packet_bytes x f) out n after w.wrote).0

-- ---- read, then written

odd-bit : (x : ℕ) → bit_of (is_odd x) ≡ x % 2
odd-bit x = go (is_odd x) refl
  where
    go : (t : Bool) → is_odd x ≡ t → bit_of t ≡ x % 2
    go true p = sym (eqb-true _ _ p)
    go false p = let h = eqb-false (x % 2) 1 p in omega arith

-- the second type's bits make it up
type2-bits : (t : ℕ) → t < 256 → 128 * (t / 128 % 2) + 8 * (t / 8 % 16) + 4 * (t / 4 % 2) + 2 * (t / 2 % 2) + t % 2 ≡ t
type2-bits t h =
    let p₁ : t / 2 ≡ 2 * (t / 4) + t / 2 % 2 = omega (arith, div-div-eq-div-mul t 2 2) in
    let p₂ : t / 4 ≡ 2 * (t / 8) + t / 4 % 2 = omega (arith, div-div-eq-div-mul t 4 2) in
    let p₃ : t / 8 ≡ 16 * (t / 128) + t / 8 % 16 = omega (arith, div-div-eq-div-mul t 8 16) in
    let p₇ : t / 128 % 2 ≡ t / 128 = omega arith in
    omega arith

-- the packet in seven bytes with a right CRC has those bytes
abbrev Same : List ℕ → Type 0
Same b = packet_bytes (packet_in b).number (packet_in b).fields ≡ b

seven : (a₀ a₁ a₂ a₃ a₄ a₅ a₆ : ℕ) → a₀ < 256 → a₁ < 256 → a₂ < 256 → a₃ < 256 → a₄ < 256 → a₅ < 256
    → crc packet_start (a₀ ∷ a₁ ∷ a₂ ∷ a₃ ∷ a₄ ∷ a₅ ∷ []) ≡ a₆ → Same (a₀ ∷ a₁ ∷ a₂ ∷ a₃ ∷ a₄ ∷ a₅ ∷ a₆ ∷ [])
unfolding first_six
seven a₀ a₁ a₂ a₃ a₄ a₅ a₆ h₀ h₁ h₂ h₃ h₄ h₅ e =
    let x = number_in a₀ a₁ a₂ a₃ in
    let e₀ : x % 256 ≡ a₀ = omega arith in
    let q₁ : x / 256 ≡ a₁ + 256 * (a₂ + 256 * a₃) = omega arith in
    let e₁ : x / 256 % 256 ≡ a₁ = rw q₁ (omega arith) in
    let q₂ : x / 256 / 256 ≡ a₂ + 256 * a₃ = rw q₁ (omega arith) in
    let e₂ : x / 256 / 256 % 256 ≡ a₂ = rw q₂ (omega arith) in
    let q₃ : x / 256 / 256 / 256 ≡ a₃ = rw q₂ (omega arith) in
    let e₃ : x / 256 / 256 / 256 % 256 ≡ a₃ = rw q₃ (omega arith) in
    let e₄ : type1 (fields_in a₄ a₅) ≡ a₄ = simp odd-bit (omega arith) in
    let e₅ : type2 (fields_in a₄ a₅) ≡ a₅ = simp odd-bit (type2-bits a₅ h₅) in
    let six : first_six x (fields_in a₄ a₅) ≡ a₀ ∷ a₁ ∷ a₂ ∷ a₃ ∷ a₄ ∷ a₅ ∷ [] = λ i. e₀ i ∷ e₁ i ∷ e₂ i ∷ e₃ i ∷ e₄ i ∷ e₅ i ∷ [] in
    ap₂ (λ (l : List ℕ) (c : ℕ). l ++ (c ∷ [])) six (ap (crc packet_start) six ∙ e)

pub written_read : (b : List ℕ) (p : Packet) → ((i : ℕ) → i < 7 → get_or b i 0 < 256) → packet_answer b ≡ given p → packet_bytes p.number p.fields ≡ b
unfolding read_rules
written_read b p bytes e =
    let k = (read-exactly b).given-only p e in
    let l : spread 0 7 b ≡ b = listed b 7 (eqb-true _ _ (not-false _ k.0.0)) in
    let sum : crc packet_start (take 6 b) ≡ get_or b 6 0 = eqb-true _ _ (not-false _ k.0.1.0) in
    let sum' : crc packet_start (spread 0 6 b) ≡ get_or b 6 0 = ap (λ (m : List ℕ). crc packet_start (take 6 m)) l ∙ sum in
    let q : Same b = subst (λ (m : List ℕ). Same m) l
    (seven (get_or b 0 0) (get_or b 1 0) (get_or b 2 0) (get_or b 3 0) (get_or b 4 0) (get_or b 5 0) (get_or b 6 0)
    (bytes 0 (omega arith)) (bytes 1 (omega arith)) (bytes 2 (omega arith)) (bytes 3 (omega arith)) (bytes 4 (omega arith)) (bytes 5 (omega arith)) sum') in
    ap (λ (r : Packet). packet_bytes r.number r.fields) k.1 ∙ q

pub read-once : (b c : List ℕ) (p : Packet) → ((i : ℕ) → i < 7 → get_or b i 0 < 256) → ((i : ℕ) → i < 7 → get_or c i 0 < 256)
    → packet_answer b ≡ given p → packet_answer c ≡ given p → b ≡ c
read-once b c p hb hc eb ec = sym (written_read b p hb eb) ∙ written_read c p hc ec
