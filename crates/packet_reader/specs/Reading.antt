-- 01, Trigger packets, 02, g, and the refusals 13 to 15: the packet in seven bytes.
use Rattle.std.specs.Prelude.{ℕ, ◌+◌, ◌*◌, ◌/◌, ◌%◌, Bool, not, List, [], ◌∷◌, eqb, length, take, get_or}
use Rattle.crc.specs.Crc.{crc, packet_start}
use Rattle.refusals.specs.Tables.{Answer, Rule, rule, lowest}
use Rattle.packets.specs.Packets.{in_range}
use Rattle.packets.specs.declared.Fields.{Fields}
use Rattle.packets.specs.declared.Packet.{Packet}

-- whether a number is odd: its lowest bit
abbrev pub is_odd : ℕ → Bool
is_odd x = eqb (x % 2) 1

-- the fields in the two type bytes
abbrev pub fields_in : ℕ → ℕ → Fields
fields_in t₁ t₂ =
    record {
      n = t₁ / 4;
      external1 = is_odd t₁;
      external2 = is_odd (t₁ / 2);
      tim_source = is_odd (t₂ / 128);
      pulser_setting = t₂ / 8 % 16;
      pedestal = is_odd (t₂ / 4);
      lp2 = is_odd (t₂ / 2);
      lp1 = is_odd t₂;
    }

-- the number in its four bytes
abbrev pub number_in : ℕ → ℕ → ℕ → ℕ → ℕ
number_in b₀ b₁ b₂ b₃ = b₀ + 256 * (b₁ + 256 * (b₂ + 256 * b₃))

-- the packet in seven bytes
abbrev pub packet_in : List ℕ → Packet
packet_in b =
    record {
      number = number_in (get_or b 0 0) (get_or b 1 0) (get_or b 2 0) (get_or b 3 0);
      fields = fields_in (get_or b 4 0) (get_or b 5 0);
    }

-- a reader's refusals
unfoldable pub read_rules : List ℕ → List Rule
read_rules b =
    rule 13 (not (eqb (length b) 7))
    ∷ rule 14 (not (eqb (crc packet_start (take 6 b)) (get_or b 6 0)))
    ∷ rule 15 (not (in_range (packet_in b).fields))
    ∷ []

unfoldable pub packet_answer : List ℕ → Answer Packet
packet_answer b = lowest (read_rules b) (packet_in b)
