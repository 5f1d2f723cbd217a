-- 01, Trigger packets (000, chapter 2), and 02, g: seven bytes, the last of which is the CRC of the others.
use Rattle.std.specs.Prelude.{ℕ, ◌+◌, ◌*◌, ◌/◌, ◌%◌, ◌^◌, ◌<◌, ◌≡◌, Bool, true, false, not, ◌&&◌, List, [], ◌∷◌, ◌++◌, leb, Result, Ok}
use Rattle.crc.specs.Crc.{crc, packet_start}
use Rattle.refusals.specs.Tables.{Rule, rule}
use Rattle.refusals.specs.Writing.{Wrote}
use Rattle.packets.specs.declared.Fields.{Fields}
use Rattle.refusals.specs.declared.Refusal.{Refusal}

abbrev pub bit_of : Bool → ℕ
bit_of true = 1
bit_of false = 0

-- "type 1 = 4n + 2 × external 2 + external 1"
abbrev pub type1 : Fields → ℕ
type1 f = 4 * f.n + 2 * bit_of f.external2 + bit_of f.external1

-- "type 2 = 128 × TIM source + 8 × pulser setting + 4 × pedestal + 2 × LP2 + LP1"
abbrev pub type2 : Fields → ℕ
type2 f = 128 * bit_of f.tim_source + 8 * f.pulser_setting + 4 * bit_of f.pedestal + 2 * bit_of f.lp2 + bit_of f.lp1

-- bytes 0 to 5: "the number, low byte first", and the two types
unfoldable pub first_six : ℕ → Fields → List ℕ
first_six number f =
    number % 256 ∷ number / 256 % 256 ∷ number / 256 / 256 % 256 ∷ number / 256 / 256 / 256 % 256
    ∷ type1 f
    ∷ type2 f
    ∷ []

-- the seven bytes: "the CRC of bytes 0 to 5" comes last, from the start of 02, g
abbrev pub packet_bytes : ℕ → Fields → List ℕ
packet_bytes number f = first_six number f ++ (crc packet_start (first_six number f) ∷ [])

-- "n is 0 to 40, the setting 0 to 15"
abbrev pub in_range : Fields → Bool
in_range f = leb f.n 40 && leb f.pulser_setting 15

-- a writer's own refusals: "15: n above 40 or setting above 15"
abbrev pub write_rules : Fields → List Rule
write_rules f = rule 15 (not (in_range f)) ∷ []

-- a writer of a packet with these rules answered r, and the lent bytes `out` became `after`
pub record WrotePacket (rules : List Rule) (number : ℕ) (f : Fields) (out : List ℕ) (r : Result ℕ Refusal) (after : List ℕ) : Type 0 where
  pub wrote : Wrote rules (packet_bytes number f) out r after
  -- the four bytes of a number that is written hold it whole
  pub fits : (m : ℕ) → r ≡ Ok m → number < 2 ^ 32
