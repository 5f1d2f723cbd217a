-- 01, Examples: those marked *, and those of 02, g, as one table.
use Rattle.std.specs.Prelude.{ℕ, ◌≡◌, true, false, List, [], ◌∷◌, ◌++◌, replicate, set}
use Rattle.refusals.specs.Tables.{Answer, given, refused}
use Rattle.crc.specs.Crc.{crc}
use Rattle.packets.specs.Packets.{packet_bytes}
use Rattle.packets.specs.declared.Fields.{Fields}
use Rattle.packets.specs.declared.Packet.{Packet}
use Rattle.packet_reader.specs.Reading.{packet_answer}
use Rattle.configuration.specs.Configuration.{begin_of}
use Rattle.command_reader.specs.declared.Taken.{Taken}
use Rattle.command_reader.specs.Reading.{taken, command_answer}
use Rattle.commands.specs.declared.RunLength.TheVariants.{Counted}
use Rattle.commands.specs.declared.Command.TheVariants.{Write, Start, CrateReset}
use Rattle.command_writer.specs.Writing.{five_words}

-- an example: words of a command and what they get; a board and where its words begin; a packet and its bytes; bytes and what they read as; a start,
-- bytes and their CRC
pub data Example : Type 0 where
  command : List ℕ → Answer Taken → Example
  begins : ℕ → ℕ → ℕ → Example
  packet : ℕ → Fields → List ℕ → Example
  reads : List ℕ → Answer Packet → Example
  checksum : ℕ → List ℕ → ℕ → Example

-- what it claims
abbrev pub Holds : Example → Type 0
Holds (command words answer) = command_answer words ≡ answer
Holds (begins c b place) = begin_of c b ≡ place
Holds (packet number fields bytes) = packet_bytes number fields ≡ bytes
Holds (reads bytes answer) = packet_answer bytes ≡ answer
Holds (checksum start bytes sum) = crc start bytes ≡ sum

abbrev pub AllHold : List Example → Type 0
AllHold [] = Unit
AllHold (e ∷ es) = Holds e × AllHold es

-- a write of zeros, with one word at a place
abbrev pub write_with : ℕ → ℕ → List ℕ
write_with place word = five_words 0x02 1 ++ set (replicate 436 0) place word

-- fields with n alone; below, with the pedestal flag alone
abbrev pub fields_with : ℕ → Fields
fields_with n =
    record {
      n = n;
      external1 = false;
      external2 = false;
      tim_source = false;
      pulser_setting = 0;
      pedestal = false;
      lp2 = false;
      lp1 = false;
    }

abbrev pub pedestal_fields : Fields
pedestal_fields =
    record {
      n = 0;
      external1 = false;
      external2 = false;
      tim_source = false;
      pulser_setting = 0;
      pedestal = true;
      lp2 = false;
      lp1 = false;
    }

-- "The ASCII digits 1 to 9"
abbrev pub ascii_digits : List ℕ
ascii_digits = 0x31 ∷ 0x32 ∷ 0x33 ∷ 0x34 ∷ 0x35 ∷ 0x36 ∷ 0x37 ∷ 0x38 ∷ 0x39 ∷ []

-- the table, in 01's order
abbrev pub examples : List Example
examples =
    -- "Four words: 1." "Five, first 0x0041: 2."
    command (0x0040 ∷ 0x01 ∷ 1 ∷ 0 ∷ []) (refused 1 0)
    ∷ command (0x0041 ∷ 0x01 ∷ 1 ∷ 0 ∷ 0 ∷ []) (refused 2 0)
    -- "Take X with 0x0001 0x1170: X = 70,000, seven words used." "X of one word: 6." "X = 0: 7."
    ∷ command (five_words 0x04 2 ++ (0x0001 ∷ 0x1170 ∷ [])) (given (taken (Start (Counted 70000)) 7))
    ∷ command (five_words 0x04 2 ++ (0x0001 ∷ [])) (refused 6 0)
    ∷ command (five_words 0x04 2 ++ (0 ∷ 0 ∷ [])) (refused 7 0)
    -- "Reset with 8: crate 3." "With 3: 4."
    ∷ command (five_words 0x20 8) (given (taken (CrateReset 3) 5))
    ∷ command (five_words 0x20 3) (refused 4 0)
    -- "0x002 at 1023 accepted"; "at 1024: 8, place 2"
    ∷ command (write_with 0x002 1023) (given (taken Write 441))
    ∷ command (write_with 0x002 1024) (refused 8 2)
    -- "Board 9 of crate 3 begins at 0x1A6."
    ∷ begins 3 9 0x1A6
    -- "Number 1, all else zero", "Number 1, n = 4" and "Number 2, pedestal", which 02, g changes: "number 1 with n = 4 carries 0xD1"
    ∷ packet 1 (fields_with 0) (0x01 ∷ 0x00 ∷ 0x00 ∷ 0x00 ∷ 0x00 ∷ 0x00 ∷ 0x86 ∷ [])
    ∷ packet 1 (fields_with 4) (0x01 ∷ 0x00 ∷ 0x00 ∷ 0x00 ∷ 0x10 ∷ 0x00 ∷ 0xD1 ∷ [])
    ∷ packet 2 pedestal_fields (0x02 ∷ 0x00 ∷ 0x00 ∷ 0x00 ∷ 0x00 ∷ 0x04 ∷ 0xE1 ∷ [])
    -- 02, g: "Six zero bytes then carry 0xAF"; "seven zero bytes now get 14"
    ∷ packet 0 (fields_with 0) (0x00 ∷ 0x00 ∷ 0x00 ∷ 0x00 ∷ 0x00 ∷ 0x00 ∷ 0xAF ∷ [])
    ∷ reads (replicate 7 0x00) (refused 14 0)
    -- "The ASCII digits 1 to 9 have CRC 0xF4", from 0x00
    ∷ checksum 0x00 ascii_digits 0xF4
    ∷ []
