-- Replay script, `W`, `X` and `Y`: what is asked of the far end, and what is printed.
use Rattle.std.specs.Prelude.{ℕ, ◌≡◌, cond, List, [], ◌∷◌, eqb, length}
use Rattle.refusals.specs.Tables.{Answer, given, refused, lowest}
use Rattle.numbers.specs.Numbers.{number}
use Rattle.words.specs.Words.{words_in}
use Rattle.packets.specs.declared.Packet.{Packet}
use Rattle.blocks.specs.declared.Header.{Header}
use Rattle.commands.specs.declared.BlockKind.TheVariants.{Static, Dynamic}
use Rattle.commands.specs.declared.RunLength.TheVariants.{Endless, Counted}
use Rattle.commands.specs.declared.Command.{Command}
use Rattle.commands.specs.declared.Command.TheVariants.{Read, Write, Start, Stop, Ping, CrateReset}
use Rattle.command_writer.specs.Writing.{command_words, write_rules}
use Rattle.block_reader.specs.Reading.{block_answer, body_of}
use Rattle.block_reader.specs.declared.Kind.{Kind}
use Rattle.block_reader.specs.declared.Kind.TheVariants as kind
use Rattle.packet_reader.specs.Reading.{packet_answer}
use Rattle.texts.specs.Texts.{Printed, question, numbers, in_words, block, packet_numbers, text_of, in_front}
use Rattle.responses.specs.Responses.{refusal_printed, due_printed}
use Rattle.script.specs.Forms.{taking, one_byte, no_byte, any_words, Row, found_by_first}

pub data FarEndOrder : Type 0 where
  -- a command, with the block of a write
  write_command : Command → List ℕ → FarEndOrder
  read_packet : List ℕ → FarEndOrder
  read_block : Kind → List ℕ → FarEndOrder
  other_form : FarEndOrder

abbrev pub row : ℕ → (List ℕ → FarEndOrder) → Row FarEndOrder
row k o = record { key = k; order = o }

-- ---- `W`: "ID byte, then what that command takes"

-- "`01 01` a read of the static block, `01 02` of the dynamic one"
abbrev pub read_order : ℕ → FarEndOrder
read_order k = cond (eqb k 1) (write_command (Read Static) []) (cond (eqb k 2) (write_command (Read Dynamic) []) other_form)

-- "`04` and X (8 digits) a start that takes X"
abbrev pub counted_order : List ℕ → FarEndOrder
counted_order b = taking other_form (eqb (length b) 4) (write_command (Start (Counted (number 65536 (words_in b)))) [])

-- "`04` an endless start"
abbrev pub start_order : List ℕ → FarEndOrder
start_order b = taking (counted_order b) (eqb (length b) 0) (write_command (Start Endless) [])

-- "`20` and a crate byte, any, a crate reset"
abbrev pub reset_order : ℕ → FarEndOrder
reset_order c = write_command (CrateReset c) []

-- "`02` and words, any number, none too, a write with these as its block"; "`08` a stop; `10` a ping"
abbrev pub ids : List (Row FarEndOrder)
ids =
    row 0x01 (one_byte other_form read_order)
    ∷ row 0x02 (any_words other_form (write_command Write))
    ∷ row 0x04 start_order
    ∷ row 0x08 (no_byte other_form (write_command Stop []))
    ∷ row 0x10 (no_byte other_form (write_command Ping []))
    ∷ row 0x20 (one_byte other_form reset_order)
    ∷ []

unfoldable pub command_from : List ℕ → FarEndOrder
command_from b = found_by_first other_form ids b

-- ---- `Y`: "kind byte (01 static, 02 dynamic, 03 FTU list, 04 failure message), then words"

abbrev pub kinds : List (Row FarEndOrder)
kinds =
    row 1 (any_words other_form (read_block kind.Static))
    ∷ row 2 (any_words other_form (read_block kind.Dynamic))
    ∷ row 3 (any_words other_form (read_block kind.FtuList))
    ∷ row 4 (any_words other_form (read_block kind.Failure))
    ∷ []

unfoldable pub block_from : List ℕ → FarEndOrder
block_from b = found_by_first other_form kinds b

-- ---- what is printed

abbrev pub packet_printed : Answer Packet → Printed
packet_printed (given p) = numbers (packet_numbers p)
packet_printed (refused n p) = refusal_printed n p

abbrev pub body_printed : List ℕ → Answer Header → Printed
body_printed body (given h) = block h body
body_printed body (refused n p) = refusal_printed n p

-- a command: the words lent have room for every one, so 19 is left out
unfoldable pub far_end_printed : FarEndOrder → Printed
far_end_printed (write_command c b) = due_printed in_words (lowest (write_rules c b) (command_words c b))
far_end_printed (read_packet b) = packet_printed (packet_answer b)
far_end_printed (read_block kind w) = body_printed (body_of kind w) (block_answer kind w)
far_end_printed other_form = question

-- the line of an order was printed: it stands at the front of the text, whose rest is as it was
pub record PrintsLine (o : FarEndOrder) (text : List ℕ) (n : ℕ) (after : List ℕ) : Type 0 where
  pub length : n ≡ length (text_of (far_end_printed o))
  pub printed : after ≡ in_front (text_of (far_end_printed o)) text
