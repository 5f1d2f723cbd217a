-- Replay script: what is printed. "Bytes and words are printed as hexadecimal in capitals, two and four digits, with nothing
-- between; other numbers in decimal; one space between fields, none at the end."
use Rattle.std.specs.Prelude.{ℕ, zero, suc, ◌+◌, ◌/◌, ◌%◌, Bool, true, false, cond, List, [], ◌∷◌, ◌++◌, map, ltb, eqb, length, take, drop}
use Rattle.commands.specs.declared.BlockKind.{BlockKind}
use Rattle.commands.specs.declared.BlockKind.TheVariants.{Static, Dynamic}
use Rattle.commands.specs.declared.Command.{Command}
use Rattle.commands.specs.declared.Command.TheVariants.{Read, Write, Start, Stop, Ping, CrateReset}
use Rattle.crate_pass.specs.Crate.{says_done}
use Rattle.crate_pass.specs.declared.Outcome.{Outcome}
use Rattle.crate_pass.specs.declared.Outcome.TheVariants.{Good, Again, BoardFailed}
use Rattle.crate_pass.specs.declared.PassKind.{PassKind}
use Rattle.crate_pass.specs.declared.PassKind.TheVariants as kind
use Rattle.run.specs.declared.Freshness.{Freshness}
use Rattle.run.specs.declared.Freshness.TheVariants.{NeverWritten, Fresh, UsedByRun, UsedByReset}
use Rattle.explanations.specs.declared.Activity.{Activity}
use Rattle.explanations.specs.declared.Activity.TheVariants.{Idle, Running, InPass, RunningInPass}
use Rattle.explanations.specs.Explaining.{AllowedThere, range, Explained, accepted, missing, at_fault, in_state, not_fresh, explained_number}
use Rattle.explanations.specs.Explaining as explaining
use Rattle.numbers.specs.Numbers.{digits}
use Rattle.packets.specs.declared.Packet as packet
use Rattle.packets.specs.Packets.{bit_of}
use Rattle.blocks.specs.declared.Header.{Header}
use Rattle.texts.specs.Characters.{ascii}
use Rattle.texts.specs.declared.Response.{Response}
use Rattle.texts.specs.declared.Response.TheVariants.{Question, One, Two, Three, Done, Served, Bytes, Words, Packet, Block}

-- ---- numbers, as characters

-- 0 to 9 are characters 48 to 57, A to F are 65 to 70
abbrev pub hex_digit : ℕ → ℕ
hex_digit d = cond (ltb d 10) (48 + d) (55 + d)

abbrev pub hex_byte : ℕ → List ℕ
hex_byte b = hex_digit (b / 16) ∷ hex_digit (b % 16) ∷ []

abbrev pub hex_word : ℕ → List ℕ
hex_word w = hex_byte (w / 256) ++ hex_byte (w % 256)

-- "with nothing between"
abbrev pub joined : (ℕ → List ℕ) → List ℕ → List ℕ
joined digits [] = []
joined digits (x ∷ xs) = digits x ++ joined digits xs

-- the digits of n, m at most
abbrev pub decimal_in : ℕ → ℕ → List ℕ
decimal_in zero n = []
decimal_in (suc m) n = cond (ltb n 10) ((48 + n) ∷ []) (decimal_in m (n / 10) ++ ((48 + n % 10) ∷ []))

-- a number below 2^64 has 20 at most
unfoldable pub decimal : ℕ → List ℕ
decimal n = decimal_in 20 n

-- ---- words

abbrev pub block_text : BlockKind → List ℕ
block_text Static = ascii "read static"
block_text Dynamic = ascii "read dynamic"

-- what was done
abbrev pub command_text : Command → List ℕ
command_text (Read kind) = block_text kind
command_text Write = ascii "write"
command_text (Start run) = ascii "start"
command_text Stop = ascii "stop"
command_text Ping = ascii "ping"
command_text (CrateReset c) = ascii "reset " ++ decimal c

-- "`0 good`, `0 again` or `0 failed`"
abbrev pub outcome_text : Outcome → List ℕ
outcome_text (Good done) = ascii "good"
outcome_text (Again done) = ascii "again"
outcome_text (BoardFailed done) = ascii "failed"

-- "and then the next frame's bytes, or `done` where the crate is done"
abbrev pub next_text : Bool → List ℕ → List ℕ
next_text true frame = ascii "done"
next_text false frame = joined hex_byte frame

-- ---- explanations

abbrev pub kind_text : PassKind → List ℕ
kind_text kind.Reprogramming = ascii "reprogramming"
kind_text kind.Ping = ascii "ping"
kind_text kind.Rates = ascii "rates"

-- 9: "what the board does: `idle`, `running`, `reprogramming`, `ping`, `rates`, or `running and rates`"
abbrev pub activity_text : Activity → List ℕ
activity_text Idle = ascii "idle"
activity_text Running = ascii "running"
activity_text (InPass k) = kind_text k
activity_text (RunningInPass k) = ascii "running and " ++ kind_text k

-- 10, which a fresh write never gets: "`nothing written` where no write was ever accepted; else `used by a run` or `used by a reset`"
abbrev pub freshness_text : Freshness → List ℕ
freshness_text NeverWritten = ascii "nothing written"
freshness_text Fresh = ascii "fresh"
freshness_text UsedByRun = ascii "used by a run"
freshness_text UsedByReset = ascii "used by a reset"

-- "`word`", and for 8 "`block word`"
abbrev pub word_text : ℕ → List ℕ
word_text n = cond (eqb n 8) (ascii "block word") (ascii "word")

-- "all that is allowed there"
abbrev pub allowed_fields : AllowedThere → List (List ℕ)
allowed_fields (explaining.numbers ns) = map hex_word ns
allowed_fields (range low high) = hex_word low ∷ ascii "to" ∷ hex_word high ∷ []

-- the place, "`is`, what stands there and a comma, `allowed` and all that is allowed there"
abbrev pub fault_fields : ℕ → ℕ → AllowedThere → List (List ℕ)
fault_fields place stands allowed = decimal place ∷ ascii "is" ∷ (hex_word stands ++ ascii ",") ∷ ascii "allowed" ∷ allowed_fields allowed

-- "what is printed after" the number
abbrev pub reason_fields : Explained → List (List ℕ)
reason_fields accepted = ascii "accepted" ∷ []
reason_fields (missing n k) = ascii "missing" ∷ decimal k ∷ []
reason_fields (at_fault n place stands allowed) = word_text n ∷ fault_fields place stands allowed
reason_fields (in_state a) = activity_text a ∷ []
reason_fields (not_fresh f) = freshness_text f ∷ []

-- ---- lines

-- what is printed for a line, as the script's paper has it
pub data Printed : Type 0 where
  question : Printed
  numbers : List ℕ → Printed
  done : ℕ → Command → Printed
  served : Outcome → List ℕ → Printed
  in_bytes : List ℕ → Printed
  in_words : List ℕ → Printed
  block : Header → List ℕ → Printed
  explanation : Explained → Printed

-- its fields; of a block, "`0`, the board ID (16 hexadecimal digits), the firmware ID (4), the trigger counter and the timestamp
-- (decimal), and the body's words" (`Y`); of an explanation, "`0` or the number of the refusal, and then why" (`E`)
abbrev pub fields_of : Printed → List (List ℕ)
fields_of question = ascii "?" ∷ []
fields_of (numbers ns) = map decimal ns
fields_of (done used c) = ascii "0" ∷ decimal used ∷ command_text c ∷ []
fields_of (served o frame) = ascii "0" ∷ outcome_text o ∷ next_text (says_done o) frame ∷ []
fields_of (in_bytes bs) = ascii "0" ∷ joined hex_byte bs ∷ []
fields_of (in_words ws) = ascii "0" ∷ joined hex_word ws ∷ []
fields_of (block h body) =
    ascii "0"
    ∷ joined hex_word (digits 65536 4 h.board_id)
    ∷ hex_word h.firmware_id
    ∷ decimal h.trigger_counter
    ∷ decimal h.timestamp
    ∷ joined hex_word body
    ∷ []
fields_of (explanation x) = decimal (explained_number x) ∷ reason_fields x

-- "one space between fields, none at the end"
abbrev pub spaced : List (List ℕ) → List ℕ
spaced [] = []
spaced (f ∷ []) = f
spaced (f ∷ g ∷ fs) = f ++ ascii " " ++ spaced (g ∷ fs)

-- the line, with its line feed
unfoldable pub text_of : Printed → List ℕ
text_of r = spaced (fields_of r) ++ ascii "\n"

-- Replay script, `X`: "`0`, the number, n, external 1, external 2, TIM source, pulser setting, pedestal, LP2, LP1, in decimal"
abbrev pub packet_numbers : packet.Packet → List ℕ
packet_numbers p =
    let f = p.fields in
    0 ∷ p.number ∷ f.n
    ∷ bit_of f.external1
    ∷ bit_of f.external2
    ∷ bit_of f.tim_source
    ∷ f.pulser_setting
    ∷ bit_of f.pedestal
    ∷ bit_of f.lp2
    ∷ bit_of f.lp1
    ∷ []

-- the next frame, in the bytes beside an outcome; none where the crate is done
abbrev pub next_frame : Outcome → List ℕ → List ℕ
next_frame o bytes = cond (says_done o) [] bytes

-- what is printed, with the arrays beside it
abbrev pub response_meaning : Response → List ℕ → List ℕ → Printed
response_meaning Question bytes words = question
response_meaning (One a) bytes words = numbers (a ∷ [])
response_meaning (Two a b) bytes words = numbers (a ∷ b ∷ [])
response_meaning (Three a b c) bytes words = numbers (a ∷ b ∷ c ∷ [])
response_meaning (Done used c) bytes words = done used c
response_meaning (Served o) bytes words = served o (next_frame o bytes)
response_meaning (Bytes n) bytes words = in_bytes (take n bytes)
response_meaning (Words n) bytes words = in_words (take n words)
response_meaning (Packet p) bytes words = numbers (packet_numbers p)
response_meaning (Block h n) bytes words = block h (take n words)

-- ---- in the lent text

-- a line at the front of a text, the rest as it was
abbrev pub in_front : List ℕ → List ℕ → List ℕ
in_front line text = line ++ drop (length line) text
