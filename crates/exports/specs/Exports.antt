-- What the exported functions give, in the terms of the board.
use Rattle.std.specs.Prelude.{ℕ, zero, suc, ◌+◌, ◌/◌, ◌≡◌, false, cond, List, [], ◌∷◌, ◌++◌, eqb, length, take, drop}
use Rattle.board.specs.Commands.{after_clock_step}
use Rattle.refusals.specs.Tables.{Answer, given, refused, lowest, answer_number, is_given}
use Rattle.refusals.specs.Writing.{writing_by, output_after}
use Rattle.packets.specs.Packets.{packet_bytes}
use Rattle.packets.specs.declared.Fields.{Fields}
use Rattle.bounds.specs.Bounds.{bound_of, lent_rules}
use Rattle.blocks.specs.Blocks.{header_words, block_rules}
use Rattle.blocks.specs.declared.Header.{Header}
use Rattle.block_reader.specs.declared.Kind.TheVariants.{Static}
use Rattle.packet_reader.specs.Reading.{packet_answer}
use Rattle.round_trips.specs.Blocks.{ReadsBack}
use Rattle.command_reader.specs.Reading.{command_answer}
use Rattle.steps.specs.declared.Event.{Event}
use Rattle.steps.specs.declared.Event.TheVariants.{Reply, TimeUp}
use Rattle.run.specs.Run.{clocked_run, trigger_number, trigger_rules, after_trigger}
use Rattle.run.specs.declared.Run.{Run}
use Rattle.board.specs.State.{fresh_board}
use Rattle.board.specs.RatePass.{board_begun}
use Rattle.board.specs.declared.Board.{Board}
use Rattle.stream.specs.Stream.{ran_out}
use Rattle.call_refusals.specs.CallRefusals.{lower_of, no_room, pass_refusal, packets_refusal, triggers_refusal}
use Rattle.command_series.specs.Series.{after_commands, accepted_of, first_refusal}
use Rattle.reply_series.specs.Series.{series_on}

-- ---- what a call leaves. 0 stands for no refusal

-- what lent memory then holds: what the call makes of it; after a refusal, what it held
unfoldable pub holds : ℕ → List ℕ → List ℕ → List ℕ
holds refusal made lent = cond (eqb refusal 0) made lent

-- a call with this refusal, which makes `made` of the lent memory, returned r, and the memory became `after`
pub record Leaves (refusal : ℕ) (made lent : List ℕ) (r : ℕ) (after : List ℕ) : Type 0 where
  pub answer : r ≡ refusal
  pub output : after ≡ holds refusal made lent

-- a call to which `due` is due: the lent output then holds that, then what stood there
abbrev pub Gives : ℕ → List ℕ → List ℕ → ℕ → List ℕ → Type 0
Gives refusal due out r after = Leaves refusal (due ++ drop (length due) out) out r after

-- a call that counts: the count is the first of the lent numbers
abbrev pub GivesCount : ℕ → ℕ → List ℕ → ℕ → List ℕ → Type 0
GivesCount refusal n out r after = Gives (lower_of refusal (no_room 1 (length out))) (n ∷ []) out r after

-- what reading a command gives
unfoldable pub command_given : List ℕ → ℕ
command_given w = answer_number (command_answer w)

-- ---- commands one after another

-- how many of n commands a fresh board accepts: none of them refuses the call
abbrev pub CountsAccepted : ℕ → List ℕ → List ℕ → ℕ → List ℕ → Type 0
CountsAccepted n w out r after = GivesCount 0 (accepted_of n (fresh_board 0 0) w) out r after

-- a fresh board after one command, and after two
abbrev pub after_one : List ℕ → Board
after_one w = after_commands 1 (fresh_board 0 0) w

abbrev pub after_two : List ℕ → Board
after_two w = after_commands 2 (fresh_board 0 0) w

-- ---- a pass

-- a call with this refusal, on the board β: how many of the items count stands in the lent numbers `out`, and what the items leave in the lent bytes
-- `frame`
pub record CountsItems (event : Event) (refusal : ℕ) (β : Board) (items frame out : List ℕ) (r : ℕ) (frame' out' : List ℕ) : Type 0 where
  pub many : Gives refusal ((series_on event β items frame).number ∷ []) out r out'
  pub bytes : Leaves refusal (series_on event β items frame).lent frame r frame'

-- what refuses replies after the first command of the words
abbrev pub refusal_after_one : List ℕ → List ℕ → List ℕ → ℕ
refusal_after_one w items out = pass_refusal (first_refusal 1 (fresh_board 0 0) w) (length items) (length out)

-- replies, on a fresh board after the first command
abbrev pub CountsPass : List ℕ → List ℕ → List ℕ → List ℕ → ℕ → List ℕ → List ℕ → Type 0
CountsPass w items frame out r frame' out' = CountsItems Reply (refusal_after_one w items out) (after_one w) items frame out r frame' out'

-- time-ups
abbrev pub CountsTimeUps : List ℕ → List ℕ → List ℕ → List ℕ → ℕ → List ℕ → List ℕ → Type 0
CountsTimeUps w crates frame out r frame' out' =
    CountsItems TimeUp (lower_of (first_refusal 1 (fresh_board 0 0) w) (no_room 1 (length out))) (after_one w) crates frame out r frame' out'

-- replies in a rate pass (02, i), which begins once the pass of the first command, where it has one, has run out on silent boards
unfoldable pub rates_after_one : List ℕ → Board
rates_after_one w = board_begun (ran_out (after_one w))

abbrev pub CountsRatePass : List ℕ → List ℕ → List ℕ → List ℕ → ℕ → List ℕ → List ℕ → Type 0
CountsRatePass w items frame out r frame' out' = CountsItems Reply (refusal_after_one w items out) (rates_after_one w) items frame out r frame' out'

-- ---- clock steps

-- the board after clock steps of so many ticks each
unfoldable pub clocked_all : Board → List ℕ → Board
clocked_all β [] = β
clocked_all β (t ∷ ts) = clocked_all (after_clock_step β t) ts

-- the timestamps after each of them
unfoldable pub timestamps_of : Board → List ℕ → List ℕ
timestamps_of β [] = []
timestamps_of β (t ∷ ts) = (clocked_run β.run t).timestamp ∷ timestamps_of (after_clock_step β t) ts

-- after two commands: the timestamps, then the on-time
unfoldable pub steps_of : Board → List ℕ → List ℕ
steps_of β ts = timestamps_of β ts ++ ((clocked_all β ts).run.on_time ∷ [])

abbrev pub MakesSteps : List ℕ → List ℕ → List ℕ → ℕ → List ℕ → Type 0
MakesSteps w ts out r after =
    Gives (lower_of (first_refusal 2 (fresh_board 0 0) w) (no_room (length ts + 1) (length out))) (steps_of (after_two w) ts) out r after

-- ---- triggers

-- n = 4, and all else zero
abbrev pub four : Fields
four =
    record { n = 4; external1 = false; external2 = false; tim_source = false; pulser_setting = 0; pedestal = false; lp2 = false; lp1 = false }

-- a packet and those after it, or none where the trigger is refused
abbrev pub packet_then : Answer ℕ → List ℕ → List ℕ → List ℕ
packet_then (given n) packet others = packet ++ others
packet_then (refused n p) packet others = []

-- the packets of m triggers, as far as none is refused
unfoldable pub packets_of : ℕ → Run → List ℕ
packets_of zero r = []
packets_of (suc m) r = packet_then (lowest (trigger_rules r four) 7) (packet_bytes (trigger_number r) four) (packets_of m (after_trigger r))

-- what refuses `count` triggers after two commands
abbrev pub refusal_after_two : List ℕ → ℕ → List ℕ → List ℕ → ℕ
refusal_after_two w count packets number = triggers_refusal (first_refusal 2 (fresh_board 0 0) w) count (length packets) (length number)

-- those that are given stand in the lent bytes `packets`, and how many they are in the lent numbers `number`. A trigger that is refused ends
-- the series, and does not refuse the call
pub record GivesTriggers (w : List ℕ) (count : ℕ) (packets number : List ℕ) (r : ℕ) (packets' number' : List ℕ) : Type 0 where
  pub bytes : Gives (refusal_after_two w count packets number) (packets_of count (after_two w).run) packets r packets'
  pub many : Gives (refusal_after_two w count packets number) (length (packets_of count (after_two w).run) / 7 ∷ []) number r number'

-- ---- packets read

unfoldable pub good_from : ℕ → List ℕ → ℕ
good_from zero bytes = 0
good_from (suc n) bytes = is_given (packet_answer (take 7 bytes)) + good_from n (drop 7 bytes)

unfoldable pub good_packets : List ℕ → ℕ
good_packets bytes = good_from (length bytes / 7) bytes

abbrev pub CountsPackets : List ℕ → List ℕ → ℕ → List ℕ → Type 0
CountsPackets bytes out r after = Gives (packets_refusal (length bytes) (length out)) (good_packets bytes ∷ []) out r after

-- ---- a static block, written and read back

abbrev pub header_of_zeros : Header
header_of_zeros = record { board_id = 0; firmware_id = 0; trigger_counter = 0; timestamp = 0 }

-- what a writer of the static block with these words answers: 6 where they are not 436, then as of every static block
abbrev pub static_answer : List ℕ → List ℕ → Answer ℕ
static_answer block out = writing_by (block_rules (lent_rules bound_of 436 block) header_of_zeros block out) (header_words header_of_zeros ++ block)

-- r is the number of that answer, 0 where the block is written, and the lent words `out` became `after`: what was written reads back
pub record StaticRound (block out : List ℕ) (r : ℕ) (after : List ℕ) : Type 0 where
  pub number : r ≡ answer_number (static_answer block out)
  pub output : after ≡ output_after (static_answer block out) (header_words header_of_zeros ++ block) out
  pub reads : (n : ℕ) → static_answer block out ≡ given n → ReadsBack Static (take n after) header_of_zeros block
