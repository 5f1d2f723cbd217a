-- 02, i: "leaving out triggers, a stop and clock steps that come between changes no item's answer or bytes, and no record, frame number or rate"; and the
-- other way, the items change no trigger's packet or answer, and no counter. The claim is `NothingBetween`.
use Rattle.std.specs.Prelude.{ℕ, ◌≡◌, List, [], ◌∷◌}
use Rattle.refusals.specs.Tables.{Answer}
use Rattle.refusals.specs.Writing.{output_after}
use Rattle.packets.specs.Packets.{packet_bytes}
use Rattle.packets.specs.declared.Fields.{Fields}
use Rattle.commands.specs.declared.Command.{Command}
use Rattle.run.specs.Run.{is_running, trigger_number, trigger_answer}
use Rattle.board.specs.Commands.{board_answer, board_after, after_trigger_on, after_clock_step}
use Rattle.board.specs.SentOut.{header_of}
use Rattle.board.specs.declared.Board.{Board}
use Rattle.any_order.specs.AnyOrder.{Item, ItemResult, after_item, result_of, results, final}
use Rattle.reachable.specs.Stays.{PassStays}

-- ---- what comes between the items

-- triggers of any fields and any lent bytes, clock steps, and stops, each in the words of a stop with others after it
pub data Other : Type 0 where
  trigger : Fields → List ℕ → Other
  clock_step : ℕ → Other
  stop : List ℕ → Other

-- 01: "Word 0 is 0x0040; 1 the command; 2 the parameter; 3 and 4 zero", and "0x08 | stop | 0"
abbrev pub stop_words : List ℕ → List ℕ
stop_words after = 0x0040 ∷ 0x0008 ∷ 0 ∷ 0 ∷ 0 ∷ after

abbrev pub after_other : Board → Other → Board
after_other β (trigger f out) = after_trigger_on β f out
after_other β (clock_step ticks) = after_clock_step β ticks
after_other β (stop after) = board_after β (stop_words after)

-- what it gets: a trigger an answer, and what its lent bytes then hold; a stop an answer
pub data OtherResult : Type 0 where
  triggered : Answer ℕ → List ℕ → OtherResult
  clocked : OtherResult
  stopped : Answer Command → OtherResult

unfoldable pub other_result : Board → Other → OtherResult
other_result β (trigger f out) =
    triggered (trigger_answer β.run f out) (output_after (trigger_answer β.run f out) (packet_bytes (trigger_number β.run) f) out)
other_result β (clock_step ticks) = clocked
other_result β (stop after) = stopped (board_answer β (stop_words after))

-- ---- both in one sequence

pub data Act : Type 0 where
  item : Item → Act
  other : Other → Act

abbrev pub after_act : Board → Act → Board
after_act β (item x) = after_item β x
after_act β (other o) = after_other β o

unfoldable pub after_acts : Board → List Act → Board
after_acts β [] = β
after_acts β (a ∷ acts) = after_acts (after_act β a) acts

-- what the items get, and what the others do
unfoldable pub item_results : Board → List Act → List ItemResult
item_results β [] = []
item_results β (item x ∷ acts) = (x, result_of β x) ∷ item_results (after_item β x) acts
item_results β (other o ∷ acts) = item_results (after_other β o) acts

unfoldable pub other_results : Board → List Act → List (Other × OtherResult)
other_results β [] = []
other_results β (item x ∷ acts) = other_results (after_item β x) acts
other_results β (other o ∷ acts) = (o, other_result β o) ∷ other_results (after_other β o) acts

-- the items alone, and the others alone
unfoldable pub items_in : List Act → List Item
items_in [] = []
items_in (item x ∷ acts) = x ∷ items_in acts
items_in (other o ∷ acts) = items_in acts

unfoldable pub others_in : List Act → List Act
others_in [] = []
others_in (item x ∷ acts) = others_in acts
others_in (other o ∷ acts) = other o ∷ others_in acts

-- ---- the claim, of any board, in whatever pass, and any sequence

pub record NothingBetween (β : Board) (acts : List Act) : Type 0 where
  -- without the others each item gets the same answer, its bytes hold the same, and the same frames are sent
  pub items : item_results β acts ≡ results β (items_in acts)
  -- records, frame numbers and rates, and all else but the run, are the same at the end
  pub passes : PassStays (final β (items_in acts)) (after_acts β acts)
  -- without the items each trigger has the same packet and answer, and each stop the same answer
  pub others : other_results β acts ≡ other_results β (others_in acts)
  -- and the counters are the same at the end: those of every block's header, and the on-time; and so is whether a run is on
  pub header : header_of (after_acts β acts) ≡ header_of (after_acts β (others_in acts))
  pub on-time : (after_acts β acts).run.on_time ≡ (after_acts β (others_in acts)).run.on_time
  pub running : is_running (after_acts β acts).run ≡ is_running (after_acts β (others_in acts)).run
  -- with all else of the run
  pub run : (after_acts β acts).run ≡ (after_acts β (others_in acts)).run
