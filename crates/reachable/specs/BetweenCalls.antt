-- 02, i, over the contracts of the public calls alone: three series of calls from one board, of items with others between, of the items alone, and of the
-- others alone, and what a caller then sees (`NothingBetweenCalls`).
use Rattle.std.specs.Prelude.{ℕ, ◌≡◌, List, [], ◌∷◌, map}
use Rattle.packets.specs.declared.Fields.{Fields}
use Rattle.run.specs.Run.{is_running}
use Rattle.board.specs.Commands.{Obeys, TriggersOn, after_clock_step}
use Rattle.board.specs.SentOut.{header_of}
use Rattle.board.specs.declared.Board.{Board}
use Rattle.board.specs.declared.CommandResult.{CommandResult}
use Rattle.board.specs.declared.TriggerResult.{TriggerResult}
use Rattle.any_order.specs.AnyOrder.{Seen}
use Rattle.any_order.specs.Calls.{ServedItem, Keeps, board_then, seen}
use Rattle.reachable.specs.Stays.{PassStays}
use Rattle.reachable.specs.Between.{Other, trigger, clock_step, stop, stop_words, OtherResult, Act, item, other}
use Rattle.refusals.specs.Tables.{answer_of}

-- ---- one of the others, with what was returned

-- `trigger`, with what its lent bytes then held; `clock`; and `obey`, with the words of a stop and others after it
pub data ServedOther : Type 0 where
  triggered : Fields → List ℕ → TriggerResult → List ℕ → ServedOther
  clocked : ℕ → Board → ServedOther
  stopped : List ℕ → CommandResult → ServedOther

abbrev pub other_of : ServedOther → Other
other_of (triggered f out t after) = trigger f out
other_of (clocked ticks γ) = clock_step ticks
other_of (stopped words r) = stop words

-- the contract of the call
abbrev pub KeepsOther : Board → ServedOther → Type 0
KeepsOther β (triggered f out t after) = TriggersOn β f out t after
KeepsOther β (clocked ticks γ) = γ ≡ after_clock_step β ticks
KeepsOther β (stopped words r) = Obeys β (stop_words words) r

-- the board that the caller then has
abbrev pub board_then_of : ServedOther → Board
board_then_of (triggered f out t after) = t.board
board_then_of (clocked ticks γ) = γ
board_then_of (stopped words r) = r.board

-- what it got, as 01 has it
abbrev pub result_seen : ServedOther → OtherResult
result_seen (triggered f out t after) = OtherResult.triggered (answer_of t.answer) after
result_seen (clocked ticks γ) = OtherResult.clocked
result_seen (stopped words r) = OtherResult.stopped (answer_of r.answer)

abbrev pub other_seen : ServedOther → Other × OtherResult
other_seen o = (other_of o, result_seen o)

-- ---- a series

pub data ServedAct : Type 0 where
  served : ServedItem → ServedAct
  between : ServedOther → ServedAct

abbrev pub KeepsAct : Board → ServedAct → Type 0
KeepsAct β (served s) = Keeps β s.item.0 s.item.1.0 s.item.1.1 s.returned s.bytes
KeepsAct β (between o) = KeepsOther β o

abbrev pub board_then_act : Board → ServedAct → Board
board_then_act β (served s) = board_then β s.returned
board_then_act β (between o) = board_then_of o

-- each call keeps its contract, on the board that the one before left
abbrev pub ChainedActs : Board → List ServedAct → Type 0
ChainedActs β [] = Unit
ChainedActs β (s ∷ ss) = KeepsAct β s × ChainedActs (board_then_act β s) ss

abbrev pub last_board_of : Board → List ServedAct → Board
last_board_of β [] = β
last_board_of β (s ∷ ss) = last_board_of (board_then_act β s) ss

abbrev pub act_of : ServedAct → Act
act_of (served s) = item s.item
act_of (between o) = other (other_of o)

abbrev pub acts_of : List ServedAct → List Act
acts_of ss = map act_of ss

-- the items with what each got, and the others
abbrev pub items_seen : List ServedAct → List Seen
items_seen [] = []
items_seen (served s ∷ ss) = seen s ∷ items_seen ss
items_seen (between o ∷ ss) = items_seen ss

abbrev pub others_seen : List ServedAct → List (Other × OtherResult)
others_seen [] = []
others_seen (served s ∷ ss) = others_seen ss
others_seen (between o ∷ ss) = other_seen o ∷ others_seen ss

-- ---- the claim, of any board, and three series from it: all, the items alone, and the others alone

pub record NothingBetweenCalls (β : Board) (all items others : List ServedAct) : Type 0 where
  -- each item gets the same answer, and its bytes hold the same
  pub items-same : items_seen all ≡ items_seen items
  -- no record, frame number or rate is another, nor anything else but the run
  pub passes : PassStays (last_board_of β items) (last_board_of β all)
  -- each trigger has the same packet and answer, and each stop the same answer
  pub others_same : others_seen all ≡ others_seen others
  -- and no counter is another: those of every block's header, and the on-time; nor whether a run is on, nor anything else of the run
  pub header : header_of (last_board_of β all) ≡ header_of (last_board_of β others)
  pub on-time : (last_board_of β all).run.on_time ≡ (last_board_of β others).run.on_time
  pub running : is_running (last_board_of β all).run ≡ is_running (last_board_of β others).run
  pub run : (last_board_of β all).run ≡ (last_board_of β others).run
