-- What only the code's shape needs: what the private functions answer, with the bytes and words beside it.
use Rattle.std.specs.Prelude.{ℕ, ◌≡◌, List, length, take, drop}
use Rattle.script.specs.Forms.{found}
use Rattle.steps.specs.declared.Event.{Event}
use Rattle.steps.specs.declared.Event.TheVariants.{Reply, TimeUp}
use Rattle.board.specs.declared.Board.{Board}
use Rattle.texts.specs.Texts.{response_meaning, text_of, in_front}
use Rattle.responses.specs.Responses.{Prints}
use Rattle.responses.specs.CodeShape.{PrintsInBytes}
use Rattle.exchange.specs.Orders.{Order, reply, time_up, other_form, letters}
use Rattle.exchange.specs.Exchange.{printed_answer, board_after_order}
use Rattle.exchange.specs.declared.Answered.{Answered}
use Rattle.exchange.specs.declared.ServedLine.{ServedLine}

-- the board's letters that a response answers, the first thirteen, `E` coming after them; and of these, those that only ask, the last six
unfoldable pub board_order : ℕ → List ℕ → Order
board_order letter b = found other_form (take 13 letters) letter b

unfoldable pub asked_by : ℕ → List ℕ → Order
asked_by letter b = found other_form (drop 7 (take 13 letters)) letter b

-- the order of a reply or a time-up
abbrev pub event_order : Event → ℕ → List ℕ → Order
event_order Reply c bytes = reply c bytes
event_order TimeUp c bytes = time_up c

-- an order was answered a
pub record Answers (β : Board) (o : Order) (a : Answered) : Type 0 where
  pub response : Prints a.response (printed_answer β o)
  pub board : a.board ≡ board_after_order β o

pub record AnswersInBytes (β : Board) (o : Order) (a : Answered) (bytes : List ℕ) : Type 0 where
  pub response : PrintsInBytes a.response bytes (printed_answer β o)
  pub board : a.board ≡ board_after_order β o

pub record AnswersBoth (β : Board) (o : Order) (a : Answered) (bytes words : List ℕ) : Type 0 where
  pub response : response_meaning a.response bytes words ≡ printed_answer β o
  pub board : a.board ≡ board_after_order β o

-- an order was served
pub record ServesOrder (β : Board) (o : Order) (text : List ℕ) (s : ServedLine) (after : List ℕ) : Type 0 where
  pub length : s.length ≡ length (text_of (printed_answer β o))
  pub printed : after ≡ in_front (text_of (printed_answer β o)) text
  pub board : s.board ≡ board_after_order β o
