-- Commands one after another: each is the first of the words that those before it left.
use Rattle.std.specs.Prelude.{ℕ, zero, suc, ◌+◌, ◌≡◌, cond, List, eqb}
use Rattle.refusals.specs.Tables.{answer_number, is_given}
use Rattle.command_reader.specs.Reading.{rest_of}
use Rattle.board.specs.State.{fresh_board}
use Rattle.board.specs.Commands.{board_answer, board_after}
use Rattle.board.specs.declared.Board.{Board}
use Rattle.command_series.specs.declared.AfterCommands.{AfterCommands}

-- of commands one after another the first refusal is given: the first of two numbers, of which 0 is none
unfoldable pub first_of : ℕ → ℕ → ℕ
first_of m n = cond (eqb m 0) n m

-- the board after n commands
unfoldable pub after_commands : ℕ → Board → List ℕ → Board
after_commands zero β w = β
after_commands (suc n) β w = after_commands n (board_after β w) (rest_of w)

-- how many of n commands are accepted
unfoldable pub accepted_of : ℕ → Board → List ℕ → ℕ
accepted_of zero β w = 0
accepted_of (suc n) β w = is_given (board_answer β w) + accepted_of n (board_after β w) (rest_of w)

-- the number of the first of n commands that is refused
unfoldable pub first_refusal : ℕ → Board → List ℕ → ℕ
first_refusal zero β w = 0
first_refusal (suc n) β w = first_of (answer_number (board_answer β w)) (first_refusal n (board_after β w) (rest_of w))

-- a fresh board after `count` commands of the words, how many of them were accepted, and the number of the first that was refused
pub record ObeysAll (count : ℕ) (w : List ℕ) (r : AfterCommands) : Type 0 where
  pub board : r.board ≡ after_commands count (fresh_board 0 0) w
  pub accepted : r.accepted ≡ accepted_of count (fresh_board 0 0) w
  pub refusal : r.refusal ≡ first_refusal count (fresh_board 0 0) w
