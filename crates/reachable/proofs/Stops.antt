-- What the words of a stop get between the items of a pass: an answer by the run alone.
-- Assumes nothing.
use Prim.Native.Nat.{ℕ}
use mathlib.Core.Path.{◌≡◌, refl, sym, ◌∙◌}
use mathlib.Core.Bool.{Bool, true, false, cond, not}
use mathlib.Core.List.{List, []}
use Rattle.refusals.specs.Tables.{Answer, given, refused}
use Rattle.commands.specs.declared.Command.{Command}
use Rattle.commands.specs.declared.Command.TheVariants.{Stop}
use Rattle.command_reader.specs.Reading.{taken, command_answer}
use Rattle.round_trips.proofs.Commands.{read-written}
use Rattle.acceptance.proofs.Deciding.{by_state}
use Rattle.run.specs.Run.{is_running}
use Rattle.run.specs.declared.Run.{Run}
use Rattle.board.specs.State.{status_of}
use Rattle.board.specs.Commands.{board_answer}
use Rattle.board.specs.declared.Board.{Board}
use Rattle.reachable.specs.Between.{stop_words}

abbrev pub stop_answer : Run → Answer Command
stop_answer r = cond (is_running r) (given Stop) (refused 9 0)

stop-read : (after : List ℕ) → command_answer (stop_words after) ≡ given (taken Stop 5)
stop-read after = sym (read-written [] after Stop tt tt)

pub stop-answer : (β : Board) (after : List ℕ) → board_answer β (stop_words after) ≡ stop_answer β.run
stop-answer β after = by_state (stop_words after) (status_of β) Stop 5 (stop-read after) ∙ go (is_running β.run)
  where
    go : (t : Bool) → cond (not t) (refused 9 0) (given Stop) ≡ cond {A = Answer Command} t (given Stop) (refused 9 0)
    go true = refl
    go false = refl
