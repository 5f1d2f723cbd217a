-- What was accepted: a command, as its reader accepts it, and of a write 436 words within their bounds.
-- Assumes nothing.
use Prim.Native.Nat.{ℕ}
use mathlib.Core.Path.{◌≡◌, refl, sym, ap, ◌∙◌}
use mathlib.Core.Bool.{false}
use mathlib.Core.List.{List}
use lib.ListN.{length}
use Rattle.refusals.specs.Tables.{Answer, given}
use Rattle.bounds.specs.Bounds.{bound_of, lowest_above}
use Rattle.commands.specs.Commands.{no_events}
use Rattle.commands.specs.declared.Command.{Command}
use Rattle.commands.specs.declared.Command.TheVariants.{Write}
use Rattle.command_reader.specs.Reading.{read_rules, taken, block_of}
use Rattle.command_reader.proofs.Used.{length-block, write-within}
use Rattle.acceptance.proofs.Deciding.{obeyed-named, obeyed-words, obeyed-read}
use Rattle.board.specs.State.{status_of}
use Rattle.board.specs.Commands.{board_answer, written, after_command, board_after}
use Rattle.board.specs.declared.Board.{Board}

module _ (β : Board) (w : List ℕ) (c : Command) (e : board_answer β w ≡ given c) where
  -- "X is 0" does not apply
  pub accepted-events : no_events c ≡ false
  unfolding read_rules
  accepted-events = ap no_events (sym (obeyed-named w (status_of β) c e)) ∙ (obeyed-words w (status_of β) c e).1.1.1.1.1.1.0

module _ (β : Board) (w : List ℕ) (e : board_answer β w ≡ given Write) where
  pub block-length : length (block_of w) ≡ 436
  block-length = length-block w (taken Write 441) (obeyed-read w (status_of β) Write e)

  pub block_within : lowest_above bound_of 0 (block_of w) ≡ 436
  block_within = write-within w (taken Write 441) (obeyed-read w (status_of β) Write e) refl

  -- it is what is stored then
  pub written-block : (board_after β w).block ≡ block_of w
  unfolding written
  written-block = ap (λ (a : Answer Command). (after_command β (block_of w) a).block) e
