-- What it says that written words read back as a command.
use Rattle.std.specs.Prelude.{ℕ, ◌≡◌, List, [], length}
use Rattle.refusals.specs.Tables.{given}
use Rattle.commands.specs.declared.Command.{Command}
use Rattle.command_reader.specs.Reading.{taken, command_answer, rest_of, block_of}
use Rattle.command_writer.specs.Writing.{block_for}

-- the words w are the command c with the block b of a write, and nothing after it
pub record ReadsBack (w : List ℕ) (c : Command) (b : List ℕ) : Type 0 where
  pub command : command_answer w ≡ given (taken c (length w))
  pub block : block_of w ≡ block_for c b
  pub rest : rest_of w ≡ []
