-- What only the code's shape needs: what is known once the first words are read.
use Rattle.std.specs.Prelude.{ℕ, ◌≤◌, ◌≡◌, List, length, get_or}
use Rattle.refusals.specs.Tables.{Answer}
use Rattle.commands.specs.declared.Command.{Command}
use Rattle.command_reader.specs.Reading.{named_in}

-- the refusals 1 and 2 do not apply, and what is named is a
pub record FirstWordsRead (w : List ℕ) (a : Answer Command) : Type 0 where
  pub five : 5 ≤ length w
  pub first_word : get_or w 0 0 ≡ 0x0040
  pub named : named_in w ≡ a
