-- `command_reader::read_command` meets its contract. Assumes nothing.
use mathlib.Core.Path.{◌≡◌}
use Rattle.std.specs.Prelude.{Err}
use borrow.Author.Rules.{rules}
use native.Mathlib.Omega.{arith}
use Rattle.command_reader.proofs.Reading.{found_as, read-1, read-2, read-unnamed}
use Rattle.command_reader.proofs.read_command.Goals as goal

pub returns-then-words-lt5 : goal.returns-then-words-lt5
returns-then-words-lt5 c = read-1 _ (omega arith)

pub returns-then-words-ne64 : goal.returns-then-words-ne64
returns-then-words-ne64 c = read-2 _ (omega arith) (omega arith)

pub returns-in_err-listed_as : goal.returns-in_err-listed_as
returns-in_err-listed_as c =
    let words = c.args.words.now in
    let same : c.from_residual.result ≡ Err c.in_err-listed_as.field-0.0 = search rules in
    rw same
    (read-unnamed _ _ _
    record {
      five = omega arith;
      first_word = omega arith;
      named = found_as words _ c.count_in.ensures _ _ c.listed_as.ensures c.in_err-listed_as.was;
    })
