-- `command_writer::put_five` meets its contract. Assumes nothing.
use mathlib.Core.Path.{refl}
use mathlib.Core.List.{[]}
use Rattle.refusals.proofs.Writing.{wrote-short}
use Rattle.words.proofs.Writing.{wrote-copied}
use native.Mathlib.Omega.{arith}
use Rattle.command_writer.proofs.put_five.Goals as goal

pub returns-then-out-lt5 : goal.returns-then-out-lt5
returns-then-out-lt5 c = wrote-short [] _ _ tt 5 refl (omega arith)

pub returns : goal.returns
returns c = wrote-copied [] tt _ _ _ _ 5 refl (omega arith) refl c.copy_words.ensures
