-- `frames::words_for` meets its contract: five words are as many as there may be. Assumes nothing.
use mathlib.Core.Path.{sym}
use lib.Seq.{take_at}
use borrow.Author.Rules.{rules}
use Rattle.frames.proofs.words_for.Goals as goal

pub returns-in-Dacs : goal.returns-in-Dacs
returns-in-Dacs c = rw c.in-Dacs.is (sym (take_at c.args.s.dacs _ 5 (search rules)))
