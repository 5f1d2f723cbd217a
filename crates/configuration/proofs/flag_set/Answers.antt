-- `configuration::flag_set` meets its contract. Assumes nothing.
use mathlib.Core.Path.{◌∙◌}
use borrow.Author.Tests.{le-ltb}
use native.Mathlib.Omega.{arith}
use Rattle.configuration.proofs.Parts.{flag-high}
use Rattle.configuration.proofs.flag_set.Goals as goal

pub returns-else-b-lt16 : goal.returns-else-b-lt16
returns-else-b-lt16 c = le-ltb _ _ c.if-b-lt16.false ∙ flag-high c.args.word c.args.b (omega arith) c.if-b-lt16.false
