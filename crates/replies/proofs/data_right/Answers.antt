-- `replies::data_right` meets its contract, by a law for each return. Assumes nothing.
use mathlib.Core.Path.{◌∙◌}
use borrow.Author.Tests.{le-ltb}
use Rattle.replies.proofs.Laws.{ping-bad, ping-zeros, rates-data, others}
use native.Mathlib.Omega.{arith}
use Rattle.replies.proofs.data_right.Goals as goal

pub returns-then-dna_in-lt-ID_LIMIT : goal.returns-then-dna_in-lt-ID_LIMIT
returns-then-dna_in-lt-ID_LIMIT c =
    c.same_from.ensures ∙ ping-zeros _ _ (omega arith) (omega arith)

pub returns-else-dna_in-lt-ID_LIMIT : goal.returns-else-dna_in-lt-ID_LIMIT
returns-else-dna_in-lt-ID_LIMIT c = le-ltb _ _ c.if-dna_in-lt-ID_LIMIT.false ∙ ping-bad _ _ (omega arith) (omega arith)

pub returns-in-5 : goal.returns-in-5
returns-in-5 c = c.counts_below.ensures ∙ rates-data _ _ (omega arith)

pub returns-in_default : goal.returns-in_default
returns-in_default c =
    c.same_from-in_default.ensures ∙ others _ _ (omega arith) (omega arith)
