-- `ftu_list::entry_words` meets its contract. Assumes nothing.
use borrow.Author.Tests.{eq-eqb, ne_eqb}
use Rattle.ftu_list.specs.List.{entry_words}
use Rattle.ftu_list.proofs.entry_words.Goals as goal

pub returns-then-e-eq0 : goal.returns-then-e-eq0
unfolding entry_words
returns-then-e-eq0 c = simp (eq-eqb _ _ c.if-e-eq0.true)

pub returns : goal.returns
unfolding entry_words
returns c =
    simp (ne_eqb _ _ c.if-e-eq0.false) (rw (c.words-dna.ensures, c.address_of-address.ensures))
