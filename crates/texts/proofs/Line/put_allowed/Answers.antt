-- `texts::Line::put_allowed` meets its contract. Assumes nothing.
use mathlib.Core.List.{append_assoc}
use Rattle.texts.specs.Characters.{ascii}
use Rattle.texts.specs.Texts.{hex_word}
use Rattle.texts.proofs.Laws.{spaced-joined}
use Rattle.texts.proofs.Line.put_allowed.Goals as goal

pub returns-in-Numbers-clause-text : goal.returns-in-Numbers-clause-text
returns-in-Numbers-clause-text c =
    rw (c.in-Numbers.is, spaced-joined hex_word (ascii "allowed"), c.put_listed.ensures.text, c.put.ensures, c.prefix.ensures) (simp append_assoc)
