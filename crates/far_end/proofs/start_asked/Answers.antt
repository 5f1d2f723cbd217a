-- `far_end::start_asked` meets its contract. Assumes nothing.
use mathlib.Core.Path.{◌∙◌}
use Rattle.words.proofs.Front.{words-whole, number_in}
use Rattle.far_end.proofs.Asked.{counted}
use borrow.Author.Rules.{rules}
use Rattle.far_end.proofs.start_asked.Goals as goal

pub returns : goal.returns
returns c =
    let b = c.args.bytes.now in
    counted b c.if-bytes-eq0.false c.if-bytes-ne4.false _
    (c.number32.ensures
    ∙ number_in b _ c.if-bytes-ne4.false (words-whole b _ _ _ c.words_from_bytes.ensures (search rules)))
