-- `far_end::kind_response` meets its contract. Assumes nothing.
use mathlib.Core.Path.{◌∙◌}
use Rattle.words.proofs.Front.{words-front}
use Rattle.far_end.proofs.Printing.{half-word, in-words}
use borrow.Author.Rules.{rules}
use Rattle.far_end.proofs.kind_response.Goals as goal

pub returns-then-bytes-ne0 : goal.returns-then-bytes-ne0
returns-then-bytes-ne0 c bytes = half-word _ c.args.bytes.now c.if-bytes-ne0.true

pub returns : goal.returns
returns c bytes =
    let b = c.args.bytes.now in
    c.read_response.ensures bytes
    ∙ in-words _ b c.if-bytes-ne0.false _ (words-front b _ _ _ c.words_from_bytes.ensures (search rules))
