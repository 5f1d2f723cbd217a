-- `replies::rates_in` meets its contract: each count's two words are its digits. Assumes nothing.
use mathlib.Core.Path.{ap, ◌∙◌}
use Rattle.numbers.specs.Numbers.{digits}
use Rattle.replies.proofs.Counts.{as-word, rates-of}
use native.Mathlib.Omega.{arith}
use Rattle.replies.proofs.rates_in.Goals as goal

pub returns : goal.returns
returns c =
    rates-of _ _ _ _ _ _
    (c.words-a.ensures ∙ ap (digits 65536 2) c.count_in.ensures)
    (c.words-b.ensures ∙ ap (digits 65536 2) c.count_in-2.ensures)
    (c.words-c.ensures ∙ ap (digits 65536 2) c.count_in-3.ensures)
    (c.words-d.ensures ∙ ap (digits 65536 2) c.count_in-4.ensures)
    (c.words-total.ensures ∙ ap (digits 65536 2) c.count_in-5.ensures)
    _
    _
    (as-word _ _ c.byte_at.ensures (omega arith))
    (as-word _ _ c.byte_at-2.ensures (omega arith))
