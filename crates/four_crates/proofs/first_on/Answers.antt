-- `four_crates::first_on` meets its contract. Assumes nothing.
use mathlib.Core.Path.{sym, ◌∙◌}
use Rattle.four_crates.proofs.OneCrate.{first-11, first-none, first_counted, first-given}
use Rattle.four_crates.proofs.first_on.Goals as goal

pub returns-then-index-gt3 : goal.returns-then-index-gt3
returns-then-index-gt3 c = first-11 c.args.crates c.args.index c.if-index-gt3.true

pub returns-then-is_done : goal.returns-then-is_done
returns-then-is_done c =
    let a = c.args in
    first-none a.crates a.index c.if-index-gt3.false (sym c.is_done.ensures ∙ c.if-is_done.true)

pub returns-then-own-gt1 : goal.returns-then-own-gt1
returns-then-own-gt1 c =
    let a = c.args in
    first_counted a.crates a.index c.if-index-gt3.false (sym c.is_done.ensures ∙ c.if-is_done.false) c.if-own-gt1.true

pub returns : goal.returns
returns c =
    let a = c.args in
    first-given a.crates a.index c.if-index-gt3.false (sym c.is_done.ensures ∙ c.if-is_done.false) c.if-own-gt1.false
