-- `run::Run::count` meets its contract. Assumes nothing.
use mathlib.Core.Path.{sym, ◌∙◌}
use Rattle.run.proofs.Laws.{after_last, after-another}
use Rattle.run.proofs.Run.count.Goals as goal

pub returns-then-ends_with : goal.returns-then-ends_with
returns-then-ends_with c = c.stop.ensures ∙ sym (after_last _ (sym c.ends_with.ensures ∙ c.if-ends_with.true))

pub returns : goal.returns
returns c = sym (after-another _ (sym c.ends_with.ensures ∙ c.if-ends_with.false))
