-- `crate_pass::Crate::noted` meets its contract. Assumes nothing.
use mathlib.Core.Path.{refl}
use borrow.Author.Tests.{eq-eqb, ne_eqb}
use Rattle.crate_pass.specs.Crate.{with_entry_in, with_rates_in, noted}
use Rattle.crate_pass.proofs.Crate.noted.Goals as goal

pub returns-then-code-eq4 : goal.returns-then-code-eq4
unfolding noted with_entry_in with_rates_in
returns-then-code-eq4 c = rw (c.if-code-eq4.true, c.calls_at.ensures) refl

pub returns-then-code-eq5 : goal.returns-then-code-eq5
unfolding noted with_entry_in with_rates_in
returns-then-code-eq5 c =
    rw (ne_eqb _ _ c.if-code-eq4.false, eq-eqb _ _ c.if-code-eq5.true, c.put_twelve-self.ensures) refl

pub returns-else-code-eq5 : goal.returns-else-code-eq5
unfolding noted with_entry_in with_rates_in
returns-else-code-eq5 c = rw (ne_eqb _ _ c.if-code-eq4.false, ne_eqb _ _ c.if-code-eq5.false) refl
