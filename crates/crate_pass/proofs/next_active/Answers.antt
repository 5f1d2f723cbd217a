-- `crate_pass::next_active` meets its contract. Assumes nothing.
use mathlib.Core.Path.{sym, ◌∙◌}
use native.Mathlib.Omega.{arith}
use Rattle.crate_pass.specs.declared.PassKind.TheVariants.{Reprogramming}
use Rattle.crate_pass.proofs.Next.{next_here, next-skip, next-none}
use Rattle.crate_pass.proofs.next_active.Goals as goal

pub returns-then-flag_set : goal.returns-then-flag_set
returns-then-flag_set c =
    let l = c.loop-b in
    sym (next_here Reprogramming _ l.b (omega arith) (sym c.flag_set.ensures ∙ c.if-flag_set.true)) ∙ l.invariant

pub loop-b-preserved : goal.loop-b-preserved
loop-b-preserved c =
    let l = c.loop-b in
    sym (next-skip Reprogramming _ l.b (omega arith) (sym c.flag_set.ensures ∙ c.if-flag_set.false)) ∙ l.invariant

pub returns : goal.returns
returns c = sym (next-none Reprogramming _ c.loop-b.b (omega arith)) ∙ c.loop-b.invariant
