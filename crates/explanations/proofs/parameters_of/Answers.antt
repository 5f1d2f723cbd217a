-- `explanations::parameters_of` meets its contract. Assumes nothing.
use mathlib.Core.Path.{refl}
use Rattle.commands.specs.Commands.{parameters_of}
use Rattle.explanations.proofs.Saying.{parameters-are, no-parameters}
use native.Mathlib.Omega.{arith}
use Rattle.explanations.proofs.parameters_of.Goals as goal

pub returns-in-1 : goal.returns-in-1
unfolding parameters_of
returns-in-1 c = parameters-are _ 0x01 _ c.in-1.is (record { count = refl; listed = refl })

pub returns-in-2 : goal.returns-in-2
unfolding parameters_of
returns-in-2 c = parameters-are _ 0x02 _ c.in-2.is (record { count = refl; listed = refl })

pub returns-in-4 : goal.returns-in-4
unfolding parameters_of
returns-in-4 c = parameters-are _ 0x04 _ c.in-4.is (record { count = refl; listed = refl })

pub returns-in-8 : goal.returns-in-8
unfolding parameters_of
returns-in-8 c = parameters-are _ 0x08 _ c.in-8.is (record { count = refl; listed = refl })

pub returns-in-16 : goal.returns-in-16
unfolding parameters_of
returns-in-16 c = parameters-are _ 0x10 _ c.in-16.is (record { count = refl; listed = refl })

pub returns-in-32 : goal.returns-in-32
unfolding parameters_of
returns-in-32 c = parameters-are _ 0x20 _ c.in-32.is (record { count = refl; listed = refl })

pub returns-in_default : goal.returns-in_default
returns-in_default c = no-parameters _ (omega arith) (omega arith) (omega arith) (omega arith) (omega arith) (omega arith)
