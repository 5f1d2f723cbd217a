-- `call_refusals::triggers_refusal` meets its contract. Assumes nothing.
use mathlib.Core.Path.{ap, ap₂, ◌∙◌}
use Rattle.call_refusals.specs.CallRefusals.{lower_of}
use Rattle.call_refusals.proofs.Numbers.{room-packets}
use Rattle.call_refusals.proofs.triggers_refusal.Goals as goal

pub returns : goal.returns
returns c =
    let own = c.lower_of-own.ensures ∙ ap (lower_of _) (c.no_room.ensures ∙ room-packets _ _) in
    c.lower_of.ensures ∙ ap₂ lower_of own c.no_room-2.ensures
