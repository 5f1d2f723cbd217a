-- `explanations::explain` meets its contract. Assumes nothing.
use mathlib.Core.Path.{refl}
use Rattle.std.specs.Prelude.{Ok, Err}
use Rattle.explanations.proofs.Saying.{says-unlisted, by_answer}
use Rattle.explanations.proofs.explain.Goals as goal

pub returns-in-Ok : goal.returns-in-Ok
returns-in-Ok c =
    let a = c.args in
    by_answer a.words.now a.p _ (Ok _) _ c.status_in.ensures c.decide-decision.ensures.answer
    c.in-Ok.is _ (says-unlisted _ _ _ c.unlisted.ensures refl refl)

pub returns-in-Err : goal.returns-in-Err
returns-in-Err c =
    let a = c.args in
    by_answer a.words.now a.p _ (Err _) _ c.status_in.ensures c.decide-decision.ensures.answer
    c.in-Err.is _ c.refused_because.ensures
