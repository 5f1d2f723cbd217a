-- `texts::Line::put_activity` meets its contract. Assumes nothing.
use mathlib.Core.List.{append_assoc}
use Rattle.texts.proofs.Line.put_activity.Goals as goal

pub returns-in-RunningInPass-clause-text : goal.returns-in-RunningInPass-clause-text
returns-in-RunningInPass-clause-text c =
    rw (c.in-RunningInPass.is, c.put-in-RunningInPass-2.ensures, c.put-in-RunningInPass.ensures, c.kind_name-in-RunningInPass.ensures.name) (simp append_assoc)
