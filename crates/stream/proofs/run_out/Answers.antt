-- `stream::run_out` meets its contract. Assumes nothing.
use mathlib.Core.Path.{ap, ◌∙◌}
use Rattle.stream.specs.Stream.{time_ups, ran_out}
use Rattle.stream.proofs.run_out.Goals as goal

pub returns : goal.returns
unfolding ran_out
returns c =
    c.run_out_on.ensures
    ∙ ap (time_ups 30 3) (c.run_out_on-c.ensures
    ∙ ap (time_ups 30 2) (c.run_out_on-b.ensures
    ∙ ap (time_ups 30 1) c.run_out_on-a.ensures))
