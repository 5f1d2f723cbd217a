-- `run::Run::give` meets its contract. Assumes nothing.
use Rattle.run.proofs.Laws.{gives-15, gives-16, gives-17, gives}
use mathlib.Core.Path.{ap}
use mathlib.Core.Bool.{not}
use Rattle.run.proofs.Run.give.Goals as goal

pub returns-then-not-in_range : goal.returns-then-not-in_range
returns-then-not-in_range c = gives-15 _ _ _ (ap not (rw c.in_range.ensures at c.if-not-in_range.true))

pub returns-then-not-is_running : goal.returns-then-not-is_running
returns-then-not-is_running c =
    gives-16 _ _ _ (ap not (rw c.in_range.ensures at c.if-not-in_range.false)) (ap not (rw c.is_running.ensures at c.if-not-is_running.true))

pub returns-then-self-eq4294967295 : goal.returns-then-self-eq4294967295
returns-then-self-eq4294967295 c =
    gives-17 _ _ _ (ap not (rw c.in_range.ensures at c.if-not-in_range.false)) (ap not (rw c.is_running.ensures at c.if-not-is_running.false))
    c.if-self-eq4294967295.true

pub returns : goal.returns
returns c =
    gives _ _ _ (ap not (rw c.in_range.ensures at c.if-not-in_range.false)) (ap not (rw c.is_running.ensures at c.if-not-is_running.false))
    c.if-self-eq4294967295.false _ _ c.write_packet.ensures.wrote
