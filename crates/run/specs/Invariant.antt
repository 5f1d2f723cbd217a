-- 01, Command words, and Trigger packets: what holds of a run in every state that a board reaches from power-up (crates/reachable).
use Rattle.std.specs.Prelude.{ℕ, ◌<◌, ◌≤◌, ◌^◌, ◌≡◌, true}
use Rattle.run.specs.Run.{is_running}
use Rattle.run.specs.declared.Running.TheVariants.{Stopped, Counted}
use Rattle.run.specs.declared.Run.{Run}

pub record RunInvariant (r : Run) : Type 0 where
  -- "the 48-bit timestamp", "the 48-bit on-time"
  pub timestamp : r.timestamp < 2 ^ 48
  pub on-time : r.on_time < 2 ^ 48
  -- no trigger is accepted where "trigger counter is 4,294,967,295"
  pub counter : r.trigger_counter ≤ 4294967295
  -- "A stop, or the Xth trigger, ends the run and zeroes the same three"; clock steps add to the timestamp alone until the next start
  pub zeroed : r.running ≡ Stopped → (r.trigger_counter ≡ 0) × (r.on_time ≡ 0)
  -- a start sets both to zero, and clock steps add to both "while running"
  pub together : is_running r ≡ true → r.on_time ≡ r.timestamp
  -- while a run of X events is on, fewer than X were taken: "the Xth trigger, ends the run". So X is not 0
  pub fewer : (x : ℕ) → r.running ≡ Counted x → r.trigger_counter < x
