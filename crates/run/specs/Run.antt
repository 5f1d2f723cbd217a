-- 01, Command words, and Trigger packets; 02, b and c: what starts, stops, writes, crate resets, clock steps and triggers make of the run.
use Rattle.std.specs.Prelude.{ℕ, ◌+◌, ◌%◌, ◌^◌, ◌≡◌, Bool, true, false, not, cond, List, [], ◌∷◌, eqb, Result}
use Rattle.refusals.specs.Tables.{Answer, given, refused, Rule, rule}
use Rattle.refusals.specs.Writing.{writing, Wrote}
use Rattle.commands.specs.declared.RunLength.{RunLength}
use Rattle.commands.specs.declared.RunLength.TheVariants.{Endless, Counted}
use Rattle.packets.specs.Packets.{in_range, packet_bytes}
use Rattle.packets.specs.declared.Fields.{Fields}
use Rattle.run.specs.declared.Running.{Running}
use Rattle.run.specs.declared.Running.TheVariants.{Stopped}
use Rattle.run.specs.declared.Freshness.{Freshness}
use Rattle.run.specs.declared.Freshness.TheVariants.{NeverWritten, Fresh, UsedByRun, UsedByReset}
use Rattle.run.specs.declared.Run.{Run}
use Rattle.run.specs.declared.Triggered.{Triggered}
use Rattle.refusals.specs.declared.Refusal.{Refusal}

-- whether events are taken
abbrev pub takes_events : Running → Bool
takes_events Stopped = false
takes_events Running.Endless = true
takes_events (Running.Counted x) = true

abbrev pub is_running : Run → Bool
is_running r = takes_events r.running

-- "fresh", as a start needs it
abbrev pub is_fresh : Freshness → Bool
is_fresh NeverWritten = false
is_fresh Fresh = true
is_fresh UsedByRun = false
is_fresh UsedByReset = false

-- 02, c: "a run or reset used it up, whichever came first since the last accepted write": what is fresh is used by it, and what is not stays as it is
abbrev pub used_by : Freshness → Freshness → Freshness
used_by user NeverWritten = NeverWritten
used_by user Fresh = user
used_by user UsedByRun = UsedByRun
used_by user UsedByReset = UsedByReset

-- a run that takes events or not, fresh or not, with the three counters at zero
abbrev pub zeroed : Running → Freshness → Run
zeroed running freshness = record { running = running; freshness = freshness; trigger_counter = 0; timestamp = 0; on_time = 0 }

-- power-up gives "idle, all words and counters zero, nothing fresh": "nothing was ever written" (02, c)
abbrev pub at_power_up : Run
at_power_up = zeroed Stopped NeverWritten

-- "1 endless, 2 take X"
abbrev pub running_for : RunLength → Running
running_for Endless = Running.Endless
running_for (Counted x) = Running.Counted x

-- "A start clears fresh, sets the trigger counter, timestamp and on-time to zero and runs"
abbrev pub started : Run → RunLength → Run
started r l = zeroed (running_for l) (used_by UsedByRun r.freshness)

-- "A stop, or the Xth trigger, ends the run and zeroes the same three"
abbrev pub stopped : Run → Run
stopped r = zeroed Stopped r.freshness

-- the same run, with another freshness
abbrev pub with_freshness : Run → Freshness → Run
with_freshness r freshness =
    record { running = r.running; freshness = freshness; trigger_counter = r.trigger_counter; timestamp = r.timestamp; on_time = r.on_time }

-- "A write .. sets fresh"
abbrev pub refreshed : Run → Run
refreshed r = with_freshness r Fresh

-- 02, b: "an accepted crate reset clears fresh, so that a start needs a new write"
abbrev pub after_crate_reset : Run → Run
after_crate_reset r = with_freshness r (used_by UsedByReset r.freshness)

-- "modulo 2^48"
abbrev pub clocked : ℕ → ℕ → ℕ
clocked counter ticks = (counter + ticks) % 2 ^ 48

-- "Clock steps .. add to the 48-bit timestamp, and to the 48-bit on-time while running"
unfoldable pub clocked_run : Run → ℕ → Run
clocked_run r ticks =
    record {
      running = r.running;
      freshness = r.freshness;
      trigger_counter = r.trigger_counter;
      timestamp = clocked r.timestamp ticks;
      on_time = cond (is_running r) (clocked r.on_time ticks) r.on_time;
    }

-- ---- triggers

-- "the counter goes up by one and is the number"
abbrev pub trigger_number : Run → ℕ
trigger_number r = r.trigger_counter + 1

-- a trigger's own refusals; 19 comes after them
unfoldable pub trigger_rules : Run → Fields → List Rule
trigger_rules r f =
    rule 15 (not (in_range f))
    ∷ rule 16 (not (is_running r))
    ∷ rule 17 (eqb r.trigger_counter 4294967295)
    ∷ []

-- whether the trigger of a number is "the Xth"
abbrev pub is_last : Running → ℕ → Bool
is_last Stopped n = false
is_last Running.Endless n = false
is_last (Running.Counted x) n = eqb n x

-- the run with one event more
abbrev pub counted : Run → Run
counted r =
    record { running = r.running; freshness = r.freshness; trigger_counter = trigger_number r; timestamp = r.timestamp; on_time = r.on_time }

unfoldable pub after_trigger : Run → Run
after_trigger r = cond (is_last r.running (trigger_number r)) (stopped r) (counted r)

-- the run after a trigger that got the answer
abbrev pub after_answer : Run → Answer ℕ → Run
after_answer r (given n) = after_trigger r
after_answer r (refused n p) = r

-- what a trigger with the fields f answers, on lent bytes `out`: seven bytes, or a refusal
abbrev pub trigger_answer : Run → Fields → List ℕ → Answer ℕ
trigger_answer r f out = writing (trigger_rules r f) (packet_bytes (trigger_number r) f) out

-- a trigger with the fields f was answered w, and the lent bytes `out` became `after`
abbrev pub Gives : Run → Fields → List ℕ → Result ℕ Refusal → List ℕ → Type 0
Gives r f out w after = Wrote (trigger_rules r f) (packet_bytes (trigger_number r) f) out w after

-- the trigger answered t, and the lent bytes `out` became `after`
pub record Triggers (r : Run) (f : Fields) (out : List ℕ) (t : Triggered) (after : List ℕ) : Type 0 where
  pub packet : Gives r f out t.answer after
  pub run : t.run ≡ after_answer r (trigger_answer r f out)
