-- A start numbers from 1, a clock step keeps the count, and the Xth trigger ends a run and zeroes its counters. That the numbers of a run rise by
-- one, and that no other trigger ends it, is `numbered` (crates/reachable).
-- Assumes nothing.
use Prim.Native.Nat.{ℕ}
use mathlib.Core.Path.{◌≡◌, refl, sym, ap, ◌∙◌}
use mathlib.Core.List.{List}
use borrow.Author.Tests.{eq-eqb}
use Rattle.refusals.specs.Tables.{given, answer_of}
use Rattle.commands.specs.declared.RunLength.{RunLength}
use Rattle.packets.specs.declared.Fields.{Fields}
use Rattle.run.specs.Run.{started, stopped, clocked_run, trigger_number, is_last, after_trigger, after_answer, Triggers}
use Rattle.run.specs.declared.Running.{Running}
use Rattle.run.specs.declared.Running.TheVariants.{Stopped, Counted}
use Rattle.run.specs.declared.Run.{Run}
use Rattle.run.specs.declared.Triggered.{Triggered}
use Rattle.run.proofs.Laws.{after_last}

-- ---- starts and clock steps

-- 01, Command words: "A start .. sets the trigger counter .. to zero"; Trigger packets: "The first trigger of a run is 1"
pub start-numbers : (r : Run) (l : RunLength) → ((started r l).trigger_counter ≡ 0) × (trigger_number (started r l) ≡ 1)
start-numbers r l = (refl, refl)

-- 01, Command words: clock steps add to the timestamp and the on-time, and so to nothing else
pub clock-keeps : (r : Run) (ticks : ℕ)
    → ((clocked_run r ticks).running ≡ r.running) × ((clocked_run r ticks).freshness ≡ r.freshness)
    × ((clocked_run r ticks).trigger_counter ≡ r.trigger_counter)
unfolding clocked_run
clock-keeps r ticks = (refl, refl, refl)

-- ---- an accepted trigger

module _ (r : Run) (f : Fields) (out : List ℕ) (t : Triggered) (after : List ℕ) (h : Triggers r f out t after)
    (n : ℕ) (e : answer_of t.answer ≡ given n) where
  -- the run follows it
  pub accepted : t.run ≡ after_trigger r
  accepted = h.run ∙ ap (after_answer r) (sym h.packet.answer ∙ e)

  module _ (x : ℕ) (k : r.running ≡ Counted x) where
    -- 01, Command words: "the Xth trigger, ends the run and zeroes the same three"
    pub Xth-ends : trigger_number r ≡ x → t.run ≡ stopped r
    Xth-ends q = accepted ∙ after_last r (ap (λ (s : Running). is_last s (trigger_number r)) k ∙ eq-eqb _ _ q)

    pub Xth-zeroes : trigger_number r ≡ x → (t.run.running ≡ Stopped) × (t.run.trigger_counter ≡ 0) × (t.run.timestamp ≡ 0) × (t.run.on_time ≡ 0)
    Xth-zeroes q =
        let s = Xth-ends q in
        (ap (λ (u : Run). u.running) s, ap (λ (u : Run). u.trigger_counter) s, ap (λ (u : Run). u.timestamp) s, ap (λ (u : Run). u.on_time) s)
