-- Laws of the run, one for each way that a function returns.
-- Assumes nothing.
use Prim.Native.Nat.{ℕ}
use mathlib.Core.Path.{◌≡◌, refl, sym, ap, ◌∙◌}
use mathlib.Core.Bool.{Bool, true, false, not, cond}
use mathlib.Core.List.{List}
use borrow.Author.Tests.{eq-eqb, ne_eqb, eqb-false}
use Rattle.std.specs.Prelude.{Result, Err}
use Rattle.refusals.specs.Tables.{given, answer_of}
use Rattle.refusals.specs.Writing.{Wrote}
use Rattle.refusals.specs.declared.Refusal.TheVariants.{TriggerFieldOutOfRange, NotRunning, TriggerCounterAtEnd}
use Rattle.refusals.proofs.Tables.{Clear}
use Rattle.refusals.proofs.Writing.{wrote-refused, wrote-alike, wrote-clear}
use Rattle.packets.specs.Packets.{in_range, packet_bytes, write_rules}
use Rattle.packets.specs.declared.Fields.{Fields}
use Rattle.run.specs.Run.{is_running, stopped, clocked, clocked_run, is_last, counted, after_trigger}
use Rattle.run.specs.Run.{trigger_number, trigger_rules, trigger_answer, after_answer, Gives, Triggers}
use Rattle.run.specs.declared.Run.{Run}
use Rattle.refusals.specs.declared.Refusal.{Refusal}

-- ---- a clock step

-- a run that is r but for its timestamp and on-time
abbrev pub timed : Run → ℕ → ℕ → Run
timed r t o = record { running = r.running; freshness = r.freshness; trigger_counter = r.trigger_counter; timestamp = t; on_time = o }

pub clock-is : (r : Run) (ticks t o : ℕ) → t ≡ clocked r.timestamp ticks → o ≡ cond (is_running r) (clocked r.on_time ticks) r.on_time
    → timed r t o ≡ clocked_run r ticks
unfolding clocked_run
clock-is r ticks t o et eo = λ i. timed r (et i) (eo i)

-- ---- the run after an accepted trigger

module _ (r : Run) where
  pub after_last : is_last r.running (trigger_number r) ≡ true → after_trigger r ≡ stopped r
  unfolding after_trigger
  after_last h = ap (λ (b : Bool). cond b (stopped r) (counted r)) h

  pub after-another : is_last r.running (trigger_number r) ≡ false → after_trigger r ≡ counted r
  unfolding after_trigger
  after-another h = ap (λ (b : Bool). cond b (stopped r) (counted r)) h

-- ---- a trigger

module _ (r : Run) (f : Fields) (out : List ℕ) where
  -- its refusals, each where those before it do not apply
  pub gives-15 : not (in_range f) ≡ true → Gives r f out (Err TriggerFieldOutOfRange) out
  unfolding trigger_rules
  gives-15 h = wrote-refused _ _ _ TriggerFieldOutOfRange (rw h refl)

  module _ (a : not (in_range f) ≡ false) where
    pub gives-16 : not (is_running r) ≡ true → Gives r f out (Err NotRunning) out
    unfolding trigger_rules
    gives-16 h = wrote-refused _ _ _ NotRunning (rw (a, h) refl)

    module _ (b : not (is_running r) ≡ false) where
      pub gives-17 : r.trigger_counter ≡ 4294967295 → Gives r f out (Err TriggerCounterAtEnd) out
      unfolding trigger_rules
      gives-17 h = wrote-refused _ _ _ TriggerCounterAtEnd (rw (a, b, eq-eqb _ _ h) refl)

      -- where none applies, the answer is that of the writer of packets
      pub gives : (r.trigger_counter ≡ 4294967295 → ⊥) → (w : Result ℕ Refusal) (after : List ℕ)
          → Wrote (write_rules f) (packet_bytes (trigger_number r) f) out w after
          → Gives r f out w after
      unfolding trigger_rules
      gives h w after = wrote-alike _ _ _ _ w after (a, tt) (a, (b, (ne_eqb _ _ h, tt)))

  -- of an accepted one: a run is on, and the counter is not at its end
  module _ (n : ℕ) (e : trigger_answer r f out ≡ given n) where
    clear : Clear (trigger_rules r f)
    clear = wrote-clear (trigger_rules r f) _ out n _ (record { answer = sym e; output = refl })

    pub accepted-running : not (is_running r) ≡ false
    unfolding trigger_rules
    accepted-running = clear.1.0

    pub room : r.trigger_counter ≡ 4294967295 → ⊥
    unfolding trigger_rules
    room = eqb-false _ _ clear.1.1.0

  -- the run follows the answer
  pub triggers : (w : Result ℕ Refusal) (after : List ℕ) → Gives r f out w after → (s : Run) → s ≡ after_answer r (answer_of w)
      → Triggers r f out (record { run = s; answer = w }) after
  triggers w after g s e = record { packet = g; run = e ∙ ap (after_answer r) g.answer }
