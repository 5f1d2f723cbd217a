-- A run is sound at power-up, and after a start, a stop, a write, a crate reset, a clock step and a trigger.
-- Assumes nothing.
use Prim.Native.Nat.{ℕ, ◌<◌, ◌^◌}
use mathlib.Core.Path.{◌≡◌, refl, sym, ap, ◌∙◌}
use mathlib.Core.Bool.{Bool, true, false, cond}
use mathlib.Core.List.{List}
use native.Mathlib.Omega.{arith}
use borrow.Author.Tests.{eqb-false, not-false}
use Rattle.refusals.specs.Tables.{Answer, given, refused}
use Rattle.commands.specs.Commands.{no_events}
use Rattle.commands.specs.declared.Command.TheVariants.{Start}
use Rattle.commands.specs.declared.RunLength.{RunLength}
use Rattle.commands.specs.declared.RunLength.TheVariants.{Endless, Counted}
use Rattle.packets.specs.declared.Fields.{Fields}
use Rattle.run.specs.Run.{takes_events, is_running, zeroed, at_power_up, started, stopped, with_freshness, clocked, clocked_run}
use Rattle.run.specs.Run.{trigger_number, trigger_answer, is_last, counted, after_trigger, after_answer}
use Rattle.run.specs.declared.Running.{Running}
use Rattle.run.specs.declared.Running.TheVariants.{Stopped}
use Rattle.run.specs.declared.Freshness.{Freshness}
use Rattle.run.specs.declared.Run.{Run}
use Rattle.run.specs.Invariant.{RunInvariant}
use Rattle.run.proofs.Laws.{accepted-running, room}

false≢true : {A : Type 0} → false ≡ true → A
false≢true e = absurd (let z : ◌≡◌ {A = ℕ} 0 1 = cc in omega arith)

-- ---- the three at zero

-- X, where it is counted to, is not 0
sound-zeroed : (running : Running) (freshness : Freshness) → ((x : ℕ) → running ≡ Running.Counted x → 0 < x) → RunInvariant (zeroed running freshness)
sound-zeroed running freshness f =
    record {
      timestamp = omega arith;
      on-time = omega arith;
      counter = omega arith;
      zeroed = λ e. (refl, refl);
      together = λ e. refl;
      fewer = λ x e. let l = f x e in omega arith;
    }

sound-still : (freshness : Freshness) → RunInvariant (zeroed Stopped freshness)
sound-still freshness = sound-zeroed Stopped freshness (λ x e. false≢true (ap takes_events e))

pub sound-power-up : RunInvariant at_power_up
sound-power-up = sound-still at_power_up.freshness

pub sound-stopped : (r : Run) → RunInvariant (stopped r)
sound-stopped r = sound-still r.freshness

-- "X is 0" is refused
pub sound-started : (r : Run) (l : RunLength) → no_events (Start l) ≡ false → RunInvariant (started r l)
sound-started r Endless e = sound-zeroed Running.Endless _ (λ x q. absurd (let z : ◌≡◌ {A = ℕ} 0 1 = cc in omega arith))
sound-started r (Counted x) e = sound-zeroed (Running.Counted x) _ (λ y q. let n = eqb-false x 0 e in let s : x ≡ y = cc in omega arith)

-- ---- writes, crate resets and clock steps

pub sound-freshness : (r : Run) (freshness : Freshness) → RunInvariant r → RunInvariant (with_freshness r freshness)
sound-freshness r freshness s =
    record { timestamp = s.timestamp; on-time = s.on-time; counter = s.counter; zeroed = s.zeroed; together = s.together; fewer = s.fewer }

-- the on-time of a board that is not running stays
still-time : (r : Run) (ticks : ℕ) → r.running ≡ Stopped → (clocked_run r ticks).on_time ≡ r.on_time
unfolding clocked_run
still-time r ticks e = rw (ap takes_events e)

pub sound-clocked : (r : Run) (ticks : ℕ) → RunInvariant r → RunInvariant (clocked_run r ticks)
unfolding clocked_run
sound-clocked r ticks s =
    record {
      timestamp = omega arith;
      on-time = go (is_running r);
      counter = s.counter;
      zeroed = λ e. let z = s.zeroed e in let t = still-time r ticks e in (omega arith, omega arith);
      together = λ e. rw e (ap (λ (n : ℕ). clocked n ticks) (s.together e));
      fewer = s.fewer;
    }
  where
    go : (t : Bool) → cond t (clocked r.on_time ticks) r.on_time < 2 ^ 48
    go true = omega arith
    go false = s.on-time

-- ---- triggers

module _ (r : Run) (s : RunInvariant r) where
  -- one that is not the last
  sound-counted : is_running r ≡ true → (r.trigger_counter ≡ 4294967295 → ⊥) → is_last r.running (trigger_number r) ≡ false → RunInvariant (counted r)
  sound-counted running more other =
      record {
        timestamp = s.timestamp;
        on-time = s.on-time;
        counter = let l = s.counter in omega arith;
        zeroed = λ e. false≢true (sym (ap takes_events e) ∙ running);
        together = s.together;
        fewer = λ x e.
            let l = s.fewer x e in
            let n = eqb-false (trigger_number r) x (sym (ap (λ (q : Running). is_last q (trigger_number r)) e) ∙ other) in
            omega arith;
      }

  sound-trigger : is_running r ≡ true → (r.trigger_counter ≡ 4294967295 → ⊥) → RunInvariant (after_trigger r)
  unfolding after_trigger
  sound-trigger running more = go (is_last r.running (trigger_number r)) refl
    where
      go : (t : Bool) → is_last r.running (trigger_number r) ≡ t → RunInvariant (cond t (stopped r) (counted r))
      go true e = sound-stopped r
      go false e = sound-counted running more e

  pub sound-triggered : (f : Fields) (out : List ℕ) → RunInvariant (after_answer r (trigger_answer r f out))
  sound-triggered f out = go (trigger_answer r f out) refl
    where
      go : (a : Answer ℕ) → trigger_answer r f out ≡ a → RunInvariant (after_answer r a)
      go (given n) e = sound-trigger (not-false (is_running r) (accepted-running r f out n e)) (room r f out n e)
      go (refused n p) e = s
