-- Clock steps, triggers, starts, stops and crate resets change the run alone, and keep what holds.
-- Assumes nothing.
use Prim.Native.Nat.{ℕ}
use mathlib.Core.Path.{◌≡◌, refl, sym, ap, subst}
use mathlib.Core.Bool.{Bool, true, false, not, ◌&&◌}
use mathlib.Core.List.{List}
use Rattle.refusals.specs.Tables.{Answer, given, refused}
use Rattle.packets.specs.declared.Fields.{Fields}
use Rattle.commands.specs.declared.Command.TheVariants.{Start}
use Rattle.commands.specs.declared.RunLength.{RunLength}
use Rattle.run.specs.Run.{is_running, started, stopped, after_crate_reset, clocked_run, trigger_answer, after_trigger, after_answer}
use Rattle.run.specs.Invariant.{RunInvariant}
use Rattle.run.specs.declared.Run.{Run}
use Rattle.run.proofs.Invariant.{sound-started, sound-stopped, sound-freshness, sound-clocked, sound-triggered}
use Rattle.crate_pass.specs.Crate.{is_rate_pass}
use Rattle.four_crates.specs.FourCrates.{in_pass}
use Rattle.board.specs.State.{with_run, status_of}
use Rattle.board.specs.Commands.{board_answer, after_trigger_on}
use Rattle.board.specs.declared.Board.{Board}
use Rattle.acceptance.proofs.Deciding.{obeyed-now}
use Rattle.run.proofs.Laws.{accepted-running}
use Rattle.reachable.specs.Reachable.{in_other_pass}
use Rattle.reachable.proofs.OneCall.{false≢true}
use Rattle.reachable.proofs.Accepted.{accepted-events}
use Rattle.reachable.proofs.Holding.{Holds}

-- ---- a change of the run alone

holds-run : (β : Board) (r : Run) → Holds β → RunInvariant r → (is_running r && in_other_pass β) ≡ false → Holds (with_run β r)
unfolding with_run
holds-run β r h s a =
    let k = h.reaches in
    record {
      reaches = record {
        id = k.id;
        firmware = k.firmware;
        run = s;
        length-block = k.length-block;
        within = k.within;
        active = k.active;
        length-rates = k.length-rates;
        rates = k.rates;
        four = k.four;
        number = k.number;
        first = k.first;
        crates = k.crates;
        apart = a;
      };
      follows = h.follows;
    }

and-false : (a b : Bool) → b ≡ false → (a && b) ≡ false
and-false true b e = e
and-false false b e = refl

-- while a run is on, no reprogramming and no ping is under way
running-apart : (a b : Bool) → (a && b) ≡ false → not a ≡ false → b ≡ false
running-apart true b e n = e
running-apart false b e n = false≢true (sym n)

idle-apart : (a b : Bool) → not (not a && not b) ≡ false → b ≡ false
idle-apart a false n = refl
idle-apart true true n = false≢true (sym n)
idle-apart false true n = false≢true (sym n)

-- ---- clock steps

pub holds-clock : (β : Board) (ticks : ℕ) → Holds β → Holds (with_run β (clocked_run β.run ticks))
unfolding clocked_run
holds-clock β ticks h = holds-run β (clocked_run β.run ticks) h (sound-clocked β.run ticks h.reaches.run) h.reaches.apart

-- ---- triggers

pub holds-trigger : (β : Board) (f : Fields) (out : List ℕ) → Holds β → Holds (after_trigger_on β f out)
unfolding with_run
holds-trigger β f out h = go (trigger_answer β.run f out) refl
  where
    go : (a : Answer ℕ) → trigger_answer β.run f out ≡ a → Holds (with_run β (after_answer β.run a))
    go (given n) e =
        holds-run β (after_trigger β.run) h
        (subst (λ (a : Answer ℕ). RunInvariant (after_answer β.run a)) e (sound-triggered β.run h.reaches.run f out))
        (and-false (is_running (after_trigger β.run)) (in_other_pass β)
        (running-apart (is_running β.run) (in_other_pass β) h.reaches.apart (accepted-running β.run f out n e)))
    go (refused n p) e = h

-- ---- starts and stops

pub holds-start : (β : Board) (w : List ℕ) (l : RunLength) → board_answer β w ≡ given (Start l) → Holds β → Holds (with_run β (started β.run l))
holds-start β w l e h =
    holds-run β (started β.run l) h (sound-started β.run l (accepted-events β w (Start l) e))
    (and-false (is_running (started β.run l)) (in_other_pass β)
    (ap (λ (p : Bool). p && not (is_rate_pass β.kind)) (idle-apart (is_running β.run) (in_pass β.crates) (obeyed-now w (status_of β) (Start l) e))))

pub holds-stop : (β : Board) → Holds β → Holds (with_run β (stopped β.run))
holds-stop β h = holds-run β (stopped β.run) h (sound-stopped β.run) refl

-- ---- crate resets

pub holds-reset : (β : Board) → Holds β → Holds (with_run β (after_crate_reset β.run))
holds-reset β h = holds-run β (after_crate_reset β.run) h (sound-freshness β.run _ h.reaches.run) h.reaches.apart
