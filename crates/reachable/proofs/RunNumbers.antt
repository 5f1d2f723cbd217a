-- The triggers of a run are numbered 1, 2, 3 and so on, and the Xth trigger ends a run of X events, and no other (`numbered`).
-- Assumes nothing.
use Prim.Native.Nat.{ℕ, suc, ◌+◌, ◌<◌}
use mathlib.Core.Path.{◌≡◌, refl, sym, ap, ◌∙◌, subst}
use mathlib.Core.Bool.{Bool, true, false, not}
use mathlib.Core.List.{List, [], ◌∷◌}
use native.Mathlib.Omega.{arith}
use lib.Dec.{eqb}
use lib.ListN.{length}
use borrow.Author.Tests.{lt-ltb, le-ltb, eqb-true, eqb-false}
use Rattle.refusals.specs.Tables.{Answer, given, refused}
use Rattle.packets.specs.declared.Fields.{Fields}
use Rattle.commands.specs.Commands.{no_events}
use Rattle.commands.specs.declared.Command.{Command}
use Rattle.commands.specs.declared.Command.TheVariants.{Read, Write, Start, Stop, Ping, CrateReset}
use Rattle.commands.specs.declared.RunLength.{RunLength}
use Rattle.commands.specs.declared.RunLength.TheVariants.{Endless, Counted}
use Rattle.run.specs.Run.{is_running, takes_events, running_for, after_crate_reset, clocked_run}
use Rattle.run.specs.Run.{trigger_number, trigger_answer, is_last, after_trigger, after_answer}
use Rattle.run.specs.declared.Running.{Running}
use Rattle.run.specs.declared.Running.TheVariants.{Stopped}
use Rattle.run.specs.declared.Run.{Run}
use Rattle.run.proofs.Laws.{after_last, after-another}
use Rattle.board.specs.State.{with_run}
use Rattle.command_reader.specs.Reading.{block_of}
use Rattle.board.specs.Commands.{board_answer, written, pinged, after_command, board_after}
use Rattle.board.specs.RatePass.{begin_answer}
use Rattle.board.specs.declared.Board.{Board}
use Rattle.reachable.specs.Calls.{Call, command, clock_step, trigger, hand_in, begin_rates, after_call, after_all, is_start_or_stop, no_start_or_stop}
use Rattle.reachable.specs.Numbering.{where_given, number_of, numbers, up_from, GoesOn, Numbered}
use Rattle.reachable.proofs.OneCall.{false≢true, Free, none_first, replied-run, begun-run}
use Rattle.run.proofs.Laws.{accepted-running}
use Rattle.reachable.proofs.Accepted.{accepted-events}

-- ---- a run that was started for some length, after m of its triggers

-- there are more to come; and there are none
abbrev More : RunLength → ℕ → Type 0
More Endless m = Unit
More (Counted x) m = m < x

abbrev Full : RunLength → ℕ → Type 0
Full Endless m = ⊥
Full (Counted x) m = m ≡ x

data Going (l : RunLength) (m : ℕ) (r : Run) : Type 0 where
  on : r.running ≡ running_for l → r.trigger_counter ≡ m → More l m → Going l m r
  over : r.running ≡ Stopped → Full l m → Going l m r

-- it goes on as claimed
going_on : (l : RunLength) (m : ℕ) (β : Board) → Going l m β.run → GoesOn l m β
going_on Endless m β (on e c h) = ap takes_events e
going_on Endless m β (over e h) = absurd h
going_on (Counted x) m β (on e c h) = (omega arith, ap takes_events e ∙ sym (lt-ltb _ _ h))
going_on (Counted x) m β (over e h) = (omega arith, ap takes_events e ∙ sym (le-ltb m x (omega arith)))

-- a change that leaves the two alone
kept : (l : RunLength) (m : ℕ) (r s : Run) → s.running ≡ r.running → s.trigger_counter ≡ r.trigger_counter → Going l m r → Going l m s
kept l m r s p q (on e c h) = on (p ∙ e) (q ∙ c) h
kept l m r s p q (over e h) = over (p ∙ e) h

-- ---- a trigger that is accepted

-- the counted run's Xth ends it; before, the run goes on with one more
going_more : (l : RunLength) (m : ℕ) (r : Run) → r.running ≡ running_for l → r.trigger_counter ≡ m → More l m → Going l (suc m) (after_trigger r)
going_more Endless m r e c h =
    subst (Going Endless (suc m)) (sym (after-another r (ap (λ (q : Running). is_last q (trigger_number r)) e))) (on e (omega arith) tt)
going_more (Counted x) m r e c h = go (eqb (trigger_number r) x) refl
  where
    go : (t : Bool) → eqb (trigger_number r) x ≡ t → Going (Counted x) (suc m) (after_trigger r)
    go true p =
        let n = eqb-true (trigger_number r) x p in
        subst (Going (Counted x) (suc m)) (sym (after_last r (ap (λ (q : Running). is_last q (trigger_number r)) e ∙ p))) (over refl (omega arith))
    go false p =
        let n = eqb-false (trigger_number r) x p in
        subst (Going (Counted x) (suc m)) (sym (after-another r (ap (λ (q : Running). is_last q (trigger_number r)) e ∙ p))) (on e (omega arith) (omega arith))

-- ---- one call

-- the numbers that a call gives after m triggers: none, or the next one
data Next (l : RunLength) (m : ℕ) (given-here : List ℕ) (r : Run) : Type 0 where
  same : given-here ≡ [] → Going l m r → Next l m given-here r
  one_more : given-here ≡ suc m ∷ [] → Going l (suc m) r → Next l m given-here r

next-trigger : (l : RunLength) (m : ℕ) (r : Run) (f : Fields) (out : List ℕ) → Going l m r
    → Next l m (where_given (trigger_answer r f out) (trigger_number r)) (after_answer r (trigger_answer r f out))
next-trigger l m r f out g = go (trigger_answer r f out) (accepted-running r f out) g
  where
    go : (a : Answer ℕ) → ((n : ℕ) → a ≡ given n → not (is_running r) ≡ false) → Going l m r → Next l m (where_given a (trigger_number r)) (after_answer r a)
    go (given n) running (on e c h) = one_more (ap (λ (k : ℕ). k ∷ []) (omega arith)) (going_more l m r e c h)
    go (given n) running (over e h) = false≢true (sym (running n refl) ∙ ap (λ (q : Running). not (takes_events q)) e)
    go (refused n p) running q = same refl q

going-command : (l : RunLength) (m : ℕ) (β : Board) (block : List ℕ) (a : Answer Command) → is_start_or_stop a ≡ false → Going l m β.run
    → Going l m (after_command β block a).run
unfolding with_run written pinged
going-command l m β block (given (Read kind)) e g = g
going-command l m β block (given Write) e g = kept l m β.run (written β block).run refl refl g
going-command l m β block (given (Start run)) e g = false≢true (sym e)
going-command l m β block (given Stop) e g = false≢true (sym e)
going-command l m β block (given Ping) e g = g
going-command l m β block (given (CrateReset c)) e g = kept l m β.run (after_crate_reset β.run) refl refl g
going-command l m β block (refused n p) e g = g

next-call : (l : RunLength) (m : ℕ) (β : Board) (x : Call) → Free is_start_or_stop false β x → Going l m β.run → Next l m (number_of β x) (after_call β x).run
unfolding after_call with_run clocked_run
next-call l m β (command words) free g = same refl (going-command l m β (block_of words) (board_answer β words) free g)
next-call l m β (clock_step ticks) free g = same refl (kept l m β.run (clocked_run β.run ticks) refl refl g)
next-call l m β (trigger fields out) free g = next-trigger l m β.run fields out g
next-call l m β (hand_in c event out) free g = same refl (rw (replied-run β c _ out) g)
next-call l m β begin_rates free g = same refl (rw (begun-run β (begin_answer β)) g)

-- ---- and many

record Counts (l : RunLength) (m : ℕ) (β : Board) (xs : List Call) : Type 0 where
  rising : numbers β xs ≡ up_from (suc m) (length (numbers β xs))
  ending : Going l (m + length (numbers β xs)) (after_all β xs).run

counts : (l : RunLength) (m : ℕ) (β : Board) (xs : List Call) → no_start_or_stop β xs ≡ true → Going l m β.run → Counts l m β xs
counts l m β [] e g = record { rising = refl; ending = subst (λ (k : ℕ). Going l k β.run) (omega arith) g }
counts l m β (x ∷ xs) e g =
    let first = none_first is_start_or_stop false β x xs e in
    go (next-call l m β x first.0 g) (λ k. counts l k (after_call β x) xs first.1)
  where
    go : Next l m (number_of β x) (after_call β x).run → ((k : ℕ) → Going l k (after_call β x).run → Counts l k (after_call β x) xs) → Counts l m β (x ∷ xs)
    go (same q h) more =
        let c = more m h in
        record { rising = rw q c.rising; ending = rw q c.ending }
    go (one_more q h) more =
        let c = more (suc m) h in
        record {
          rising = rw q (ap (λ (k : List ℕ). suc m ∷ k) c.rising);
          ending = rw q (subst (λ (k : ℕ). Going l k (after_all (after_call β x) xs).run) (omega arith) c.ending);
        }

-- ---- from an accepted start

-- "X is 0" is refused
more-at-first : (l : RunLength) → no_events (Start l) ≡ false → More l 0
more-at-first Endless e = tt
more-at-first (Counted x) e = let n = eqb-false x 0 e in omega arith

going_start : (β : Board) (w : List ℕ) (l : RunLength) → board_answer β w ≡ given (Start l) → Going l 0 (board_after β w).run
unfolding with_run
going_start β w l e =
    subst (λ (a : Answer Command). Going l 0 (after_command β (block_of w) a).run) (sym e)
    (on refl refl (more-at-first l (accepted-events β w (Start l) e)))

-- 01, Trigger packets
pub numbered : (β : Board) (w : List ℕ) (l : RunLength) → board_answer β w ≡ given (Start l)
    → (xs : List Call) → no_start_or_stop (board_after β w) xs ≡ true → Numbered l (board_after β w) xs
numbered β w l e xs free =
    let c = counts l 0 (board_after β w) xs free (going_start β w l e) in
    let end = after_all (board_after β w) xs in
    record {
      rising = c.rising;
      ending = subst (λ (m : ℕ). GoesOn l m end) (omega arith) (going_on l (0 + length (numbers (board_after β w) xs)) end c.ending);
    }
