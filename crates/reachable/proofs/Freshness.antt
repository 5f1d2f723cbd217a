-- What calls make of the freshness of the configuration: what the commands make of it that are accepted among them (`after-calls`).
-- Assumes nothing.
use Prim.Native.Nat.{ℕ}
use mathlib.Core.Path.{◌≡◌, refl, sym, ap, ◌∙◌}
use mathlib.Core.Bool.{Bool, true, false, cond}
use mathlib.Core.List.{List, [], ◌∷◌, ◌++◌}
use Rattle.refusals.specs.Tables.{Answer, given, refused}
use Rattle.commands.specs.declared.Command.{Command}
use Rattle.commands.specs.declared.Command.TheVariants.{Read, Write, Start, Stop, Ping, CrateReset}
use Rattle.command_reader.specs.Reading.{block_of}
use Rattle.run.specs.Run.{used_by, stopped, clocked_run, trigger_number, is_last, counted, after_trigger, after_answer, trigger_answer}
use Rattle.run.specs.declared.Freshness.{Freshness}
use Rattle.run.specs.declared.Freshness.TheVariants.{Fresh, UsedByRun, UsedByReset}
use Rattle.run.specs.declared.Run.{Run}
use Rattle.board.specs.State.{with_run}
use Rattle.board.specs.Commands.{board_answer, written, pinged, after_command}
use Rattle.board.specs.RatePass.{begin_answer}
use Rattle.board.specs.declared.Board.{Board}
use Rattle.reachable.specs.Calls.{Call, command, clock_step, trigger, hand_in, begin_rates, after_call, after_all}
use Rattle.reachable.specs.Why.{where_accepted, accepted_by, accepted_in}
use Rattle.reachable.proofs.OneCall.{replied-run, begun-run}

-- what an accepted command makes of it
abbrev pub used_on : Command → Freshness → Freshness
used_on (Read kind) f = f
used_on Write f = Fresh
used_on (Start run) f = used_by UsedByRun f
used_on Stop f = f
used_on Ping f = f
used_on (CrateReset c) f = used_by UsedByReset f

-- and what several do, one after another
abbrev pub used_after : List Command → Freshness → Freshness
used_after [] f = f
used_after (c ∷ cs) f = used_after cs (used_on c f)

used-append : (cs ds : List Command) (f : Freshness) → used_after (cs ++ ds) f ≡ used_after ds (used_after cs f)
used-append [] ds f = refl
used-append (c ∷ cs) ds f = used-append cs ds (used_on c f)

-- ---- one call

after-command : (β : Board) (block : List ℕ) (a : Answer Command) → (after_command β block a).run.freshness ≡ used_after (where_accepted a) β.run.freshness
unfolding with_run written pinged
after-command β block (given (Read kind)) = refl
after-command β block (given Write) = refl
after-command β block (given (Start run)) = refl
after-command β block (given Stop) = refl
after-command β block (given Ping) = refl
after-command β block (given (CrateReset c)) = refl
after-command β block (refused n p) = refl

after-trigger : (r : Run) (a : Answer ℕ) → (after_answer r a).freshness ≡ r.freshness
unfolding after_trigger
after-trigger r (given n) = go (is_last r.running (trigger_number r))
  where
    go : (t : Bool) → (cond t (stopped r) (counted r)).freshness ≡ r.freshness
    go true = refl
    go false = refl
after-trigger r (refused n p) = refl

pub after-call : (β : Board) (x : Call) → (after_call β x).run.freshness ≡ used_after (accepted_by β x) β.run.freshness
unfolding after_call with_run clocked_run
after-call β (command words) = after-command β (block_of words) (board_answer β words)
after-call β (clock_step ticks) = refl
after-call β (trigger fields out) = after-trigger β.run (trigger_answer β.run fields out)
after-call β (hand_in c event out) = ap (λ (r : Run). r.freshness) (replied-run β c _ out)
after-call β begin_rates = ap (λ (r : Run). r.freshness) (begun-run β (begin_answer β))

-- ---- any calls

pub after-calls : (β : Board) (xs : List Call) → (after_all β xs).run.freshness ≡ used_after (accepted_in β xs) β.run.freshness
after-calls β [] = refl
after-calls β (x ∷ xs) =
    after-calls (after_call β x) xs
    ∙ ap (used_after (accepted_in (after_call β x) xs)) (after-call β x)
    ∙ sym (used-append (accepted_by β x) (accepted_in (after_call β x) xs) β.run.freshness)
