-- 02, b: after an accepted crate reset a start needs a new write (`reset-needs-write`), and the stored block stays (`reset-keeps-block`). After an accepted
-- write a start needs no other until a start or a crate reset is accepted (`write-stays-fresh`). From any state, through any calls.
-- Assumes nothing.
use Prim.Native.Nat.{ℕ}
use mathlib.Core.Path.{◌≡◌, refl, sym, ap, ◌∙◌, subst}
use mathlib.Core.Bool.{Bool, true, false}
use mathlib.Core.List.{List}
use Rattle.refusals.specs.Tables.{Answer, given, refused}
use Rattle.commands.specs.Commands as commands
use Rattle.commands.specs.declared.Command.{Command}
use Rattle.commands.specs.declared.Command.TheVariants.{Read, Write, Start, Stop, Ping, CrateReset}
use Rattle.command_reader.specs.Reading.{block_of}
use Rattle.acceptance.proofs.Deciding.{by_state}
use Rattle.round_trips.proofs.Blocks.{static-back}
use Rattle.run.specs.Run.{is_fresh, used_by}
use Rattle.run.specs.declared.Freshness.{Freshness}
use Rattle.run.specs.declared.Freshness.TheVariants.{NeverWritten, Fresh, UsedByRun, UsedByReset}
use Rattle.board.specs.State.{with_run, status_of}
use Rattle.board.specs.Commands.{board_answer, written, after_command, board_after}
use Rattle.board.specs.SentOut.{header_of}
use Rattle.board.specs.declared.Board.{Board}
use Rattle.reachable.specs.Calls.{Call, command, clock_step, trigger, hand_in, begin_rates, after_call, after_all}
use Rattle.reachable.specs.Calls.{start_or_reset, accepted, none_gets, no_write, no_start_or_reset}
use Rattle.reachable.specs.Why.{where_accepted, accepted_by}
use Rattle.reachable.specs.Fresh.{StaticReadsBack, NeedsWrite, NeedsNoWrite}
use Rattle.reachable.proofs.OneCall.{false≢true, Free, kept-by-calls}
use Rattle.reachable.proofs.Freshness.{used_after, after-call}
use Rattle.reachable.proofs.Kept.{calls-keep, block-kept}

-- ---- fresh stays as it is, set or not, through calls among which no command is accepted that changes it

-- the commands that change fresh, where it is b
abbrev changes : Bool → Command → Bool
changes true c = start_or_reset c
changes false c = commands.is_write c

-- what is used up is not fresh, whatever it was
used-up : (f : Freshness) → (is_fresh (used_by UsedByRun f) ≡ false) × (is_fresh (used_by UsedByReset f) ≡ false)
used-up NeverWritten = (refl, refl)
used-up Fresh = (refl, refl)
used-up UsedByRun = (refl, refl)
used-up UsedByReset = (refl, refl)

command-fresh : (b : Bool) (a : Answer Command) (f : Freshness) → accepted (changes b) a ≡ false → is_fresh f ≡ b
    → is_fresh (used_after (where_accepted a) f) ≡ b
command-fresh b (given (Read kind)) f e h = h
command-fresh true (given Write) f e h = refl
command-fresh false (given Write) f e h = false≢true (sym e)
command-fresh true (given (Start run)) f e h = false≢true (sym e)
command-fresh false (given (Start run)) f e h = (used-up f).0
command-fresh b (given Stop) f e h = h
command-fresh b (given Ping) f e h = h
command-fresh true (given (CrateReset c)) f e h = false≢true (sym e)
command-fresh false (given (CrateReset c)) f e h = (used-up f).1
command-fresh b (refused n p) f e h = h

abbrev board_fresh : Board → Bool
board_fresh β = is_fresh β.run.freshness

call-fresh : (b : Bool) (β : Board) (x : Call) → Free (accepted (changes b)) false β x → board_fresh β ≡ b → board_fresh (after_call β x) ≡ b
call-fresh b β x free h = ap is_fresh (after-call β x) ∙ go x free
  where
    go : (y : Call) → Free (accepted (changes b)) false β y → is_fresh (used_after (accepted_by β y) β.run.freshness) ≡ b
    go (command words) free = command-fresh b (board_answer β words) β.run.freshness free h
    go (clock_step ticks) free = h
    go (trigger fields out) free = h
    go (hand_in c event out) free = h
    go begin_rates free = h

calls-fresh : (b : Bool) (β : Board) (xs : List Call) → none_gets (accepted (changes b)) false β xs ≡ true → board_fresh β ≡ b
    → board_fresh (after_all β xs) ≡ b
calls-fresh b β xs e f = kept-by-calls (accepted (changes b)) false (λ (γ : Board). board_fresh γ ≡ b) (call-fresh b) β xs e f

-- ---- so a start gets 10, or is accepted

needs-write : (β : Board) (stored : List ℕ) → board_fresh β ≡ false → β.block ≡ stored → NeedsWrite stored β
needs-write β stored f k =
    record {
      not-fresh = f;
      start = λ idle w l n e r o. o.answer ∙ by_state w (status_of β) (Start l) n e ∙ rw (idle, f) refl;
      block = k;
      reads = subst (StaticReadsBack β) k (λ out after n sent. static-back (header_of β) out n after β.block sent);
    }

needs-no-write : (β : Board) → board_fresh β ≡ true → NeedsNoWrite β
needs-no-write β f = record { fresh = f; start = λ idle w l n e r o. o.answer ∙ by_state w (status_of β) (Start l) n e ∙ rw (idle, f) refl }

-- ---- after a crate reset

module _ (β : Board) (w : List ℕ) (c : ℕ) (e : board_answer β w ≡ given (CrateReset c)) (xs : List Call) (free : no_write (board_after β w) xs ≡ true) where
  after-reset : board_after β w ≡ after_command β (block_of w) (given (CrateReset c))
  after-reset = ap (after_command β (block_of w)) e

  pub reset-needs-write : NeedsWrite β.block (after_all (board_after β w) xs)
  unfolding with_run
  reset-needs-write =
      needs-write (after_all (board_after β w) xs) β.block
      (calls-fresh false (board_after β w) xs free (ap board_fresh after-reset ∙ (used-up β.run.freshness).1))
      (calls-keep (board_after β w) xs free ∙ ap (λ (γ : Board). γ.block) after-reset)

-- ---- after a write, from which calls lead to the state `now`

module _ (β : Board) (v : List ℕ) (e : board_answer β v ≡ given Write) (ys : List Call) where
  abbrev now : Board
  now = after_all (board_after β v) ys

  -- a crate reset leaves the block of the last accepted write
  pub reset-keeps-block : no_write (board_after β v) ys ≡ true → (w : List ℕ) (c : ℕ) → board_answer now w ≡ given (CrateReset c)
      → (xs : List Call) → no_write (board_after now w) xs ≡ true → NeedsWrite (block_of v) (after_all (board_after now w) xs)
  reset-keeps-block free w c r xs none =
      subst (λ (stored : List ℕ). NeedsWrite stored (after_all (board_after now w) xs)) (block-kept β v e ys free) (reset-needs-write now w c r xs none)

  -- without one, and without a start, a start needs no other write
  pub write-stays-fresh : no_start_or_reset (board_after β v) ys ≡ true → NeedsNoWrite now
  unfolding written
  write-stays-fresh free =
      needs-no-write now (calls-fresh true (board_after β v) ys free (ap (λ (a : Answer Command). board_fresh (after_command β (block_of v) a)) e))
