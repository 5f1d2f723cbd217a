-- A field of the board, such as the stored block, stays through calls among which none is accepted that sets it (`field-stays`).
-- Assumes nothing.
use Prim.Native.Nat.{ℕ}
use mathlib.Core.Path.{◌≡◌, refl, ◌∙◌}
use mathlib.Core.Bool.{Bool, true, false, ◌&&◌}
use mathlib.Core.List.{List}
use Rattle.refusals.specs.Tables.{Answer, given, refused}
use Rattle.commands.specs.declared.Command.{Command}
use Rattle.commands.specs.declared.Command.TheVariants.{Read, Write, Start, Stop, Ping, CrateReset}
use Rattle.crate_pass.specs.declared.Crate.{Crate}
use Rattle.run.specs.declared.Run.{Run}
use Rattle.board.specs.State.{with_run, with_crates}
use Rattle.command_reader.specs.Reading.{block_of}
use Rattle.board.specs.Commands.{board_answer, written, pinged, after_command}
use Rattle.board.specs.RatePass.{rates_begun, begin_answer, after_begin}
use Rattle.board.specs.declared.Board.{Board}
use Rattle.reachable.specs.Calls.{Call, command, clock_step, trigger, hand_in, begin_rates, after_call, after_all, begins, none_gets}
use Rattle.reachable.proofs.OneCall.{Free, kept-by-calls, replied-rest, only-first}

-- `such` and `rates`: the commands among the calls that set the field, and whether the begin of a rate pass does
module _ {A : Type 0} (field : Board → A) (such : Answer Command → Bool) (rates : Bool) where
  -- what is asked of the field, and of these
  pub record Unset : Type 0 where
    pub run : (β : Board) (r : Run) → field (with_run β r) ≡ field β
    pub crates : (β : Board) (cs : List Crate) → field (with_crates β cs) ≡ field β
    pub write : (β : Board) (block : List ℕ) → such (given Write) ≡ false → field (written β block) ≡ field β
    pub ping : (β : Board) → such (given Ping) ≡ false → field (pinged β) ≡ field β
    pub rate : (β : Board) → rates ≡ false → field (rates_begun β) ≡ field β

  module _ (unset : Unset) where
    command-keeps : (β : Board) (block : List ℕ) (a : Answer Command) → such a ≡ false → field (after_command β block a) ≡ field β
    command-keeps β block (given (Read kind)) e = refl
    command-keeps β block (given Write) e = unset.write β block e
    command-keeps β block (given (Start run)) e = unset.run β _
    command-keeps β block (given Stop) e = unset.run β _
    command-keeps β block (given Ping) e = unset.ping β e
    command-keeps β block (given (CrateReset c)) e = unset.run β _
    command-keeps β block (refused n p) e = refl

    begin-keeps : (β : Board) (a : Answer Unit) → (rates && begins a) ≡ false → field (after_begin β a) ≡ field β
    begin-keeps β (given t) e = unset.rate β (only-first rates e)
    begin-keeps β (refused n p) e = refl

    call-keeps : (β : Board) (x : Call) → Free such rates β x → field (after_call β x) ≡ field β
    unfolding after_call
    call-keeps β (command words) free = command-keeps β (block_of words) (board_answer β words) free
    call-keeps β (clock_step ticks) free = unset.run β _
    call-keeps β (trigger fields out) free = unset.run β _
    call-keeps β (hand_in c event out) free = rw (replied-rest β c _ out) (unset.crates β _)
    call-keeps β begin_rates free = begin-keeps β (begin_answer β) free

    pub field-stays : (β : Board) (xs : List Call) → none_gets such rates β xs ≡ true → field (after_all β xs) ≡ field β
    field-stays β xs e = kept-by-calls such rates (λ (γ : Board). field γ ≡ field β) (λ γ x free k. call-keeps γ x free ∙ k) β xs e refl
