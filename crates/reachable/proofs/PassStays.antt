-- What a pass left stays until the next begins (`pass-stays`), which clears it (`records-cleared`); before any there is none (`no-number-before`).
-- Assumes nothing.
use Prim.Native.Nat.{ℕ, zero, suc, ◌<◌}
use mathlib.Core.Path.{◌≡◌, refl, sym, ap, ◌∙◌, subst}
use mathlib.Core.Bool.{Bool, true, false}
use mathlib.Core.List.{List, []}
use native.Mathlib.Omega.{arith}
use lib.Dec.{ltb}
use borrow.Author.Tests.{ltb-true, ltb-false}
use Rattle.refusals.specs.Tables.{Answer, given, refused}
use Rattle.refusals.specs.Writing.{writing_by}
use Rattle.refusals.proofs.Writing.{wrote-front}
use Rattle.commands.specs.declared.Command.{Command}
use Rattle.commands.specs.declared.Command.TheVariants.{Read, Write, Start, Stop, Ping, CrateReset}
use Rattle.blocks.specs.Blocks.{header_words, block_rules}
use Rattle.steps.specs.declared.Judged.{Judged}
use Rattle.run.specs.declared.Run.{Run}
use Rattle.four_crates.specs.FourCrates.{in_pass, sent_on, failed_at, records}
use Rattle.four_crates.proofs.Records.{records-begun}
use Rattle.board.specs.State.{with_run, finished_rates, fresh_board}
use Rattle.command_reader.specs.Reading.{block_of}
use Rattle.board.specs.Commands.{board_answer, written, pinged, carried_out, after_command, board_after}
use Rattle.board.specs.SlowControl.{board_replied, sent_answer}
use Rattle.board.specs.RatePass.{rates_begun, begin_answer, after_begin, board_begun}
use Rattle.board.specs.declared.Board.{Board}
use Rattle.board.proofs.Serving.{board-high}
use Rattle.reachable.specs.Calls.{Call, command, clock_step, trigger, hand_in, begin_rates, after_call, after_all, begins_pass, is_write_or_ping, no_pass_begun}
use Rattle.reachable.specs.Stays.{PassStays}
use Rattle.reachable.proofs.OneCall.{false≢true, Free, kept-by-calls, not-begun}
use Rattle.reachable.proofs.OnPasses.{all_done_lem, replied-done}

-- ---- with no frame outstanding, a call that begins no pass changes the run alone

pub command-run : (β : Board) (block : List ℕ) (a : Answer Command) → is_write_or_ping a ≡ false
    → after_command β block a ≡ with_run β (after_command β block a).run
unfolding with_run
command-run β block (given (Read kind)) e = refl
command-run β block (given Write) e = false≢true (sym e)
command-run β block (given (Start run)) e = refl
command-run β block (given Stop) e = refl
command-run β block (given Ping) e = false≢true (sym e)
command-run β block (given (CrateReset c)) e = refl
command-run β block (refused n p) e = refl

-- nothing is outstanding on any crate, or there is no such crate
pub replied-same : (β : Board) (c : ℕ) (h : Judged) (lent : List ℕ) → in_pass β.crates ≡ false → board_replied β c h lent ≡ β
replied-same β c h lent d = go (ltb c 4) refl
  where
    go : (t : Bool) → ltb c 4 ≡ t → board_replied β c h lent ≡ β
    go true p = let l = ltb-true c 4 p in replied-done β c h lent l (all_done_lem β.crates d c l)
    go false p = board-high β c h lent (ltb-false c 4 p)

replied-run : (β : Board) (c : ℕ) (h : Judged) (lent : List ℕ) → in_pass β.crates ≡ false
    → board_replied β c h lent ≡ with_run β (board_replied β c h lent).run
unfolding with_run
replied-run β c h lent d = let e = replied-same β c h lent d in e ∙ ap (λ (γ : Board). with_run β γ.run) (sym e)

call-run : (β : Board) (x : Call) → in_pass β.crates ≡ false → Free is_write_or_ping true β x → after_call β x ≡ with_run β (after_call β x).run
unfolding after_call with_run
call-run β (command words) d free = command-run β (block_of words) (board_answer β words) free
call-run β (clock_step ticks) d free = refl
call-run β (trigger fields out) d free = refl
call-run β (hand_in c event out) d free = replied-run β c _ out d
call-run β begin_rates d free = let e = not-begun β (begin_answer β) free in e ∙ ap (λ (γ : Board). with_run β γ.run) (sym e)

-- the second board is the first but for the run
abbrev RunAlone : Board → Board → Type 0
RunAlone β γ = γ ≡ with_run β γ.run

one_more : (β : Board) → in_pass β.crates ≡ false → (γ : Board) (x : Call) → Free is_write_or_ping true γ x → RunAlone β γ → RunAlone β (after_call γ x)
unfolding with_run
one_more β d γ x free k =
    call-run γ x (ap (λ (δ : Board). in_pass δ.crates) k ∙ d) free ∙ ap (λ (δ : Board). with_run δ (after_call γ x).run) k

calls-run : (β : Board) (xs : List Call) → in_pass β.crates ≡ false → no_pass_begun β xs ≡ true → RunAlone β (after_all β xs)
unfolding with_run
calls-run β xs d e = kept-by-calls is_write_or_ping true (RunAlone β) (one_more β d) β xs e refl

-- ---- so what the last pass left stays

pub stays-run : (β : Board) (r : Run) → PassStays β (with_run β r)
unfolding with_run writing_by block_rules header_words finished_rates
stays-run β r =
    record {
      number = λ c. refl;
      kept = refl;
      frame = λ f. refl;
      answer = λ n out. refl;
      message = λ n out after m w. wrote-front _ _ out m after w.wrote;
      rates = refl;
      rest = refl;
    }

-- 01, Slow control: "The number stays after the pass until the next begins", and records "are cleared when a pass begins"
pub pass-stays : (now : Board) (xs : List Call) → in_pass now.crates ≡ false → no_pass_begun now xs ≡ true → PassStays now (after_all now xs)
pass-stays now xs d e = subst (PassStays now) (sym (calls-run now xs d e)) (stays-run now (after_all now xs).run)

-- ---- until the next begins

carried-records : (β : Board) (block : List ℕ) (c : Command) → begins_pass c ≡ true → records (carried_out β block c).crates ≡ []
unfolding written pinged
carried-records β block (Read kind) p = false≢true p
carried-records β block Write p = records-begun _ _ β.crates
carried-records β block (Start run) p = false≢true p
carried-records β block Stop p = false≢true p
carried-records β block Ping p = records-begun _ _ β.crates
carried-records β block (CrateReset c) p = false≢true p

pub records-cleared : (β : Board) (w : List ℕ) (c : Command) → board_answer β w ≡ given c → begins_pass c ≡ true → records (board_after β w).crates ≡ []
records-cleared β w c e p = ap (λ (a : Answer Command). records (after_command β (block_of w) a).crates) e ∙ carried-records β (block_of w) c p

pub rates-records-cleared : (β : Board) → begin_answer β ≡ given tt → records (board_begun β).crates ≡ []
unfolding rates_begun
rates-records-cleared β e = ap (λ (a : Answer Unit). records (after_begin β a).crates) e ∙ records-begun _ _ β.crates

-- ---- before any pass: the number "is 0 before any", and there are "no failure records"

module _ (id firmware : ℕ) (xs : List Call) (free : no_pass_begun (fresh_board id firmware) xs ≡ true) where
  since-power-up : PassStays (fresh_board id firmware) (after_all (fresh_board id firmware) xs)
  unfolding fresh_board in_pass
  since-power-up = pass-stays (fresh_board id firmware) xs refl free

  none-sent : (c : ℕ) → c < 4 → sent_answer (fresh_board id firmware) c ≡ given 0
  unfolding fresh_board sent_on
  none-sent zero h = refl
  none-sent (suc zero) h = refl
  none-sent (suc (suc zero)) h = refl
  none-sent (suc (suc (suc zero))) h = refl
  none-sent (suc (suc (suc (suc c)))) h = absurd (omega arith)

  pub no-number-before : (c : ℕ) → c < 4 → sent_answer (after_all (fresh_board id firmware) xs) c ≡ given 0
  no-number-before c h = since-power-up.number c ∙ none-sent c h

  pub no-record-before : records (after_all (fresh_board id firmware) xs).crates ≡ []
  unfolding fresh_board records failed_at
  no-record-before = since-power-up.kept
