-- Replies and time-ups on the board after one command, and in a rate pass after it.
-- Assumes nothing.
use Prim.Native.Nat.{ℕ}
use mathlib.Core.Path.{◌≡◌, ap, ◌∙◌}
use mathlib.Core.List.{List}
use Rattle.steps.specs.declared.Event.{Event}
use Rattle.steps.specs.declared.Event.TheVariants.{Reply}
use Rattle.board.specs.State.{fresh_board}
use Rattle.board.specs.RatePass.{board_begun, Begins}
use Rattle.board.specs.declared.Board.{Board}
use Rattle.board.specs.declared.BeginResult.{BeginResult}
use Rattle.stream.specs.Stream.{ran_out}
use Rattle.call_refusals.specs.CallRefusals.{pass_refusal}
use Rattle.command_series.specs.Series.{first_refusal, ObeysAll}
use Rattle.command_series.specs.declared.AfterCommands.{AfterCommands}
use Rattle.reply_series.specs.Series.{Counts, with_pass, CountsGood}
use Rattle.exports.specs.Exports.{after_one, rates_after_one}

module _ (w : List ℕ) (b : AfterCommands) (obeyed : ObeysAll 1 w b) where
  pub counted-after : (event : Event) (items frame : List ℕ) (r : ℕ) (after : List ℕ)
      → Counts event b.board items frame r after → Counts event (after_one w) items frame r after
  counted-after event items frame r after c = rw obeyed.board at c

  pub good-after : (items frame : List ℕ) (r : ℕ) (after : List ℕ)
      → CountsGood b.board.block b.board.kind b.board.crates items frame r after → Counts Reply (after_one w) items frame r after
  unfolding with_pass
  good-after items frame r after c = counted-after Reply items frame r after (c b.board)

  -- and in a rate pass, from the board r on which the pass ran out
  pub rates-counted : (r : Board) → r ≡ ran_out b.board → (begun : BeginResult) → Begins r begun → (items frame : List ℕ) (n : ℕ) (after : List ℕ)
      → Counts Reply begun.board items frame n after → Counts Reply (rates_after_one w) items frame n after
  unfolding rates_after_one
  rates-counted r e begun o items frame n after c =
      rw (o.board ∙ ap board_begun (e ∙ ap ran_out obeyed.board)) at c

  -- what refuses the call
  pub pass-refused : (n room r : ℕ) → r ≡ pass_refusal b.refusal n room → r ≡ pass_refusal (first_refusal 1 (fresh_board 0 0) w) n room
  pass-refused n room r e = e ∙ ap (λ (k : ℕ). pass_refusal k n room) obeyed.refusal
