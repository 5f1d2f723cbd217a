-- "An accepted block reads back identical until the next accepted write" (`block-kept`, `static_kept`).
-- Assumes nothing.
use Prim.Native.Nat.{ℕ, ◌<◌}
use mathlib.Core.Path.{◌≡◌, refl, sym, ◌∙◌, subst}
use mathlib.Core.Bool.{true, false}
use mathlib.Core.List.{List}
use lib.ListN.{take}
use Rattle.std.specs.Prelude.{Ok}
use Rattle.refusals.specs.Tables.{given}
use Rattle.numbers.specs.Numbers.{id_limit}
use Rattle.commands.specs.declared.Command.TheVariants.{Write}
use Rattle.command_reader.specs.Reading.{block_of}
use Rattle.block_reader.specs.declared.Kind.TheVariants.{Static}
use Rattle.round_trips.specs.Blocks.{ReadsBack}
use Rattle.board.specs.State.{with_run, with_crates, fresh_board}
use Rattle.board.specs.Commands.{board_answer, pinged, board_after}
use Rattle.board.specs.RatePass.{rates_begun}
use Rattle.board.specs.declared.Board.{Board}
use Rattle.board.specs.SentOut.{header_of, SendsStatic}
use Rattle.reachable.specs.Calls.{Call, after_all, is_write, no_write}
use Rattle.reachable.specs.Reachable.{Reachable}
use Rattle.reachable.proofs.Holding.{holds-reachable, holds-power-up}
use Rattle.reachable.proofs.States.{holds-command, holds-all}
use Rattle.reachable.proofs.ReadBack.{static-reads}
use Rattle.reachable.proofs.OneCall.{false≢true}
use Rattle.reachable.proofs.FieldStays.{field-stays}
use Rattle.reachable.proofs.Accepted.{written-block}

pub calls-keep : (β : Board) (xs : List Call) → no_write β xs ≡ true → (after_all β xs).block ≡ β.block
unfolding with_run with_crates pinged rates_begun
calls-keep =
    field-stays (λ (γ : Board). γ.block) is_write false
    (record { run = λ β r. refl; crates = λ β cs. refl; write = λ β block e. false≢true (sym e); ping = λ β e. refl; rate = λ β e. refl })

-- whatever else happens after an accepted write, its block is the one that is stored
pub block-kept : (β : Board) (w : List ℕ) → board_answer β w ≡ given Write → (xs : List Call) → no_write (board_after β w) xs ≡ true
    → (after_all (board_after β w) xs).block ≡ block_of w
block-kept β w e xs free = calls-keep (board_after β w) xs free ∙ written-block β w e

-- and the static block that the board then writes reads back with it: from power-up, through any calls, to a write, and on to the state `later`
module _ (id firmware : ℕ) (i : id < id_limit) (f : firmware < 65536) (before : List Call) (w : List ℕ) (xs : List Call) where
  abbrev now : Board
  now = after_all (fresh_board id firmware) before

  abbrev later : Board
  later = after_all (board_after now w) xs

  reachable-later : Reachable later
  reachable-later =
      holds-reachable later
      (holds-all (board_after now w) xs (holds-command now w (holds-all (fresh_board id firmware) before (holds-power-up id firmware i f))))

  pub static_kept : board_answer now w ≡ given Write → no_write (board_after now w) xs ≡ true
      → (out after : List ℕ) (n : ℕ) → SendsStatic later out (Ok n) after → ReadsBack Static (take n after) (header_of later) (block_of w)
  static_kept e free out after n wrote =
      subst (ReadsBack Static (take n after) (header_of later)) (block-kept now w e xs free) (static-reads later reachable-later out after n wrote)
