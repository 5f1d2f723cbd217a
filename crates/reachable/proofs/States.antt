-- What holds in every state that a board reaches from power-up (`reachable`).
-- Assumes nothing.
use Prim.Native.Nat.{ℕ, ◌<◌}
use mathlib.Core.Path.{◌≡◌, refl}
use mathlib.Core.List.{List, [], ◌∷◌}
use Rattle.refusals.specs.Tables.{Answer, given, refused}
use Rattle.numbers.specs.Numbers.{id_limit}
use Rattle.commands.specs.declared.Command.{Command}
use Rattle.commands.specs.declared.Command.TheVariants.{Read, Write, Start, Stop, Ping, CrateReset}
use Rattle.board.specs.State.{fresh_board}
use Rattle.board.specs.Commands.{board_answer, board_after}
use Rattle.board.specs.declared.Board.{Board}
use Rattle.reachable.specs.Calls.{Call, command, clock_step, trigger, hand_in, begin_rates, after_call, after_all}
use Rattle.reachable.specs.Reachable.{Reachable}
use Rattle.reachable.proofs.Holding.{Holds, holds-reachable, holds-power-up}
use Rattle.reachable.proofs.OnRun.{holds-clock, holds-trigger, holds-start, holds-stop, holds-reset}
use Rattle.reachable.proofs.OnPasses.{holds-write, holds-ping, holds-begin, holds-event}

pub holds-command : (β : Board) (w : List ℕ) → Holds β → Holds (board_after β w)
holds-command β w h = go (board_answer β w) refl
  where
    go : (a : Answer Command) → board_answer β w ≡ a → Holds (board_after β w)
    go (given (Read kind)) e = rw e h
    go (given Write) e = rw e (holds-write β w e h)
    go (given (Start run)) e = rw e (holds-start β w run e h)
    go (given Stop) e = rw e (holds-stop β h)
    go (given Ping) e = rw e (holds-ping β w e h)
    go (given (CrateReset c)) e = rw e (holds-reset β h)
    go (refused n p) e = rw e h

-- ---- all calls

pub holds_kept : (β : Board) (x : Call) → Holds β → Holds (after_call β x)
unfolding after_call
holds_kept β (command words) h = holds-command β words h
holds_kept β (clock_step ticks) h = holds-clock β ticks h
holds_kept β (trigger fields out) h = holds-trigger β fields out h
holds_kept β (hand_in c event out) h = holds-event β c event out h
holds_kept β begin_rates h = holds-begin β h

pub holds-all : (β : Board) (xs : List Call) → Holds β → Holds (after_all β xs)
holds-all β [] h = h
holds-all β (x ∷ xs) h = holds-all (after_call β x) xs (holds_kept β x h)

pub reachable : (id firmware : ℕ) → id < id_limit → firmware < 65536 → (xs : List Call) → Reachable (after_all (fresh_board id firmware) xs)
reachable id firmware i f xs = holds-reachable _ (holds-all (fresh_board id firmware) xs (holds-power-up id firmware i f))
