-- Calls on a board, one after another: "In each call the board's state goes in and the next state comes out".
use Rattle.std.specs.Prelude.{ℕ, Bool, true, false, ◌&&◌, ◌||◌, not, List, [], ◌∷◌}
use Rattle.refusals.specs.Tables.{Answer, given, refused}
use Rattle.packets.specs.declared.Fields.{Fields}
use Rattle.commands.specs.Commands as commands
use Rattle.commands.specs.declared.Command.{Command}
use Rattle.commands.specs.declared.Command.TheVariants.{Read, Write, Start, Stop, Ping, CrateReset}
use Rattle.board.specs.Commands.{board_answer, board_after, after_trigger_on, after_clock_step}
use Rattle.board.specs.SlowControl.{board_replied}
use Rattle.board.specs.RatePass.{begin_answer, board_begun}
use Rattle.board.specs.declared.Board.{Board}
use Rattle.any_order.specs.Steps.{Event}
use Rattle.any_order.specs.AnyOrder.{judged_on}

-- the calls that take a state to the next, with what the caller gives and lends (`hand_in`: a reply or a time-up; `begin_rates`: the begin of a rate pass);
-- the others change no state
pub data Call : Type 0 where
  command : List ℕ → Call
  clock_step : ℕ → Call
  trigger : Fields → List ℕ → Call
  hand_in : ℕ → Event → List ℕ → Call
  begin_rates : Call

-- the next state, as the calls promise it
unfoldable pub after_call : Board → Call → Board
after_call β (command words) = board_after β words
after_call β (clock_step ticks) = after_clock_step β ticks
after_call β (trigger fields out) = after_trigger_on β fields out
after_call β (hand_in c event out) = board_replied β c (judged_on β c event) out
after_call β begin_rates = board_begun β

abbrev pub after_all : Board → List Call → Board
after_all β [] = β
after_all β (x ∷ xs) = after_all (after_call β x) xs

-- ---- which commands were accepted

abbrev pub ping : Command → Bool
ping (Read kind) = false
ping Write = false
ping (Start run) = false
ping Stop = false
ping Ping = true
ping (CrateReset c) = false

abbrev pub start_or_stop : Command → Bool
start_or_stop (Read kind) = false
start_or_stop Write = false
start_or_stop (Start run) = true
start_or_stop Stop = true
start_or_stop Ping = false
start_or_stop (CrateReset c) = false

-- "A start clears fresh", and by 02, b, so does a crate reset
abbrev pub start_or_reset : Command → Bool
start_or_reset (Read kind) = false
start_or_reset Write = false
start_or_reset (Start run) = true
start_or_reset Stop = false
start_or_reset Ping = false
start_or_reset (CrateReset c) = true

-- the commands that begin a pass; a rate pass is begun by no command
abbrev pub begins_pass : Command → Bool
begins_pass c = commands.is_write c || ping c

-- whether such a command was accepted
abbrev pub accepted : (Command → Bool) → Answer Command → Bool
accepted such (given c) = such c
accepted such (refused n p) = false

abbrev pub is_write : Answer Command → Bool
is_write a = accepted commands.is_write a

abbrev pub is_ping : Answer Command → Bool
is_ping a = accepted ping a

abbrev pub is_write_or_ping : Answer Command → Bool
is_write_or_ping a = accepted begins_pass a

abbrev pub is_start_or_stop : Answer Command → Bool
is_start_or_stop a = accepted start_or_stop a

abbrev pub is_start_or_reset : Answer Command → Bool
is_start_or_reset a = accepted start_or_reset a

-- no command at all
abbrev pub none : Answer Command → Bool
none a = false

-- whether a rate pass begins
abbrev pub begins : Answer Unit → Bool
begins (given t) = true
begins (refused n p) = false

-- whether no call among these is a command that gets such an answer, nor, where `rates` says so, begins a rate pass
abbrev pub none_gets : (Answer Command → Bool) → Bool → Board → List Call → Bool
none_gets such rates β [] = true
none_gets such rates β (command words ∷ xs) = not (such (board_answer β words)) && none_gets such rates (after_call β (command words)) xs
none_gets such rates β (clock_step ticks ∷ xs) = none_gets such rates (after_call β (clock_step ticks)) xs
none_gets such rates β (trigger fields out ∷ xs) = none_gets such rates (after_call β (trigger fields out)) xs
none_gets such rates β (hand_in c event out ∷ xs) = none_gets such rates (after_call β (hand_in c event out)) xs
none_gets such rates β (begin_rates ∷ xs) = not (rates && begins (begin_answer β)) && none_gets such rates (after_call β begin_rates) xs

abbrev pub no_write : Board → List Call → Bool
no_write β xs = none_gets is_write false β xs

abbrev pub no_ping : Board → List Call → Bool
no_ping β xs = none_gets is_ping false β xs

-- no write, no ping and no rate pass
abbrev pub no_pass_begun : Board → List Call → Bool
no_pass_begun β xs = none_gets is_write_or_ping true β xs

abbrev pub no_rates_begun : Board → List Call → Bool
no_rates_begun β xs = none_gets none true β xs

abbrev pub no_start_or_stop : Board → List Call → Bool
no_start_or_stop β xs = none_gets is_start_or_stop false β xs

abbrev pub no_start_or_reset : Board → List Call → Bool
no_start_or_reset β xs = none_gets is_start_or_reset false β xs
