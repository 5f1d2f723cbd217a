-- 01, Command words, and Trigger packets: commands and triggers on a board.
use Rattle.std.specs.Prelude.{ℕ, ◌≡◌, List}
use Rattle.refusals.specs.Tables.{Answer, given, refused, answer_of}
use Rattle.packets.specs.declared.Fields.{Fields}
use Rattle.commands.specs.declared.Command.{Command}
use Rattle.commands.specs.declared.Command.TheVariants.{Read, Write, Start, Stop, Ping, CrateReset}
use Rattle.command_reader.specs.Reading.{command_answer, used_of, block_of}
use Rattle.acceptance.specs.Acceptance.{decided}
use Rattle.run.specs.Run.{started, stopped, refreshed, after_crate_reset, trigger_answer, after_answer, clocked_run, Gives}
use Rattle.crate_pass.specs.declared.PassKind.{PassKind}
use Rattle.crate_pass.specs.declared.PassKind.TheVariants.{Reprogramming}
use Rattle.four_crates.specs.FourCrates.{begun_all}
use Rattle.board.specs.State.{active_words, status_of, with_run}
use Rattle.board.specs.declared.Board.{Board}
use Rattle.board.specs.declared.CommandResult.{CommandResult}
use Rattle.board.specs.declared.TriggerResult.{TriggerResult}

-- ---- commands

-- what the first command of the words gets
abbrev pub board_answer : Board → List ℕ → Answer Command
board_answer β w = decided w (status_of β)

-- "A write stores the block, sets fresh and begins a reprogramming pass"
unfoldable pub written : Board → List ℕ → Board
written β block =
    record {
      identity = β.identity;
      run = refreshed β.run;
      block = block;
      kind = Reprogramming;
      active = β.active;
      rates = β.rates;
      crates = begun_all Reprogramming (active_words block) β.crates;
    }

-- "the four active words as stored when the ping began"
unfoldable pub pinged : Board → Board
pinged β =
    record {
      identity = β.identity;
      run = β.run;
      block = β.block;
      kind = PassKind.Ping;
      active = active_words β.block;
      rates = β.rates;
      crates = begun_all PassKind.Ping (active_words β.block) β.crates;
    }

-- "A read .. changes no state and tells the caller what to do". 02, b: "an accepted crate reset clears fresh", and nothing else
abbrev pub carried_out : Board → List ℕ → Command → Board
carried_out β block (Read kind) = β
carried_out β block Write = written β block
carried_out β block (Start run) = with_run β (started β.run run)
carried_out β block Stop = with_run β (stopped β.run)
carried_out β block Ping = pinged β
carried_out β block (CrateReset c) = with_run β (after_crate_reset β.run)

-- the board after a command that got the answer: "No refusal changes the state"
abbrev pub after_command : Board → List ℕ → Answer Command → Board
after_command β block (given c) = carried_out β block c
after_command β block (refused n p) = β

abbrev pub board_after : Board → List ℕ → Board
board_after β w = after_command β (block_of w) (board_answer β w)

-- the board answered r, and used the words that reading the command uses
pub record Obeys (β : Board) (w : List ℕ) (r : CommandResult) : Type 0 where
  pub answer : answer_of r.answer ≡ board_answer β w
  pub used : r.used ≡ used_of (command_answer w)
  pub board : r.board ≡ board_after β w

-- ---- clock steps

-- the board after a clock step
abbrev pub after_clock_step : Board → ℕ → Board
after_clock_step β ticks = with_run β (clocked_run β.run ticks)

-- ---- triggers

-- the board after a trigger
abbrev pub after_trigger_on : Board → Fields → List ℕ → Board
after_trigger_on β f out = with_run β (after_answer β.run (trigger_answer β.run f out))

-- the board answered t to a trigger, and the lent bytes `out` became `after`
pub record TriggersOn (β : Board) (f : Fields) (out : List ℕ) (t : TriggerResult) (after : List ℕ) : Type 0 where
  pub packet : Gives β.run f out t.answer after
  pub board : t.board ≡ after_trigger_on β f out
