-- 01, Command words: the column "accepted when", and the refusals 9 and 10.
use Rattle.std.specs.Prelude.{ℕ, ◌≡◌, Bool, false, not, ◌&&◌, List, [], ◌∷◌, ◌++◌}
use Rattle.refusals.specs.Tables.{Answer, Rule, rule, lowest, answer_of}
use Rattle.commands.specs.declared.Command.{Command}
use Rattle.commands.specs.declared.Command.TheVariants.{Read, Write, Start, Stop, Ping, CrateReset}
use Rattle.command_reader.specs.Reading.{read_rules, command_in, command_answer, used_of}
use Rattle.acceptance.specs.declared.Status.{Status}
use Rattle.acceptance.specs.declared.Decision.{Decision}

-- the column "accepted when", where it is not so; of a start, without "and fresh"
abbrev pub not_now : Command → Status → Bool
not_now (Read kind) s = false
not_now Write s = not s.idle
not_now (Start run) s = not s.idle
not_now Stop s = not s.running
not_now Ping s = not s.idle
not_now (CrateReset c) s = not s.idle

-- "idle, start without fresh"
abbrev pub not_fresh : Command → Status → Bool
not_fresh (Read kind) s = false
not_fresh Write s = false
not_fresh (Start run) s = s.idle && not s.fresh
not_fresh Stop s = false
not_fresh Ping s = false
not_fresh (CrateReset c) s = false

-- the refusals by the state: "a command .. not accepted in this state", then "idle, start without fresh"
abbrev pub state_rules : Command → Status → List Rule
state_rules c s = rule 9 (not_now c s) ∷ rule 10 (not_fresh c s) ∷ []

-- the refusals of a command: 1 to 8 by its words, then 9 and 10 by the state
abbrev pub command_rules : List ℕ → Status → List Rule
command_rules w s = read_rules w ++ state_rules (command_in w) s

unfoldable pub decided : List ℕ → Status → Answer Command
decided w s = lowest (command_rules w s) (command_in w)

-- The decision d. "1 to 8 use no words of a command; 9 and 10 use the whole command": the words used are those that reading the command uses
pub record Decides (w : List ℕ) (s : Status) (d : Decision) : Type 0 where
  pub answer : answer_of d.answer ≡ decided w s
  pub used : d.used ≡ used_of (command_answer w)
