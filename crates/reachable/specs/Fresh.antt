-- 01, Command words: a start is accepted when the board is "idle and fresh". What it gets, through any calls, after a write and, by 02, b, after a crate
-- reset.
use Rattle.std.specs.Prelude.{ℕ, ◌≡◌, true, false, List, take, Ok}
use Rattle.refusals.specs.Tables.{Answer, given, refused, answer_of}
use Rattle.commands.specs.declared.Command.{Command}
use Rattle.commands.specs.declared.Command.TheVariants.{Start}
use Rattle.commands.specs.declared.RunLength.{RunLength}
use Rattle.command_reader.specs.Reading.{taken, command_answer}
use Rattle.block_reader.specs.declared.Kind.TheVariants.{Static}
use Rattle.round_trips.specs.Blocks.{as_sent, ReadsBack}
use Rattle.run.specs.Run.{is_fresh}
use Rattle.board.specs.State.{is_idle}
use Rattle.board.specs.Commands.{Obeys}
use Rattle.board.specs.SentOut.{header_of, SendsStatic}
use Rattle.board.specs.declared.Board.{Board}
use Rattle.board.specs.declared.CommandResult.{CommandResult}

-- what `obey` answers, while the board is idle, to every start that its words do not refuse
abbrev pub IdleStartGets : Board → (RunLength → Answer Command) → Type 0
IdleStartGets β answer =
    is_idle β ≡ true → (w : List ℕ) (l : RunLength) (n : ℕ) → command_answer w ≡ given (taken (Start l) n)
    → (r : CommandResult) → Obeys β w r → answer_of r.answer ≡ answer l

-- `static_block` gives this body wherever it is accepted: its words read back with it
abbrev pub StaticReadsBack : Board → List ℕ → Type 0
StaticReadsBack β body = (out after : List ℕ) (n : ℕ) → SendsStatic β out (Ok n) after → ReadsBack Static (take n after) (as_sent (header_of β)) body

-- 02, b: "a start needs a new write. The stored block still reads back"
pub record NeedsWrite (stored : List ℕ) (β : Board) : Type 0 where
  pub not-fresh : is_fresh β.run.freshness ≡ false
  -- "a start that is otherwise accepted gets 10"
  pub start : IdleStartGets β (λ l. refused 10 0)
  pub block : β.block ≡ stored
  pub reads : StaticReadsBack β stored

-- the counterpart: a start is accepted as soon as the board is idle
pub record NeedsNoWrite (β : Board) : Type 0 where
  pub fresh : is_fresh β.run.freshness ≡ true
  pub start : IdleStartGets β (λ l. given (Start l))
