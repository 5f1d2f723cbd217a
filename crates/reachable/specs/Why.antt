-- 02, c, over the contracts of the public calls, from any state (`TrueOfCalls`); and over whole sequences of calls, why nothing is fresh.
use Rattle.std.specs.Prelude.{ℕ, ◌<◌, ◌≤◌, ◌≡◌, Bool, true, false, cond, ◌||◌, List, [], ◌∷◌, ◌++◌, ltb, eqb, length, get_or}
use Rattle.refusals.specs.Tables.{Answer, given, refused, answer_number, answer_of}
use Rattle.commands.specs.Commands.{is_write}
use Rattle.commands.specs.declared.Command.{Command}
use Rattle.commands.specs.declared.Command.TheVariants.{Read, Write, Start, Stop, Ping, CrateReset}
use Rattle.commands.specs.declared.RunLength.{RunLength}
use Rattle.command_reader.specs.Reading.{taken, command_answer}
use Rattle.run.specs.Run.{is_running, is_fresh}
use Rattle.run.specs.declared.Freshness.{Freshness}
use Rattle.run.specs.declared.Freshness.TheVariants.{NeverWritten, Fresh, UsedByRun, UsedByReset}
use Rattle.four_crates.specs.FourCrates.{in_pass}
use Rattle.explanations.specs.Explaining.{activity_of, AllowedThere, is_allowed, Explained, accepted, missing, at_fault, in_state, not_fresh}
use Rattle.explanations.specs.Explaining.{explained_number, position, first_place, allowed_at, explanation_meaning, Explains}
use Rattle.explanations.specs.TrueReason.{names, put}
use Rattle.explanations.specs.declared.Activity.{Activity}
use Rattle.explanations.specs.declared.Explanation.{Explanation}
use Rattle.board.specs.State.{is_idle}
use Rattle.board.specs.Commands.{board_answer, Obeys}
use Rattle.board.specs.Explaining.{explained_on}
use Rattle.board.specs.declared.Board.{Board}
use Rattle.board.specs.declared.CommandResult.{CommandResult}
use Rattle.reachable.specs.Calls.{Call, command, clock_step, trigger, hand_in, begin_rates, after_call}

-- ---- the true reason, as `explain` and `obey` give it

-- "Where one word is named": what stands there, that it is at fault and the lowest, and that just the allowed numbers remove that refusal there
pub record TrueWordOfCalls (β : Board) (w : List ℕ) (n place stands : ℕ) (allowed : AllowedThere) : Type 0 where
  pub there : position n place < length w
  pub word : get_or w (position n place) 0 ≡ stands
  pub fault : is_allowed allowed stands ≡ false
  pub lowest : (q : ℕ) → first_place n ≤ q → q < place → is_allowed (allowed_at n w q) (get_or w (position n q) 0) ≡ true
  pub gone : (x : ℕ) → is_allowed allowed x ≡ true → (e : Explanation) → Explains (explained_on β (put n w place x)) e
      → names n place (explanation_meaning e) ≡ false
  pub only : (x : ℕ) → x < 65536 → is_allowed allowed x ≡ false → (e : Explanation) → Explains (explained_on β (put n w place x)) e
      → names n place (explanation_meaning e) ≡ true

-- e is what `explain` gives for the words w on the board β, and r what `obey` gives
pub record TrueOfCalls (β : Board) (w : List ℕ) (e : Explanation) (r : CommandResult) : Type 0 where
  -- "the explanation names the refusal that the board itself gives", for 8 with its place
  pub number : explained_number (explanation_meaning e) ≡ answer_number (answer_of r.answer)
  pub eighth : (place stands : ℕ) (allowed : AllowedThere) → explanation_meaning e ≡ at_fault 8 place stands allowed
      → answer_of r.answer ≡ refused 8 place
  -- "Accepted commands are explained as accepted", and no others
  pub accepts : (c : Command) → answer_of r.answer ≡ given c → explanation_meaning e ≡ accepted
  pub accepted-only : explanation_meaning e ≡ accepted → answer_number (answer_of r.answer) ≡ 0
  pub word : (n place stands : ℕ) (allowed : AllowedThere) → explanation_meaning e ≡ at_fault n place stands allowed
      → TrueWordOfCalls β w n place stands allowed
  -- with so many words added, whatever they are, `obey` no longer gives that refusal; with fewer it does
  pub some : (n k : ℕ) → explanation_meaning e ≡ missing n k → 1 ≤ k
  pub added : (n k : ℕ) → explanation_meaning e ≡ missing n k → (more : List ℕ) (s : CommandResult) → Obeys β (w ++ more) s
      → eqb (answer_number (answer_of s.answer)) n ≡ ltb (length more) k
  -- "for 9 the present state, with the kind of pass"
  pub state : (a : Activity) → explanation_meaning e ≡ in_state a → a ≡ activity_of (is_running β.run) (in_pass β.crates) β.kind
  -- for 10, what the state keeps
  pub fresh : (f : Freshness) → explanation_meaning e ≡ not_fresh f → (f ≡ β.run.freshness) × (is_fresh f ≡ false) × (is_idle β ≡ true)

-- ---- "whether nothing was ever written or a run or reset used it up, whichever came first since the last accepted write"

-- the commands that are accepted among calls, in their order
abbrev pub where_accepted : Answer Command → List Command
where_accepted (given c) = c ∷ []
where_accepted (refused n p) = []

abbrev pub accepted_by : Board → Call → List Command
accepted_by β (command words) = where_accepted (board_answer β words)
accepted_by β (clock_step ticks) = []
accepted_by β (trigger fields out) = []
accepted_by β (hand_in c event out) = []
accepted_by β begin_rates = []

abbrev pub accepted_in : Board → List Call → List Command
accepted_in β [] = []
accepted_in β (x ∷ xs) = accepted_by β x ++ accepted_in (after_call β x) xs

abbrev pub any_write : List Command → Bool
any_write [] = false
any_write (c ∷ cs) = is_write c || any_write cs

-- what the first start or crate reset among commands makes of what is fresh
abbrev pub first_use : List Command → Freshness
first_use [] = Fresh
first_use (Read kind ∷ cs) = first_use cs
first_use (Write ∷ cs) = first_use cs
first_use (Start run ∷ cs) = UsedByRun
first_use (Stop ∷ cs) = first_use cs
first_use (Ping ∷ cs) = first_use cs
first_use (CrateReset c ∷ cs) = UsedByReset

-- by the commands after the last write; where there is none, "nothing was ever written"
abbrev pub freshness_by : List Command → Freshness
freshness_by [] = NeverWritten
freshness_by (c ∷ cs) = cond (any_write cs) (freshness_by cs) (cond (is_write c) (first_use cs) NeverWritten)

-- what a start that its words do not refuse is told on an idle board
abbrev pub start_explained : Freshness → Explained
start_explained f = cond (is_fresh f) accepted (not_fresh f)

-- `explain` says so, on the board β
abbrev pub StartExplained : Board → Freshness → Type 0
StartExplained β f =
    is_idle β ≡ true → (w : List ℕ) (l : RunLength) (n : ℕ) → command_answer w ≡ given (taken (Start l) n)
    → (e : Explanation) → Explains (explained_on β w) e → explanation_meaning e ≡ start_explained f
