-- 01, Trigger packets: "The first trigger of a run is 1", and the numbers of those that follow.
use Rattle.std.specs.Prelude.{ℕ, zero, suc, ◌≤◌, ◌≡◌, true, List, [], ◌∷◌, ◌++◌, ltb, length}
use Rattle.refusals.specs.Tables.{Answer, given, refused}
use Rattle.commands.specs.declared.RunLength.{RunLength}
use Rattle.commands.specs.declared.RunLength.TheVariants.{Endless, Counted}
use Rattle.run.specs.Run.{is_running, trigger_number, trigger_answer}
use Rattle.board.specs.declared.Board.{Board}
use Rattle.reachable.specs.Calls.{Call, command, clock_step, trigger, hand_in, begin_rates, after_call, after_all}

-- the number of the packet that a call gives, where it is a trigger that is accepted
abbrev pub where_given : Answer ℕ → ℕ → List ℕ
where_given (given length) number = number ∷ []
where_given (refused n p) number = []

abbrev pub number_of : Board → Call → List ℕ
number_of β (command words) = []
number_of β (clock_step ticks) = []
number_of β (trigger fields out) = where_given (trigger_answer β.run fields out) (trigger_number β.run)
number_of β (hand_in c event out) = []
number_of β begin_rates = []

-- the numbers of the triggers among calls, in their order
abbrev pub numbers : Board → List Call → List ℕ
numbers β [] = []
numbers β (x ∷ xs) = number_of β x ++ numbers (after_call β x) xs

-- m numbers from n on: n, n + 1, n + 2 and so on
abbrev pub up_from : ℕ → ℕ → List ℕ
up_from n zero = []
up_from n (suc m) = n ∷ up_from (suc n) m

-- how a run goes on that was started for some length: an endless one does; "the Xth trigger, ends the run", and no other does
abbrev pub GoesOn : RunLength → ℕ → Board → Type 0
GoesOn Endless m β = is_running β.run ≡ true
GoesOn (Counted x) m β = (m ≤ x) × (is_running β.run ≡ ltb m x)

-- from the state that an accepted start returned, through calls among which no other start or stop is accepted
pub record Numbered (length-asked : RunLength) (start : Board) (xs : List Call) : Type 0 where
  pub rising : numbers start xs ≡ up_from 1 (length (numbers start xs))
  pub ending : GoesOn length-asked (length (numbers start xs)) (after_all start xs)
