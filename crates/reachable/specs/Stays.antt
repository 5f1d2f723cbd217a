-- What stays from one pass to the next, from one ping to the next, and from one rate pass to the next, as the calls give it.
use Rattle.std.specs.Prelude.{ℕ, ◌≡◌, true, false, ◌&&◌, List, ◌++◌, ◌⊎◌, take, replicate, Ok}
use Rattle.refusals.specs.Tables.{Answer}
use Rattle.refusals.specs.Writing.{writing_by}
use Rattle.blocks.specs.Blocks.{header_words, block_rules, dynamic_body}
use Rattle.crate_pass.specs.Crate.{clears_list, is_rate_pass}
use Rattle.four_crates.specs.FourCrates.{in_pass, records}
use Rattle.four_crates.specs.declared.Failure.{Failure}
use Rattle.board.specs.State.{with_run, finished_rates}
use Rattle.board.specs.SlowControl.{sent_answer}
use Rattle.board.specs.SentOut.{header_of, failure_rules, failed_frame, failure_body_of, SendsDynamic, SendsList, SendsFailure}
use Rattle.board.specs.declared.Board.{Board}

-- the words that a call wrote are the board's header, and then the body
abbrev pub IsBlock : Board → List ℕ → List ℕ → Type 0
IsBlock β body words = words ≡ header_words (header_of β) ++ body

-- `ftu_list` gives this body wherever it is accepted
abbrev pub GivesList : Board → List ℕ → Type 0
GivesList β body = (out after : List ℕ) (n : ℕ) → SendsList β out (Ok n) after → IsBlock β body (take n after)

-- "The list at power-up is 249 zeros"
abbrev pub list_at_power_up : List ℕ
list_at_power_up = replicate 249 0

-- `failure_message` gives this body for an ordinal wherever it is accepted
abbrev pub GivesMessage : Board → ℕ → List ℕ → Type 0
GivesMessage β n body = (out after : List ℕ) (m : ℕ) → SendsFailure β n out (Ok m) after → IsBlock β body (take m after)

-- what it answers, with `out` lent
abbrev pub message_answer : Board → ℕ → List ℕ → Answer ℕ
message_answer β n out =
    writing_by (block_rules (failure_rules β n) (header_of β) (failure_body_of β n) out) (header_words (header_of β) ++ failure_body_of β n)

-- no ping is under way: the last pass begun is no ping, or no frame is outstanding
abbrev pub NoPingUnderWay : Board → Type 0
NoPingUnderWay β = (clears_list β.kind ≡ false) ⊎ (in_pass β.crates ≡ false)

-- 02, i: `dynamic_block` gives these rates wherever it is accepted, with whatever temperatures
abbrev pub GivesRates : Board → List ℕ → Type 0
GivesRates β rates =
    (t out after : List ℕ) (n : ℕ) → SendsDynamic β t out (Ok n) after → IsBlock β (dynamic_body β.run.on_time t rates) (take n after)

-- "zeros before the first": twelve words for each of forty boards
abbrev pub rates_at_power_up : List ℕ
rates_at_power_up = replicate 480 0

-- a rate pass is under way, and none is
abbrev pub RatesUnderWay : Board → Type 0
RatesUnderWay β = (is_rate_pass β.kind && in_pass β.crates) ≡ true

abbrev pub NoRatesUnderWay : Board → Type 0
NoRatesUnderWay β = (is_rate_pass β.kind ≡ false) ⊎ (in_pass β.crates ≡ false)

-- what the last pass left in the state `now` is there in the state `later`
pub record PassStays (now later : Board) : Type 0 where
  -- "The number stays after the pass until the next begins": what `frames_sent` answers
  pub number : (c : ℕ) → sent_answer later c ≡ sent_answer now c
  -- records "are cleared when a pass begins", and until then they stay, and so do the frames that they are made of
  pub kept : records later.crates ≡ records now.crates
  pub frame : (f : Failure) → failed_frame later f ≡ failed_frame now f
  -- so `failure_message` answers the same for every ordinal, and gives the same body
  pub answer : (n : ℕ) (out : List ℕ) → message_answer later n out ≡ message_answer now n out
  pub message : (n : ℕ) → GivesMessage later n (failure_body_of now n)
  -- 02, i: the finished rates, which `dynamic_block` gives
  pub rates : finished_rates later ≡ finished_rates now
  -- nothing but the run has changed
  pub rest : later ≡ with_run now later.run
