-- 01, Blocks sent out, and 02, i: the four blocks that a board sends.
use Rattle.std.specs.Prelude.{ℕ, ◌/◌, ◌%◌, List, [], ◌∷◌, Result}
use Rattle.refusals.specs.Tables.{Rule, rule}
use Rattle.blocks.specs.Blocks.{dynamic_body, failure_body, WroteBlock, WroteStatic, WroteDynamic}
use Rattle.blocks.specs.declared.Header.{Header}
use Rattle.ftu_list.specs.List.{list_body}
use Rattle.ftu_list.specs.declared.FtuList.{FtuList}
use Rattle.steps.specs.Steps.{step_frame}
use Rattle.four_crates.specs.FourCrates.{in_pass, entries_of, record_at, no_such_record}
use Rattle.four_crates.specs.declared.Failure.{Failure}
use Rattle.board.specs.State.{finished_rates}
use Rattle.board.specs.declared.Board.{Board}
use Rattle.refusals.specs.declared.Refusal.{Refusal}

-- what a header says of the board
abbrev pub header_of : Board → Header
header_of β =
    record {
      board_id = β.identity.board_id;
      firmware_id = β.identity.firmware_id;
      trigger_counter = β.run.trigger_counter;
      timestamp = β.run.timestamp;
    }

-- dynamic block: on-time, the lent temperatures, and "the rates of the last finished rate pass" (02, i)
abbrev pub dynamic_body_of : Board → List ℕ → List ℕ
dynamic_body_of β temperatures = dynamic_body β.run.on_time temperatures (finished_rates β)

-- "9: .. list or records asked for during a pass"
abbrev pub list_rules : Board → List Rule
list_rules β = rule 9 (in_pass β.crates) ∷ []

-- the FTU list: the active words as the last ping began, and what the boards answered
abbrev pub list_of : Board → FtuList
list_of β = record { active = β.active; entries = entries_of β.crates }

-- 9 in the same way, then 18
abbrev pub failure_rules : Board → ℕ → List Rule
failure_rules β n = rule 9 (in_pass β.crates) ∷ no_such_record β.crates n ∷ []

-- the frame that failed. The stored block is still the one that it was made from: a write, which alone changes it, clears the records
abbrev pub failed_frame : Board → Failure → List ℕ
failed_frame β f = step_frame β.block (f.k / 10) (f.k % 10) f.code

-- failure message: three calls were made, "after the third send of a step fails"
abbrev pub failure_body_of : Board → ℕ → List ℕ
failure_body_of β n = failure_body 3 (failed_frame β (record_at β.crates n))

-- ---- what each call answers and leaves, of the lent words `out`

-- the static block: the stored 436 words
abbrev pub SendsStatic : Board → List ℕ → Result ℕ Refusal → List ℕ → Type 0
SendsStatic β out r after = WroteStatic (header_of β) β.block out r after

abbrev pub SendsDynamic : Board → List ℕ → List ℕ → Result ℕ Refusal → List ℕ → Type 0
SendsDynamic β temperatures out r after = WroteDynamic (header_of β) β.run.on_time temperatures (finished_rates β) out r after

abbrev pub SendsList : Board → List ℕ → Result ℕ Refusal → List ℕ → Type 0
SendsList β out r after = WroteBlock (list_rules β) 249 (header_of β) (list_body (list_of β)) out r after

abbrev pub SendsFailure : Board → ℕ → List ℕ → Result ℕ Refusal → List ℕ → Type 0
SendsFailure β n out r after = WroteBlock (failure_rules β n) 29 (header_of β) (failure_body_of β n) out r after
