-- Replay script: what each order prints, and the board after it.
use Rattle.std.specs.Prelude.{ℕ, ◌≡◌, List, [], ◌∷◌, ◌++◌, length, replicate}
use Rattle.refusals.specs.Tables.{Answer, given, refused, Rule, lowest}
use Rattle.packets.specs.Packets.{packet_bytes}
use Rattle.blocks.specs.Blocks.{header_words, static_rules, temperature_rules, wrong_id}
use Rattle.ftu_list.specs.List.{list_body}
use Rattle.command_reader.specs.Reading.{command_answer, used_of}
use Rattle.steps.specs.declared.Event.{Event}
use Rattle.steps.specs.declared.Event.TheVariants.{Reply, TimeUp}
use Rattle.crate_pass.specs.Crate.{frame_due}
use Rattle.run.specs.Run.{trigger_number, trigger_rules, after_answer}
use Rattle.board.specs.State.{fresh_board, with_run, power_up_answer}
use Rattle.board.specs.Commands.{board_answer, board_after, after_clock_step}
use Rattle.board.specs.Explaining.{explained_on}
use Rattle.board.specs.SlowControl.{frame_at, judged_at, moved_at, reply_answer, board_replied, fetch_rules, sent_answer}
use Rattle.board.specs.RatePass.{begin_answer, board_begun}
use Rattle.board.specs.SentOut.{header_of, dynamic_body_of, list_rules, list_of, failure_rules, failure_body_of}
use Rattle.board.specs.declared.Board.{Board}
use Rattle.script.specs.Script.{Line, passed_over, order, malformed}
use Rattle.texts.specs.Texts.{Printed, question, numbers, in_bytes, in_words, explanation, text_of, in_front}
use Rattle.responses.specs.Responses.{refusal_printed, command_printed, outcome_printed, due_printed}
use Rattle.far_end.specs.FarEnd.{far_end_printed}
use Rattle.exchange.specs.Orders.{Order, power_up, command, clock_step, trigger, reply, time_up, begin_rates, first_frame, frames_sent}
use Rattle.exchange.specs.Orders.{static, ftu_list, failure, dynamic, explain, far_end, other_form, order_of}
use Rattle.exchange.specs.declared.ServedLine.{ServedLine}

-- ---- what is printed

-- `P`: "`0`; or `20`"; `B` (02, i): "`0` or `9`"
abbrev pub accepted_printed : Answer Unit → Printed
accepted_printed (given t) = numbers (0 ∷ [])
accepted_printed (refused n p) = refusal_printed n p

abbrev pub sent_printed : Answer ℕ → Printed
sent_printed (given n) = numbers (0 ∷ n ∷ [])
sent_printed (refused n p) = refusal_printed n p

-- a block with these rows of its own and this body: the words lent have room for every block, so 19 is left out
abbrev pub block_printed : Board → List Rule → List ℕ → Printed
block_printed β own body = due_printed in_words (lowest (own ++ (wrong_id (header_of β) ∷ [])) (header_words (header_of β) ++ body))

-- `R` and `T`: "with 28 bytes lent for the next frame", which hold zeros
abbrev pub lent_bytes : List ℕ
lent_bytes = replicate 28 0

-- a reply or a time-up on crate c: the outcome, and the frame that is then due there
abbrev pub event_printed : Board → ℕ → Event → List ℕ → Printed
event_printed β c event bytes =
    let h = judged_at β c event bytes in
    outcome_printed (reply_answer β c h lent_bytes) (frame_due β.block c (moved_at β c h).state)

unfoldable pub printed_answer : Board → Order → Printed
printed_answer β (power_up id firmware) = accepted_printed (power_up_answer id)
printed_answer β (command w) = command_printed (used_of (command_answer w)) (board_answer β w)
printed_answer β (clock_step ticks) = numbers (0 ∷ [])
printed_answer β (trigger f) = due_printed in_bytes (lowest (trigger_rules β.run f) (packet_bytes (trigger_number β.run) f))
printed_answer β (reply c bytes) = event_printed β c Reply bytes
printed_answer β (time_up c) = event_printed β c TimeUp []
printed_answer β begin_rates = accepted_printed (begin_answer β)
printed_answer β (first_frame c) = due_printed in_bytes (lowest (fetch_rules β c) (frame_at β c))
printed_answer β (frames_sent c) = sent_printed (sent_answer β c)
printed_answer β static = block_printed β (static_rules β.block) β.block
printed_answer β ftu_list = block_printed β (list_rules β) (list_body (list_of β))
printed_answer β (failure n) = block_printed β (failure_rules β n) (failure_body_of β n)
printed_answer β (dynamic t) = block_printed β (temperature_rules t) (dynamic_body_of β t)
printed_answer β (explain w) = explanation (explained_on β w)
printed_answer β (far_end o) = far_end_printed o
printed_answer β other_form = question

-- ---- the board after it

-- "`0`; or `20`, and the board that stood there stays"
abbrev pub after_power_up : Board → ℕ → ℕ → Answer Unit → Board
after_power_up β id firmware (given t) = fresh_board id firmware
after_power_up β id firmware (refused n p) = β

abbrev pub after_event : Board → ℕ → Event → List ℕ → Board
after_event β c event bytes = board_replied β c (judged_at β c event bytes) lent_bytes

unfoldable pub board_after_order : Board → Order → Board
board_after_order β (power_up id firmware) = after_power_up β id firmware (power_up_answer id)
board_after_order β (command w) = board_after β w
board_after_order β (clock_step ticks) = after_clock_step β ticks
board_after_order β (trigger f) = with_run β (after_answer β.run (lowest (trigger_rules β.run f) 7))
board_after_order β (reply c bytes) = after_event β c Reply bytes
board_after_order β (time_up c) = after_event β c TimeUp []
board_after_order β begin_rates = board_begun β
board_after_order β (first_frame c) = β
board_after_order β (frames_sent c) = β
board_after_order β static = β
board_after_order β ftu_list = β
board_after_order β (failure n) = β
board_after_order β (dynamic t) = β
board_after_order β (explain w) = β
board_after_order β (far_end o) = β
board_after_order β other_form = β

-- ---- a line

-- the line printed, and nothing for a line that is passed over
unfoldable pub printed_for : Board → Line → List ℕ
printed_for β passed_over = []
printed_for β (order letter bytes) = text_of (printed_answer β (order_of letter bytes))
printed_for β malformed = text_of question

-- "prints `?` and changes nothing"
unfoldable pub board_after_line : Board → Line → Board
board_after_line β passed_over = β
board_after_line β (order letter bytes) = board_after_order β (order_of letter bytes)
board_after_line β malformed = β

-- a line was served: what is printed stands at the front of the text, whose rest is as it was
pub record ServesLine (β : Board) (l : Line) (text : List ℕ) (s : ServedLine) (after : List ℕ) : Type 0 where
  pub length : s.length ≡ length (printed_for β l)
  pub printed : after ≡ in_front (printed_for β l) text
  pub board : s.board ≡ board_after_line β l
