-- 01, Slow control, as 02, d changes it: replies and time-ups on a board with the next frame, the first frame, and the number of frames sent.
use Rattle.std.specs.Prelude.{ℕ, ◌≡◌, List, set, Result}
use Rattle.refusals.specs.Tables.{Answer, Rule, answer_of}
use Rattle.refusals.specs.Writing.{output_after, Wrote}
use Rattle.configuration.specs.Configuration.{active_word}
use Rattle.steps.specs.Steps.{step_frame, judged_event}
use Rattle.steps.specs.declared.Event.{Event}
use Rattle.steps.specs.declared.Judged.{Judged}
use Rattle.crate_pass.specs.Crate.{moved, unless_refused, served_rules, served_answer, frame_due}
use Rattle.crate_pass.specs.declared.Moved.{Moved}
use Rattle.crate_pass.specs.declared.Outcome.{Outcome}
use Rattle.four_crates.specs.FourCrates.{first_rules, sent_on}
use Rattle.board.specs.State.{crate_at, with_crates}
use Rattle.board.specs.declared.Board.{Board}
use Rattle.board.specs.declared.ReplyResult.{ReplyResult}
use Rattle.refusals.specs.declared.Refusal.{Refusal}

-- the frame of the place where crate i is: its board and code say which
unfoldable pub frame_at : Board → ℕ → List ℕ
frame_at β i = step_frame β.block i (crate_at β i).board (crate_at β i).code

-- ---- replies and time-ups, each "with 28 lent bytes" for the next frame

-- a reply or a time-up on crate i, judged by the frame outstanding there
abbrev pub judged_at : Board → ℕ → Event → List ℕ → Judged
judged_at β i event bytes = judged_event event (frame_at β i) bytes

-- once it is judged, it moves that crate
abbrev pub moved_at : Board → ℕ → Judged → Moved
moved_at β i h = moved β.kind (active_word β.block i) (crate_at β i) h

-- "Refusals: 11, 12, then 19 whenever fewer than 28 bytes are lent"
abbrev pub reply_rules : Board → ℕ → List ℕ → List Rule
reply_rules β i lent = served_rules i (crate_at β i) lent

abbrev pub reply_answer : Board → ℕ → Judged → List ℕ → Answer Outcome
reply_answer β i h lent = served_answer β.kind (active_word β.block i) i (crate_at β i) h lent

-- "The four crates proceed apart": one changes, and nothing else
unfoldable pub board_replied : Board → ℕ → Judged → List ℕ → Board
board_replied β i h lent = unless_refused (reply_answer β i h lent) (with_crates β (set β.crates i (moved_at β i h).state)) β

-- "the next frame, or word that the crate is done and the bytes untouched": the frame that is then outstanding on the crate, where there is one
unfoldable pub bytes_replied : Board → ℕ → Judged → List ℕ → List ℕ
bytes_replied β i h lent = output_after (reply_answer β i h lent) (frame_due β.block i (moved_at β i h).state) lent

-- the board answered r to a reply or a time-up on crate i, judged as h, and the lent bytes became `after`
pub record Replies (β : Board) (i : ℕ) (h : Judged) (lent : List ℕ) (r : ReplyResult) (after : List ℕ) : Type 0 where
  pub answer : answer_of r.answer ≡ reply_answer β i h lent
  pub board : r.board ≡ board_replied β i h lent
  pub bytes : after ≡ bytes_replied β i h lent

-- ---- "the first frame of a pass has its own fetch"

-- 11, then 12
abbrev pub fetch_rules : Board → ℕ → List Rule
fetch_rules β i = first_rules β.crates i

-- the fetch on crate i answered r, with 19 where the lent bytes are too few, and they became `after`
abbrev pub Fetches : Board → ℕ → List ℕ → Result ℕ Refusal → List ℕ → Type 0
Fetches β i lent r after = Wrote (fetch_rules β i) (frame_at β i) lent r after

-- ---- the number of frames sent on a crate

abbrev pub sent_answer : Board → ℕ → Answer ℕ
sent_answer β i = sent_on β.crates i
