-- 02, d: "the first frame's fetch also gets 12 once that crate has had a counted reply or time-up in this pass", through any calls.
use Rattle.std.specs.Prelude.{ℕ, ◌≡◌, List, Result}
use Rattle.refusals.specs.Tables.{is_given, refused, answer_of}
use Rattle.board.specs.SlowControl.{reply_answer, Fetches}
use Rattle.board.specs.declared.Board.{Board}
use Rattle.any_order.specs.Steps.{Event}
use Rattle.any_order.specs.AnyOrder.{judged_on}
use Rattle.refusals.specs.declared.Refusal.{Refusal}

-- a reply or a time-up on crate c is counted: `hand_in` does not refuse it
abbrev pub Counts : Board → ℕ → Event → List ℕ → Type 0
Counts β c e lent = is_given (reply_answer β c (judged_on β c e) lent) ≡ 1

-- what `first_frame` answers for crate c, whatever is lent: 12, and the bytes are left
abbrev pub NoFirstFrame : Board → ℕ → Type 0
NoFirstFrame β c = (lent : List ℕ) (r : Result ℕ Refusal) (after : List ℕ) → Fetches β c lent r after → (answer_of r ≡ refused 12 0) × (after ≡ lent)
