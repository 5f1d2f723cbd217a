-- 01, Examples: "The listing program .. obeys them on a fresh board whose FTUs are always silent".
use Rattle.std.specs.Prelude.{ℕ, zero, suc, ◌*◌, ◌-◌, Bool, cond, not, ◌&&◌, List, [], ◌∷◌, ◌++◌, ltb, eqb, length, drop, replicate}
use Rattle.refusals.specs.Tables.{answer_number}
use Rattle.words.specs.Words.{words_in}
use Rattle.command_reader.specs.Reading.{command_answer, used_of}
use Rattle.steps.specs.Steps.{no_reply}
use Rattle.board.specs.State.{fresh_board}
use Rattle.board.specs.Commands.{board_answer, board_after}
use Rattle.board.specs.SlowControl.{board_replied}
use Rattle.board.specs.declared.Board.{Board}
use Rattle.stream.specs.declared.Listing.{Listing}

-- a time-up on crate c, with room for a frame
abbrev pub timed_up : ℕ → Board → Board
timed_up c β = board_replied β c no_reply (replicate 28 0)

-- n of them
unfoldable pub time_ups : ℕ → ℕ → Board → Board
time_ups zero c β = β
time_ups (suc n) c β = time_ups n c (timed_up c β)

-- "each pass runs out before the next command": three sends to each of ten boards end any pass on a crate (proofs/RunOut.antt, `runs-out`).
-- Time-ups where nothing is outstanding change nothing
unfoldable pub ran_out : Board → Board
ran_out β = time_ups 30 3 (time_ups 30 2 (time_ups 30 1 (time_ups 30 0 β)))

-- "It stops after a 1 to 8"
abbrev pub stops : ℕ → Bool
stops n = not (eqb n 0) && ltb n 9

-- the number that the first command in bytes gets
abbrev pub number_for : Board → List ℕ → ℕ
number_for β bytes = answer_number (board_answer β (words_in bytes))

-- the bytes after it: "Words after a command belong to the next"
abbrev pub bytes_after : List ℕ → List ℕ
bytes_after bytes = drop (2 * used_of (command_answer (words_in bytes))) bytes

-- The answers to the commands in bytes on a board, m at most; it stops "when no byte is left"
unfoldable pub answers_to : ℕ → Board → List ℕ → List ℕ
answers_to zero β bytes = []
answers_to (suc m) β [] = []
answers_to (suc m) β (b ∷ bs) =
    number_for β (b ∷ bs)
    ∷ cond (stops (number_for β (b ∷ bs))) [] (answers_to m (ran_out (board_after β (words_in (b ∷ bs)))) (bytes_after (b ∷ bs)))

-- those of all its commands, which are no more than its bytes (proofs/Answers.antt, `answers-any`), on a fresh board
unfoldable pub answers_on : List ℕ → List ℕ
answers_on bytes = answers_to (length bytes) (fresh_board 0 0) bytes

-- a listing of answers whose first has an ordinal
unfoldable pub listing_from : ℕ → List ℕ → Listing
listing_from first l = record { first = first; count = length l; answers = l ++ replicate (6554 - length l) 0 }

-- "Longer input gives the one line `0 6`"; else the ordinals begin with 1
unfoldable pub listed : List ℕ → Listing
listed bytes = cond (ltb 65536 (length bytes)) (listing_from 0 (6 ∷ [])) (listing_from 1 (answers_on bytes))

-- as much of the input as is read: one byte more than "at most 65,536". No more of it matters (proofs/Input.antt, `front-listed`)
unfoldable pub input_bytes : ℕ
input_bytes = 65537
