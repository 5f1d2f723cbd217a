-- Replay script: what is printed for an answer, and which response prints it.
use Rattle.std.specs.Prelude.{ℕ, ◌≡◌, cond, List, [], ◌∷◌, eqb, take}
use Rattle.refusals.specs.Tables.{Answer, given, refused}
use Rattle.commands.specs.declared.Command.{Command}
use Rattle.crate_pass.specs.declared.Outcome.{Outcome}
use Rattle.texts.specs.declared.Response.{Response}
use Rattle.texts.specs.Texts.{Printed, numbers, done, served, in_bytes, in_words, next_frame, response_meaning}

-- ---- what is printed

-- "the number, and for 8 the place after it"
abbrev pub refusal_printed : ℕ → ℕ → Printed
refusal_printed n p = numbers (cond (eqb n 8) (n ∷ p ∷ []) (n ∷ []))

-- "Refused: the number and the words used, and for 8 the place"
abbrev pub command_printed : ℕ → Answer Command → Printed
command_printed used (given c) = done used c
command_printed used (refused n p) = numbers (cond (eqb n 8) (n ∷ used ∷ p ∷ []) (n ∷ used ∷ []))

-- an outcome, and the frame that is then due
abbrev pub outcome_printed : Answer Outcome → List ℕ → Printed
outcome_printed (given o) due = served o due
outcome_printed (refused n p) due = refusal_printed n p

-- bytes or words that are due, printed in their way
abbrev pub due_printed : (List ℕ → Printed) → Answer (List ℕ) → Printed
due_printed print (given due) = print due
due_printed print (refused n p) = refusal_printed n p

-- what a writer answered: how much it wrote, printed in its way
abbrev pub written_printed : (ℕ → Printed) → Answer ℕ → Printed
written_printed print (given n) = print n
written_printed print (refused n p) = refusal_printed n p

-- ---- which response prints it

-- s prints this, whatever bytes and words stand beside it
abbrev pub Prints : Response → Printed → Type 0
Prints s r = (bytes words : List ℕ) → response_meaning s bytes words ≡ r

-- s prints what a reply or a time-up got, with the lent bytes beside it
abbrev pub PrintsOutcome : Response → Answer Outcome → Type 0
PrintsOutcome s (given o) = (bytes words : List ℕ) → response_meaning s bytes words ≡ served o (next_frame o bytes)
PrintsOutcome s (refused n p) = Prints s (refusal_printed n p)

-- s prints what a writer answered, whose bytes, or words, stand beside it
abbrev pub PrintsWrittenBytes : Response → Answer ℕ → Type 0
PrintsWrittenBytes s a = (bytes words : List ℕ) → response_meaning s bytes words ≡ written_printed (λ n. in_bytes (take n bytes)) a

abbrev pub PrintsWrittenWords : Response → Answer ℕ → Type 0
PrintsWrittenWords s a = (bytes words : List ℕ) → response_meaning s bytes words ≡ written_printed (λ n. in_words (take n words)) a
