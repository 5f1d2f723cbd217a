-- What is printed of bytes and words that a call wrote: all that is due, since the lent arrays have room for it.
-- Assumes nothing.
use Prim.Native.Nat.{ℕ, ◌≤◌}
use mathlib.Core.Path.{◌≡◌, sym, ap, ◌∙◌}
use mathlib.Core.List.{List}
use lib.ListN.{length, take}
use Rattle.std.specs.Prelude.{Result, Ok, Err}
use Rattle.refusals.specs.Refusals.{number_of, place_of}
use Rattle.refusals.specs.Tables.{Rule, lowest, answer_of}
use Rattle.refusals.specs.Writing.{WroteBy, writing_rules, Wrote}
use Rattle.refusals.proofs.Tables.{Clear, clear-given, refused-any}
use Rattle.refusals.proofs.Writing.{wrote-front, clear-by, refused-by-table, room-lowest}
use Rattle.texts.specs.Texts.{Printed}
use Rattle.responses.specs.Responses.{due_printed, written_printed}
use Rattle.refusals.specs.declared.Refusal.{Refusal}

-- what a writer answered is what is due, or why not
pub table-response : (print : List ℕ → Printed) (table : List Rule) (due out after : List ℕ) (w : Result ℕ Refusal) → WroteBy table due out w after
    → written_printed (λ n. print (take n after)) (answer_of w) ≡ due_printed print (lowest table due)
table-response print table due out after (Ok n) h =
    ap print (wrote-front table due out n after h) ∙ sym (ap (due_printed print) (clear-given table due (clear-by table due out n after h)))
table-response print table due out after (Err r) h =
    sym (ap (due_printed print) (refused-any table 0 due (number_of r) (place_of r) (refused-by-table table due out r after h)))

-- and 19 is left out of it, where the lent output has room for what is due
pub due-response : (print : List ℕ → Printed) (rules : List Rule) (due out : List ℕ) → (Clear rules → length due ≤ length out)
    → (after : List ℕ) (w : Result ℕ Refusal)
    → Wrote rules due out w after → written_printed (λ n. print (take n after)) (answer_of w) ≡ due_printed print (lowest rules due)
due-response print rules due out room after w h =
    table-response print (writing_rules rules due out) due out after w h ∙ ap (due_printed print) (room-lowest rules due out due room)
