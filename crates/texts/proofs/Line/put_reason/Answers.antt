-- `texts::Line::put_reason` meets its contract. Assumes nothing.
use Prim.Native.Nat.{ℕ}
use mathlib.Core.Path.{◌≡◌}
use mathlib.Core.List.{List, ◌∷◌, ◌++◌, append_assoc}
use lib.Dec.{lit≤}
use Rattle.explanations.specs.Explaining.{explained_number, reason_meaning}
use Rattle.explanations.specs.declared.Reason.{Reason}
use Rattle.texts.specs.Characters.{ascii}
use Rattle.texts.specs.Texts.{decimal, reason_fields, spaced, fields_of, explanation}
use Rattle.texts.proofs.Laws.{digit, ten}
use Rattle.texts.proofs.Line.put_reason.Goals as goal

-- what was put, with the number as characters, is what is printed of the reason
said : {r s : Reason} {next : List ℕ} (line listed number : List ℕ) → r ≡ s → decimal (explained_number (reason_meaning s listed)) ≡ number
    → next ≡ line ++ spaced (number ∷ reason_fields (reason_meaning s listed))
    → next ≡ line ++ spaced (fields_of (explanation (reason_meaning r listed)))
said line listed number h n e = rw (h, n) e

pub returns-in-TooFewWords-clause-text : goal.returns-in-TooFewWords-clause-text
returns-in-TooFewWords-clause-text c =
    said c.args.self.now c.args.listed.now (ascii "1") c.in-TooFewWords.is (digit 1 (lit≤ tt))
    (rw (c.put_decimal.ensures.text, c.put-in-TooFewWords.ensures) (simp append_assoc))

pub returns-in-WrongLength-clause-text : goal.returns-in-WrongLength-clause-text
returns-in-WrongLength-clause-text c =
    said c.args.self.now c.args.listed.now (ascii "6") c.in-WrongLength.is (digit 6 (lit≤ tt))
    (rw (c.put_decimal-in-WrongLength.ensures.text, c.put-in-WrongLength.ensures) (simp append_assoc))

pub returns-in-AboveBound-clause-text : goal.returns-in-AboveBound-clause-text
returns-in-AboveBound-clause-text c =
    said c.args.self.now c.args.listed.now (ascii "8") c.in-AboveBound.is (digit 8 (lit≤ tt)) c.put_fault-in-AboveBound.ensures.text

pub returns-in-NotAcceptedNow-clause-text : goal.returns-in-NotAcceptedNow-clause-text
returns-in-NotAcceptedNow-clause-text c =
    said c.args.self.now c.args.listed.now (ascii "9") c.in-NotAcceptedNow.is (digit 9 (lit≤ tt))
    (rw (c.put_activity.ensures.text, c.put-in-NotAcceptedNow.ensures) (simp append_assoc))

pub returns-in-NotFresh-clause-text : goal.returns-in-NotFresh-clause-text
returns-in-NotFresh-clause-text c =
    said c.args.self.now c.args.listed.now (ascii "10") c.in-NotFresh.is ten
    (rw (c.put-in-NotFresh-2.ensures, c.put-in-NotFresh.ensures, c.freshness_name.ensures.name) (simp append_assoc))
