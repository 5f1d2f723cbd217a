-- What is said for each refusal.
-- Assumes nothing.
use Prim.Native.Nat.{ℕ, ◌+◌, ◌-◌}
use mathlib.Core.Path.{◌≡◌, refl, sym, ap, ap₂, subst, ◌∙◌}
use mathlib.Core.List.{List, [], ◌∷◌}
use lib.ListN.{length, get_or, take, drop, replicate, length-drop}
use lib.Seq.{take_at, take_all, get_or-drop}
use native.Mathlib.Omega.{arith}
use borrow.Author.Tests.{ne_eqb}
use types.Run.{OneOf, miss}
use denote.Enum.Declared.{tag_of}
use Rattle.std.specs.Prelude.{Result}
use Rattle.refusals.specs.Tables.{Answer, refusal_meaning, answer_of}
use Rattle.refusals.specs.declared.Refusal.{Refusal}
use Rattle.refusals.specs.declared.Refusal.TheVariants.{TooFewWords, WrongFirstWord, UnknownCommand, UnlistedParameter, SpareWordNotZero}
use Rattle.refusals.specs.declared.Refusal.TheVariants.{WrongLength, NoEvents, AboveBound, NotAcceptedNow, NotFresh, NoSuchCrate}
use Rattle.refusals.specs.declared.Refusal.TheVariants.{NothingOutstanding, WrongPacketLength, WrongPacketCrc, TriggerFieldOutOfRange}
use Rattle.refusals.specs.declared.Refusal.TheVariants.{NotRunning, TriggerCounterAtEnd, NoSuchRecord, OutputTooShort, WrongHeader}
use Rattle.refusals.specs.contracts.Refusal.{the_type}
use Rattle.commands.specs.Commands.{block_length, parameters_of, listed_as}
use Rattle.commands.specs.declared.Command.{Command}
use Rattle.command_reader.specs.Reading.{count_in, named_in, command_of, command_in}
use Rattle.acceptance.specs.Acceptance.{decided}
use Rattle.acceptance.specs.declared.Status.{Status}
use Rattle.explanations.specs.Explaining.{Explained, accepted, status_in, explained_by, explained, reason_meaning, numbers_in, in_eight, Explains}
use Rattle.explanations.specs.CodeShape.{Lists}
use Rattle.explanations.specs.declared.NumberList.{NumberList}
use Rattle.explanations.specs.declared.Present.{Present}
use Rattle.explanations.specs.declared.Reason.{Reason}
use Rattle.explanations.specs.declared.Reason.TheVariants.{Accepted}
use Rattle.explanations.specs.declared.Explanation.{Explanation}
use Rattle.explanations.proofs.SameRow.{same-named, same_block}

-- ---- the parameters of an ID

pub parameters-are : (i j : ℕ) (l : NumberList) → i ≡ j → Lists (parameters_of j) l → Lists (parameters_of i) l
parameters-are i j l e h = subst (λ (k : ℕ). Lists (parameters_of k) l) (sym e) h

pub no-parameters : (i : ℕ) → (i ≡ 0x01 → ⊥) → (i ≡ 0x02 → ⊥) → (i ≡ 0x04 → ⊥) → (i ≡ 0x08 → ⊥) → (i ≡ 0x10 → ⊥) → (i ≡ 0x20 → ⊥)
    → Lists (parameters_of i) (record { count = 0; listed = replicate 8 0 })
unfolding parameters_of
no-parameters i a b c d e f =
    let none : parameters_of i ≡ [] = simp (ne_eqb _ _ a, ne_eqb _ _ b, ne_eqb _ _ c, ne_eqb _ _ d, ne_eqb _ _ e, ne_eqb _ _ f) in
    rw none (record { count = refl; listed = refl })

-- the code's list for the word that stands there, of the ID i
pub parameters-there : (w : List ℕ) (i : ℕ) (l : NumberList) → i ≡ get_or w 1 0 → Lists (parameters_of i) l → Lists (parameters_of (get_or w 1 0)) l
parameters-there w i l e h = parameters-are (get_or w 1 0) i l (sym e) h

-- and as an explanation lists it
pub says-listed : (ns : List ℕ) (l : NumberList) → Lists ns l → take l.count l.listed ≡ ns
says-listed ns l h = ap₂ (λ (k : ℕ) (m : List ℕ). take k m) h.count h.listed ∙ take_at ns (replicate (8 - length ns) 0) (length ns) refl

-- ---- a word of the block

-- the word at a place of the words after the first five
pub in_block : (w block : List ℕ) (place : ℕ) → block ≡ take (length w - 5) (drop 5 w) → get_or block place 0 ≡ get_or w (5 + place) 0
in_block w block place e =
    ap (λ (l : List ℕ). get_or l place 0) (e ∙ take_all (length w - 5) (drop 5 w) (rw length-drop (omega arith))) ∙ get_or-drop 5 w place 0

-- ---- the words that are due

-- what is listed for the ID and the parameter, with whatever X, says how long the block is
pub block-due : (w : List ℕ) (i p : ℕ) → i ≡ get_or w 1 0 → p ≡ get_or w 2 0 → (a : Answer Command) → a ≡ listed_as i p 0
    → block_length (command_of a) ≡ block_length (command_in w)
block-due w i p ei ep a e =
    ap (λ (b : Answer Command). block_length (command_of b)) (e ∙ ap₂ (λ (j q : ℕ). listed_as j q 0) ei ep)
    ∙ same_block (listed_as (get_or w 1 0) (get_or w 2 0) 0) (named_in w) (same-named (get_or w 1 0) (get_or w 2 0) 0 (count_in w))

-- ---- an explanation that lists no numbers

pub says-unlisted : (reason : Reason) (x : Explained) (e : Explanation) → e ≡ record { reason = reason; listed = replicate 8 0 }
    → reason_meaning reason (replicate 8 0) ≡ x → numbers_in x ≡ [] → Explains x e
says-unlisted reason x e q m n =
    subst (Explains x) (sym q) (record { meaning = m; listed = ap in_eight (sym n) })

-- ---- a refusal, once the code knows which it is

module _ (w : List ℕ) (p : Present) where
  pub because : (r s : Refusal) (e : Explanation) → r ≡ s → Explains (explained_by w p (refusal_meaning s)) e
      → Explains (explained_by w p (refusal_meaning r)) e
  because r s e q h = subst (λ (t : Refusal). Explains (explained_by w p (refusal_meaning t)) e) (sym q) h

  -- the variants after 10, by their order
  abbrev later : List ℕ
  later = 10 ∷ 11 ∷ 12 ∷ 13 ∷ 14 ∷ 15 ∷ 16 ∷ 17 ∷ 18 ∷ 19 ∷ []

  said : (r : Refusal) → OneOf later (tag_of the_type r) → explained_by w p (refusal_meaning r) ≡ accepted
  said TooFewWords o = absurd (miss later 0 tt o)
  said WrongFirstWord o = absurd (miss later 1 tt o)
  said UnknownCommand o = absurd (miss later 2 tt o)
  said UnlistedParameter o = absurd (miss later 3 tt o)
  said SpareWordNotZero o = absurd (miss later 4 tt o)
  said WrongLength o = absurd (miss later 5 tt o)
  said NoEvents o = absurd (miss later 6 tt o)
  said (AboveBound place) o = absurd (miss later 7 tt o)
  said NotAcceptedNow o = absurd (miss later 8 tt o)
  said NotFresh o = absurd (miss later 9 tt o)
  said NoSuchCrate o = refl
  said NothingOutstanding o = refl
  said WrongPacketLength o = refl
  said WrongPacketCrc o = refl
  said TriggerFieldOutOfRange o = refl
  said NotRunning o = refl
  said TriggerCounterAtEnd o = refl
  said NoSuchRecord o = refl
  said OutputTooShort o = refl
  said WrongHeader o = refl

  pub past-ten : (r : Refusal) → OneOf later (tag_of the_type r) → (e : Explanation) → e ≡ record { reason = Accepted; listed = replicate 8 0 }
      → Explains (explained_by w p (refusal_meaning r)) e
  past-ten r o e q = rw (said r o) (says-unlisted Accepted accepted e q refl refl)

  -- ---- the answer that the words and the state get

  pub by_answer : (a b : Result Command Refusal) (s : Status) → s ≡ status_in p → answer_of a ≡ decided w s → a ≡ b
      → (e : Explanation) → Explains (explained_by w p (answer_of b)) e → Explains (explained w p) e
  unfolding explained
  by_answer a b s q d f e h =
      subst (λ (x : Answer Command). Explains (explained_by w p x) e) (sym (ap answer_of f) ∙ d ∙ ap (decided w) q) h
