-- Two different answers are never read as the same: the paper's number and place tell every refusal apart (`refusal-injective`), and so, with the
-- values, every answer that is a result or a refusal (`inverse-injective`).
-- Assumes nothing.
use Prim.Native.Nat.{ℕ, zero, suc}
use mathlib.Core.Path.{◌≡◌, refl, sym, ap, ap₂, ◌∙◌}
use mathlib.Core.List.{List, [], ◌∷◌}
use lib.ListN.{get_or}
use Rattle.std.specs.Prelude.{Result, Ok, Err}
use Rattle.refusals.specs.Refusals.{number_of, place_of}
use Rattle.refusals.specs.Tables.{Answer, given, refused, refusal_meaning, answer_of}
use Rattle.refusals.specs.declared.Refusal.{Refusal}
use Rattle.refusals.specs.declared.Refusal.TheVariants.{TooFewWords, WrongFirstWord, UnknownCommand, UnlistedParameter, SpareWordNotZero}
use Rattle.refusals.specs.declared.Refusal.TheVariants.{WrongLength, NoEvents, AboveBound, NotAcceptedNow, NotFresh}
use Rattle.refusals.specs.declared.Refusal.TheVariants.{NoSuchCrate, NothingOutstanding, WrongPacketLength, WrongPacketCrc, TriggerFieldOutOfRange}
use Rattle.refusals.specs.declared.Refusal.TheVariants.{NotRunning, TriggerCounterAtEnd, NoSuchRecord, OutputTooShort, WrongHeader}

-- two values that read as the same answer are the same
abbrev pub Injective : {X A : Type 0} → (X → Answer A) → Type 0
Injective {X} reading = (x y : X) → reading x ≡ reading y → x ≡ y

-- the rows of 01's table in their order, 8 with its place
abbrev rows : ℕ → List Refusal
rows place =
    TooFewWords ∷ WrongFirstWord ∷ UnknownCommand ∷ UnlistedParameter ∷ SpareWordNotZero
    ∷ WrongLength ∷ NoEvents ∷ AboveBound place ∷ NotAcceptedNow ∷ NotFresh
    ∷ NoSuchCrate ∷ NothingOutstanding ∷ WrongPacketLength ∷ WrongPacketCrc ∷ TriggerFieldOutOfRange
    ∷ NotRunning ∷ TriggerCounterAtEnd ∷ NoSuchRecord ∷ OutputTooShort ∷ WrongHeader ∷ []

-- the refusal of a number and a place: the table's row
abbrev pub refusal_of : ℕ → ℕ → Refusal
refusal_of zero place = TooFewWords
refusal_of (suc n) place = get_or (rows place) n TooFewWords

pub refusal-back : (r : Refusal) → refusal_of (number_of r) (place_of r) ≡ r
refusal-back TooFewWords = refl
refusal-back WrongFirstWord = refl
refusal-back UnknownCommand = refl
refusal-back UnlistedParameter = refl
refusal-back SpareWordNotZero = refl
refusal-back WrongLength = refl
refusal-back NoEvents = refl
refusal-back (AboveBound place) = refl
refusal-back NotAcceptedNow = refl
refusal-back NotFresh = refl
refusal-back NoSuchCrate = refl
refusal-back NothingOutstanding = refl
refusal-back WrongPacketLength = refl
refusal-back WrongPacketCrc = refl
refusal-back TriggerFieldOutOfRange = refl
refusal-back NotRunning = refl
refusal-back TriggerCounterAtEnd = refl
refusal-back NoSuchRecord = refl
refusal-back OutputTooShort = refl
refusal-back WrongHeader = refl

-- the value that an answer reads: a result's, or a refusal's
abbrev pub value_of : {X A : Type 0} → (A → X) → (Refusal → X) → Answer A → X
value_of result refusal (given a) = result a
value_of result refusal (refused n p) = refusal (refusal_of n p)

-- a reading of results and refusals, where each value is that of the answer it reads as
pub inverse-injective : {X A : Type 0} (reading : X → Answer A) (result : A → X) (refusal : Refusal → X)
    → ((x : X) → value_of result refusal (reading x) ≡ x) → Injective reading
inverse-injective reading result refusal back x y e = sym (back x) ∙ ap (value_of result refusal) e ∙ back y

-- "a refusal returns its number .. and nothing else but 8's place": these two say which it is
pub refusal-injective : {A : Type 0} → Injective (refusal_meaning {A = A})
refusal-injective {A} r s e =
    let n : number_of r ≡ number_of s = cc in
    let p : place_of r ≡ place_of s = cc in
    sym (refusal-back r) ∙ ap₂ refusal_of n p ∙ refusal-back s

-- so no two results or refusals read as the same answer
pub answer-injective : {A : Type 0} → Injective (answer_of {A = A})
answer-injective {A} = inverse-injective answer_of Ok Err go
  where
    go : (x : Result A Refusal) → value_of Ok Err (answer_of x) ≡ x
    go (Ok a) = refl
    go (Err r) = ap Err (refusal-back r)
