-- What is printed for a refusal: 8 has its place, the others have none.
-- Assumes nothing.
use Prim.Native.Nat.{ℕ}
use mathlib.Core.Path.{◌≡◌, refl, ap, ◌∙◌}
use mathlib.Core.Bool.{false}
use mathlib.Core.List.{List, [], ◌∷◌}
use lib.Dec.{eqb}
use types.Run.{OneOf, miss}
use denote.Enum.Declared.{tag_of}
use Rattle.refusals.specs.Refusals.{number_of, place_of}
use Rattle.refusals.specs.Tables.{refused}
use Rattle.refusals.specs.declared.Refusal.{Refusal}
use Rattle.refusals.specs.declared.Refusal.TheVariants.{TooFewWords, WrongFirstWord, UnknownCommand, UnlistedParameter, SpareWordNotZero}
use Rattle.refusals.specs.declared.Refusal.TheVariants.{WrongLength, NoEvents, AboveBound, NotAcceptedNow, NotFresh, NoSuchCrate}
use Rattle.refusals.specs.declared.Refusal.TheVariants.{NothingOutstanding, WrongPacketLength, WrongPacketCrc, TriggerFieldOutOfRange}
use Rattle.refusals.specs.declared.Refusal.TheVariants.{NotRunning, TriggerCounterAtEnd, NoSuchRecord, OutputTooShort, WrongHeader}
use Rattle.refusals.specs.contracts.Refusal.{the_type}
use Rattle.texts.specs.Texts.{numbers}
use Rattle.responses.specs.Responses.{refusal_printed, command_printed}

-- the variants of a refusal but 8, by their order
abbrev others : List ℕ
others = 0 ∷ 1 ∷ 2 ∷ 3 ∷ 4 ∷ 5 ∷ 6 ∷ 8 ∷ 9 ∷ 10 ∷ 11 ∷ 12 ∷ 13 ∷ 14 ∷ 15 ∷ 16 ∷ 17 ∷ 18 ∷ 19 ∷ []

-- a refusal that is one of them
abbrev pub Other : Refusal → Type 0
Other r = OneOf others (tag_of the_type r)

not_eight : (r : Refusal) → Other r → eqb (number_of r) 8 ≡ false
not_eight TooFewWords o = refl
not_eight WrongFirstWord o = refl
not_eight UnknownCommand o = refl
not_eight UnlistedParameter o = refl
not_eight SpareWordNotZero o = refl
not_eight WrongLength o = refl
not_eight NoEvents o = refl
not_eight (AboveBound place) o = absurd (miss others 7 tt o)
not_eight NotAcceptedNow o = refl
not_eight NotFresh o = refl
not_eight NoSuchCrate o = refl
not_eight NothingOutstanding o = refl
not_eight WrongPacketLength o = refl
not_eight WrongPacketCrc o = refl
not_eight TriggerFieldOutOfRange o = refl
not_eight NotRunning o = refl
not_eight TriggerCounterAtEnd o = refl
not_eight NoSuchRecord o = refl
not_eight OutputTooShort o = refl
not_eight WrongHeader o = refl

-- it is printed by its number, and of a command with the words used
module _ (r : Refusal) (n : ℕ) (e : n ≡ number_of r) (o : Other r) where
  pub other-response : numbers (n ∷ []) ≡ refusal_printed (number_of r) (place_of r)
  other-response = ap (λ (m : ℕ). numbers (m ∷ [])) e ∙ rw (not_eight r o)

  pub other-command-response : (used : ℕ) → numbers (n ∷ used ∷ []) ≡ command_printed used (refused (number_of r) (place_of r))
  other-command-response used = ap (λ (m : ℕ). numbers (m ∷ used ∷ [])) e ∙ rw (not_eight r o)
