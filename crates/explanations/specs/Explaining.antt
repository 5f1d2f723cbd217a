-- 02, c: for a command stream and a state, "an explanation of its first command".
use Rattle.std.specs.Prelude.{ℕ, ◌+◌, ◌-◌, ◌≡◌, Bool, true, false, cond, ◌&&◌, ◌||◌, List, [], ◌∷◌, ◌++◌, leb, eqb, length, get_or, take, replicate}
use Rattle.refusals.specs.Tables.{Answer, answer_number, answer_place}
use Rattle.bounds.specs.Bounds.{bound_of}
use Rattle.commands.specs.Commands.{block_length, ids, parameters_of}
use Rattle.commands.specs.declared.Command.{Command}
use Rattle.command_reader.specs.Reading.{command_in}
use Rattle.acceptance.specs.Acceptance.{decided}
use Rattle.acceptance.specs.declared.Status.{Status}
use Rattle.run.specs.Run.{is_fresh}
use Rattle.run.specs.declared.Freshness.{Freshness}
use Rattle.crate_pass.specs.declared.PassKind.{PassKind}
use Rattle.explanations.specs.declared.Activity.{Activity}
use Rattle.explanations.specs.declared.Activity.TheVariants.{Idle, Running, InPass, RunningInPass}
use Rattle.explanations.specs.declared.Present.{Present}
use Rattle.explanations.specs.declared.Allowed.{Allowed}
use Rattle.explanations.specs.declared.Allowed.TheVariants.{Numbers, Range}
use Rattle.explanations.specs.declared.WordAtFault.{WordAtFault}
use Rattle.explanations.specs.declared.Reason.{Reason}
use Rattle.explanations.specs.declared.Reason.TheVariants.{Accepted, TooFewWords, WrongFirstWord, UnknownCommand, UnlistedParameter}
use Rattle.explanations.specs.declared.Reason.TheVariants.{SpareWordNotZero, WrongLength, NoEvents, AboveBound, NotAcceptedNow, NotFresh}
use Rattle.explanations.specs.declared.Explanation.{Explanation}

-- ---- the state, as a command and its explanation see it

-- "idle, running, or in a pass", and by 02, i, "a board can now run and be in a rate pass at once"
abbrev pub is_idle : Activity → Bool
is_idle Idle = true
is_idle Running = false
is_idle (InPass kind) = false
is_idle (RunningInPass kind) = false

abbrev pub is_running : Activity → Bool
is_running Idle = false
is_running Running = true
is_running (InPass kind) = false
is_running (RunningInPass kind) = true

-- whether a run is on, whether a pass is under way, and the kind of the last pass begun
abbrev pub activity_of : Bool → Bool → PassKind → Activity
activity_of running pass kind = cond running (cond pass (RunningInPass kind) Running) (cond pass (InPass kind) Idle)

-- what a command is decided by
abbrev pub status_in : Present → Status
status_in p = record { idle = is_idle p.activity; running = is_running p.activity; fresh = is_fresh p.freshness }

-- ---- what an explanation says

-- "all that is allowed": a list of numbers, or all numbers of a range
pub data AllowedThere : Type 0 where
  numbers : List ℕ → AllowedThere
  range : ℕ → ℕ → AllowedThere

abbrev pub member : ℕ → List ℕ → Bool
member x [] = false
member x (n ∷ ns) = eqb x n || member x ns

abbrev pub is_allowed : AllowedThere → ℕ → Bool
is_allowed (numbers ns) x = member x ns
is_allowed (range low high) x = leb low x && leb x high

-- accepted; a refusal's number and "how many words are missing"; its number, "the place of the word at fault (the lowest; for 8, in the block), what stands
-- there and all that is allowed"; "for 9 the present state, with the kind of pass"; for 10 why nothing is fresh
pub data Explained : Type 0 where
  accepted : Explained
  missing : ℕ → ℕ → Explained
  at_fault : ℕ → ℕ → ℕ → AllowedThere → Explained
  in_state : Activity → Explained
  not_fresh : Freshness → Explained

-- the number of the refusal, "0 for accepted"
abbrev pub explained_number : Explained → ℕ
explained_number accepted = 0
explained_number (missing n k) = n
explained_number (at_fault n place stands allowed) = n
explained_number (in_state a) = 9
explained_number (not_fresh f) = 10

-- ---- words at fault, by the refusal's number n

-- where the word at a place stands among the command's words: "for 8, in the block", which begins after five
abbrev pub position : ℕ → ℕ → ℕ
position n place = cond (eqb n 8) (5 + place) place

-- the first place that the refusal is about: 2 word 0; 3 the ID; 4 the parameter; 5 "word 3 or 4"; 7 "X's first word, place 5"; 8 the block. (The list
-- begins at 0; 0, 1 and 6 are about no word)
abbrev pub first_place : ℕ → ℕ
first_place n = get_or (0 ∷ 0 ∷ 0 ∷ 1 ∷ 2 ∷ 3 ∷ 0 ∷ 5 ∷ 0 ∷ []) n 0

-- and all that is allowed at a place: 0x0040; the six IDs; the parameters of that ID; zero; "any but zero"; zero to the bound
abbrev pub allowed_at : ℕ → List ℕ → ℕ → AllowedThere
allowed_at n w place =
    cond (eqb n 2) (numbers (0x0040 ∷ []))
    (cond (eqb n 3) (numbers ids)
    (cond (eqb n 4) (numbers (parameters_of (get_or w 1 0)))
    (cond (eqb n 5) (numbers (0 ∷ []))
    (cond (eqb n 7) (range 1 0xFFFF)
    (range 0 (bound_of place))))))

abbrev pub word_at : ℕ → List ℕ → ℕ → Explained
word_at n w place = at_fault n place (get_or w (position n place) 0) (allowed_at n w place)

-- 5: the lowest of word 3 and word 4 that is not zero
abbrev pub spare_at : List ℕ → ℕ
spare_at w = cond (eqb (get_or w 3 0) 0) 4 3

-- ---- the explanation

-- what is said for 0 to 10, in their order; `place` is 8's
abbrev pub explanations : List ℕ → Present → ℕ → List Explained
explanations w p place =
    accepted
    ∷ missing 1 (5 - length w)
    ∷ word_at 2 w 0
    ∷ word_at 3 w 1
    ∷ word_at 4 w 2
    ∷ word_at 5 w (spare_at w)
    ∷ missing 6 (5 + block_length (command_in w) - length w)
    ∷ word_at 7 w 5
    ∷ word_at 8 w place
    ∷ in_state p.activity
    ∷ not_fresh p.freshness
    ∷ []

-- that of the answer a; no command gets a number above 10
abbrev pub explained_by : List ℕ → Present → Answer Command → Explained
explained_by w p a = get_or (explanations w p (answer_place a)) (answer_number a) accepted

-- "an explanation of its first command"
unfoldable pub explained : List ℕ → Present → Explained
explained w p = explained_by w p (decided w (status_in p))

-- ---- the value

-- what is allowed, of the numbers listed beside the reason
abbrev pub allowed_meaning : Allowed → List ℕ → AllowedThere
allowed_meaning (Numbers count) listed = numbers (take count listed)
allowed_meaning (Range low high) listed = range low high

abbrev pub word_meaning : ℕ → WordAtFault → List ℕ → Explained
word_meaning n f listed = at_fault n f.place f.stands (allowed_meaning f.allowed listed)

-- a reason by 01's number, with what 02, c wants said
abbrev pub reason_meaning : Reason → List ℕ → Explained
reason_meaning Accepted listed = accepted
reason_meaning (TooFewWords k) listed = missing 1 k
reason_meaning (WrongFirstWord f) listed = word_meaning 2 f listed
reason_meaning (UnknownCommand f) listed = word_meaning 3 f listed
reason_meaning (UnlistedParameter f) listed = word_meaning 4 f listed
reason_meaning (SpareWordNotZero f) listed = word_meaning 5 f listed
reason_meaning (WrongLength k) listed = missing 6 k
reason_meaning (NoEvents f) listed = word_meaning 7 f listed
reason_meaning (AboveBound f) listed = word_meaning 8 f listed
reason_meaning (NotAcceptedNow a) listed = in_state a
reason_meaning (NotFresh f) listed = not_fresh f

abbrev pub explanation_meaning : Explanation → Explained
explanation_meaning e = reason_meaning e.reason e.listed

-- the numbers that an explanation lists
abbrev pub numbers_allowed : AllowedThere → List ℕ
numbers_allowed (numbers ns) = ns
numbers_allowed (range low high) = []

abbrev pub numbers_in : Explained → List ℕ
numbers_in accepted = []
numbers_in (missing n k) = []
numbers_in (at_fault n place stands allowed) = numbers_allowed allowed
numbers_in (in_state a) = []
numbers_in (not_fresh f) = []

-- eight places, with zeros after the numbers
abbrev pub in_eight : List ℕ → List ℕ
in_eight ns = ns ++ replicate (8 - length ns) 0

-- the explanation e says x
pub record Explains (x : Explained) (e : Explanation) : Type 0 where
  pub meaning : explanation_meaning e ≡ x
  pub listed : e.listed ≡ in_eight (numbers_in x)
