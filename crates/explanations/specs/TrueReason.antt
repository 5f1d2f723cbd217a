-- 02, c: "It is proved to be the true reason". The claim is `TrueReason`, of any words and any state.
use Rattle.std.specs.Prelude.{ℕ, ◌<◌, ◌≤◌, ◌≡◌, Bool, true, false, ◌&&◌, List, ◌++◌, ltb, eqb, length, get_or, set}
use Rattle.refusals.specs.Tables.{Answer, given, refused, answer_number}
use Rattle.commands.specs.declared.Command.{Command}
use Rattle.command_reader.specs.Reading.{command_in}
use Rattle.acceptance.specs.Acceptance.{decided}
use Rattle.run.specs.Run.{is_fresh}
use Rattle.explanations.specs.Explaining.{is_idle, status_in, AllowedThere, is_allowed, Explained, accepted, missing, at_fault, in_state, not_fresh}
use Rattle.explanations.specs.Explaining.{explained_number, position, first_place, allowed_at, explained}
use Rattle.explanations.specs.declared.Present.{Present}

-- what the board answers in this state
abbrev pub answered : List ℕ → Present → Answer Command
answered w p = decided w (status_in p)

-- whether it is the refusal n at this place that is explained
abbrev pub names : ℕ → ℕ → Explained → Bool
names n place accepted = false
names n place (missing m k) = false
names n place (at_fault m q stands allowed) = eqb m n && eqb q place
names n place (in_state a) = false
names n place (not_fresh f) = false

-- the words with x put at a place
abbrev pub put : ℕ → List ℕ → ℕ → ℕ → List ℕ
put n w place x = set w (position n place) x

-- "Where one word is named"
pub record TrueWord (w : List ℕ) (p : Present) (n place stands : ℕ) (allowed : AllowedThere) : Type 0 where
  -- "what stands there": it is one of the words
  pub there : position n place < length w
  pub word : get_or w (position n place) 0 ≡ stands
  -- it is at fault, and "the lowest" that is
  pub fault : is_allowed allowed stands ≡ false
  pub lowest : (q : ℕ) → first_place n ≤ q → q < place → is_allowed (allowed_at n w q) (get_or w (position n q) 0) ≡ true
  -- "putting an allowed one there removes that refusal at that place"; every allowed number does,
  pub gone : (x : ℕ) → is_allowed allowed x ≡ true → names n place (explained (put n w place x) p) ≡ false
  -- and no other: "all that is allowed"
  pub only : (x : ℕ) → x < 65536 → is_allowed allowed x ≡ false → names n place (explained (put n w place x) p) ≡ true

-- "With the missing words added (for 1, those up to five), that same refusal is no longer given"; with fewer it still is, whatever they are
pub record TrueMissing (w : List ℕ) (p : Present) (n k : ℕ) : Type 0 where
  pub some : 1 ≤ k
  pub added : (more : List ℕ) → eqb (answer_number (answered (w ++ more) p)) n ≡ ltb (length more) k

abbrev pub True : List ℕ → Present → Explained → Type 0
True w p accepted = answered w p ≡ given (command_in w)
True w p (missing n k) = TrueMissing w p n k
True w p (at_fault n place stands allowed) = TrueWord w p n place stands allowed
True w p (in_state a) = a ≡ p.activity
True w p (not_fresh f) = (f ≡ p.freshness) × (is_fresh f ≡ false) × (is_idle p.activity ≡ true)

-- the explanation x is the true reason for what the first command of the words w gets
pub record TrueReason (w : List ℕ) (p : Present) (x : Explained) : Type 0 where
  -- "the explanation names the refusal that the board itself gives", for 8 with its place
  pub number : explained_number x ≡ answer_number (answered w p)
  pub eighth : (place stands : ℕ) (allowed : AllowedThere) → x ≡ at_fault 8 place stands allowed → answered w p ≡ refused 8 place
  -- "Accepted commands are explained as accepted", and no others
  pub accepts : (c : Command) → answered w p ≡ given c → x ≡ accepted
  pub reason : True w p x
