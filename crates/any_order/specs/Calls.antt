-- Demand 3 over the contracts of the public calls alone: what any results that keep them have to do with the claim (`AnyOrderOfCalls`).
use Rattle.std.specs.Prelude.{ℕ, ◌<◌, ◌≤◌, ◌≡◌, List, [], ◌∷◌, ◌++◌, map, length, Result}
use Rattle.refusals.specs.Tables.{Answer, given, answer_of}
use Rattle.commands.specs.declared.Command.TheVariants.{Write, Ping}
use Rattle.steps.specs.declared.Event.TheVariants.{Reply, TimeUp}
use Rattle.board.specs.Commands.{Obeys}
use Rattle.board.specs.SlowControl.{judged_at, Replies, Fetches}
use Rattle.board.specs.RatePass.{Begins}
use Rattle.board.specs.declared.Board.{Board}
use Rattle.board.specs.declared.CommandResult.{CommandResult}
use Rattle.board.specs.declared.BeginResult.{BeginResult}
use Rattle.board.specs.declared.ReplyResult.{ReplyResult}
use Rattle.cells.specs.Order.{only, ordered}
use Rattle.any_order.specs.Steps.{Event, reply, time_up, Request, hand_in, fetch, Given}
use Rattle.any_order.specs.AnyOrder.{Item, Begin, write, ping, rates, outcome_given, first_given, results_after, board_at_end, frames_on}
use Rattle.any_order.specs.AnyOrder.{Seen, seen_crate, seen_of, fetched_by, handed_out_in, AnyOrder}
use Rattle.refusals.specs.declared.Refusal.{Refusal}

-- ---- the begin

-- what `obey` returned, or `begin_rate_pass`
pub data Began : Type 0 where
  obeyed : CommandResult → Began
  begun : BeginResult → Began

-- the write or the ping was accepted, or the begin of the rate pass
abbrev pub BegunBy : Board → Begin → Began → Type 0
BegunBy β (write w) (obeyed r) = Obeys β w r × (answer_of r.answer ≡ given Write)
BegunBy β (ping w) (obeyed r) = Obeys β w r × (answer_of r.answer ≡ given Ping)
BegunBy β rates (begun r) = Begins β r × (answer_of r.answer ≡ given tt)
BegunBy β (write w) (begun r) = ⊥
BegunBy β (ping w) (begun r) = ⊥
BegunBy β rates (obeyed r) = ⊥

-- the board that the caller then has
abbrev pub board_begun_by : Began → Board
board_begun_by (obeyed r) = r.board
board_begun_by (begun r) = r.board

-- ---- the items

-- what `hand_in` returned, or `first_frame`
pub data Returned : Type 0 where
  replied : ReplyResult → Returned
  fetched : Result ℕ Refusal → Returned

-- one item, as a caller serves it, with what was returned and what the lent bytes then held
pub record ServedItem : Type 0 where
  pub item : Item
  pub returned : Returned
  pub bytes : List ℕ

-- the contract of `hand_in`, for a reply and for a time-up, which is judged alike whatever bytes come with it
abbrev pub HandedIn : Board → ℕ → Event → List ℕ → ReplyResult → List ℕ → Type 0
HandedIn β c (reply bytes) lent r after = Replies β c (judged_at β c Reply bytes) lent r after
HandedIn β c time_up lent r after = Replies β c (judged_at β c TimeUp []) lent r after

-- that of the call that the request asks for
abbrev pub Keeps : Board → ℕ → Request → List ℕ → Returned → List ℕ → Type 0
Keeps β c (hand_in e) lent (replied r) after = HandedIn β c e lent r after
Keeps β c (hand_in e) lent (fetched r) after = ⊥
Keeps β c fetch lent (replied r) after = ⊥
Keeps β c fetch lent (fetched r) after = Fetches β c lent r after

-- the board that the caller then has: `first_frame` returns none
abbrev pub board_then : Board → Returned → Board
board_then β (replied r) = r.board
board_then β (fetched r) = β

-- a series: each call keeps its contract, on the board that the one before left
abbrev pub Chained : Board → List ServedItem → Type 0
Chained β [] = Unit
Chained β (s ∷ ss) = Keeps β s.item.0 s.item.1.0 s.item.1.1 s.returned s.bytes × Chained (board_then β s.returned) ss

abbrev pub last_board : Board → List ServedItem → Board
last_board β [] = β
last_board β (s ∷ ss) = last_board (board_then β s.returned) ss

abbrev pub items_of : List ServedItem → List Item
items_of ss = map (λ (s : ServedItem). s.item) ss

-- an item with its answer, as 01 has it, and its bytes
abbrev pub answer_seen : Returned → Answer Given
answer_seen (replied r) = outcome_given (answer_of r.answer)
answer_seen (fetched r) = first_given (answer_of r)

abbrev pub seen : ServedItem → Seen
seen s = (s.item, (answer_seen s.returned, s.bytes))

-- ---- the frames

-- the frames that the caller has for crate c are the given ones: that of a fetch on the board that the command returned, with enough bytes lent, and
-- those that its items for c hand out
abbrev pub Sent : ℕ → Board → List ServedItem → List (List ℕ) → Type 0
Sent c start ss frames =
    (lent : List ℕ) (r : Result ℕ Refusal) (after : List ℕ) → 28 ≤ length lent → Fetches start c lent r after
    → fetched_by (first_given (answer_of r)) after ++ handed_out_in (only seen_crate c (map seen ss)) ≡ frames

-- ---- the claim, of any board, an accepted write, ping or begin of a rate pass on it, and two series of the same items, the second in the order of the crates

pub record AnyOrderOfCalls (β : Board) (g : Begin) (start : Board) (one two : List ServedItem) : Type 0 where
  -- the claim holds of the items
  pub claim : AnyOrder β g (items_of one)
  -- and what it speaks of is what the caller sees, and has at the end
  pub seen_one : map seen one ≡ map seen_of (results_after β g (items_of one))
  pub sent-one : (c : ℕ) → c < 4 → Sent c start one (frames_on β g c (items_of one))
  pub last_one : last_board start one ≡ board_at_end β g (items_of one)
  -- so in the second order each item gets the same answer and its bytes hold the same, each crate is sent the same frames, and the board at the end
  -- is the same
  pub seen-two : map seen two ≡ ordered seen_crate 4 (map seen one)
  pub sent-two : (c : ℕ) → c < 4 → Sent c start two (frames_on β g c (items_of one))
  pub last-two : last_board start two ≡ last_board start one
