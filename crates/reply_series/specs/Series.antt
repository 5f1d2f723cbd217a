-- Replies and time-ups one after another, each with the next frame (02, d): how many of them are good, or served, and what the bytes then hold that
-- every item lends in turn, as a bus driver with one buffer does.
use Rattle.std.specs.Prelude.{ℕ, zero, suc, ◌+◌, ◌-◌, ◌/◌, ◌≡◌, List, length, get_or, take, drop}
use Rattle.refusals.specs.Tables.{Answer, given, refused, is_given}
use Rattle.steps.specs.declared.Event.{Event}
use Rattle.steps.specs.declared.Event.TheVariants.{Reply, TimeUp}
use Rattle.crate_pass.specs.declared.PassKind.{PassKind}
use Rattle.crate_pass.specs.declared.Crate.{Crate}
use Rattle.crate_pass.specs.declared.Outcome.{Outcome}
use Rattle.crate_pass.specs.declared.Outcome.TheVariants.{Good, Again, BoardFailed}
use Rattle.board.specs.SlowControl.{judged_at, reply_answer, board_replied, bytes_replied}
use Rattle.board.specs.declared.Board.{Board}

-- the bytes of an item: a crate's number, and the 28 of a reply; a time-up has none
abbrev pub item_size : Event → ℕ
item_size Reply = 29
item_size TimeUp = 1

-- 1 for a good answer, else 0
abbrev pub good_outcome : Answer Outcome → ℕ
good_outcome (given (Good done)) = 1
good_outcome (given (Again done)) = 0
good_outcome (given (BoardFailed done)) = 0
good_outcome (refused n p) = 0

-- a reply counts where it is good, a time-up where it is served
abbrev pub counts : Event → Answer Outcome → ℕ
counts Reply a = good_outcome a
counts TimeUp a = is_given a

-- so far in a series: the board, the bytes that the next item lends, and how many items counted
pub record SoFar : Type 0 where
  pub board : Board
  pub lent : List ℕ
  pub number : ℕ

-- once the first of the items is handed in
unfoldable pub after_first : Event → SoFar → List ℕ → SoFar
after_first event s items =
    let i = get_or items 0 0 in
    let h = judged_at s.board i event (take (item_size event - 1) (drop 1 items)) in
    record {
      board = board_replied s.board i h s.lent;
      lent = bytes_replied s.board i h s.lent;
      number = s.number + counts event (reply_answer s.board i h s.lent);
    }

-- once the first n are, and once all are
unfoldable pub after_items : Event → ℕ → SoFar → List ℕ → SoFar
after_items event zero s items = s
after_items event (suc n) s items = after_items event n (after_first event s items) (drop (item_size event) items)

unfoldable pub after_all : Event → SoFar → List ℕ → SoFar
after_all event s items = after_items event (length items / item_size event) s items

-- a series that begins on the board β
abbrev pub series_on : Event → Board → List ℕ → List ℕ → SoFar
series_on event β items lent = after_all event (record { board = β; lent = lent; number = 0 }) items

-- r of the items counted, and the lent bytes became `after`
pub record Counts (event : Event) (β : Board) (items lent : List ℕ) (r : ℕ) (after : List ℕ) : Type 0 where
  pub number : r ≡ (series_on event β items lent).number
  pub bytes : after ≡ (series_on event β items lent).lent

-- the board β with a block, the kind of a pass and crates: a pass goes by no other part of it
unfoldable pub with_pass : Board → List ℕ → PassKind → List Crate → Board
with_pass β block kind cs = record { identity = β.identity; run = β.run; block = block; kind = kind; active = β.active; rates = β.rates; crates = cs }

-- the same of replies, on any board that has the block, the kind and the crates
abbrev pub CountsGood : List ℕ → PassKind → List Crate → List ℕ → List ℕ → ℕ → List ℕ → Type 0
CountsGood block kind cs items lent r after = (β : Board) → Counts Reply (with_pass β block kind cs) items lent r after
