-- 01, "Demand 3 is a single claim about the whole sequence, of any length and the empty one too"; 02, d, "Demand 3 covers the bytes too"; and 02, i,
-- "Demand 3 holds for a rate pass": its definitions in the order of the paragraph, and the claim (`AnyOrder`).
use Rattle.std.specs.Prelude.{ℕ, suc, ◌+◌, ◌*◌, ◌<◌, ◌≤◌, ◌≡◌, Bool, true, false, cond, not, ◌&&◌, ◌||◌, ltb, leb, Result as CallResult}
use Rattle.std.specs.Prelude.{List, [], ◌∷◌, ◌++◌, map, length, get_or, take, drop, replicate}
use Rattle.refusals.specs.Tables.{Answer, given, refused, Rule, rule}
use Rattle.refusals.specs.Writing.{output_after, writing}
use Rattle.commands.specs.declared.Command.TheVariants.{Write, Ping}
use Rattle.blocks.specs.Blocks.{temperature_rules, dynamic_body, failure_body, WroteBlock}
use Rattle.ftu_list.specs.List.{list_body}
use Rattle.steps.specs.Steps.{step_frame}
use Rattle.steps.specs.declared.Judged.{Judged}
use Rattle.run.specs.Run.{is_running, refreshed}
use Rattle.run.specs.declared.Run.{Run}
use Rattle.crate_pass.specs.Crate.{is_done, says_done}
use Rattle.crate_pass.specs.declared.PassKind.{PassKind}
use Rattle.crate_pass.specs.declared.PassKind.TheVariants.{Reprogramming, Rates}
use Rattle.crate_pass.specs.declared.Outcome.{Outcome}
use Rattle.crate_pass.specs.declared.Crate.{Crate}
use Rattle.four_crates.specs.FourCrates as four
use Rattle.board.specs.State.{crate_at, is_idle, finished_rates}
use Rattle.board.specs.Commands.{board_answer, board_after}
use Rattle.board.specs.SlowControl.{frame_at, reply_answer, board_replied, bytes_replied, fetch_rules, sent_answer}
use Rattle.board.specs.RatePass.{begin_answer, board_begun}
use Rattle.board.specs.SentOut.{header_of, list_of, failed_frame, SendsDynamic, SendsList, SendsFailure}
use Rattle.board.specs.declared.Board.{Board}
use Rattle.cells.specs.Order.{only, from, ordered}
use Rattle.any_order.specs.Steps.{Step, step, steps, served_from, Event, judged, Request, hand_in, fetch, Lending, words_from, how_many, rates_from}
use Rattle.any_order.specs.Steps.{Pass, begun, Given, outcome, first_frame, Result, refusal, first, none, react}
use Rattle.refusals.specs.declared.Refusal.{Refusal}

-- ---- items

-- "An item is a crate number with a reply's bytes, of any length, or with a time-up"; and by 02, d also one with a fetch of the first frame. Each
-- has its own lent bytes
abbrev pub Item : Type 0
Item = ℕ × Lending

abbrev pub item_crate : Item → ℕ
item_crate x = x.0

-- an item, with what it got
abbrev pub ItemResult : Type 0
ItemResult = Item × Result

abbrev pub result_crate : ItemResult → ℕ
result_crate t = t.0.0

-- ---- the begin of the pass: "the accepted write or ping", a command in the words w on the board before; 02, i: a rate pass has a call of its own

pub data Begin : Type 0 where
  write : List ℕ → Begin
  ping : List ℕ → Begin
  rates : Begin

-- what `obey` answers to the words, and `begin_rate_pass`: that it is accepted
abbrev pub Accepted : Board → Begin → Type 0
Accepted β (write w) = board_answer β w ≡ given Write
Accepted β (ping w) = board_answer β w ≡ given Ping
Accepted β rates = begin_answer β ≡ given tt

-- "the state that the accepted write or ping returned"
abbrev pub start_of : Board → Begin → Board
start_of β (write w) = board_after β w
start_of β (ping w) = board_after β w
start_of β rates = board_begun β

-- "the kind of pass"
abbrev pub kind_of : Begin → PassKind
kind_of (write w) = Reprogramming
kind_of (ping w) = PassKind.Ping
kind_of rates = Rates

-- "the stored block": a write stores the one in its words, "then a data block where one is due"; no other pass changes it
abbrev pub stored_block : Board → Begin → List ℕ
stored_block β (write w) = take 436 (drop 5 w)
stored_block β (ping w) = β.block
stored_block β rates = β.block

-- "Word 0x1B0 + c holds crate c's active flags"
abbrev pub word_of : List ℕ → ℕ → ℕ
word_of block c = get_or block (0x1B0 + c) 0

-- "the four active words as stored when the ping began"; the other passes leave those of the last ping
abbrev pub active_of : Board → Begin → List ℕ
active_of β (write w) = β.active
active_of β (ping w) = word_of β.block 0 ∷ word_of β.block 1 ∷ word_of β.block 2 ∷ word_of β.block 3 ∷ []
active_of β rates = β.active

-- "A write .. sets fresh"
abbrev pub run_of : Board → Begin → Run
run_of β (write w) = refreshed β.run
run_of β (ping w) = β.run
run_of β rates = β.run

-- a write and a ping are accepted while idle; 02, i: a rate pass "while idle or running", and then "the board runs or is idle as before"
abbrev pub runs_as_before : Board → Begin → Bool
runs_as_before β (write w) = false
runs_as_before β (ping w) = false
runs_as_before β rates = is_running β.run

-- 02, i: the rates that the board keeps of the rate pass before the last one begun
abbrev pub rates_before : Board → Begin → List ℕ
rates_before β (write w) = β.rates
rates_before β (ping w) = β.rates
rates_before β rates = finished_rates β

-- the state in a pass that so began: what is above, the crates cs, and the rest as before
unfoldable pub begun_board : Board → Begin → List Crate → Board
begun_board β g cs =
    record {
      identity = β.identity;
      run = run_of β g;
      block = stored_block β g;
      kind = kind_of g;
      active = active_of β g;
      rates = rates_before β g;
      crates = cs;
    }

-- the list as the pass begins: as before, or for a ping the active words as stored and no entry
abbrev pub list_begun : Board → Begin → List ℕ
list_begun β (write w) = list_body (list_of β)
list_begun β rates = list_body (list_of β)
list_begun β (ping w) = replicate 5 0 ++ (active_of β (ping w) ++ replicate 240 0)

-- ---- the items on the board

-- what a reply or a time-up says on crate c of the board
abbrev pub judged_on : Board → ℕ → Event → Judged
judged_on β c e = judged (frame_at β c) e

-- an answer of `hand_in`, and one of `first_frame`
abbrev pub outcome_given : Answer Outcome → Answer Given
outcome_given (given o) = given (outcome o)
outcome_given (refused n p) = refused n p

abbrev pub first_given : Answer ℕ → Answer Given
first_given (given n) = given first_frame
first_given (refused n p) = refused n p

-- what they promise for an item: the answer, what the lent bytes then hold, and the next state
abbrev pub answer_for : Board → ℕ → Request → List ℕ → Answer Given
answer_for β c (hand_in e) lent = outcome_given (reply_answer β c (judged_on β c e) lent)
answer_for β c fetch lent = first_given (writing (fetch_rules β c) (frame_at β c) lent)

abbrev pub bytes_for : Board → ℕ → Request → List ℕ → List ℕ
bytes_for β c (hand_in e) lent = bytes_replied β c (judged_on β c e) lent
bytes_for β c fetch lent = output_after (writing (fetch_rules β c) (frame_at β c) lent) (frame_at β c) lent

abbrev pub board_after_request : Board → ℕ → Request → List ℕ → Board
board_after_request β c (hand_in e) lent = board_replied β c (judged_on β c e) lent
board_after_request β c fetch lent = β

abbrev pub after_item : Board → Item → Board
after_item β x = board_after_request β x.0 x.1.0 x.1.1

-- the frame outstanding on crate c, where there is one
unfoldable pub outstanding : Board → ℕ → List (List ℕ)
outstanding β c = cond (ltb 3 c || is_done (crate_at β c)) [] (frame_at β c ∷ [])

-- "after each accepted reply or time-up for it the one then outstanding, where there is one"; a fetch sends none, since the first is sent
abbrev pub sent_after : Answer Given → List (List ℕ) → List (List ℕ)
sent_after (given (outcome o)) frames = frames
sent_after (given first_frame) frames = []
sent_after (refused n p) frames = []

abbrev pub result_for : Answer Given → List ℕ → List (List ℕ) → Result
result_for a bytes frames = record { answer = a; bytes = bytes; frames = sent_after a frames }

unfoldable pub result_of : Board → Item → Result
result_of β x =
    result_for (answer_for β x.0 x.1.0 x.1.1) (bytes_for β x.0 x.1.0 x.1.1) (outstanding (after_item β x) x.0)

-- "The first gets the state that the accepted write or ping returned, each later one the state that the one before returned, refused or not"
unfoldable pub results : Board → List Item → List ItemResult
results β [] = []
results β (x ∷ xs) = (x, result_of β x) ∷ results (after_item β x) xs

unfoldable pub final : Board → List Item → Board
final β [] = β
final β (x ∷ xs) = final (after_item β x) xs

-- what items get after the begin, and the state at the end
abbrev pub results_after : Board → Begin → List Item → List ItemResult
results_after β g xs = results (start_of β g) xs

abbrev pub board_at_end : Board → Begin → List Item → Board
board_at_end β g xs = final (start_of β g) xs

-- ---- the second order, and the items for no crate

-- crate 0's items come first, then 1's, 2's and 3's, each in their own order, and "the items for a crate above 3 stand last"
abbrev pub in_order : List Item → List Item
in_order xs = ordered item_crate 4 xs

-- the items for no crate: each is refused with 11, and its bytes are left
unfoldable pub refused_all : List Item → List ItemResult
refused_all [] = []
refused_all (x ∷ xs) = (x, refusal 11 x.1.1) ∷ refused_all xs

-- ---- the frames sent on a crate, and their number

unfoldable pub frames_in : List ItemResult → List (List ℕ)
frames_in [] = []
frames_in (t ∷ ts) = t.1.frames ++ frames_in ts

-- "the one outstanding when the pass begins, and after each accepted reply or time-up for it the one then outstanding"
abbrev pub frames_on : Board → Begin → ℕ → List Item → List (List ℕ)
frames_on β g c xs = outstanding (start_of β g) c ++ frames_in (only result_crate c (results_after β g xs))

abbrev pub is_accepted : Answer Given → Bool
is_accepted (given (outcome o)) = true
is_accepted (given first_frame) = false
is_accepted (refused n p) = false

unfoldable pub accepted_in : List ItemResult → ℕ
accepted_in [] = 0
accepted_in (t ∷ ts) = cond (is_accepted t.1.answer) 1 0 + accepted_in ts

-- what a caller sees of an item: its answer, and what its bytes then hold
abbrev pub Seen : Type 0
Seen = Item × (Answer Given × List ℕ)

abbrev pub seen_crate : Seen → ℕ
seen_crate t = t.0.0

abbrev pub seen_of : ItemResult → Seen
seen_of t = (t.0, (t.1.answer, t.1.bytes))

-- the frame that the caller is so handed: by a reply or a time-up, and by a fetch
abbrev pub handed_out_by : Answer Given → List ℕ → List (List ℕ)
handed_out_by (given (outcome o)) bytes = cond (says_done o) [] (take 28 bytes ∷ [])
handed_out_by (given first_frame) bytes = []
handed_out_by (refused n p) bytes = []

abbrev pub fetched_by : Answer Given → List ℕ → List (List ℕ)
fetched_by (given (outcome o)) bytes = []
fetched_by (given first_frame) bytes = take 28 bytes ∷ []
fetched_by (refused n p) bytes = []

-- those of a series
unfoldable pub handed_out_in : List Seen → List (List ℕ)
handed_out_in [] = []
handed_out_in (t ∷ ts) = handed_out_by t.1.0 t.1.1 ++ handed_out_in ts

unfoldable pub fetched_in : List Seen → List (List ℕ)
fetched_in [] = []
fetched_in (t ∷ ts) = fetched_by t.1.0 t.1.1 ++ fetched_in ts

-- what crate c's items are seen to get
abbrev pub seen_on : Board → Begin → ℕ → List Item → List Seen
seen_on β g c xs = map seen_of (only result_crate c (results_after β g xs))

-- a fetch for crate c as the pass begins, with these bytes lent
abbrev pub first_fetched : Board → Begin → ℕ → List ℕ → List (List ℕ)
first_fetched β g c lent = fetched_in (seen_on β g c ((c, (fetch, lent)) ∷ []))

-- each of the frames is the one of `one`
abbrev pub EachIs : List (List ℕ) → List (List ℕ) → Type 0
EachIs one [] = Unit
EachIs one (f ∷ fs) = (f ∷ [] ≡ one) × EachIs one fs

-- at most nine frames for each active board; in a ping three for each of ten; in a rate pass "at most three frames for each active board"
abbrev pub most_frames : PassKind → ℕ → ℕ
most_frames Reprogramming w = 9 * served_from Reprogramming w 10 0
most_frames PassKind.Ping w = 30
most_frames Rates w = 3 * served_from Rates w 10 0

-- ---- the same items, on the steps of one crate

unfoldable pub pass_results : (Step → List ℕ) → Pass → List Item → List ItemResult
pass_results frame p [] = []
pass_results frame p (x ∷ xs) = (x, (react frame x.1 p).0) ∷ pass_results frame (react frame x.1 p).1 xs

unfoldable pub pass_end : (Step → List ℕ) → Pass → List Item → Pass
pass_end frame p [] = p
pass_end frame p (x ∷ xs) = pass_end frame (react frame x.1 p).1 xs

-- of all four: that of crate 0, then those of 1, 2 and 3
abbrev pub of_four : {A : Type 0} → (ℕ → List A) → List A
of_four f = f 0 ++ (f 1 ++ (f 2 ++ f 3))

-- "what the steps above give for the kind of pass, the stored block and that crate's items alone"
module _ (β : Board) (g : Begin) where
  -- the bytes of a step's frame on crate c
  abbrev pub frame_on : ℕ → Step → List ℕ
  frame_on c s = step_frame (stored_block β g) c s.board s.code

  abbrev pub pass_on : ℕ → Pass
  pass_on c = begun (kind_of g) (steps (kind_of g) (word_of (stored_block β g) c))

  abbrev pub results_on : ℕ → List Item → List ItemResult
  results_on c xs = pass_results (frame_on c) (pass_on c) (only item_crate c xs)

  abbrev pub end_on : ℕ → List Item → Pass
  end_on c xs = pass_end (frame_on c) (pass_on c) (only item_crate c xs)

  -- ---- all four crates together

  abbrev pub done_on : ℕ → List Item → Bool
  done_on c xs = none (end_on c xs).todo

  abbrev pub all_done : List Item → Bool
  all_done xs = done_on 0 xs && done_on 1 xs && done_on 2 xs && done_on 3 xs

  -- the frames of the steps that failed: "Records stand in rising k", those of crate 0 first
  abbrev pub failures_on : ℕ → List Item → List (List ℕ)
  failures_on c xs = map (frame_on c) (end_on c xs).failed

  unfoldable pub failures : List Item → List (List ℕ)
  failures xs = of_four (λ c. failures_on c xs)

  -- "9: .. list or records asked for during a pass"
  abbrev pub during_pass : List Item → Rule
  during_pass xs = rule 9 (not (all_done xs))

  abbrev pub record_rules : ℕ → List Item → List Rule
  record_rules n xs = during_pass xs ∷ rule 18 (leb (length (failures xs)) n) ∷ []

  abbrev pub answered_on : ℕ → List Item → ℕ
  answered_on c xs = how_many (end_on c xs).boards

  abbrev pub boards_on : ℕ → List Item → List ℕ
  boards_on c xs = words_from c 0 (end_on c xs).boards

  -- a ping's list: "boards that answered; the same for each crate; the four active words as stored when the ping began; then six for each board"
  unfoldable pub ping_list : List Item → List ℕ
  ping_list xs =
      (answered_on 0 xs + answered_on 1 xs + answered_on 2 xs + answered_on 3 xs)
      ∷ answered_on 0 xs
      ∷ answered_on 1 xs
      ∷ answered_on 2 xs
      ∷ answered_on 3 xs
      ∷ (active_of β g ++ of_four (λ c. boards_on c xs))

  -- 02, i: the rates of a rate pass, those of the boards of crate 0 first
  abbrev pub rates_on : ℕ → List Item → List ℕ
  rates_on c xs = rates_from (end_on c xs).boards

  unfoldable pub rates_found : List Item → List ℕ
  rates_found xs = of_four (λ c. rates_on c xs)

-- the FTU list: "A ping clears the list as it begins; no other command changes it"
abbrev pub list_after : Board → Begin → List Item → List ℕ
list_after β (write w) xs = list_body (list_of β)
list_after β (ping w) xs = ping_list β (ping w) xs
list_after β rates xs = list_body (list_of β)

-- 02, i: what the crates hold of rates: a rate pass those of its own, and no other pass changes them
abbrev pub rates_held : Board → Begin → List Item → List ℕ
rates_held β (write w) xs = four.rates_of β.crates
rates_held β (ping w) xs = four.rates_of β.crates
rates_held β rates xs = rates_found β rates xs

-- "once all four are done these are the finished rates", and until then those of the pass before; no other pass changes them
abbrev pub rates_after : Board → Begin → List Item → List ℕ
rates_after β (write w) xs = finished_rates β
rates_after β (ping w) xs = finished_rates β
rates_after β rates xs = cond (all_done β rates xs) (rates_found β rates xs) (finished_rates β)

-- each board is above the one before, from b on, and none above 9
abbrev pub Rising : ℕ → List Step → Type 0
Rising b [] = Unit
Rising b (s ∷ ss) = (b ≤ s.board) × (s.board < 10) × Rising (suc s.board) ss

-- ---- the claim

-- the frames of the records that the board keeps
abbrev pub record_frames : Board → List (List ℕ)
record_frames β = map (failed_frame β) (four.records β.crates)

-- the outstanding step of a crate, where there is one
unfoldable pub step_of : Crate → List Step
step_of k = cond (ltb k.board 10) (step k.board k.code ∷ []) []

-- "Each crate's answers, refusals, frames, place in the pass, number .. equal what the steps above give for the kind of pass, the stored block and
-- that crate's items alone"
pub record Alone (β : Board) (g : Begin) (c : ℕ) (xs : List Item) : Type 0 where
  pub answers : only result_crate c (results_after β g xs) ≡ results_on β g c xs
  pub frames : frames_on β g c xs ≡ map (frame_on β g c) (first (pass_on β g c).todo) ++ frames_in (results_on β g c xs)
  -- which are exactly those that the first frame's fetch, as the pass begins, and the replies and time-ups hand out; each later fetch that is not
  -- refused hands out the first one
  pub handed : (lent : List ℕ) → 28 ≤ length lent → frames_on β g c xs ≡ first_fetched β g c lent ++ handed_out_in (seen_on β g c xs)
  pub fetched : EachIs (outstanding (start_of β g) c) (fetched_in (seen_on β g c xs))
  -- the place: the outstanding step, how many sends of it failed, and its frame
  pub place : step_of (crate_at (board_at_end β g xs) c) ≡ first (end_on β g c xs).todo
  pub tries : (crate_at (board_at_end β g xs) c).tries ≡ (end_on β g c xs).tries
  pub frame : outstanding (board_at_end β g xs) c ≡ map (frame_on β g c) (first (end_on β g c xs).todo)
  -- "The number of frames sent on a crate", as `frames_sent` reports it: it is that of the frames above, "the accepted replies and time-ups of
  -- this pass, and one more while a frame is outstanding", and bounded
  pub number : sent_answer (board_at_end β g xs) c ≡ given (length (frames_on β g c xs))
  pub counted : length (frames_on β g c xs)
      ≡ accepted_in (only result_crate c (results_after β g xs)) + length (outstanding (board_at_end β g xs) c)
  pub bounded : length (frames_on β g c xs) ≤ most_frames (kind_of g) (word_of (stored_block β g) c)
  -- "Records stand in rising k": so do the steps that failed
  pub rising : Rising 0 (end_on β g c xs).failed
  -- 02, i: "the claim naming each crate's rates where it names a ping's list entries"
  pub rates : kind_of g ≡ Rates → (crate_at (board_at_end β g xs) c).rates ≡ rates_on β g c xs

-- Demand 3, of any board, an accepted write, ping or begin of a rate pass on it, and any items
pub record AnyOrder (β : Board) (g : Begin) (xs : List Item) : Type 0 where
  -- "the state that the accepted write or ping returned" has the kind, the block, the active words and the list that the board before and the command's
  -- words say
  pub start : start_of β g ≡ begun_board β g (start_of β g).crates
  pub begun-list : list_body (list_of (start_of β g)) ≡ list_begun β g
  -- the same item gets the same answer, its bytes hold the same after it, and the same frames are sent
  pub answers : results_after β g (in_order xs) ≡ ordered result_crate 4 (results_after β g xs)
  -- each crate is sent the same frames in the same order
  pub frames : (c : ℕ) → c < 4 → frames_on β g c (in_order xs) ≡ frames_on β g c xs
  -- "Final states are compared in everything that is part of the state"
  pub state : board_at_end β g (in_order xs) ≡ board_at_end β g xs
  pub alone : (c : ℕ) → c < 4 → Alone β g c xs
  pub above : from result_crate 4 (results_after β g xs) ≡ refused_all (from item_crate 4 xs)
  -- "records and, in a ping, list entries": what `failure_message` answers for each ordinal, and `ftu_list`, with any output lent, is by the table and
  -- with the words that the steps give
  pub records : (n : ℕ) (out : List ℕ) (r : CallResult ℕ Refusal) (after : List ℕ)
      → SendsFailure (board_at_end β g xs) n out r after
      → WroteBlock (record_rules β g n xs) 29 (header_of β) (failure_body 3 (get_or (failures β g xs) n [])) out r after
  pub records-most : length (failures β g xs) ≤ 40
  -- the records themselves, which `failure_message` does not give during the pass, by the frame that each has
  pub records-kept : record_frames (board_at_end β g xs) ≡ failures β g xs
  pub list : (out : List ℕ) (r : CallResult ℕ Refusal) (after : List ℕ)
      → SendsList (board_at_end β g xs) out r after
      → WroteBlock (during_pass β g xs ∷ []) 249 (header_of β) (list_after β g xs) out r after
  -- the list itself, which `ftu_list` does not give during the pass
  pub list-kept : list_body (list_of (board_at_end β g xs)) ≡ list_after β g xs
  -- 02, i, "each crate's rates": what `dynamic_block` answers, with any temperatures and any output lent, and during a rate pass what the crates hold
  pub rates : (t out : List ℕ) (r : CallResult ℕ Refusal) (after : List ℕ)
      → SendsDynamic (board_at_end β g xs) t out r after
      → WroteBlock (temperature_rules t) 487 (header_of β) (dynamic_body β.run.on_time t (rates_after β g xs)) out r after
  pub rates-kept : four.rates_of (board_at_end β g xs).crates ≡ rates_held β g xs
  -- "The rest of the final state is as in the first, but that the board is idle once all four are done"; 02, i: "and the board runs or is idle as before"
  pub rest : board_at_end β g xs ≡ begun_board β g (board_at_end β g xs).crates
  pub running : is_running (board_at_end β g xs).run ≡ runs_as_before β g
  pub idle : is_idle (board_at_end β g xs) ≡ (not (runs_as_before β g) && all_done β g xs)
