-- 01, Slow control, and 02, i: one crate in a pass. Its place is a board and a code; crates/any_order shows that it follows the steps of a pass.
use Rattle.std.specs.Prelude.{ℕ, zero, suc, ◌+◌, ◌*◌, ◌-◌, ◌≡◌, Bool, true, false, cond, ◌||◌, List, [], ◌∷◌, ◌++◌, ltb, leb, eqb, set, take, drop, replicate}
use Rattle.refusals.specs.Tables.{Answer, given, refused, Rule, rule, lowest, answer_of}
use Rattle.refusals.specs.Writing.{too_short, output_after}
use Rattle.configuration.specs.Configuration.{flag_set}
use Rattle.ftu_list.specs.declared.Entry.{Entry}
use Rattle.steps.specs.Steps.{step_frame, judged_event}
use Rattle.steps.specs.declared.Event.{Event}
use Rattle.steps.specs.declared.Judged.{Judged}
use Rattle.crate_pass.specs.declared.PassKind.{PassKind}
use Rattle.crate_pass.specs.declared.PassKind.TheVariants.{Reprogramming, Ping, Rates}
use Rattle.crate_pass.specs.declared.Outcome.{Outcome}
use Rattle.crate_pass.specs.declared.Outcome.TheVariants.{Good, Again, BoardFailed}
use Rattle.crate_pass.specs.declared.Crate.{Crate}
use Rattle.crate_pass.specs.declared.Moved.{Moved}
use Rattle.crate_pass.specs.declared.CrateResult.{CrateResult}

-- "In a reprogramming pass each crate serves its active boards ..; in a ping, all ten"; 02, i: "a rate pass over the active boards"
abbrev pub serves : PassKind → ℕ → ℕ → Bool
serves Reprogramming w b = flag_set w b
serves Ping w b = true
serves Rates w b = flag_set w b

-- "in rising order": the first board that the pass serves of n from b on, or 10
unfoldable pub first_served : PassKind → ℕ → ℕ → ℕ → ℕ
first_served kind w zero b = 10
first_served kind w (suc n) b = cond (serves kind w b) b (first_served kind w n (suc b))

unfoldable pub next_board : PassKind → ℕ → ℕ → ℕ
next_board kind w b = first_served kind w (10 - b) b

-- "with codes 1, 2, 3; in a ping .. with code 4"; 02, i: "a rate pass .. with code 5"
abbrev pub first_code : PassKind → ℕ
first_code Reprogramming = 1
first_code Ping = 4
first_code Rates = 5

-- ---- power-up, and the begin of a pass

-- what the crate keeps of each board, as entries of the FTU list: a board's DNA, calls and CRC errors stand at its number
unfoldable pub as_entries : List ℕ → List ℕ → List ℕ → List Entry
as_entries [] calls errors = []
as_entries (d ∷ dna) [] errors = []
as_entries (d ∷ dna) (n ∷ calls) [] = []
as_entries (d ∷ dna) (n ∷ calls) (e ∷ errors) = record { dna = d; calls = n; crc_errors = e } ∷ as_entries dna calls errors

abbrev pub entries_in : Crate → List Entry
entries_in k = as_entries k.dna k.calls k.crc_errors

-- a board that did not answer: "six zeros" in the list
abbrev pub silent : Entry
silent = record { dna = 0; calls = 0; crc_errors = 0 }

-- nothing is outstanding: the place is no board
abbrev pub is_done : Crate → Bool
is_done k = leb 10 k.board

-- "an empty list, no failure records", and the number of frames "is 0 before any" pass; rates are "zeros before the first" rate pass (02, i)
abbrev pub crate_at_power_up : Crate
crate_at_power_up =
    record {
      rates = replicate 120 0;
      dna = replicate 10 0;
      calls = replicate 10 0;
      crc_errors = replicate 10 0;
      failed = replicate 10 0;
      sent = 0;
      board = 10;
      code = 0;
      tries = 0;
    }

-- the number of frames as a pass begins: "one more while a frame is outstanding"
unfoldable pub sent_at : ℕ → ℕ
sent_at board = cond (ltb board 10) 1 0

-- "A ping clears the list as it begins; no other command changes it"
abbrev pub clears_list : PassKind → Bool
clears_list Reprogramming = false
clears_list Ping = true
clears_list Rates = false

-- a list of n numbers that is cleared, or kept
abbrev pub unless_cleared : Bool → ℕ → List ℕ → List ℕ
unless_cleared clears n ns = cond clears (replicate n 0) ns

abbrev pub kept : PassKind → List ℕ → List ℕ
kept kind ns = unless_cleared (clears_list kind) 10 ns

abbrev pub is_rate_pass : PassKind → Bool
is_rate_pass Reprogramming = false
is_rate_pass Ping = false
is_rate_pass Rates = true

-- records "are cleared when a pass begins"; 02, i: "Inactive or failed boards have zeros", so a rate pass clears the rates
unfoldable pub begun_crate : PassKind → ℕ → Crate → Crate
begun_crate kind w k =
    record {
      rates = unless_cleared (is_rate_pass kind) 120 k.rates;
      dna = kept kind k.dna;
      calls = kept kind k.calls;
      crc_errors = kept kind k.crc_errors;
      failed = replicate 10 0;
      sent = sent_at (next_board kind w 0);
      board = next_board kind w 0;
      code = first_code kind;
      tries = 0;
    }

-- ---- from step to step

-- one frame more where the place is a board. No pass comes near 65,535 frames
unfoldable pub counted_frame : ℕ → ℕ → ℕ
counted_frame b n = cond (ltb b 10) (cond (ltb n 65535) (n + 1) n) n

-- another place of the crate
unfoldable pub placed : Crate → ℕ → ℕ → ℕ → Crate
placed k b code tries =
    record {
      rates = k.rates;
      dna = k.dna;
      calls = k.calls;
      crc_errors = k.crc_errors;
      failed = k.failed;
      sent = counted_frame b k.sent;
      board = b;
      code = code;
      tries = tries;
    }

-- the first step of the next board
unfoldable pub advanced : PassKind → ℕ → Crate → Crate
advanced kind w k = placed k (next_board kind w (k.board + 1)) (first_code kind) 0

-- the next step: codes 1 and 2 have one after them on the same board
unfoldable pub stepped : PassKind → ℕ → Crate → Crate
stepped kind w k = cond (ltb k.code 3) (placed k k.board (k.code + 1) 0) (advanced kind w k)

-- "calls needed": the one that was answered, after so many that were not. There is no fourth
abbrev pub calls_at : ℕ → ℕ
calls_at tries = cond (ltb tries 2) (tries + 1) 3

-- a number for board b, among those of the boards, where its frame was a ping
unfoldable pub with_entry_in : ℕ → ℕ → List ℕ → ℕ → List ℕ
with_entry_in code b ns n = cond (eqb code 4) (set ns b n) ns

-- twelve words for board b, among those of the boards
unfoldable pub with_twelve : ℕ → List ℕ → List ℕ → List ℕ
with_twelve b words twelve = take (12 * b) words ++ (twelve ++ drop (12 * b + 12) words)

-- the same, where its frame asked for rates (02, i)
unfoldable pub with_rates_in : ℕ → ℕ → List ℕ → List ℕ → List ℕ
with_rates_in code b words twelve = cond (eqb code 5) (with_twelve b words twelve) words

-- what a good reply to a frame of this code, after so many sends that failed, says of board b: to a ping, its entry of the list, with the calls that it
-- needed, its DNA and its CRC errors; with rates, its twelve words
unfoldable pub noted : ℕ → ℕ → ℕ → Judged → Crate → Crate
noted b code tries h k =
    record {
      rates = with_rates_in code b k.rates h.rates;
      dna = with_entry_in code b k.dna h.dna;
      calls = with_entry_in code b k.calls (calls_at tries);
      crc_errors = with_entry_in code b k.crc_errors h.crc_errors;
      failed = k.failed;
      sent = k.sent;
      board = k.board;
      code = k.code;
      tries = k.tries;
    }

-- with what the reply to the outstanding frame says
abbrev pub with_reply : Crate → Judged → Crate
with_reply k h = noted k.board k.code k.tries h k

-- "the board gets a failure record": the code of the step that failed
unfoldable pub with_record : Crate → Crate
with_record k =
    record {
      rates = k.rates;
      dna = k.dna;
      calls = k.calls;
      crc_errors = k.crc_errors;
      failed = set k.failed k.board k.code;
      sent = k.sent;
      board = k.board;
      code = k.code;
      tries = k.tries;
    }

-- ---- replies and time-ups

-- an outcome says "whether the crate is done"
abbrev pub with_outcome : (Bool → Outcome) → Crate → Moved
with_outcome outcome k = record { state = k; outcome = outcome (is_done k) }

abbrev pub says_done : Outcome → Bool
says_done (Good done) = done
says_done (Again done) = done
says_done (BoardFailed done) = done

-- "A good reply moves to the next step"
unfoldable pub after_good_reply : PassKind → ℕ → Crate → Judged → Moved
after_good_reply kind w k h = with_outcome Good (stepped kind w (with_reply k h))

-- "A bad reply, or a time-up, sends again; after the third send of a step fails, the board gets a failure record and its other steps are
-- dropped"
unfoldable pub after_failed_send : PassKind → ℕ → Crate → Moved
after_failed_send kind w k =
    cond (ltb k.tries 2)
    (with_outcome Again (placed k k.board k.code (k.tries + 1)))
    (with_outcome BoardFailed (advanced kind w (with_record k)))

abbrev pub moved : PassKind → ℕ → Crate → Judged → Moved
moved kind w k h = cond h.good (after_good_reply kind w k h) (after_failed_send kind w k)

-- ---- on the crate of a number, with lent bytes

-- "11: crate above 3"
abbrev pub no_such_crate : ℕ → Rule
no_such_crate c = rule 11 (ltb 3 c)

-- 02, d: "Refusals: 11, 12, then 19 whenever fewer than 28 bytes are lent"; "12: nothing outstanding there"
abbrev pub served_rules : ℕ → Crate → List ℕ → List Rule
served_rules c k lent = no_such_crate c ∷ rule 12 (is_done k) ∷ too_short 28 lent ∷ []

unfoldable pub served_answer : PassKind → ℕ → ℕ → Crate → Judged → List ℕ → Answer Outcome
served_answer kind w c k h lent = lowest (served_rules c k lent) (moved kind w k h).outcome

-- a refused reply or time-up "is then not counted"
abbrev pub unless_refused : {A : Type 0} → Answer Outcome → A → A → A
unless_refused (given o) next same = next
unless_refused (refused n p) next same = same

-- what follows the frame outstanding there, judged by it
abbrev pub judged_on : List ℕ → ℕ → Crate → Event → List ℕ → Judged
judged_on block c k event bytes = judged_event event (step_frame block c k.board k.code) bytes

-- the frame outstanding on crate c, with the stored block; none where the crate is done
unfoldable pub frame_due : List ℕ → ℕ → Crate → List ℕ
frame_due block c k = cond (is_done k) [] (step_frame block c k.board k.code)

-- crate c answered r to what was judged as h, and the lent bytes became `after`: "the next frame, or word that the crate is done and the bytes
-- untouched" (02, d)
pub record Serves (kind : PassKind) (w : ℕ) (block : List ℕ) (c : ℕ) (k : Crate) (h : Judged) (lent : List ℕ) (r : CrateResult) (after : List ℕ) : Type 0 where
  pub answer : answer_of r.answer ≡ served_answer kind w c k h lent
  pub state : r.state ≡ unless_refused (served_answer kind w c k h lent) (moved kind w k h).state k
  pub bytes : after ≡ output_after (served_answer kind w c k h lent) (frame_due block c (moved kind w k h).state) lent

-- the first frame's fetch gets "12 once that crate has had a counted reply or time-up in this pass" too (02, d): while a frame is outstanding, the
-- frames sent are one more than these
abbrev pub first_rule : Crate → Rule
first_rule k = rule 12 (is_done k || ltb 1 k.sent)
