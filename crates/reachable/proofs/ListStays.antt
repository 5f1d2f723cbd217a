-- "The list at power-up is 249 zeros" (`list-at-power-up`). "A ping clears the list as it begins" (`list-cleared`); "no other command changes it", nor does
-- anything else while no ping is under way (`list-stays`).
-- Assumes nothing.
use Prim.Native.Nat.{ℕ, ◌<◌}
use mathlib.Core.Path.{◌≡◌, refl, sym, ap, ap₂, ◌∙◌}
use mathlib.Core.Bool.{true, false}
use mathlib.Core.List.{List, [], ◌++◌}
use mathlib.Core.Logic.{inl}
use lib.ListN.{replicate}
use Rattle.refusals.specs.Tables.{Answer, given}
use Rattle.refusals.proofs.Writing.{wrote-front}
use Rattle.numbers.specs.Numbers.{id_limit}
use Rattle.commands.specs.declared.Command.{Command}
use Rattle.commands.specs.declared.Command.TheVariants.{Ping}
use Rattle.blocks.specs.Blocks.{header_words}
use Rattle.ftu_list.specs.List.{entry_words, list_head, list_body}
use Rattle.ftu_list.specs.declared.Entry.{Entry}
use Rattle.crate_pass.specs.Crate.{as_entries, entries_in, clears_list, begun_crate}
use Rattle.crate_pass.proofs.Entries.{begin-keeps-entries, reply-keeps-entries}
use Rattle.four_crates.specs.FourCrates.{begun_all, entries_of}
use Rattle.four_crates.proofs.Entries.{same-list}
use Rattle.board.specs.State.{active_words, with_run, with_crates, fresh_board}
use Rattle.command_reader.specs.Reading.{block_of}
use Rattle.board.specs.Commands.{board_answer, written, pinged, after_command, board_after}
use Rattle.board.specs.SentOut.{header_of, list_of}
use Rattle.board.specs.RatePass.{rates_begun}
use Rattle.board.specs.declared.Board.{Board}
use Rattle.reachable.specs.Calls.{Call, after_all, is_ping, no_ping}
use Rattle.reachable.specs.Stays.{GivesList, list_at_power_up, NoPingUnderWay}
use Rattle.reachable.proofs.OneCall.{false≢true}
use Rattle.reachable.proofs.FieldStays.{field-stays}
use Rattle.reachable.proofs.Holding.{Holds, holds-power-up}
use Rattle.reachable.proofs.PartStays.{Kept, parts_stay}
use Rattle.reachable.proofs.States.{holds-all}

-- ---- power-up, and the begin of a ping

pub zeros-at-power-up : (id firmware : ℕ) → list_body (list_of (fresh_board id firmware)) ≡ list_at_power_up
unfolding fresh_board entries_of as_entries list_head entry_words
zeros-at-power-up id firmware = refl

-- five counts, the four active words, and six words for each board
pub list-cleared : (β : Board) (w : List ℕ) → board_answer β w ≡ given Ping
    → list_body (list_of (board_after β w)) ≡ replicate 5 0 ++ active_words β.block ++ replicate 240 0
unfolding pinged begun_all begun_crate entries_of as_entries list_head entry_words
list-cleared β w e = ap (λ (a : Answer Command). list_body (list_of (after_command β (block_of w) a))) e

-- ---- without a ping, the entries and the active words stay

entries-by-pings : Kept entries_in clears_list is_ping false
entries-by-pings =
    record {
      begin = begin-keeps-entries;
      step = reply-keeps-entries;
      write = refl;
      ping = λ e. false≢true (sym e);
      rate = λ e. refl;
    }

active-stays : (β : Board) (xs : List Call) → no_ping β xs ≡ true → (after_all β xs).active ≡ β.active
unfolding with_run with_crates written rates_begun
active-stays =
    field-stays (λ (γ : Board). γ.active) is_ping false
    (record { run = λ β r. refl; crates = λ β cs. refl; write = λ β block e. refl; ping = λ β e. false≢true (sym e); rate = λ β e. refl })

same-calls : (β : Board) (xs : List Call) → Holds β → no_ping β xs ≡ true → NoPingUnderWay β → list_of (after_all β xs) ≡ list_of β
same-calls β xs h e n =
    let entries = (parts_stay entries_in clears_list is_ping false entries-by-pings β xs h e n).0 in
    ap₂ (λ (a : List ℕ) (es : List Entry). record { active = a; entries = es }) (active-stays β xs e) (same-list (after_all β xs).crates β.crates entries)

-- ---- and so do many: from power-up, through any calls, to a state in which no ping is under way, and on through calls among which none is accepted

-- a board whose list has that body gives it
gives-list : (β : Board) (body : List ℕ) → list_body (list_of β) ≡ body → GivesList β body
gives-list β body e out after n w = wrote-front _ _ out n after w.wrote ∙ ap (λ (l : List ℕ). header_words (header_of β) ++ l) e

module _ (id firmware : ℕ) (i : id < id_limit) (f : firmware < 65536) where
  module _ (before xs : List Call) where
    abbrev now : Board
    now = after_all (fresh_board id firmware) before

    pub body-stays : NoPingUnderWay now → no_ping now xs ≡ true → list_body (list_of (after_all now xs)) ≡ list_body (list_of now)
    body-stays n free = ap list_body (same-calls now xs (holds-all (fresh_board id firmware) before (holds-power-up id firmware i f)) free n)

    -- `ftu_list` gives the same body wherever it is accepted
    pub list-stays : NoPingUnderWay now → no_ping now xs ≡ true → GivesList (after_all now xs) (list_body (list_of now))
    list-stays n free = gives-list (after_all now xs) (list_body (list_of now)) (body-stays n free)

  -- up to the first ping it is that of power-up
  pub list-at-power-up : (xs : List Call) → no_ping (fresh_board id firmware) xs ≡ true → GivesList (after_all (fresh_board id firmware) xs) list_at_power_up
  unfolding fresh_board
  list-at-power-up xs free =
      gives-list (after_all (fresh_board id firmware) xs) list_at_power_up (body-stays [] xs (inl refl) free ∙ zeros-at-power-up id firmware)
