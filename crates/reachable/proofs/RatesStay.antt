-- 02, i: the rates are "zeros before the first" rate pass (`rates-at-power-up`), and nothing but a rate pass changes those of the last finished one: no
-- write, start, stop, ping or reset, nor anything else while none is under way (`rates-stay`); while one is under way they are those of the one before
-- (`rates-until-finished`).
-- Assumes nothing.
use Prim.Native.Nat.{ℕ, ◌<◌}
use mathlib.Core.Path.{◌≡◌, refl, sym, ap, ap₂, ◌∙◌}
use mathlib.Core.Bool.{true}
use mathlib.Core.List.{List, ◌++◌}
use mathlib.Core.Logic.{inl, inr}
use native.Mathlib.Omega.{arith}
use Rattle.refusals.proofs.Writing.{wrote-front}
use Rattle.numbers.specs.Numbers.{id_limit}
use Rattle.blocks.specs.Blocks.{header_words, dynamic_body}
use Rattle.crate_pass.specs.Crate.{is_rate_pass}
use Rattle.crate_pass.specs.declared.Crate.{Crate}
use Rattle.crate_pass.proofs.Entries.{begin-keeps-rates, reply-keeps-rates}
use Rattle.four_crates.specs.FourCrates.{crate_of, rates_of_first, rates_of}
use Rattle.board.specs.State.{finished_rates, with_run, with_crates, fresh_board}
use Rattle.board.specs.Commands.{written, pinged}
use Rattle.board.specs.SentOut.{header_of}
use Rattle.board.specs.declared.Board.{Board}
use Rattle.board.proofs.RatePass.{other-rates, idle-rates}
use Rattle.reachable.specs.Calls.{Call, after_all, none, no_rates_begun}
use Rattle.reachable.specs.Stays.{GivesRates, rates_at_power_up, RatesUnderWay, NoRatesUnderWay}
use Rattle.reachable.proofs.OneCall.{false≢true}
use Rattle.reachable.proofs.FieldStays.{field-stays}
use Rattle.reachable.proofs.Holding.{Holds, holds-power-up}
use Rattle.reachable.proofs.PartStays.{Kept, parts_stay}
use Rattle.reachable.proofs.States.{holds-all}

-- ---- while no rate pass is under way, the finished rates are those of the crates

finished-are : (β : Board) → NoRatesUnderWay β → finished_rates β ≡ rates_of β.crates
finished-are β (inl e) = sym (other-rates β e)
finished-are β (inr e) = idle-rates β e

same-rates : (cs ds : List Crate) → ((c : ℕ) → c < 4 → (crate_of cs c).rates ≡ (crate_of ds c).rates) → rates_of cs ≡ rates_of ds
unfolding rates_of_first
same-rates cs ds same =
    ap₂ ◌++◌ (ap₂ ◌++◌ (ap₂ ◌++◌ (same 0 (omega arith)) (same 1 (omega arith))) (same 2 (omega arith))) (same 3 (omega arith))

-- ---- where none begins, those of the crates stay

abbrev rates : Crate → List ℕ
rates k = k.rates

rates-by-rate-passes : Kept rates is_rate_pass none true
rates-by-rate-passes =
    record {
      begin = begin-keeps-rates;
      step = reply-keeps-rates;
      write = refl;
      ping = λ e. refl;
      rate = λ e. false≢true (sym e);
    }

finished-stay : (β : Board) (xs : List Call) → Holds β → no_rates_begun β xs ≡ true → NoRatesUnderWay β → finished_rates (after_all β xs) ≡ finished_rates β
finished-stay β xs h e n =
    let kept = parts_stay rates is_rate_pass none true rates-by-rate-passes β xs h e n in
    finished-are (after_all β xs) kept.1 ∙ same-rates (after_all β xs).crates β.crates kept.0 ∙ sym (finished-are β n)

-- a board that has those finished rates gives them
gives-rates : (β : Board) (rates : List ℕ) → finished_rates β ≡ rates → GivesRates β rates
gives-rates β rates e t out after n w =
    wrote-front _ _ out n after w.block.wrote ∙ ap (λ (l : List ℕ). header_words (header_of β) ++ dynamic_body β.run.on_time t l) e

-- ---- while a rate pass is under way, they are those that the board keeps, which only the begin of one changes

board-rates-stay : (β : Board) (xs : List Call) → no_rates_begun β xs ≡ true → (after_all β xs).rates ≡ β.rates
unfolding with_run with_crates written pinged
board-rates-stay =
    field-stays (λ (γ : Board). γ.rates) none true
    (record { run = λ β r. refl; crates = λ β cs. refl; write = λ β block e. refl; ping = λ β e. refl; rate = λ β e. false≢true (sym e) })

under-way : (β : Board) → RatesUnderWay β → finished_rates β ≡ β.rates
unfolding finished_rates
under-way β e = rw e

-- so through any calls that begin none, from any state in which one is under way, `dynamic_block` gives the same rates until it is finished
pub rates-until-finished : (now : Board) (xs : List Call) → RatesUnderWay now → no_rates_begun now xs ≡ true → RatesUnderWay (after_all now xs)
    → GivesRates (after_all now xs) (finished_rates now)
rates-until-finished now xs e free later =
    gives-rates (after_all now xs) (finished_rates now) (under-way (after_all now xs) later ∙ board-rates-stay now xs free ∙ sym (under-way now e))

-- ---- and so do many: from power-up, through any calls, to a state in which no rate pass is under way, and on through calls among which none begins

zeros-at-power-up : (id firmware : ℕ) → finished_rates (fresh_board id firmware) ≡ rates_at_power_up
unfolding fresh_board finished_rates rates_of_first
zeros-at-power-up id firmware = refl

module _ (id firmware : ℕ) (i : id < id_limit) (f : firmware < 65536) where
  module _ (before xs : List Call) where
    abbrev now : Board
    now = after_all (fresh_board id firmware) before

    -- `dynamic_block` gives the same rates wherever it is accepted
    pub rates-stay : NoRatesUnderWay now → no_rates_begun now xs ≡ true → GivesRates (after_all now xs) (finished_rates now)
    rates-stay n free =
        gives-rates (after_all now xs) (finished_rates now)
        (finished-stay now xs (holds-all (fresh_board id firmware) before (holds-power-up id firmware i f)) free n)

  -- up to the first rate pass they are zeros
  pub rates-at-power-up : (xs : List Call) → no_rates_begun (fresh_board id firmware) xs ≡ true
      → GivesRates (after_all (fresh_board id firmware) xs) rates_at_power_up
  unfolding fresh_board
  rates-at-power-up xs free =
      gives-rates (after_all (fresh_board id firmware) xs) rates_at_power_up
      (finished-stay (fresh_board id firmware) xs (holds-power-up id firmware i f) free (inl refl) ∙ zeros-at-power-up id firmware)
