-- 02, i: in every state that a board reaches, the finished rates are within their bounds (`finished-sound`), and each count is below 2^30 (`counts-below`).
-- Assumes nothing.
use Prim.Native.Nat.{ℕ, zero, suc, ◌+◌, ◌*◌, ◌^◌, ◌<◌, ◌≤◌}
use mathlib.Core.Path.{◌≡◌, refl, ◌∙◌}
use mathlib.Core.Bool.{Bool, true, false, cond, ◌&&◌}
use mathlib.Core.List.{List, [], ◌∷◌}
use native.Mathlib.Omega.{arith}
use lib.ListN.{length, get_or, length-append}
use Rattle.numbers.specs.Numbers.{number}
use Rattle.bounds.specs.Bounds.{measurement_bound, RatesKept}
use Rattle.bounds.proofs.Rates.{period, high_word, low_word}
use Rattle.crate_pass.specs.Crate.{is_rate_pass}
use Rattle.crate_pass.specs.Invariant.{CrateInvariant}
use Rattle.crate_pass.specs.declared.PassKind.{PassKind}
use Rattle.crate_pass.specs.declared.Crate.{Crate}
use Rattle.crate_pass.proofs.BoardRates.{kept_append}
use Rattle.four_crates.specs.FourCrates.{crate_of, in_pass, rates_of_first, rates_of}
use Rattle.board.specs.State.{finished_rates}
use Rattle.board.specs.declared.Board.{Board}
use Rattle.reachable.specs.Reachable.{Reachable}

-- those of the four crates
rates-sound : (kind : PassKind) (cs : List Crate) → ((c : ℕ) → c < 4 → CrateInvariant kind (crate_of cs c)) → (n : ℕ) → n ≤ 4
    → (length (rates_of_first n cs) ≡ 120 * n) × RatesKept (rates_of_first n cs)
unfolding rates_of_first
rates-sound kind cs s zero l = (refl, λ j. omega arith)
rates-sound kind cs s (suc n) l =
    let front = rates-sound kind cs s n (omega arith) in
    let own = s n (omega arith) in
    let size : length (rates_of_first n cs) ≡ 12 * (10 * n) = let e = front.0 in omega arith in (
      length-append (rates_of_first n cs) (crate_of cs n).rates ∙ rw (front.0, own.length-rates) (omega arith),
      kept_append (10 * n) (rates_of_first n cs) (crate_of cs n).rates size front.1 own.rates,
    )

module _ (β : Board) (h : Reachable β) where
  pub finished-sound : (length (finished_rates β) ≡ 480) × RatesKept (finished_rates β)
  unfolding finished_rates
  finished-sound = go (is_rate_pass β.kind && in_pass β.crates)
    where
      go : (t : Bool) → (length (cond t β.rates (rates_of β.crates)) ≡ 480) × RatesKept (cond t β.rates (rates_of β.crates))
      go true = (h.length-rates, h.rates)
      go false = rates-sound β.kind β.crates h.crates 4 (omega arith)

  -- the count of patch p of board k, and the total for p = 4, in two words: "each below 2^30"
  pub counts-below : (k p : ℕ) → p < 5
      → number 65536 (get_or (finished_rates β) (12 * k + 2 * p) 0 ∷ get_or (finished_rates β) (12 * k + (2 * p + 1)) 0 ∷ []) < 2 ^ 30
  counts-below k p l =
      let kept = finished-sound.1 in
      let high : get_or (finished_rates β) (12 * k + 2 * p) 0 ≤ 0x3FFF = rw (← high-bound) (kept (12 * k + 2 * p)) in
      let low : get_or (finished_rates β) (12 * k + (2 * p + 1)) 0 ≤ 0xFFFF = rw (← low-bound) (kept (12 * k + (2 * p + 1))) in
      omega arith
    where
      high-bound : measurement_bound (4 + (12 * k + 2 * p)) ≡ 0x3FFF
      high-bound = period k (2 * p) ∙ high_word p l

      low-bound : measurement_bound (4 + (12 * k + (2 * p + 1))) ≡ 0xFFFF
      low-bound = period k (2 * p + 1) ∙ low_word p
