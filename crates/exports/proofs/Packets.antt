-- Packets read one after another.
-- Assumes nothing.
use Prim.Native.Nat.{ℕ, ◌+◌, ◌*◌, ◌-◌, ◌<◌, ◌≤◌}
use native.Mathlib.Nat.{zero-add, sub-zero}
use native.Mathlib.Omega.{arith}
use mathlib.Core.Path.{◌≡◌, ap, ◌∙◌}
use mathlib.Core.List.{List}
use lib.ListN.{take, drop}
use Rattle.refusals.specs.Tables.{is_given}
use Rattle.packet_reader.specs.Reading.{packet_answer}
use Rattle.command_series.proofs.Parts.{past, one_left}
use Rattle.exports.specs.Exports.{good_from}

pub packet-next : (n i : ℕ) (bytes : List ℕ) → i < n
    → good_from (n - i) (drop (7 * i) bytes)
    ≡ is_given (packet_answer (take 7 (drop (7 * i) bytes))) + good_from (n - (i + 1)) (drop (7 * (i + 1)) bytes)
unfolding good_from
packet-next n i bytes h =
    ap (λ (k : ℕ). good_from k (drop (7 * i) bytes)) (one_left n i h)
    ∙ ap (λ (l : List ℕ). is_given (packet_answer (take 7 (drop (7 * i) bytes))) + good_from (n - (i + 1)) l) (past 7 i bytes)

-- ---- the loop: `good` of the first i packets of n are good

pub packet-start : (n : ℕ) (bytes : List ℕ) → 0 + good_from (n - 0) bytes ≡ good_from n bytes
packet-start n bytes = zero-add (good_from (n - 0) bytes) ∙ ap (λ (k : ℕ). good_from k bytes) (sub-zero n)

module _ (bytes : List ℕ) (n i good : ℕ) (inv : good + good_from (n - i) (drop (7 * i) bytes) ≡ good_from n bytes) where
  pub packet-turn : (g k : ℕ) → i < n → k ≡ 7 → g ≡ is_given (packet_answer (take k (drop (7 * i) bytes)))
      → good + g + good_from (n - (i + 1)) (drop (7 * (i + 1)) bytes) ≡ good_from n bytes
  packet-turn g k l ek e =
      let p : g ≡ is_given (packet_answer (take 7 (drop (7 * i) bytes))) = e ∙ ap (λ (j : ℕ). is_given (packet_answer (take j (drop (7 * i) bytes)))) ek in
      let q = packet-next n i bytes l in
      omega arith

  pub packet-end : n ≤ i → good ≡ good_from n bytes
  unfolding good_from
  packet-end h =
      let e : n - i ≡ 0 = omega arith in
      let z : good_from (n - i) (drop (7 * i) bytes) ≡ 0 = ap (λ (k : ℕ). good_from k (drop (7 * i) bytes)) e in
      omega arith
