-- The table of refusals of a packet that is read, a law for each way that the reader returns.
-- Assumes nothing.
use Prim.Native.Nat.{ℕ, suc, ◌<◌}
use mathlib.Core.Path.{◌≡◌, sym, ◌∙◌}
use mathlib.Core.Bool.{Bool, true, false, not}
use mathlib.Core.List.{List, [], ◌∷◌, ◌++◌}
use native.Mathlib.Omega.{arith}
use lib.ListN.{length, take, get_or}
use lib.Seq.{take-suc}
use borrow.Author.Tests.{eq-eqb, ne_eqb}
use Rattle.crc.specs.Crc.{crc, packet_start}
use Rattle.refusals.specs.Tables.{given, refused}
use Rattle.packets.specs.Packets.{in_range}
use Rattle.packets.specs.declared.Fields.{Fields}
use Rattle.packet_reader.specs.Reading.{packet_in, read_rules, packet_answer}

module _ (b : List ℕ) where
  pub read-13 : (length b ≡ 7 → ⊥) → refused 13 0 ≡ packet_answer b
  unfolding packet_answer read_rules
  read-13 n = simp (ne_eqb _ _ n)

  pub wrong-crc : length b ≡ 7 → (crc packet_start (take 6 b) ≡ get_or b 6 0 → ⊥) → refused 14 0 ≡ packet_answer b
  unfolding packet_answer read_rules
  wrong-crc l n = simp (eq-eqb _ _ l, ne_eqb _ _ n)

  module _ (l : length b ≡ 7) (k : ℕ)
      (ek : k ≡ crc packet_start (get_or b 0 0 ∷ get_or b 1 0 ∷ get_or b 2 0 ∷ get_or b 3 0 ∷ get_or b 4 0 ∷ get_or b 5 0 ∷ [])) where
    -- the CRC that was computed is that of bytes 0 to 5
    computed : crc packet_start (take 6 b) ≡ k
    computed =
        let next : (i : ℕ) → i < 7 → take (suc i) b ≡ take i b ++ (get_or b i 0 ∷ []) = λ i h. take-suc b i 0 (omega arith) in
        rw (next 5 (omega arith), next 4 (omega arith), next 3 (omega arith), next 2 (omega arith), next 1 (omega arith), next 0 (omega arith)) (sym ek)

    pub read-14 : (k ≡ get_or b 6 0 → ⊥) → refused 14 0 ≡ packet_answer b
    read-14 n = wrong-crc l (λ e. n (sym computed ∙ e))

    module _ (q : k ≡ get_or b 6 0) (f : Fields) (ef : f ≡ (packet_in b).fields) (r : Bool) (er : r ≡ in_range f) where
      pub read-15 : not r ≡ true → refused 15 0 ≡ packet_answer b
      unfolding packet_answer read_rules
      read-15 h =
          let t : not (in_range (packet_in b).fields) ≡ true = rw (er, ef) at h in
          simp (eq-eqb _ _ l, eq-eqb _ _ (computed ∙ q), t)

      pub read-packet : (x : ℕ) → x ≡ (packet_in b).number → not r ≡ false → given (record { number = x; fields = f }) ≡ packet_answer b
      unfolding packet_answer read_rules
      read-packet x ex h =
          let t : not (in_range (packet_in b).fields) ≡ false = rw (er, ef) at h in
          (λ i. given (record { number = ex i; fields = ef i })) ∙ simp (eq-eqb _ _ l, eq-eqb _ _ (computed ∙ q), t)
