-- Laws of packets, one for each way that a function returns.
-- Assumes nothing.
use Prim.Native.Nat.{ℕ, ◌/◌, ◌%◌, ◌^◌, ◌<◌, ◌≤◌}
use mathlib.Core.Path.{◌≡◌, refl, sym, ap, ap₂, ◌∙◌}
use mathlib.Core.Bool.{Bool, true, false, not, ◌&&◌}
use mathlib.Core.List.{List, [], ◌∷◌, ◌++◌}
use native.Mathlib.Omega.{arith}
use lib.Dec.{leb}
use lib.ListN.{length, drop}
use borrow.Author.Tests.{le-leb, lt-leb, leb-true, not-false}
use Rattle.std.specs.Prelude.{Result, Ok, Err}
use Rattle.crc.specs.Crc.{crc, packet_start}
use Rattle.refusals.specs.declared.Refusal.TheVariants.{TriggerFieldOutOfRange, OutputTooShort}
use Rattle.refusals.proofs.Writing.{wrote, wrote-short, wrote-refused, refused≢length}
use Rattle.packets.specs.Packets.{type1, type2, first_six, packet_bytes, in_range, write_rules, WrotePacket}
use Rattle.packets.specs.declared.Fields.{Fields}
use Rattle.refusals.specs.declared.Refusal.{Refusal}

-- ---- the ranges

module _ (f : Fields) where
  pub n-above : 40 < f.n → false ≡ in_range f
  n-above h = simp (lt-leb _ _ h)

  pub n_within : f.n ≤ 40 → leb f.pulser_setting 15 ≡ in_range f
  n_within h = simp (le-leb _ _ h)

  pub within : (r : Bool) → r ≡ in_range f → not r ≡ false → (f.n ≤ 40) × (f.pulser_setting ≤ 15)
  within r e h = go (leb f.n 40) (leb f.pulser_setting 15) refl refl (sym e ∙ not-false r h)
    where
      go : (a b : Bool) → leb f.n 40 ≡ a → leb f.pulser_setting 15 ≡ b → a && b ≡ true → (f.n ≤ 40) × (f.pulser_setting ≤ 15)
      go true true p q t = (leb-true _ _ p, leb-true _ _ q)
      go true false p q t = absurd (let z : ◌≡◌ {A = ℕ} 0 1 = cc in omega arith)
      go false b p q t = absurd (let z : ◌≡◌ {A = ℕ} 0 1 = cc in omega arith)

-- ---- the bytes

-- bytes 0 to 5, of the number and the two types
abbrev front : ℕ → ℕ → ℕ → List ℕ
front x t₁ t₂ = x % 256 ∷ x / 256 % 256 ∷ x / 256 / 256 % 256 ∷ x / 256 / 256 / 256 % 256 ∷ t₁ ∷ t₂ ∷ []

pub packet-is : (x : ℕ) (f : Fields) (t₁ t₂ c : ℕ) → t₁ ≡ type1 f → t₂ ≡ type2 f → c ≡ crc packet_start (front x t₁ t₂)
    → front x t₁ t₂ ++ (c ∷ []) ≡ packet_bytes x f
unfolding first_six
packet-is x f t₁ t₂ c e₁ e₂ ec =
    let e : front x t₁ t₂ ≡ first_six x f = ap₂ (front x) e₁ e₂ in
    ap₂ (λ (l : List ℕ) (y : ℕ). l ++ (y ∷ [])) e (ec ∙ ap (crc packet_start) e)

-- ---- the writer

module _ (x : ℕ) (f : Fields) (out : List ℕ) (r : Bool) (e : r ≡ in_range f) where
  abbrev After : (Result ℕ Refusal) → List ℕ → Type 0
  After w after = WrotePacket (write_rules f) x f out w after

  pub write-15 : not r ≡ true → After (Err TriggerFieldOutOfRange) out
  write-15 h =
      record {
        wrote = wrote-refused _ _ _ TriggerFieldOutOfRange (rw (rw e at h));
        fits = λ m z. absurd (refused≢length TriggerFieldOutOfRange m z);
      }

  module _ (h : not r ≡ false) where
    pub write-19 : length out < 7 → After (Err OutputTooShort) out
    unfolding first_six
    write-19 s =
        record {
          wrote = wrote-short _ _ _ (rw e at h, tt) 7 refl s;
          fits = λ m z. absurd (refused≢length OutputTooShort m z);
        }

    -- after its seven bytes
    pub written : x < 2 ^ 32 → (b : List ℕ) → b ≡ packet_bytes x f → 7 ≤ length out → After (Ok 7) (b ++ drop 7 out)
    unfolding first_six
    written fits b eb s =
        record {
          wrote = wrote _ _ _ (rw e at h, tt) 7 refl _ s (ap (λ (l : List ℕ). l ++ drop 7 out) eb);
          fits = λ m z. fits;
        }
