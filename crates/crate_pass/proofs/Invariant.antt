-- A crate is sound at power-up, as a pass begins, and after a reply or a time-up (`sound-power-up`, `sound-begun`, `sound-after`).
-- Assumes nothing.
use Prim.Native.Nat.{ℕ, zero, suc, ◌+◌, ◌-◌, ◌<◌, ◌≤◌}
use mathlib.Core.Path.{◌≡◌, refl, sym, ◌∙◌, subst}
use mathlib.Core.Bool.{Bool, true, false, cond}
use mathlib.Core.List.{List, [], ◌∷◌}
use mathlib.Core.Logic.{inl, inr}
use native.Mathlib.Omega.{arith}
use lib.Dec.{ltb, eqb}
use lib.ListN.{length, get_or, set, replicate, length-set, length-replicate}
use borrow.Author.Tests.{ltb-true, eqb-true}
use Rattle.numbers.specs.Numbers.{id_limit}
use Rattle.bounds.specs.Bounds.{measurement_bound, RatesKept}
use Rattle.steps.specs.declared.Judged.{Judged}
use Rattle.crate_pass.specs.declared.PassKind.{PassKind}
use Rattle.crate_pass.specs.declared.PassKind.TheVariants.{Reprogramming, Ping, Rates}
use Rattle.crate_pass.specs.declared.Crate.{Crate}
use Rattle.crate_pass.specs.Crate.{serves, first_served, next_board, first_code, crate_at_power_up, unless_cleared, clears_list, is_rate_pass, begun_crate}
use Rattle.crate_pass.specs.Crate.{placed, advanced, calls_at, with_entry_in, with_twelve, with_rates_in, noted, with_reply, with_record}
use Rattle.crate_pass.specs.Invariant.{IsCode, CallsKept, DnaKept, FailedIn, CrateInvariant}
use Rattle.crate_pass.proofs.After.{after_any}
use Rattle.crate_pass.proofs.Answered.{crate_after}
use Rattle.crate_pass.proofs.BoardRates.{length-twelve, kept-twelve}

-- ---- of lists of numbers, a number for each board

pub zeros : (n b : ℕ) → get_or {A = ℕ} (replicate n 0) b 0 ≡ 0
zeros zero b = refl
zeros (suc n) zero = refl
zeros (suc n) (suc b) = zeros n b

-- what holds of each number and of x holds of each with x stored among them
each_set : (P : ℕ → Type 0) (l : List ℕ) (i x : ℕ) → P x → ((b : ℕ) → P (get_or l b 0)) → (b : ℕ) → P (get_or (set l i x) b 0)
each_set P [] i x p f b = f b
each_set P (y ∷ l) zero x p f zero = p
each_set P (y ∷ l) zero x p f (suc b) = f (suc b)
each_set P (y ∷ l) (suc i) x p f zero = f zero
each_set P (y ∷ l) (suc i) x p f (suc b) = each_set P l i x p (λ c. f (suc c)) b

-- and where they are cleared or not
length-kept : (clears : Bool) (n : ℕ) (l : List ℕ) → length l ≡ n → length (unless_cleared clears n l) ≡ n
length-kept true n l e = length-replicate n 0
length-kept false n l e = e

each-kept : (P : ℕ → ℕ → Type 0) (clears : Bool) (n : ℕ) (l : List ℕ) → ((b : ℕ) → P b 0) → ((b : ℕ) → P b (get_or l b 0))
    → (b : ℕ) → P b (get_or (unless_cleared clears n l) b 0)
each-kept P true n l p f b = subst (P b) (sym (zeros n b)) (p b)
each-kept P false n l p f b = f b

-- ---- places

first-most : (kind : PassKind) (w n b : ℕ) → n ≤ 10 - b → first_served kind w n b ≤ 10
unfolding first_served
first-most kind w zero b h = omega arith
first-most kind w (suc n) b h = go (serves kind w b) (first-most kind w n (suc b) (omega arith))
  where
    go : (t : Bool) → first_served kind w n (suc b) ≤ 10 → cond t b (first_served kind w n (suc b)) ≤ 10
    go true l = omega arith
    go false l = l

next-most : (kind : PassKind) (w b : ℕ) → next_board kind w b ≤ 10
unfolding next_board
next-most kind w b = first-most kind w (10 - b) b (omega arith)

first-is : (kind : PassKind) → IsCode kind (first_code kind)
first-is Reprogramming = (omega arith, omega arith)
first-is Ping = refl
first-is Rates = refl

next-is : (kind : PassKind) (code : ℕ) → IsCode kind code → code < 3 → IsCode kind (code + 1)
next-is Reprogramming code i l = (omega arith, omega arith)
next-is Ping code i l = absurd (let z : ⊥ = omega arith in z)
next-is Rates code i l = absurd (let z : ⊥ = omega arith in z)

three-calls : (tries : ℕ) → CallsKept (calls_at tries)
three-calls tries = go (ltb tries 2) refl
  where
    go : (t : Bool) → ltb tries 2 ≡ t → CallsKept (cond t (tries + 1) 3)
    go true e = let l = ltb-true tries 2 e in omega arith
    go false e = omega arith

-- ---- power-up, and the begin of a pass

pub sound-power-up : CrateInvariant Reprogramming crate_at_power_up
sound-power-up =
    record {
      length-rates = refl;
      rates = λ j. rw (zeros 120 j) (omega arith);
      length-dna = refl;
      length-calls = refl;
      length-errors = refl;
      length-failed = refl;
      board = omega arith;
      code = λ h. absurd (let z : ⊥ = omega arith in z);
      tries = omega arith;
      calls = λ b. rw (zeros 10 b) (omega arith);
      dna = λ b. rw (zeros 10 b) (omega arith);
      failed = λ b. inl (zeros 10 b);
    }

pub sound-begun : (last kind : PassKind) (w : ℕ) (k : Crate) → CrateInvariant last k → CrateInvariant kind (begun_crate kind w k)
unfolding begun_crate
sound-begun last kind w k s =
    record {
      length-rates = length-kept (is_rate_pass kind) 120 k.rates s.length-rates;
      length-dna = length-kept (clears_list kind) 10 k.dna s.length-dna;
      length-calls = length-kept (clears_list kind) 10 k.calls s.length-calls;
      length-errors = length-kept (clears_list kind) 10 k.crc_errors s.length-errors;
      length-failed = refl;
      board = next-most kind w 0;
      code = λ h. first-is kind;
      tries = omega arith;
      rates = each-kept (λ (j n : ℕ). n ≤ measurement_bound (4 + j)) (is_rate_pass kind) 120 k.rates (λ j. omega arith) s.rates;
      calls = each-kept (λ (b : ℕ). CallsKept) (clears_list kind) 10 k.calls (λ b. omega arith) s.calls;
      dna = each-kept (λ (b : ℕ). DnaKept) (clears_list kind) 10 k.dna (λ b. omega arith) s.dna;
      failed = λ b. inl (zeros 10 b);
    }

-- ---- replies and time-ups

module _ (kind : PassKind) (w : ℕ) where
  sound-placed : (k : Crate) (b code tries : ℕ) → b ≤ 10 → (b < 10 → IsCode kind code) → tries ≤ 2
      → CrateInvariant kind k → CrateInvariant kind (placed k b code tries)
  unfolding placed
  sound-placed k b code tries l i t s =
      record {
        length-rates = s.length-rates;
        rates = s.rates;
        length-dna = s.length-dna;
        length-calls = s.length-calls;
        length-errors = s.length-errors;
        length-failed = s.length-failed;
        board = l;
        code = i;
        tries = omega arith;
        calls = s.calls;
        dna = s.dna;
        failed = s.failed;
      }

  sound-advanced : (k : Crate) → CrateInvariant kind k → CrateInvariant kind (advanced kind w k)
  unfolding advanced
  sound-advanced k s =
      let b = next_board kind w (k.board + 1) in
      sound-placed k b (first_code kind) 0 (next-most kind w (k.board + 1)) (λ h. first-is kind) (omega arith) s

  sound-marked : (k : Crate) → k.board < 10 → CrateInvariant kind k → CrateInvariant kind (with_record k)
  unfolding with_record
  sound-marked k h s =
      record {
        length-rates = s.length-rates;
        rates = s.rates;
        length-dna = s.length-dna;
        length-calls = s.length-calls;
        length-errors = s.length-errors;
        length-failed = length-set k.failed k.board k.code ∙ s.length-failed;
        board = s.board;
        code = s.code;
        tries = s.tries;
        calls = s.calls;
        dna = s.dna;
        failed = each_set (FailedIn kind) k.failed k.board k.code (inr (s.code h)) s.failed;
      }

  module _ (k : Crate) (h : Judged) where
    length-noted : (l : List ℕ) (n : ℕ) → length l ≡ 10 → length (with_entry_in k.code k.board l n) ≡ 10
    unfolding with_entry_in
    length-noted l n e = go (eqb k.code 4)
      where
        go : (t : Bool) → length (cond t (set l k.board n) l) ≡ 10
        go true = length-set l k.board n ∙ e
        go false = e

    each-noted : (P : ℕ → Type 0) (l : List ℕ) (n : ℕ) → (k.code ≡ 4 → P n) → ((b : ℕ) → P (get_or l b 0))
        → (b : ℕ) → P (get_or (with_entry_in k.code k.board l n) b 0)
    unfolding with_entry_in
    each-noted P l n p f b = go (eqb k.code 4) refl
      where
        go : (t : Bool) → eqb k.code 4 ≡ t → P (get_or (cond t (set l k.board n) l) b 0)
        go true e = each_set P l k.board n (p (eqb-true _ _ e)) f b
        go false e = f b

    -- a good reply to a ping carries a DNA "below 2^57", and one with rates twelve words within their bounds
    module _ (below : k.code ≡ 4 → h.good ≡ true → h.dna < id_limit) (twelve : length h.rates ≡ 12)
        (bounded : k.code ≡ 5 → h.good ≡ true → RatesKept h.rates) where
      length-rated : k.board < 10 → length k.rates ≡ 120 → length (with_rates_in k.code k.board k.rates h.rates) ≡ 120
      unfolding with_rates_in
      length-rated d e = go (eqb k.code 5)
        where
          go : (t : Bool) → length (cond t (with_twelve k.board k.rates h.rates) k.rates) ≡ 120
          go true = length-twelve k.board k.rates h.rates d e twelve
          go false = e

      rates-rated : k.board < 10 → length k.rates ≡ 120 → h.good ≡ true → RatesKept k.rates
          → RatesKept (with_rates_in k.code k.board k.rates h.rates)
      unfolding with_rates_in
      rates-rated d e g f = go (eqb k.code 5) refl
        where
          go : (t : Bool) → eqb k.code 5 ≡ t → RatesKept (cond t (with_twelve k.board k.rates h.rates) k.rates)
          go true q = kept-twelve k.board k.rates h.rates d e twelve f (bounded (eqb-true _ _ q) g)
          go false q = f

      sound-noted : k.board < 10 → h.good ≡ true → CrateInvariant kind k → CrateInvariant kind (with_reply k h)
      unfolding noted
      sound-noted d g s =
          record {
            length-rates = length-rated d s.length-rates;
            length-dna = length-noted k.dna h.dna s.length-dna;
            length-calls = length-noted k.calls (calls_at k.tries) s.length-calls;
            length-errors = length-noted k.crc_errors h.crc_errors s.length-errors;
            length-failed = s.length-failed;
            board = s.board;
            code = s.code;
            tries = s.tries;
            calls = each-noted CallsKept k.calls (calls_at k.tries) (λ e. three-calls k.tries) s.calls;
            rates = rates-rated d s.length-rates g s.rates;
            dna = each-noted DnaKept k.dna h.dna (λ e. let l = below e g in omega arith) s.dna;
            failed = s.failed;
          }

      pub sound-after : (lent : List ℕ) → CrateInvariant kind k → CrateInvariant kind (crate_after kind w k h lent)
      unfolding noted
      sound-after lent s =
          after_any kind w k h (CrateInvariant kind)
          (record {
            same = s;
            next-step = λ d g l.
                sound-placed (with_reply k h) k.board (k.code + 1) 0 s.board (λ u. next-is kind k.code (s.code d) l) (omega arith)
                (sound-noted d g s);
            next-board = λ d g l. sound-advanced (with_reply k h) (sound-noted d g s);
            again = λ d l. sound-placed k k.board k.code (k.tries + 1) s.board s.code (omega arith) s;
            failed = λ d l. sound-advanced (with_record k) (sound-marked k d s);
          })
          lent
