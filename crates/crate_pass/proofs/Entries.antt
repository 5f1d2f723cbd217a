-- A crate's part of the FTU list: the entry of each board, an entry that is stored, the list as a pass begins, and where a pass leaves it as it was; and
-- where it leaves the rates.
-- Assumes nothing.
use Prim.Native.Nat.{ℕ, zero, suc, ◌<◌}
use mathlib.Core.Path.{◌≡◌, refl, ap}
use mathlib.Core.Bool.{false}
use mathlib.Core.List.{List, [], ◌∷◌}
use native.Mathlib.Omega.{arith}
use lib.ListN.{length, get_or, set, replicate}
use borrow.Author.Tests.{ne_eqb}
use Rattle.ftu_list.specs.declared.Entry.{Entry}
use Rattle.steps.specs.declared.Judged.{Judged}
use Rattle.crate_pass.specs.declared.PassKind.{PassKind}
use Rattle.crate_pass.specs.declared.PassKind.TheVariants.{Reprogramming, Ping, Rates}
use Rattle.crate_pass.specs.declared.Crate.{Crate}
use Rattle.crate_pass.specs.Crate.{silent, as_entries, entries_in, clears_list, is_rate_pass, begun_crate}
use Rattle.crate_pass.specs.Crate.{placed, advanced, with_entry_in, with_rates_in, noted, with_record}
use Rattle.crate_pass.specs.Invariant.{IsCode}
use Rattle.crate_pass.proofs.After.{after_any}
use Rattle.crate_pass.proofs.Answered.{crate_after}

abbrev pub entry : ℕ → ℕ → ℕ → Entry
entry d n e = record { dna = d; calls = n; crc_errors = e }

-- the entry of board i has its three numbers
pub entry_at : (dna calls errors : List ℕ) (i : ℕ) → i < length dna → i < length calls → i < length errors
    → entry (get_or dna i 0) (get_or calls i 0) (get_or errors i 0) ≡ get_or (as_entries dna calls errors) i silent
unfolding as_entries
entry_at [] calls errors i a b c = absurd (let z : ⊥ = omega arith in z)
entry_at (d ∷ dna) [] errors i a b c = absurd (let z : ⊥ = omega arith in z)
entry_at (d ∷ dna) (n ∷ calls) [] i a b c = absurd (let z : ⊥ = omega arith in z)
entry_at (d ∷ dna) (n ∷ calls) (e ∷ errors) zero a b c = refl
entry_at (d ∷ dna) (n ∷ calls) (e ∷ errors) (suc i) a b c = entry_at dna calls errors i (omega arith) (omega arith) (omega arith)

-- three numbers stored at i are an entry stored there
pub entries-set : (dna calls errors : List ℕ) (i d n e : ℕ)
    → as_entries (set dna i d) (set calls i n) (set errors i e) ≡ set (as_entries dna calls errors) i (entry d n e)
unfolding as_entries
entries-set [] calls errors i d n e = refl
entries-set (x ∷ dna) [] errors zero d n e = refl
entries-set (x ∷ dna) [] errors (suc i) d n e = refl
entries-set (x ∷ dna) (y ∷ calls) [] zero d n e = refl
entries-set (x ∷ dna) (y ∷ calls) [] (suc i) d n e = refl
entries-set (x ∷ dna) (y ∷ calls) (z ∷ errors) zero d n e = refl
entries-set (x ∷ dna) (y ∷ calls) (z ∷ errors) (suc i) d n e = ap (λ l. entry x y z ∷ l) (entries-set dna calls errors i d n e)

-- "A ping clears the list as it begins; no other command changes it"
pub entries-cleared : (w : ℕ) (k : Crate) → entries_in (begun_crate Ping w k) ≡ replicate 10 silent
unfolding begun_crate as_entries
entries-cleared w k = refl

pub begin-keeps-entries : (kind : PassKind) → clears_list kind ≡ false → (w : ℕ) (k : Crate) → entries_in (begun_crate kind w k) ≡ entries_in k
unfolding begun_crate
begin-keeps-entries kind e w k = rw e

-- the code of a pass that is no ping is another
no_ping : (kind : PassKind) (code : ℕ) → clears_list kind ≡ false → IsCode kind code → code ≡ 4 → ⊥
no_ping Reprogramming code e i q = let l = i.1 in omega arith
no_ping Ping code e i q = let z : ◌≡◌ {A = ℕ} 0 1 = cc in omega arith
no_ping Rates code e i q = omega arith

-- so a reply or a time-up leaves the list as it was
pub reply-keeps-entries : (kind : PassKind) → clears_list kind ≡ false → (w : ℕ) (k : Crate) (h : Judged) (lent : List ℕ) → IsCode kind k.code
    → entries_in (crate_after kind w k h lent) ≡ entries_in k
unfolding noted with_entry_in with_record advanced placed
reply-keeps-entries kind e w k h lent code =
    let n = no_ping kind k.code e code in
    after_any kind w k h (λ (q : Crate). entries_in q ≡ entries_in k)
    (record {
      same = refl;
      next-step = λ d g l. rw (ne_eqb _ _ n);
      next-board = λ d g l. rw (ne_eqb _ _ n);
      again = λ d l. refl;
      failed = λ d l. refl;
    })
    lent

-- ---- the rates, in a pass that is no rate pass

pub begin-keeps-rates : (kind : PassKind) → is_rate_pass kind ≡ false → (w : ℕ) (k : Crate) → (begun_crate kind w k).rates ≡ k.rates
unfolding begun_crate
begin-keeps-rates kind e w k = rw e

no-rates : (kind : PassKind) (code : ℕ) → is_rate_pass kind ≡ false → IsCode kind code → code ≡ 5 → ⊥
no-rates Reprogramming code e i q = let l = i.1 in omega arith
no-rates Ping code e i q = omega arith
no-rates Rates code e i q = let z : ◌≡◌ {A = ℕ} 0 1 = cc in omega arith

pub reply-keeps-rates : (kind : PassKind) → is_rate_pass kind ≡ false → (w : ℕ) (k : Crate) (h : Judged) (lent : List ℕ) → IsCode kind k.code
    → (crate_after kind w k h lent).rates ≡ k.rates
unfolding noted with_rates_in with_record advanced placed
reply-keeps-rates kind e w k h lent code =
    let n = no-rates kind k.code e code in
    after_any kind w k h (λ (q : Crate). q.rates ≡ k.rates)
    (record {
      same = refl;
      next-step = λ d g l. rw (ne_eqb _ _ n);
      next-board = λ d g l. rw (ne_eqb _ _ n);
      again = λ d l. refl;
      failed = λ d l. refl;
    })
    lent
