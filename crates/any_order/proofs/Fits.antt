-- What holds of a crate in a pass holds after every reply and time-up (`fit-kept`).
-- Assumes nothing.
use Prim.Native.Nat.{ℕ, ◌+◌, ◌<◌, ◌≤◌}
use mathlib.Core.Path.{◌≡◌, ◌∙◌}
use mathlib.Core.Bool.{Bool, true, false, cond}
use mathlib.Core.List.{List}
use native.Mathlib.Omega.{arith}
use lib.Dec.{eqb}
use lib.ListN.{length, length-set}
use Rattle.steps.specs.declared.Judged.{Judged}
use Rattle.crate_pass.specs.Crate.{next_board, placed, advanced, with_twelve, with_rates_in, noted, with_reply, with_record}
use Rattle.crate_pass.proofs.After.{after_any}
use Rattle.crate_pass.proofs.BoardRates.{length-twelve}
use Rattle.crate_pass.specs.declared.PassKind.{PassKind}
use Rattle.crate_pass.specs.declared.PassKind.TheVariants.{Rates}
use Rattle.crate_pass.specs.declared.Crate.{Crate}
use Rattle.crate_pass.proofs.Answered.{crate_after}
use Rattle.any_order.proofs.Places.{Code, one, two, three, four, five, first_code_lem, next-least}
use Rattle.any_order.proofs.Kept.{NoneFrom, none_after}
use Rattle.any_order.proofs.Follows.{Fit, nonzero}

-- the code after a code
next-code : {kind : PassKind} {code : ℕ} → Code kind code → code < 3 → Code kind (code + 1)
next-code one h = two
next-code two h = three
next-code three h = absurd (omega arith)
next-code four h = absurd (omega arith)
next-code five h = absurd (omega arith)

-- at the next board
fit-advanced : (kind : PassKind) (w : ℕ) (k : Crate) → k.board < 10 → length k.failed ≡ 10 → NoneFrom (k.board + 1) k.failed
    → (kind ≡ Rates → length k.rates ≡ 120) → Fit kind (advanced kind w k)
unfolding advanced placed
fit-advanced kind w k b ten clear words =
    let least : k.board + 1 ≤ next_board kind w (k.board + 1) = next-least kind w (k.board + 1) (omega arith) in
    record { code = first_code_lem kind; low = omega arith; ten = ten; clear = λ j h. clear j (omega arith); words = words }

module _ (kind : PassKind) (w : ℕ) (k : Crate) (fit : Fit kind k) where
  -- a good reply leaves as many words
  words-noted : (h : Judged) → length h.rates ≡ 12 → k.board < 10 → kind ≡ Rates → length (with_reply k h).rates ≡ 120
  unfolding noted with_rates_in
  words-noted h t b e = go (eqb k.code 5)
    where
      go : (u : Bool) → length (cond u (with_twelve k.board k.rates h.rates) k.rates) ≡ 120
      go true = length-twelve k.board k.rates h.rates b (fit.words e) t
      go false = fit.words e

  fit-onward : (h : Judged) → length h.rates ≡ 12 → k.board < 10 → Fit kind (advanced kind w (with_reply k h))
  unfolding noted
  fit-onward h t b = fit-advanced kind w (with_reply k h) b fit.ten (λ j l. fit.clear j (omega arith)) (words-noted h t b)

  fit-record : k.board < 10 → Fit kind (advanced kind w (with_record k))
  unfolding with_record
  fit-record b =
      fit-advanced kind w (with_record k) b (length-set k.failed k.board k.code ∙ fit.ten)
      (none_after k.failed k.board k.code (rw fit.ten b) (nonzero fit.code) fit.clear) fit.words

  pub fit-kept : (h : Judged) → length h.rates ≡ 12 → (lent : List ℕ) → Fit kind (crate_after kind w k h lent)
  unfolding placed noted
  fit-kept h t lent =
      after_any kind w k h (Fit kind)
      (record {
        same = fit;
        next-step = λ b g l.
            record { code = next-code fit.code l; low = omega arith; ten = fit.ten; clear = fit.clear; words = words-noted h t b };
        next-board = λ b g l. fit-onward h t b;
        again = λ b l. record { code = fit.code; low = omega arith; ten = fit.ten; clear = fit.clear; words = fit.words };
        failed = λ b l. fit-record b;
      })
      lent
