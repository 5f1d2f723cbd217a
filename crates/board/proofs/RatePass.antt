-- The begin of a rate pass, and the finished rates, a law for each way that the code returns.
-- Assumes nothing.
use Prim.Native.Nat.{ℕ}
use mathlib.Core.Path.{◌≡◌, refl, sym, ap, ◌∙◌}
use mathlib.Core.Bool.{Bool, true, false, cond, ◌&&◌}
use mathlib.Core.List.{List}
use Rattle.std.specs.Prelude.{Ok, Err}
use Rattle.refusals.specs.Tables.{given, refused}
use Rattle.refusals.specs.declared.Refusal.TheVariants.{NotAcceptedNow}
use Rattle.crate_pass.specs.Crate.{is_rate_pass}
use Rattle.crate_pass.specs.declared.PassKind.TheVariants.{Rates}
use Rattle.crate_pass.specs.declared.Crate.{Crate}
use Rattle.four_crates.specs.FourCrates.{in_pass, begun_all, rates_of}
use Rattle.board.specs.State.{active_words, finished_rates}
use Rattle.board.specs.RatePass.{rates_begun, begin_answer, after_begin, Begins}
use Rattle.board.specs.declared.Board.{Board}

module _ (β : Board) where
  -- the last pass begun is another, or none is under way: the crates' own
  pub other-rates : is_rate_pass β.kind ≡ false → rates_of β.crates ≡ finished_rates β
  unfolding finished_rates
  other-rates e = rw e

  pub own-rates : is_rate_pass β.kind ≡ true → in_pass β.crates ≡ false → rates_of β.crates ≡ finished_rates β
  unfolding finished_rates
  own-rates e p = rw (e, p)

  -- whatever the last pass begun, none is under way
  pub idle-rates : in_pass β.crates ≡ false → finished_rates β ≡ rates_of β.crates
  unfolding finished_rates
  idle-rates p = go (is_rate_pass β.kind)
    where
      go : (t : Bool) → cond (t && in_pass β.crates) β.rates (rates_of β.crates) ≡ rates_of β.crates
      go true = rw p
      go false = refl

  -- a rate pass is under way: those of the one before
  pub rates-before : is_rate_pass β.kind ≡ true → in_pass β.crates ≡ true → β.rates ≡ finished_rates β
  unfolding finished_rates
  rates-before e p = rw (e, p)

  -- ---- the begin

  pub begin-refused : in_pass β.crates ≡ true → begin_answer β ≡ refused 9 0
  unfolding begin_answer
  begin-refused e = rw e

  pub begin-given : in_pass β.crates ≡ false → begin_answer β ≡ given tt
  unfolding begin_answer
  begin-given e = rw e

  pub begins-refused : in_pass β.crates ≡ true → Begins β (record { board = β; answer = Err NotAcceptedNow })
  begins-refused e = record { answer = sym (begin-refused e); board = sym (ap (after_begin β) (begin-refused e)) }

  pub begins-given : in_pass β.crates ≡ false → (after : Board) → after ≡ rates_begun β → Begins β (record { board = after; answer = Ok tt })
  begins-given e after q = record { answer = sym (begin-given e); board = q ∙ sym (ap (after_begin β) (begin-given e)) }

  -- its parts
  pub rates-begun-as : (rates words : List ℕ) (crates : List Crate) → rates ≡ finished_rates β → words ≡ active_words β.block
      → crates ≡ begun_all Rates words β.crates
      → record { identity = β.identity; run = β.run; block = β.block; kind = Rates; active = β.active; rates = rates; crates = crates } ≡ rates_begun β
  unfolding rates_begun
  rates-begun-as rates words crates er ew ec =
      let cs = ec ∙ ap (λ (l : List ℕ). begun_all Rates l β.crates) ew in
      λ i. record { identity = β.identity; run = β.run; block = β.block; kind = Rates; active = β.active; rates = er i; crates = cs i }
