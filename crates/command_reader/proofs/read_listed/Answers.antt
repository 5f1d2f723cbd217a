-- `command_reader::read_listed` meets its contract. Assumes nothing.
use Prim.Native.Nat.{ℕ, ◌+◌}
use mathlib.Core.Path.{◌≡◌, sym, ap, ◌∙◌}
use Rattle.std.specs.Prelude.{Err}
use Rattle.refusals.specs.declared.Refusal.TheVariants.{AboveBound}
use borrow.Author.Rules.{rules}
use Rattle.command_reader.proofs.Reading.{read-5, read-6, read-7, read-8, read-within, read-other}
use native.Mathlib.Omega.{arith}
use Rattle.command_reader.proofs.read_listed.Goals as goal

pub returns-then-spare_set : goal.returns-then-spare_set
returns-then-spare_set c = read-5 _ _ c.requires (sym c.spare_set.ensures ∙ c.if-spare_set.true)

pub returns-then-words-used : goal.returns-then-words-used
returns-then-words-used c =
    read-6 _ _ c.requires (sym c.spare_set.ensures ∙ c.if-spare_set.false) (omega arith)

pub returns-then-no_events : goal.returns-then-no_events
returns-then-no_events c =
    let none = sym c.no_events.ensures ∙ c.if-no_events.true in
    read-7 _ _ c.requires (sym c.spare_set.ensures ∙ c.if-spare_set.false) (omega arith) none

pub returns-in_err-check_bounds : goal.returns-in_err-check_bounds
returns-in_err-check_bounds c =
    let checked = c.check_bounds in
    let is-write = sym c.is_write.ensures ∙ c.if-is_write.true in
    let same : c.from_residual.result ≡ Err (AboveBound c.in_err-check_bounds.field-0.0.place) = search rules in
    rw same
    (read-8 _ _ c.requires (sym c.spare_set.ensures ∙ c.if-spare_set.false) (omega arith)
    (sym c.no_events.ensures ∙ c.if-no_events.false) is-write checked.result checked.ensures _ c.in_err-check_bounds.was)

pub returns-in_ok-check_bounds : goal.returns-in_ok-check_bounds
returns-in_ok-check_bounds c =
    let checked = c.check_bounds in
    let is-write = sym c.is_write.ensures ∙ c.if-is_write.true in
    read-within _ _ c.requires (sym c.spare_set.ensures ∙ c.if-spare_set.false) (omega arith)
    (sym c.no_events.ensures ∙ c.if-no_events.false) _ (ap (λ (n : ℕ). 5 + n) c.block_length-used.ensures)
    is-write checked.result checked.ensures
    c.in_ok-check_bounds.was

pub returns-else-is_write : goal.returns-else-is_write
returns-else-is_write c =
    let other = sym c.is_write.ensures ∙ c.if-is_write.false in
    read-other _ _ c.requires (sym c.spare_set.ensures ∙ c.if-spare_set.false) (omega arith)
    (sym c.no_events.ensures ∙ c.if-no_events.false) _ (ap (λ (n : ℕ). 5 + n) c.block_length-used.ensures) other
