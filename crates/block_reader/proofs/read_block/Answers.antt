-- `block_reader::read_block` meets its contract. Assumes nothing.
use Prim.Native.Nat.{ℕ, ◌+◌, ◌-◌}
use mathlib.Core.Path.{◌≡◌, sym, ap, ◌∙◌}
use mathlib.Core.Bool.{false}
use mathlib.Core.List.{List, [], ◌∷◌}
use lib.ListN.{length, take, drop}
use Rattle.refusals.specs.Tables.{lowest}
use Rattle.bounds.specs.Bounds.{checked_meaning}
use Rattle.bounds.proofs.Checked.{row_within}
use Rattle.words.proofs.Laws.{part-rest}
use Rattle.block_reader.specs.Reading.{body_length, body_above}
use Rattle.block_reader.specs.declared.Kind.{Kind}
use Rattle.block_reader.proofs.Laws.{read-6, read-8, read-20-board, read-20-spare, read-header}
use Rattle.bounds.proofs.Checked.{Checked}
use Rattle.std.specs.Prelude.{Ok, Err}
use Rattle.refusals.specs.declared.Refusal.TheVariants.{AboveBound}
use borrow.Author.Rules.{rules}
use Rattle.block_reader.proofs.read_block.Goals as goal

module _ (kind : Kind) (words : List ℕ) where
  -- the block has its kind's length
  sized : (n : ℕ) → length words ≡ 11 + n → n ≡ body_length kind → length words ≡ 11 + body_length kind
  sized n h e = h ∙ ap (λ (n : ℕ). 11 + n) e

  -- and its body, the words after the header, is checked
  checked : (r : Checked) → checked_meaning r ≡ lowest (body_above kind (take (length words - 11) (drop 11 words)) ∷ []) tt
      → checked_meaning r ≡ lowest (body_above kind (drop 11 words) ∷ []) tt
  checked r e = e ∙ ap (λ (b : List ℕ). lowest (body_above kind b ∷ []) tt) (part-rest words 11)

  -- with no word above its bound
  free : (r : Checked) → checked_meaning r ≡ lowest (body_above kind (take (length words - 11) (drop 11 words)) ∷ []) tt
      → r ≡ Ok tt → (body_above kind (drop 11 words)).applies ≡ false
  free r e h = row_within _ _ (checked r e) h

pub returns-then-words-length : goal.returns-then-words-length
returns-then-words-length c = read-6 c.args.kind _ (λ e. c.if-words-length.true (e ∙ ap (λ (n : ℕ). 11 + n) (sym c.body_length-length.ensures)))

pub returns-in_err-check_body : goal.returns-in_err-check_body
returns-in_err-check_body c =
    let a = c.args in
    let same : c.from_residual.result ≡ Err (AboveBound c.in_err-check_body.field-0.0.place) = search rules in
    rw same
    (read-8 a.kind a.words.now (sized a.kind a.words.now _ c.if-words-length.false c.body_length-length.ensures) c.check_body.result
    (checked a.kind a.words.now c.check_body.result c.check_body.ensures) _ c.in_err-check_body.was)

pub returns-then-header-ge-ID_LIMIT : goal.returns-then-header-ge-ID_LIMIT
returns-then-header-ge-ID_LIMIT c =
    let a = c.args in
    read-20-board a.kind a.words.now (sized a.kind a.words.now _ c.if-words-length.false c.body_length-length.ensures)
    (free a.kind a.words.now c.check_body.result c.check_body.ensures c.in_ok-check_body.was) _ c.header_in-header.ensures c.if-header-ge-ID_LIMIT.true

pub returns-then-words-ne0 : goal.returns-then-words-ne0
returns-then-words-ne0 c =
    let a = c.args in
    read-20-spare a.kind a.words.now (sized a.kind a.words.now _ c.if-words-length.false c.body_length-length.ensures)
    (free a.kind a.words.now c.check_body.result c.check_body.ensures c.in_ok-check_body.was) _ c.header_in-header.ensures
    c.if-header-ge-ID_LIMIT.false c.if-words-ne0.true

pub returns : goal.returns
returns c =
    let a = c.args in
    read-header a.kind a.words.now (sized a.kind a.words.now _ c.if-words-length.false c.body_length-length.ensures)
    (free a.kind a.words.now c.check_body.result c.check_body.ensures c.in_ok-check_body.was) _ c.header_in-header.ensures
    c.if-header-ge-ID_LIMIT.false c.if-words-ne0.false
