-- `exports::static_round` meets its contract. Assumes nothing.
use Prim.Native.Nat.{ℕ}
use mathlib.Core.Path.{◌≡◌, sym, ap, ◌∙◌}
use Rattle.std.specs.Prelude.{Result, Err}
use Rattle.refusals.specs.Tables.{answer_number, answer_of}
use Rattle.refusals.specs.declared.Refusal.{Refusal}
use Rattle.exports.proofs.Static.{WroteLent, front_length, front_fits, static-read, static-round, static-6, wrote-lent}
use borrow.Author.Rules.{rules}
use Rattle.exports.proofs.static_round.Goals.{After-branch-n}
use Rattle.exports.proofs.static_round.Goals as goal

-- the writer wrote, or refused
lent : (c : After-branch-n) → WroteLent c.args.block.now c.args.out.now c.write_static.result c.write_static.new.out
lent c = wrote-lent c.args.block.now _ _ c.if-block-ne436.false c.copy_words.ensures _ _ c.write_static.ensures

pub returns-then-block-ne436 : goal.returns-then-block-ne436
returns-then-block-ne436 c = let a = c.args in static-6 a.block.now a.out.now c.if-block-ne436.true

pub slice_bounds-read_block-end : goal.slice_bounds-read_block-end
slice_bounds-read_block-end c =
    front_fits _ _ c.write_static.result _ (lent (goal.at.slice_bounds-read_block-end c).After-branch-n) _ c.in_ok-n.was

pub slice_bounds-read_block-end-2 : goal.slice_bounds-read_block-end-2
slice_bounds-read_block-end-2 c =
    front_length _ _ c.write_static.result _ (lent (goal.at.slice_bounds-read_block-end-2 c).After-branch-n) _ c.in_ok-n.was

pub returns-in_err-n : goal.returns-in_err-n
returns-in_err-n c =
    let same : c.from_residual.result ≡ Err c.in_err-n.field-0.0 = search rules in
    rw same
    (static-round _ _ c.write_static.result _ (lent (goal.at.returns-in_err-n c).After-branch-n) _
    (ap (λ (w : Result ℕ Refusal). answer_number (answer_of w)) (sym c.in_err-n.was)))

pub returns : goal.returns
returns c =
    let s = lent (goal.at.returns c).After-branch-n in
    static-round _ _ c.write_static.result _ s _
    (static-read _ _ c.write_static.result _ s _ c.in_ok-n.was c.read_block.result c.read_block.ensures)
