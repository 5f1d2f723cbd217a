-- `steps::write_frame` meets its contract. Assumes nothing.
use mathlib.Core.Path.{◌≡◌, sym, ap, ◌∙◌}
use mathlib.Core.List.{[], List, ◌++◌}
use Prim.Native.Nat.{ℕ}
use lib.ListN.{length, drop}
use lib.Seq.{length-take-le}
use Rattle.refusals.proofs.Writing.{wrote, wrote-short}
use borrow.Author.Rules.{rules}
use Rattle.steps.proofs.write_frame.Goals.{Start}
use Rattle.steps.proofs.write_frame.Goals as goal

size : (c : Start) → length c.args.f ≡ 28
size c = search rules

pub returns-then-out-lt28 : goal.returns-then-out-lt28
returns-then-out-lt28 c = wrote-short [] c.args.f c.args.out.now tt 28 (size (goal.at.returns-then-out-lt28 c).Start) c.if-out-lt28.true

pub copy_from_slice-requires : goal.copy_from_slice-requires
copy_from_slice-requires c = length-take-le 28 c.args.out.now c.if-out-lt28.false ∙ sym (size (goal.at.copy_from_slice-requires c).Start)

pub returns : goal.returns
returns c =
    wrote [] c.args.f c.args.out.now tt 28 (size (goal.at.returns c).Start) _ c.if-out-lt28.false
    (ap (λ (l : List ℕ). l ++ drop 28 c.args.out.now) c.copy_from_slice.ensures.after)
