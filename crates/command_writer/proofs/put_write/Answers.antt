-- `command_writer::put_write` meets its contract. Assumes nothing.
use Prim.Native.Nat.{ℕ, suc}
use mathlib.Core.Path.{◌≡◌, refl, ap}
use lib.ListN.{length}
use Rattle.words.proofs.Laws.{copied-part}
use Rattle.command_writer.specs.Writing.{five_words}
use Rattle.refusals.specs.declared.Refusal.TheVariants.{WrongLength, AboveBound}
use Rattle.refusals.proofs.Writing.{wrote-short, wrote-refused}
use Rattle.words.proofs.Writing.{wrote-both}
use Rattle.bounds.specs.Bounds.{bound_of}
use Rattle.bounds.proofs.Lent.{lent-6, lent-8, lent-clear}
use Rattle.std.specs.Prelude.{Err}
use borrow.Author.Rules.{rules}
use native.Mathlib.Omega.{arith}
use Rattle.command_writer.proofs.put_write.Goals as goal

pub returns-then-block-ne436 : goal.returns-then-block-ne436
returns-then-block-ne436 c = wrote-refused _ _ _ WrongLength (lent-6 bound_of 436 _ (omega arith))

pub returns-in_err-check_bounds : goal.returns-in_err-check_bounds
returns-in_err-check_bounds c =
    let checked = c.check_bounds in
    let same : c.from_residual.result ≡ Err (AboveBound c.in_err-check_bounds.field-0.0.place) = search rules in
    rw same (wrote-refused _ _ _ (AboveBound _) (lent-8 bound_of 436 _ (omega arith) checked.result checked.ensures _ c.in_err-check_bounds.was))

pub returns-then-out-lt441 : goal.returns-then-out-lt441
returns-then-out-lt441 c =
    let b = c.args.block.now in
    let n : length b ≡ 436 = omega arith in
    let checked = c.check_bounds in
    let within = lent-clear bound_of 436 b n checked.result checked.ensures c.in_ok-check_bounds.was in
    wrote-short _ _ _ within 441 (ap (λ (k : ℕ). suc (suc (suc (suc (suc k))))) n) (omega arith)

pub returns : goal.returns
returns c =
    let a = c.args in
    let b = a.block.now in
    let n : length b ≡ 436 = omega arith in
    let checked = c.check_bounds in
    let within = lent-clear bound_of 436 b n checked.result checked.ensures c.in_ok-check_bounds.was in
    let p = c.copy_words in
    let q = c.copy_words-2 in
    wrote-both _ within a.out.now (five_words 0x02 1) (five_words 0x02 1) b p.new.dst q.new.dst 5 436
    refl n (omega arith) refl p.ensures (copied-part b p.new.dst q.new.dst 5 436 n (omega arith) q.ensures)
