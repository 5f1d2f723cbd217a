-- `command_writer::put_reset` meets its contract. Assumes nothing.
use Prim.Native.Nat.{◌<◌}
use mathlib.Core.Path.{refl}
use borrow.Author.Tests.{lt-ltb}
use Rattle.refusals.specs.declared.Refusal.TheVariants.{NoSuchCrate}
use Rattle.refusals.proofs.Writing.{wrote-refused, wrote-under}
use native.Mathlib.Omega.{arith}
use Rattle.command_writer.proofs.put_reset.Goals as goal

pub returns-in-0 : goal.returns-in-0
returns-in-0 c = rw c.in-0.is (wrote-under _ _ _ _ _ (refl, tt) c.put_five.ensures)

pub returns-in-1 : goal.returns-in-1
returns-in-1 c = rw c.in-1.is (wrote-under _ _ _ _ _ (refl, tt) c.put_five-in-1.ensures)

pub returns-in-2 : goal.returns-in-2
returns-in-2 c = rw c.in-2.is (wrote-under _ _ _ _ _ (refl, tt) c.put_five-in-2.ensures)

pub returns-in-3 : goal.returns-in-3
returns-in-3 c = rw c.in-3.is (wrote-under _ _ _ _ _ (refl, tt) c.put_five-in-3.ensures)

pub returns-in_default : goal.returns-in_default
returns-in_default c =
    let h : 3 < c.args.number = omega arith in
    wrote-refused _ _ _ NoSuchCrate (simp (lt-ltb _ _ h))
