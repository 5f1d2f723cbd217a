-- `crc::crc8` meets its contract. The word stands for the bytes before those that are left, from the start. Assumes nothing.
use Rattle.crc.proofs.Steps.{joined, full, first_on, four-on}
use Prim.Native.Nat.{◌/◌}
use mathlib.Core.Path.{◌∙◌}
use lib.ListN.{length}
use native.Mathlib.Omega.{arith}
use Rattle.crc.proofs.crc8.Goals as goal

pub loop-four-init : goal.loop-four-init
loop-four-init c =
    let s = c.in-Some.others.now in
    let chunks = c.as_chunks.ensures in
    rw (chunks.front, chunks.back, joined, c.in-Some.ensures.cases.0) (first_on c.args.start _ _ s c.word_of-word.ensures)

pub loop-four-preserved : goal.loop-four-preserved
loop-four-preserved c =
    let l = c.loop-four in
    let chunks = c.as_chunks.ensures in
    let s = c.in-Some.others.now in
    let full-four = full 4 (length s / 4) s l.four-index (omega arith) (omega arith) in
    four-on _ l.four-index _ l.word _ _ (omega arith) (rw chunks.front full-four) c.four_bytes_on.ensures c.word_of.ensures ∙ l.invariant
