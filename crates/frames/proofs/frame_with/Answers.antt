-- `frames::frame_with` meets its contract: the CRC goes into the place left for it. Assumes nothing.
use Prim.Native.Nat.{ℕ}
use mathlib.Core.Path.{◌≡◌, ap, ◌∙◌}
use mathlib.Core.List.{List}
use lib.ListN.{length, take, length-take}
use native.Mathlib.Omega.{arith}
use Rattle.crc.specs.Crc.{crc, frame_start}
use Rattle.frames.proofs.Frames.{crc-stored}
use borrow.Author.Rules.{rules}
use Rattle.frames.proofs.frame_with.Goals as goal

pub slice_bounds-crc8-end : goal.slice_bounds-crc8-end
slice_bounds-crc8-end c =
    let n : length c.before_crc-f.result ≡ 28 = search rules in
    simp length-take (omega arith)

pub returns : goal.returns
returns c =
    let a = c.args in
    let sum = c.crc8-sum.ensures ∙ ap (λ (f : List ℕ). crc frame_start (take 27 f)) c.before_crc-f.ensures in
    rw c.before_crc-f.ensures (crc-stored a.address a.number a.w _ sum)
