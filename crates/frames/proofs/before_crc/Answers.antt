-- `frames::before_crc` meets its contract: the bytes stored are those of five words. Assumes nothing.
use Prim.Native.Nat.{ℕ, ◌<◌}
use mathlib.Core.List.{[]}
use mathlib.Core.Path.{◌≡◌, sym, ◌∙◌}
use lib.ListN.{length, get_or}
use native.Mathlib.Omega.{arith}
use Rattle.numbers.specs.Numbers.{digits}
use Rattle.frames.specs.CodeShape.{before_crc}
use Rattle.frames.proofs.Frames.{bytes-each, five-laid}
use borrow.Author.Rules.{rules}
use Rattle.frames.proofs.before_crc.Goals as goal

pub returns : goal.returns
unfolding before_crc
returns c =
    let a = c.args in
    let n : length a.w ≡ 5 = search rules in
    let words = c.map.ensures.items in
    let each : (i : ℕ) → i < length a.w → get_or c.map.result i [] ≡ digits 256 2 (get_or a.w i 0) =
    λ i h. let at = words.at i 0 [] (omega arith) in search rules in
    let bytes = bytes-each a.w c.map.result (words.long ∙ sym n) each in
    rw (c.copy_from_slice.ensures.after, c.copy_from_slice-2.ensures.after, c.as_flattened.ensures.value, bytes)
    (five-laid a.address a.number a.w n)
