-- `crc::word_of` meets its contract. Assumes nothing.
use Prim.Native.Nat.{◌/◌, ◌%◌}
use mathlib.Core.Path.{◌≡◌, ap}
use native.Mathlib.Omega.{arith}
use Rattle.std.proofs.Common.{rules}
use Rattle.std.proofs.lemmas.Nat.{be_bytes_4}
use Rattle.crc.specs.Crc.{crc}
use Rattle.crc.specs.CodeShape.{crc_word}
use Rattle.crc.proofs.word_of.Goals as goal

pub returns : goal.returns
unfolding crc_word
returns c =
    let n = c.from_be_bytes.result in
    let top : n / 16777216 % 256 ≡ n / 16777216 = omega arith in
    rw (← top) (ap (crc 0) (be_bytes_4 c.args.bytes n (search rules) (search rules) c.from_be_bytes.ensures))
