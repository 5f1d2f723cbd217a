-- `crc::crc8` meets its contract. The word stands for the bytes before those that are left, from the start. Assumes nothing.
use Rattle.std.proofs.Common.{◌≡◌, ◌++◌, drop}
use Rattle.std.specs.List.{concat}
use Rattle.crc.specs.Crc.{crc}
use Rattle.crc.specs.CodeShape.{crc_word}
use Rattle.crc.proofs.crc8.Given as goal

abbrev pub invariant-loop-four : goal.invariant-loop-four
invariant-loop-four l = crc (crc_word l.word) (concat (drop l.four-index l.fours) ++ l.rest) ≡ crc l.start l.bytes
