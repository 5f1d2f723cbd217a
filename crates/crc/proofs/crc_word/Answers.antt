-- `crc::crc_word` meets its contract. Assumes nothing.
use Prim.Native.Nat.{ℕ, ◌%◌}
use mathlib.Core.Path.{ap, ◌∙◌}
use native.Mathlib.Omega.{arith}
use lib.Bits.{bit_xor}
use Rattle.crc.proofs.Steps.{folded_twice, word-crc}
use Rattle.crc.proofs.crc_word.Goals as goal

pub returns : goal.returns
returns c =
    let word = c.args.word in
    ap (λ (n : ℕ). bit_xor n (folded_twice word % 256)) c.crc_byte.ensures ∙ word-crc word (omega arith)
