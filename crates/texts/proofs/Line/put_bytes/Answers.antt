-- `texts::Line::put_bytes` meets its contract. Assumes nothing.
use Rattle.texts.specs.Texts.{hex_byte}
use Rattle.texts.proofs.Laws.{joined-more}
use native.Mathlib.Omega.{arith}
use Rattle.texts.proofs.Line.put_bytes.Goals as goal

pub loop-byte-preserved : goal.loop-byte-preserved
loop-byte-preserved c =
    let l = c.loop-byte in
    record {
      text = joined-more hex_byte c.args.self.now c.args.bytes.now l.byte-index (omega arith) l.invariant.text c.put_hex_byte.ensures.text;
      room = omega arith;
    }
