-- `texts::Line::put_bytes` meets its contract. Assumes nothing.
use Rattle.std.proofs.Common.{◌≡◌, ◌≤◌, ◌+◌, ◌*◌, ◌++◌, length, take}
use Rattle.texts.specs.Texts.{hex_byte, joined}
use Rattle.texts.proofs.Line.put_bytes.Given as goal

abbrev pub invariant-loop-byte : goal.invariant-loop-byte
invariant-loop-byte l =
    record {
      text : l.self ≡ l.initial.self ++ joined hex_byte (take l.byte-index l.bytes);
      room : length l.self ≤ length l.initial.self + 2 * l.byte-index;
    }
