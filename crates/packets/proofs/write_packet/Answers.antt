-- `packets::write_packet` meets its contract. Assumes nothing.
use Rattle.packets.proofs.Laws.{write-15, write-19, written}
use mathlib.Core.Path.{ap, ◌∙◌}
use mathlib.Core.Bool.{not}
use native.Mathlib.Omega.{arith}
use borrow.Author.Rules.{rules}
use Rattle.packets.proofs.write_packet.Goals as goal

pub returns-then-not-in_range : goal.returns-then-not-in_range
returns-then-not-in_range c = write-15 _ _ _ _ c.in_range.ensures (ap not c.if-not-in_range.true)

pub returns-then-out-lt7 : goal.returns-then-out-lt7
returns-then-out-lt7 c = write-19 _ _ _ _ c.in_range.ensures (ap not c.if-not-in_range.false) (omega arith)

pub returns : goal.returns
returns c =
    written _ _ _ _ c.in_range.ensures (ap not c.if-not-in_range.false) (search rules) _
    (c.copy_from_slice.ensures.after ∙ c.packet_bytes-bytes.ensures) (omega arith)
