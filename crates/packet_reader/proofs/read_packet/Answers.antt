-- `packet_reader::read_packet` meets its contract. Assumes nothing.
use Rattle.packet_reader.proofs.Laws.{read-13, read-14, read-15, read-packet}
use Rattle.std.proofs.lemmas.Bool.{not_from_false, not_from_true}
use native.Mathlib.Omega.{arith}
use Rattle.packet_reader.proofs.read_packet.Goals as goal

pub returns-then-bytes-ne7 : goal.returns-then-bytes-ne7
returns-then-bytes-ne7 c = read-13 _ (omega arith)

pub returns-then-sum-bytes : goal.returns-then-sum-bytes
returns-then-sum-bytes c = read-14 _ (omega arith) _ c.crc_of_six-sum.ensures (omega arith)

pub returns-then-not-in_range : goal.returns-then-not-in_range
returns-then-not-in_range c =
    let l = c.if-bytes-ne7.false in
    let f = c.fields_in-fields.ensures in
    read-15 _ l _ c.crc_of_six-sum.ensures c.if-sum-bytes.false _ f _ c.in_range.ensures (not_from_false _ c.if-not-in_range.true)

pub returns : goal.returns
returns c =
    let l = c.if-bytes-ne7.false in
    let f = c.fields_in-fields.ensures in
    read-packet _ l _ c.crc_of_six-sum.ensures c.if-sum-bytes.false _ f _ c.in_range.ensures _ c.number_in-number.ensures
    (not_from_true _ c.if-not-in_range.false)
