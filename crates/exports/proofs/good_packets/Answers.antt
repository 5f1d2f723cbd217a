-- `exports::good_packets` meets its contract. Assumes nothing.
use Prim.Native.Nat.{◌+◌, ◌*◌, ◌-◌, ◌≤◌}
use mathlib.Core.Path.{◌≡◌, ap, ◌∙◌}
use Rattle.refusals.specs.Tables.{is_given}
use Rattle.exports.proofs.Packets.{packet-turn, packet-end}
use Rattle.exports.specs.Exports.{good_packets}
use native.Mathlib.Omega.{arith}
use Rattle.exports.proofs.good_packets.Goals as goal

pub loop-i-preserved : goal.loop-i-preserved
loop-i-preserved c =
    let loop = c.loop-i in
    let bytes = c.args.bytes.now in
    let i = loop.i in
    let good = c.count_given-good.ensures.0 ∙ ap is_given c.read_packet.ensures in
    let turn = packet-turn bytes _ _ _ loop.invariant.2 _ (7 * i + 7 - 7 * i) c.loop-i-test.true (omega arith) good in
    (omega arith, omega (arith, c.count_given-good.ensures.1), turn)

pub returns : goal.returns
unfolding good_packets
returns c = packet-end c.args.bytes.now _ _ _ c.loop-i.invariant.2 (omega arith)
