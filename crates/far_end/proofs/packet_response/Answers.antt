-- `far_end::packet_response` meets its contract. Assumes nothing.
use mathlib.Core.Path.{◌∙◌}
use Rattle.far_end.proofs.Printing.{packet-read, packet-refused}
use Rattle.far_end.proofs.packet_response.Goals as goal

pub returns-in-Ok : goal.returns-in-Ok
returns-in-Ok c bytes words =
    let b = c.args.bytes.now in
    packet-read b _ c.read_packet.ensures _ c.in-Ok.is

pub returns-in-Err : goal.returns-in-Err
returns-in-Err c bytes words =
    let b = c.args.bytes.now in
    c.refusal_response.ensures bytes words ∙ packet-refused b _ c.read_packet.ensures _ c.in-Err.is
