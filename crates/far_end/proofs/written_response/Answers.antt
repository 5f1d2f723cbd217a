-- `far_end::written_response` meets its contract. Assumes nothing.
use Prim.Native.Nat.{◌-◌}
use lib.ListN.{length, take, drop}
use Rattle.words.proofs.Laws.{part-rest}
use Rattle.words.proofs.Front.{words-front}
use Rattle.far_end.proofs.Printing.{no-command, long-command, other-command, command-written}
use borrow.Author.Rules.{rules}
use Rattle.far_end.proofs.written_response.Goals as goal

pub returns-then-bytes-eq0 : goal.returns-then-bytes-eq0
returns-then-bytes-eq0 c bytes = no-command c.args.bytes.now c.if-bytes-eq0.true

pub returns-then-bytes-gt2048 : goal.returns-then-bytes-gt2048
returns-then-bytes-gt2048 c bytes = long-command c.args.bytes.now c.if-bytes-gt2048.true

pub returns-in-Some : goal.returns-in-Some
returns-in-Some c =
    let b = c.args.bytes.now in
    command-written b _ (part-rest b 1) c.if-bytes-eq0.false c.if-bytes-gt2048.false _ c.command_asked.ensures _ c.in-Some.is
    _ c.args.out.now
    c.write_command.result _ c.words_response.result (search rules)
    (words-front (take (length b - 1) (drop 1 b)) _ _ _ c.words_from_bytes.ensures (search rules))
    c.write_command.ensures c.words_response.ensures

pub returns-in-None : goal.returns-in-None
returns-in-None c bytes =
    let b = c.args.bytes.now in
    other-command b _ (part-rest b 1) c.if-bytes-eq0.false c.if-bytes-gt2048.false _ c.command_asked.ensures c.in-None.is
