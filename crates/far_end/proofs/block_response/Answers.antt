-- `far_end::block_response` meets its contract. Assumes nothing.
use mathlib.Core.Path.{refl, ◌∙◌}
use lib.ListN.{drop}
use Rattle.words.proofs.Laws.{part-rest}
use Rattle.far_end.proofs.Printing.{no_kind, long-block, other-kind, by_kind}
use Rattle.far_end.proofs.block_response.Goals as goal

pub returns-then-bytes-eq0 : goal.returns-then-bytes-eq0
returns-then-bytes-eq0 c bytes = no_kind c.args.bytes.now c.if-bytes-eq0.true

pub returns-then-bytes-gt2048 : goal.returns-then-bytes-gt2048
returns-then-bytes-gt2048 c bytes = long-block c.args.bytes.now c.if-bytes-gt2048.true

pub returns-in-Some : goal.returns-in-Some
returns-in-Some c bytes =
    let b = c.args.bytes.now in
    c.kind_response.ensures bytes
    ∙ by_kind b _ (part-rest b 1) c.if-bytes-eq0.false c.if-bytes-gt2048.false _ c.kind_asked.ensures _ c.in-Some.is

pub returns-in-None : goal.returns-in-None
returns-in-None c bytes =
    let b = c.args.bytes.now in
    other-kind b (drop 1 b) refl c.if-bytes-eq0.false c.if-bytes-gt2048.false _ c.kind_asked.ensures c.in-None.is
