-- `replies::is_good` meets its contract: a return of false names the condition that fails. Assumes nothing.
use Rattle.replies.proofs.Laws.{bad-length, bad-first, bad-destination, bad-sender, bad-code, bad-crc, by-data}
use Rattle.replies.proofs.Zero.{whole, right_zero, zero_right}
use Prim.Native.Nat.{◌<◌}
use mathlib.Core.Path.{◌≡◌, ◌∙◌, sym}
use lib.ListN.{length, get_or}
use native.Mathlib.Omega.{arith}
use Rattle.replies.proofs.is_good.Goals as goal

pub returns-in_default : goal.returns-in_default
returns-in_default c = bad-length _ _ c.in_default.ensures.1

pub returns-then-reply-ne64 : goal.returns-then-reply-ne64
returns-then-reply-ne64 c = rw (← c.in-Ok.ensures.1.same) (bad-first _ _ (omega arith))

pub returns-then-reply-sent : goal.returns-then-reply-sent
returns-then-reply-sent c = rw (← c.in-Ok.ensures.1.same) (bad-destination _ _ (omega arith))

pub returns-then-reply-sent-2 : goal.returns-then-reply-sent-2
returns-then-reply-sent-2 c = rw (← c.in-Ok.ensures.1.same) (bad-sender _ _ (omega arith))

pub returns-then-reply-sent-3 : goal.returns-then-reply-sent-3
returns-then-reply-sent-3 c = rw (← c.in-Ok.ensures.1.same) (bad-code _ _ (omega arith))

pub returns-then-crc8-ne0 : goal.returns-then-crc8-ne0
returns-then-crc8-ne0 c =
    let same = c.in-Ok.ensures.1 in
    let long : length c.in-Ok.reply.now ≡ 28 = rw same.same same.long in
    rw (← same.same)
    (bad-crc _ _ (λ e. c.if-crc8-ne0.true (c.crc8.ensures ∙ whole c.in-Ok.reply.now long ∙ right_zero c.in-Ok.reply.now (omega arith) e)))

pub returns : goal.returns
returns c =
    let same = c.in-Ok.ensures.1 in
    let long : length c.in-Ok.reply.now ≡ 28 = rw same.same same.long in
    let byte : get_or c.in-Ok.reply.now 27 0 < 256 = rw same.same (let b = c.type_inv.reply 27 in omega arith) in
    rw (← same.same)
    (by-data _ _ long (omega arith) (omega arith) (omega arith) (omega arith)
    (zero_right c.in-Ok.reply.now (omega arith) byte (sym (whole c.in-Ok.reply.now long) ∙ sym c.crc8.ensures ∙ c.if-crc8-ne0.false))
    _
    c.data_right.ensures)
