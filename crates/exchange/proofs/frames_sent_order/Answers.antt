-- `exchange::frames_sent_order` meets its contract. Assumes nothing.
use Rattle.texts.specs.declared.Response.TheVariants.{Two}
use mathlib.Core.Path.{refl}
use borrow.Author.Tests.{ne_eqb}
use Rattle.exchange.proofs.Asking.{question-response, sent-asked}
use Rattle.exchange.proofs.frames_sent_order.Goals as goal

pub returns-then-bytes-ne1 : goal.returns-then-bytes-ne1
returns-then-bytes-ne1 c bytes words = question-response _ _ _ (ne_eqb _ _ c.if-bytes-ne1.true)

pub returns-in-Ok : goal.returns-in-Ok
returns-in-Ok c =
    let a = c.args in
    sent-asked a.board a.bytes.now (Two 0 _) c.if-bytes-ne1.false c.frames_sent.result c.frames_sent.ensures
    (λ bytes words. rw c.in-Ok.is refl)

pub returns-in-Err : goal.returns-in-Err
returns-in-Err c =
    let a = c.args in
    sent-asked a.board a.bytes.now c.refusal_response.result c.if-bytes-ne1.false c.frames_sent.result c.frames_sent.ensures
    (λ bytes words. rw c.in-Err.is (c.refusal_response.ensures bytes words))
