-- `exchange::explain_order` meets its contract. Assumes nothing.
use borrow.Author.Tests.{ne_eqb}
use Rattle.words.proofs.Front.{words-front}
use Rattle.exchange.proofs.Explaining.{unexplained, explained}
use borrow.Author.Rules.{rules}
use Rattle.exchange.proofs.explain_order.Goals as goal

pub returns-then-bytes-ne0 : goal.returns-then-bytes-ne0
returns-then-bytes-ne0 c = unexplained _ _ _ _ _ _ (ne_eqb _ _ c.if-bytes-ne0.true) c.question.ensures

pub returns : goal.returns
returns c =
    let a = c.args in
    explained a.board a.text.now _ a.bytes.now _ c.explain-explanation.result _ c.if-bytes-ne0.false
    (words-front a.bytes.now _ _ _ c.words_from_bytes.ensures (search rules))
    c.explain-explanation.ensures c.write_explanation.ensures.value c.write_explanation.ensures.text_after
