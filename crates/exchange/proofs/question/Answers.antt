-- `exchange::question` meets its contract. Assumes nothing.
use Rattle.exchange.proofs.Lines.{questioned}
use Rattle.exchange.proofs.question.Goals as goal

pub returns : goal.returns
returns c = questioned _ _ _ _ c.write_response.ensures.value c.write_response.ensures.text_after
