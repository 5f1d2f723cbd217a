-- `exchange::other_form` meets its contract. Assumes nothing.
use mathlib.Core.Path.{refl}
use Rattle.exchange.specs.Exchange.{printed_answer, board_after_order}
use Rattle.exchange.proofs.other_form.Goals as goal

pub returns : goal.returns
unfolding printed_answer board_after_order
returns c = record { response = λ bytes words. refl; board = refl }
