-- `stream::list_answers` meets its contract. Assumes nothing.
use Prim.Native.Nat.{ℕ}
use mathlib.Core.Path.{◌∙◌}
use native.Mathlib.Omega.{arith}
use lib.ListN.{length-replicate}
use Rattle.stream.proofs.Answers.{words-written, listed-long, listed-short}
use Rattle.stream.proofs.list_answers.Goals as goal

pub returns-then-bytes-gt65536 : goal.returns-then-bytes-gt65536
returns-then-bytes-gt65536 c = listed-long _ (omega arith)

pub answers_on-requires : goal.answers_on-requires
answers_on-requires c =
    (words-written c.args.bytes.now _ _ _ (omega arith) (length-replicate {A = ℕ} 32768 0) c.words_from_bytes.ensures, omega arith)

pub returns : goal.returns
returns c = c.answers_on.ensures ∙ listed-short _ (omega arith)
