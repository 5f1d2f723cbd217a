-- `words::bytes_from_words` meets its contract. Assumes nothing.
use mathlib.Core.Path.{◌≡◌, ◌∙◌}
use mathlib.Core.List.{[]}
use native.Mathlib.Numerals.{add-one}
use lib.ListN.{length, length-set}
use lib.Seq.{take-length}
use Rattle.refusals.proofs.Writing.{wrote, wrote-short}
use Rattle.words.proofs.Bytes.{length-bytes, bytes-more}
use borrow.Author.Rules.{rules}
use native.Mathlib.Omega.{arith}
use Rattle.words.proofs.bytes_from_words.Goals as goal

pub returns-then-out-n : goal.returns-then-out-n
returns-then-out-n c = wrote-short [] _ _ tt _ (length-bytes c.args.words.now) (omega arith)

pub loop-i-preserved : goal.loop-i-preserved
loop-i-preserved c =
    let a = c.args in
    let l = c.loop-i in (
      search rules,
      rw (l.invariant.1, c.word_bytes-two.ensures, add-one l.i) (bytes-more a.words.now a.out.now l.i (omega arith) (omega arith)),
      simp length-set l.invariant.2,
    )

pub returns : goal.returns
returns c =
    let a = c.args in
    let l = c.loop-i in
    let w = a.words.now in
    let e : l.i ≡ length w = omega arith in
    wrote [] _ _ tt _ (length-bytes w) _ (omega arith) (l.invariant.1 ∙ rw (e, take-length))
