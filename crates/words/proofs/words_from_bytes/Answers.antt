-- `words::words_from_bytes` meets its contract. Assumes nothing.
use Prim.Native.Nat.{◌<◌, ◌/◌}
use mathlib.Core.Path.{◌≡◌, ◌∙◌}
use mathlib.Core.List.{[]}
use native.Mathlib.Numerals.{add-one}
use lib.ListN.{length, length-set}
use lib.Seq.{take_all}
use Rattle.refusals.proofs.Writing.{wrote, wrote-short}
use Rattle.words.specs.Words.{words_in}
use Rattle.words.proofs.Laws.{copy_more}
use Rattle.words.proofs.Bytes.{length-words, word_in}
use borrow.Author.Rules.{rules}
use native.Mathlib.Omega.{arith}
use Rattle.words.proofs.words_from_bytes.Goals as goal

pub returns-then-out-count : goal.returns-then-out-count
returns-then-out-count c = wrote-short [] _ _ tt _ (length-words c.args.bytes.now) (omega arith)

pub loop-i-preserved : goal.loop-i-preserved
loop-i-preserved c =
    let a = c.args in
    let l = c.loop-i in
    let b = a.bytes.now in
    let h : l.i < length (words_in b) = rw (length-words b) (omega arith) in (
      search rules,
      rw (l.invariant.1, c.word.ensures, ← word_in b l.i (omega arith), add-one) (copy_more (words_in b) a.out.now l.i h (omega arith)),
      simp length-set l.invariant.2,
    )

pub returns : goal.returns
returns c =
    let a = c.args in
    let l = c.loop-i in
    let b = a.bytes.now in
    let e : l.i ≡ length b / 2 = omega arith in
    wrote [] _ _ tt _ (length-words b) _ (omega arith) (l.invariant.1 ∙ rw (e, take_all (length b / 2) (words_in b) (omega (arith, length-words b))))
