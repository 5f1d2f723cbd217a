-- `blocks::put_dynamic` meets its contract. Assumes nothing.
use Prim.Native.Nat.{◌+◌, ◌≤◌}
use mathlib.Core.Path.{◌≡◌}
use lib.ListN.{length}
use Rattle.words.proofs.Laws.{copied-part, both-output}
use borrow.Author.Rules.{rules}
use native.Mathlib.Omega.{arith}
use Rattle.blocks.proofs.put_dynamic.Goals as goal

pub returns : goal.returns
returns c =
    let a = c.args in
    let p = c.copy_words in
    let q = c.copy_words-2 in
    let n : length a.front ≡ 7 = search rules in
    let m : length a.rates ≡ 480 = search rules in
    let room : 7 + 480 ≤ length p.new.dst = omega arith in
    both-output a.body.now a.front a.rates p.new.dst q.new.dst 7 480 n m c.requires p.ensures
    (copied-part a.rates p.new.dst q.new.dst 7 480 m room q.ensures)
