-- `blocks::put_static` meets its contract. Assumes nothing.
use Prim.Native.Nat.{ℕ}
use mathlib.Core.Path.{◌≡◌, ap, ◌∙◌}
use mathlib.Core.List.{◌++◌}
use lib.ListN.{length, drop}
use Rattle.words.proofs.Laws.{copied-whole}
use borrow.Author.Rules.{rules}
use native.Mathlib.Omega.{arith}
use Rattle.blocks.proofs.put_static.Goals as goal

pub returns : goal.returns
returns c =
    let a = c.args in
    let n : length a.block ≡ 436 = search rules in
    c.copy_words.ensures ∙ copied-whole a.block a.body.now (omega arith) ∙ ap (λ (k : ℕ). a.block ++ drop k a.body.now) n
