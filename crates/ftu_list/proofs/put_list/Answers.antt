-- `ftu_list::put_list` meets its contract. Assumes nothing.
use Prim.Native.Nat.{ℕ, ◌*◌}
use mathlib.Core.Path.{◌≡◌, ap, ◌∙◌}
use mathlib.Core.List.{List}
use lib.ListN.{length}
use Rattle.words.specs.Words.{copied}
use Rattle.words.proofs.Laws.{both-output}
use Rattle.ftu_list.specs.List.{list_head, entry_words_from}
use Rattle.ftu_list.proofs.Laws.{length-head, length-entries, length-mapped}
use native.Mathlib.Omega.{arith}
use Rattle.ftu_list.proofs.put_list.Goals as goal

pub returns : goal.returns
returns c =
    let a = c.args in
    let es = a.list.entries in
    let n : length es ≡ 40 = search length-mapped depth 8 in
    let p = c.copy_words in
    let q = c.put_entries in
    both-output a.body.now (list_head a.list) (entry_words_from 0 es) p.new.dst q.new.body 9 240 (length-head a.list)
    (length-entries 0 es ∙ ap (λ (m : ℕ). 6 * m) n) (omega arith)
    (p.ensures ∙ ap (λ (l : List ℕ). copied l a.body.now) c.list_head-head.ensures)
    q.ensures
