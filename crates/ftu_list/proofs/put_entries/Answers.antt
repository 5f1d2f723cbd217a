-- `ftu_list::put_entries` meets its contract. Assumes nothing.
use lib.Seq.{length-take-le, take_all}
use Rattle.ftu_list.specs.declared.Entry.{Entry}
use Rattle.words.proofs.Laws.{copied-part, part-output, part_length}
use Prim.Native.Nat.{ℕ, ◌+◌, ◌-◌, ◌*◌}
use mathlib.Core.Path.{◌≡◌, sym, ap, ap₂, ◌∙◌}
use mathlib.Core.List.{List, ◌++◌}
use native.Mathlib.Numerals.{add-one}
use lib.ListN.{length, take, drop, get_or}
use Rattle.words.specs.Words.{copied}
use Rattle.ftu_list.specs.List.{entry_words, entry_words_from}
use Rattle.ftu_list.proofs.Laws.{silent, length-entry, length-entries, entries-more}
use borrow.Author.Rules.{rules}
use native.Mathlib.Omega.{arith}
use Rattle.ftu_list.proofs.put_entries.Goals as goal

pub loop-k-preserved : goal.loop-k-preserved
loop-k-preserved c =
    let l = c.loop-k in
    let a = c.args in
    let after = c.copy_words.new.dst in
    let n : length a.entries ≡ 40 = search rules in
    let front = entry_words_from 0 (take l.k a.entries) in
    let hn : length front ≡ 6 * l.k = length-entries 0 (take l.k a.entries) ∙ ap (λ (m : ℕ). 6 * m) (length-take-le l.k a.entries (omega arith)) in
    let w = entry_words l.k (get_or a.entries l.k silent) in
    let six : c.entry_words-six.result ≡ w = c.entry_words-six.ensures in
    let ey : after ≡ w ++ drop 6 (take (length l.body - 6 * l.k) (drop (6 * l.k) l.body)) =
    copied-part w l.body after (6 * l.k) 6 (length-entry l.k _) (omega arith)
    (c.copy_words.ensures ∙ ap (λ (x : List ℕ). copied x (take (length l.body - 6 * l.k) (drop (6 * l.k) l.body))) six) in
    let more : entry_words_from 0 (take (l.k + 1) a.entries) ++ drop (6 * (l.k + 1)) a.body.now ≡ (front ++ w) ++ drop (6 * l.k + 6) a.body.now =
    ap₂ (λ (x : List ℕ) (m : ℕ). x ++ drop m a.body.now)
    (ap (λ (m : ℕ). entry_words_from 0 (take m a.entries)) (add-one l.k) ∙ entries-more a.entries l.k (omega arith))
    (let q : 6 * (l.k + 1) ≡ 6 * l.k + 6 = omega arith in q) in (
      search rules,
      part-output a.body.now front w l.body after (6 * l.k) 6 hn (length-entry l.k _) l.invariant.1 ey ∙ sym more,
      part_length a.body.now front w l.body after (6 * l.k) 6 hn (length-entry l.k _) l.invariant.1 ey (omega arith),
    )

pub returns : goal.returns
returns c =
    let a = c.args in
    let l = c.loop-k in
    let n : length a.entries ≡ 40 = search rules in
    let e : l.k ≡ 40 = omega arith in
    l.invariant.1
    ∙ ap (λ (m : ℕ). entry_words_from 0 (take m a.entries) ++ drop (6 * m) a.body.now) e
    ∙ ap (λ (x : List Entry). entry_words_from 0 x ++ drop 240 a.body.now) (take_all 40 a.entries (omega arith))
