-- `four_crates::entries_of` meets its contract. Assumes nothing.
use mathlib.Core.Path.{◌≡◌, sym, ap, ◌∙◌}
use mathlib.Core.List.{List, ◌++◌, append-nil}
use native.Mathlib.Numerals.{add-one}
use lib.ListN.{take, drop, set, replicate, length-set}
use lib.Seq.{take_all}
use Rattle.words.proofs.Laws.{store-more}
use Rattle.ftu_list.specs.declared.Entry.{Entry}
use Rattle.crate_pass.specs.Crate.{silent}
use Rattle.four_crates.specs.FourCrates.{entries_of}
use Rattle.four_crates.proofs.Entries.{entry_of, forty}
use borrow.Author.Rules.{rules}
use native.Mathlib.Omega.{arith}
use Rattle.four_crates.proofs.entries_of.Goals as goal

pub loop-k-preserved : goal.loop-k-preserved
loop-k-preserved c =
    let l = c.loop-k in
    let cs = c.args.crates in
    let all = entries_of cs in
    let n = forty cs in (
      search rules,
      rw (l.invariant.1, add-one)
          (ap (set (take l.k all ++ drop l.k (replicate 40 silent)) l.k) (c.entry_of.ensures ∙ sym (entry_of cs l.k (omega arith)))
          ∙ store-more silent all (replicate 40 silent) l.k (omega arith) (omega arith)),
      simp length-set l.invariant.2,
    )

pub returns : goal.returns
returns c =
    let l = c.loop-k in
    let all = entries_of c.args.crates in
    let n = forty c.args.crates in
    let e : l.k ≡ 40 = omega arith in
    l.invariant.1
    ∙ rw e (ap (λ (x : List Entry). x ++ drop 40 (replicate 40 silent)) (take_all 40 all (rw n (omega arith))) ∙ append-nil all)
