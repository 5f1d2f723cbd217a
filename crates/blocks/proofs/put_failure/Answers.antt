-- `blocks::put_failure` meets its contract. Assumes nothing.
use Prim.Native.Nat.{ℕ, suc}
use mathlib.Core.Path.{◌≡◌, sym, ap, subst, ◌∙◌}
use mathlib.Core.List.{List, ◌∷◌, ◌++◌}
use native.Mathlib.Numerals.{add-one}
use lib.ListN.{length, take, drop, set, get_or, length-set}
use Rattle.words.proofs.Laws.{copy_more}
use borrow.Author.Rules.{rules}
use native.Mathlib.Omega.{arith}
use Rattle.blocks.proofs.put_failure.Goals as goal

pub loop-i-preserved : goal.loop-i-preserved
loop-i-preserved c =
    let a = c.args in
    let l = c.loop-i in
    let d = set a.body.now 0 a.calls in
    let n : length a.frame ≡ 28 = search rules in
    let s = a.calls ∷ a.frame in
    let m : length d ≡ length a.body.now = simp length-set in
    let step : set l.body (suc l.i) (get_or s (suc l.i) 0) ≡ take (suc (suc l.i)) s ++ drop (suc (suc l.i)) d =
    ap (λ (x : List ℕ). set x (suc l.i) (get_or s (suc l.i) 0)) l.invariant.0 ∙ copy_more s d (suc l.i) (omega arith) (omega arith) in (
      subst (λ (n : ℕ). set l.body n (get_or a.frame l.i 0) ≡ take (suc n) s ++ drop (suc n) d) (sym (add-one l.i)) step,
      simp length-set (l.invariant.1 ∙ m),
    )
