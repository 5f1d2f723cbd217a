-- `block_reader::check_body` meets its contract. Assumes nothing.
use Prim.Native.Nat.{ℕ, ◌-◌}
use mathlib.Core.Path.{◌≡◌, ap, ◌∙◌}
use mathlib.Core.List.{List}
use lib.ListN.{length, take, drop}
use Rattle.words.proofs.Laws.{part-rest}
use Rattle.bounds.specs.Bounds.{measurement_bound, checked_meaning, bounds_answer}
use Rattle.block_reader.specs.Reading.{body_length}
use Rattle.bounds.proofs.Checked.{Checked}
use Rattle.block_reader.specs.declared.Kind.{Kind}
use Rattle.block_reader.specs.declared.Kind.TheVariants.{Dynamic}
use Rattle.block_reader.proofs.Laws.{static-body, dynamic-above, dynamic-within}
use native.Mathlib.Omega.{arith}
use Rattle.block_reader.proofs.check_body.Goals as goal

-- a dynamic body has its 487 words
long : (kind : Kind) (body : List ℕ) → length body ≡ body_length kind → kind ≡ Dynamic → length body ≡ 487
long kind body l e = l ∙ ap body_length e

-- and its measurements are checked
measured : (body : List ℕ) (r : Checked) → checked_meaning r ≡ bounds_answer measurement_bound (take (length body - 3) (drop 3 body))
    → checked_meaning r ≡ bounds_answer measurement_bound (drop 3 body)
measured body r e = e ∙ ap (bounds_answer measurement_bound) (part-rest body 3)

-- the place in the body
pub overflow_add-result : goal.overflow_add-result
overflow_add-result c =
    let body = c.args.body.now in
    let r = c.check_bounds-in-Dynamic in
    let above = dynamic-above body (long _ body c.requires c.in-Dynamic.is) r.result (measured body r.result r.ensures) _ c.in-Err.is in
    omega (arith, above.0)

pub returns-in-Static : goal.returns-in-Static
returns-in-Static c =
    let is = c.in-Static.is in
    rw is (c.check_bounds.ensures ∙ static-body _ (c.requires ∙ ap body_length is))

pub returns-in-Ok : goal.returns-in-Ok
returns-in-Ok c =
    let body = c.args.body.now in
    let r = c.check_bounds-in-Dynamic in
    rw c.in-Dynamic.is (dynamic-within body (long _ body c.requires c.in-Dynamic.is) r.result (measured body r.result r.ensures) c.in-Ok.is)

pub returns-in-Err : goal.returns-in-Err
returns-in-Err c =
    let body = c.args.body.now in
    let r = c.check_bounds-in-Dynamic in
    rw c.in-Dynamic.is (dynamic-above body (long _ body c.requires c.in-Dynamic.is) r.result (measured body r.result r.ensures) _ c.in-Err.is).1
