-- `blocks::write_static` meets its contract. Assumes nothing.
use Prim.Native.Nat.{◌≤◌}
use mathlib.Core.Path.{◌≡◌}
use lib.ListN.{length}
use Rattle.std.specs.Prelude.{Err}
use Rattle.refusals.specs.declared.Refusal.TheVariants.{AboveBound}
use Rattle.bounds.specs.Bounds.{bound_of}
use Rattle.bounds.proofs.Lent.{above-8, checked-clear}
use Rattle.blocks.proofs.Laws.{header-room, block-own, block_refused, block-wrote}
use borrow.Author.Rules.{rules}
use native.Mathlib.Omega.{arith}
use Rattle.blocks.proofs.write_static.Goals.{In_ok-put_header}
use Rattle.blocks.proofs.write_static.Goals as goal

-- where the check of bounds and the header's writer did not refuse, there is room
room : (c : In_ok-put_header) → 447 ≤ length c.args.out.now
room c =
    let put = c.put_header in
    let a = c.args in
    omega (arith, header-room a.h _ a.out.now put.result _ put.ensures _ c.in_ok-put_header.was)

pub returns-in_err-check_bounds : goal.returns-in_err-check_bounds
returns-in_err-check_bounds c =
    let a = c.args in
    let n : length a.block ≡ 436 = search rules in
    let checked = c.check_bounds in
    let same : c.from_residual.result ≡ Err (AboveBound c.in_err-check_bounds.field-0.0.place) = search rules in
    rw same (block-own _ 436 _ _ _ (AboveBound _) (above-8 bound_of 436 a.block n checked.result checked.ensures _ c.in_err-check_bounds.was))

pub slice_bounds-put_static-count : goal.slice_bounds-put_static-count
slice_bounds-put_static-count c = omega (arith, room (goal.at.slice_bounds-put_static-count c).In_ok-put_header)

pub slice_bounds-put_static-start : goal.slice_bounds-put_static-start
slice_bounds-put_static-start c = omega (arith, room (goal.at.slice_bounds-put_static-start c).In_ok-put_header)

pub put_static-requires : goal.put_static-requires
put_static-requires c = omega (arith, room (goal.at.put_static-requires c).In_ok-put_header)

pub returns : goal.returns
returns c =
    let put = c.put_header in
    let checked = c.check_bounds in
    let a = c.args in
    let n : length a.block ≡ 436 = search (rules, c.well_formed) in
    let within = checked-clear bound_of 436 a.block n checked.result checked.ensures c.in_ok-check_bounds.was in
    block-wrote _ within a.h a.block a.out.now 436 n put.result _ put.ensures _ c.in_ok-put_header.was
    (search (rules, c.well_formed)) _ c.put_static.ensures

pub returns-in_err-put_header : goal.returns-in_err-put_header
returns-in_err-put_header c =
    let put = c.put_header in
    let checked = c.check_bounds in
    let a = c.args in
    let n : length a.block ≡ 436 = search rules in
    let within = checked-clear bound_of 436 a.block n checked.result checked.ensures c.in_ok-check_bounds.was in
    let same : c.from_residual-in_err-put_header.result ≡ Err c.in_err-put_header.field-0.0 = search rules in
    rw same (block_refused _ within a.h a.block a.out.now 436 n put.result _ put.ensures _ c.in_err-put_header.was)
