-- `ftu_list::write_list` meets its contract. Assumes nothing.
use Prim.Native.Nat.{◌≤◌}
use mathlib.Core.Path.{◌≡◌}
use mathlib.Core.List.{[]}
use lib.ListN.{length}
use Rattle.blocks.proofs.Laws.{header-room, block_refused, block-wrote}
use Rattle.ftu_list.specs.List.{list_body}
use Rattle.ftu_list.proofs.Laws.{length-body, length-mapped}
use borrow.Author.Rules.{rules}
use native.Mathlib.Omega.{arith}
use Rattle.ftu_list.proofs.write_list.Goals.{In_ok-put_header}
use Rattle.std.specs.Prelude.{Err}
use Rattle.ftu_list.proofs.write_list.Goals as goal

-- where the header's writer did not refuse, there is room
room : (c : In_ok-put_header) → 260 ≤ length c.args.out.now
room c =
    let put = c.put_header in
    let a = c.args in
    omega (arith, header-room a.h _ a.out.now put.result _ put.ensures _ c.in_ok-put_header.was)

pub slice_bounds-put_list-count : goal.slice_bounds-put_list-count
slice_bounds-put_list-count c = omega (arith, room (goal.at.slice_bounds-put_list-count c).In_ok-put_header)

pub slice_bounds-put_list-start : goal.slice_bounds-put_list-start
slice_bounds-put_list-start c = omega (arith, room (goal.at.slice_bounds-put_list-start c).In_ok-put_header)

pub put_list-requires : goal.put_list-requires
put_list-requires c = omega (arith, room (goal.at.put_list-requires c).In_ok-put_header)

pub returns : goal.returns
returns c =
    let put = c.put_header in
    let a = c.args in
    let n : length a.list.entries ≡ 40 = search (length-mapped, c.well_formed) depth 8 in
    block-wrote [] tt a.h (list_body a.list) a.out.now 249 (length-body a.list n) put.result _ put.ensures _ c.in_ok-put_header.was
    (search (rules, c.well_formed)) _ c.put_list.ensures

pub returns-in_err-put_header : goal.returns-in_err-put_header
returns-in_err-put_header c =
    let put = c.put_header in
    let a = c.args in
    let n : length a.list.entries ≡ 40 = search length-mapped depth 8 in
    let same : c.from_residual.result ≡ Err c.in_err-put_header.field-0.0 = search rules in
    rw same (block_refused [] tt a.h (list_body a.list) a.out.now 249 (length-body a.list n) put.result _ put.ensures _ c.in_err-put_header.was)
