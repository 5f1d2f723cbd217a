-- `blocks::write_failure` meets its contract. Assumes nothing.
use Prim.Native.Nat.{suc}
use mathlib.Core.Path.{◌≡◌, ap}
use mathlib.Core.List.{[]}
use lib.ListN.{length}
use Rattle.std.specs.Prelude.{Err}
use Rattle.blocks.specs.Blocks.{failure_body}
use Rattle.blocks.proofs.Laws.{header-room, block_refused, block-wrote}
use borrow.Author.Rules.{rules}
use native.Mathlib.Omega.{arith}
use Rattle.blocks.proofs.write_failure.Goals as goal

pub slice_bounds-put_failure-count : goal.slice_bounds-put_failure-count
slice_bounds-put_failure-count c =
    let put = c.put_header in
    let a = c.args in
    let room = header-room a.h 40 a.out.now put.result _ put.ensures _ c.in_ok-put_header.was in
    omega arith

pub slice_bounds-put_failure-start : goal.slice_bounds-put_failure-start
slice_bounds-put_failure-start c =
    let put = c.put_header in
    let a = c.args in
    let room = header-room a.h 40 a.out.now put.result _ put.ensures _ c.in_ok-put_header.was in
    omega arith

pub put_failure-requires : goal.put_failure-requires
put_failure-requires c =
    let put = c.put_header in
    let a = c.args in
    let room = header-room a.h 40 a.out.now put.result _ put.ensures _ c.in_ok-put_header.was in
    omega arith

pub returns : goal.returns
returns c =
    let put = c.put_header in
    let a = c.args in
    let n : length a.frame ≡ 28 = search rules in
    block-wrote [] tt a.h _ a.out.now 29 (ap suc n) put.result _ put.ensures _ c.in_ok-put_header.was
    (search rules) _ c.put_failure.ensures

pub returns-in_err-put_header : goal.returns-in_err-put_header
returns-in_err-put_header c =
    let put = c.put_header in
    let a = c.args in
    let n : length a.frame ≡ 28 = search rules in
    let same : c.from_residual.result ≡ Err c.in_err-put_header.field-0.0 = search rules in
    rw same (block_refused [] tt a.h (failure_body a.calls a.frame) a.out.now 29 (ap suc n) put.result _ put.ensures _ c.in_err-put_header.was)
