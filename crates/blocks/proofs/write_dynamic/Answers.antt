-- `blocks::write_dynamic` meets its contract. Assumes nothing.
use Prim.Native.Nat.{ℕ, ◌-◌, ◌^◌, ◌<◌, ◌≤◌}
use mathlib.Core.Path.{◌≡◌, ap, ◌∙◌}
use mathlib.Core.List.{List, ◌++◌}
use lib.ListN.{length, drop, take}
use Rattle.std.specs.Prelude.{Err}
use Rattle.refusals.specs.declared.Refusal.TheVariants.{WrongLength}
use Rattle.blocks.specs.Blocks.{temperature_rules, dynamic_body}
use Rattle.blocks.proofs.Laws.{header-room, block-own, block_refused, block-wrote}
use Rattle.blocks.proofs.Dynamic.{wrong-length, right-length, length-dynamic}
use borrow.Author.Rules.{rules}
use native.Mathlib.Omega.{arith}
use Rattle.blocks.proofs.write_dynamic.Goals.{Start, In_ok-put_header}
use Rattle.blocks.proofs.write_dynamic.Goals as goal

counter-fits : (c : Start) → c.args.h.trigger_counter < 2 ^ 32
counter-fits c = search (rules, c.well_formed)

rates-length : (c : Start) → length c.args.rates ≡ 480
rates-length c = search rules

-- where the header's writer did not refuse, there is room
room : (c : In_ok-put_header) → 498 ≤ length c.args.out.now
room c =
    let put = c.put_header in
    let a = c.args in
    omega (arith, header-room a.h _ a.out.now put.result _ put.ensures _ c.in_ok-put_header.was)

pub returns-then-temperatures-ne4 : goal.returns-then-temperatures-ne4
returns-then-temperatures-ne4 c =
    let t = c.args.temperatures.now in
    record {
      block = block-own _ 487 _ _ _ WrongLength (wrong-length t (omega arith));
      words = λ j. omega (arith, c.shared_slice_known-1.given j);
      long = rates-length (goal.at.returns-then-temperatures-ne4 c).Start;
    }

pub slice_bounds-put_dynamic-count : goal.slice_bounds-put_dynamic-count
slice_bounds-put_dynamic-count c = omega (arith, room (goal.at.slice_bounds-put_dynamic-count c).In_ok-put_header)

pub slice_bounds-put_dynamic-start : goal.slice_bounds-put_dynamic-start
slice_bounds-put_dynamic-start c = omega (arith, room (goal.at.slice_bounds-put_dynamic-start c).In_ok-put_header)

pub put_dynamic-requires : goal.put_dynamic-requires
put_dynamic-requires c = let enough = room (goal.at.put_dynamic-requires c).In_ok-put_header in omega arith

pub returns : goal.returns
returns c =
    let put = c.put_header in
    let a = c.args in
    let t = a.temperatures.now in
    let n : length t ≡ 4 = omega arith in
    let m = rates-length (goal.at.returns c).Start in
    let body = dynamic_body a.on_time t a.rates in
    let put-body = c.put_dynamic in
    let headed = put.new.out in
    record {
      block =
          block-wrote (temperature_rules t) (right-length t n) a.h body a.out.now 487 (length-dynamic t a.on_time a.rates n m) put.result _
          put.ensures _ c.in_ok-put_header.was (counter-fits (goal.at.returns c).Start) _
          (put-body.ensures
          ∙ ap (λ (l : List ℕ). (l ++ a.rates) ++ drop 487 (take (length headed - 11) (drop 11 headed))) c.before_rates-front.ensures);
      words = λ j. omega (arith, c.shared_slice_known-1.given j);
      long = m;
    }

pub returns-in_err-put_header : goal.returns-in_err-put_header
returns-in_err-put_header c =
    let put = c.put_header in
    let a = c.args in
    let t = a.temperatures.now in
    let n : length t ≡ 4 = omega arith in
    let m = rates-length (goal.at.returns-in_err-put_header c).Start in
    let same : c.from_residual.result ≡ Err c.in_err-put_header.field-0.0 = search rules in
    record {
      block =
          rw same
          (block_refused (temperature_rules t) (right-length t n) a.h (dynamic_body a.on_time t a.rates) a.out.now 487
          (length-dynamic t a.on_time a.rates n m) put.result _ put.ensures _ c.in_err-put_header.was);
      words = λ j. omega (arith, c.shared_slice_known-1.given j);
      long = m;
    }
