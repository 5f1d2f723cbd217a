-- `texts::Line::put_numbers` meets its contract. Assumes nothing.
use mathlib.Core.Path.{◌≡◌}
use mathlib.Core.List.{append_assoc}
use lib.ListN.{take}
use lib.Seq.{take_all}
use Rattle.texts.specs.Texts.{decimal}
use Rattle.texts.specs.CodeShape.{after_space}
use Rattle.texts.proofs.Laws.{joined-more, spaced-joined}
use native.Mathlib.Omega.{arith}
use Rattle.std.proofs.lemmas.Grind.{common_steps}
use Rattle.texts.proofs.Line.put_numbers.Goals as goal

pub loop-number-preserved : goal.loop-number-preserved
loop-number-preserved c =
    let l = c.loop-number in
    record {
      text = joined-more (after_space decimal) c.put_decimal.new.self c.in-Some.rest.now l.number-index (omega arith) l.invariant.text
          (rw (c.put_decimal-in-loop-number.ensures.text, c.put.ensures) (simp append_assoc));
      room = grind (arith, common_steps);
    }

pub returns-after-loop-number-clause-text : goal.returns-after-loop-number-clause-text
returns-after-loop-number-clause-text c =
    let first = c.in-Some.first.now in
    let rest = c.in-Some.rest.now in
    let all : take c.loop-number.number-index rest ≡ rest = take_all _ _ (omega arith) in
    rw (c.in-Some.ensures.cases.0, spaced-joined decimal (decimal first) rest, c.loop-number.invariant.text, all, c.put_decimal.ensures.text)
    (simp append_assoc)
