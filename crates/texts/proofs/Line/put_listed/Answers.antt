-- `texts::Line::put_listed` meets its contract. Assumes nothing.
use mathlib.Core.List.{append_assoc}
use Rattle.texts.specs.Texts.{hex_word}
use Rattle.texts.specs.CodeShape.{after_space}
use Rattle.texts.proofs.Laws.{joined-more}
use native.Mathlib.Omega.{arith}
use Rattle.std.proofs.lemmas.Grind.{common_steps}
use Rattle.texts.proofs.Line.put_listed.Goals as goal

pub loop-number-preserved : goal.loop-number-preserved
loop-number-preserved c =
    let l = c.loop-number in
    record {
      text = joined-more (after_space hex_word) c.args.self.now c.args.numbers.now l.number-index (omega arith) l.invariant.text
          (rw (c.put_hex_word.ensures.text, c.put.ensures) (simp append_assoc));
      room = grind (arith, common_steps);
    }
