-- `texts::write_words` meets its contract. Assumes nothing.
use Rattle.texts.specs.Texts.{hex_word}
use Rattle.texts.proofs.Laws.{joined-more}
use mathlib.Core.Path.{ap, ◌∙◌}
use mathlib.Core.List.{List, ◌++◌}
use Prim.Native.Nat.{ℕ}
use lib.ListN.{take}
use native.Mathlib.Omega.{arith}
use Rattle.texts.proofs.write_words.Goals as goal

pub loop-word-preserved : goal.loop-word-preserved
loop-word-preserved c =
    let l = c.loop-word in
    let written = c.write-at.ensures.text_after ∙ ap (λ (xs : List ℕ). take l.at l.text ++ xs) c.hex_word.ensures in
    record {
      place = omega arith;
      text = joined-more hex_word _ c.args.words.now l.word-index (omega arith) l.invariant.text written;
    }
