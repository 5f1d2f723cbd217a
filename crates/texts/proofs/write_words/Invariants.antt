-- `texts::write_words` meets its contract. Assumes nothing.
use Rattle.std.proofs.Common.{◌≡◌, ◌+◌, ◌*◌, ◌++◌, take}
use Rattle.texts.specs.Texts.{hex_word, joined}
use Rattle.texts.proofs.write_words.Given as goal

abbrev pub invariant-loop-word : goal.invariant-loop-word
invariant-loop-word l =
    record {
      place : l.at ≡ l.from + 4 * l.word-index;
      text : take l.at l.text ≡ take l.from l.initial.text ++ joined hex_word (take l.word-index l.words);
    }
