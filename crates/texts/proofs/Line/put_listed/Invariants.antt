-- `texts::Line::put_listed` meets its contract. Assumes nothing.
use Rattle.std.proofs.Common.{◌≡◌, ◌≤◌, ◌+◌, ◌*◌, ◌++◌, length, take}
use Rattle.texts.specs.Texts.{hex_word, joined}
use Rattle.texts.specs.CodeShape.{after_space}
use Rattle.texts.proofs.Line.put_listed.Given as goal

abbrev pub invariant-loop-number : goal.invariant-loop-number
invariant-loop-number l =
    record {
      text : l.self ≡ l.initial.self ++ joined (after_space hex_word) (take l.number-index l.numbers);
      room : length l.self ≤ length l.initial.self + 5 * l.number-index;
    }
