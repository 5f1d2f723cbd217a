-- `texts::Line::put_numbers` meets its contract. Assumes nothing.
use Rattle.std.proofs.Common.{◌≡◌, ◌≤◌, ◌+◌, ◌*◌, ◌++◌, length, take}
use Rattle.texts.specs.Texts.{decimal, joined}
use Rattle.texts.specs.CodeShape.{after_space}
use Rattle.texts.proofs.Line.put_numbers.Given as goal

abbrev pub invariant-loop-number : goal.invariant-loop-number
invariant-loop-number l =
    record {
      text : l.self ≡ l.initial.self ++ joined (after_space decimal) (take l.number-index l.rest);
      room : length l.self ≤ length l.initial.self + 21 * l.number-index;
    }
