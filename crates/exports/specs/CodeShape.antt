-- What only the code's shape needs: what the private functions give.
use Rattle.std.specs.Prelude.{ℕ, ◌/◌, ◌≡◌, List, ◌++◌, length, drop}
use Rattle.run.specs.declared.Run.{Run}
use Rattle.exports.specs.Exports.{packets_of}

-- r of `count` triggers were given on a run, and their packets stand in front of the lent bytes `out`
pub record GivesPackets (run : Run) (count : ℕ) (out : List ℕ) (r : ℕ) (after : List ℕ) : Type 0 where
  pub number : r ≡ length (packets_of count run) / 7
  pub packets : after ≡ packets_of count run ++ drop (length (packets_of count run)) out
