-- 01, Command words: the writer of commands "can give 6, 7, 8, 11 or 19", each of them, and no other.
use Rattle.std.specs.Prelude.{ℕ, ◌≡◌, Bool, true, false, ◌||◌, List, [], ◌∷◌, eqb, Result}
use Rattle.refusals.specs.Tables.{refused, answer_of}
use Rattle.refusals.specs.Writing.{writing}
use Rattle.commands.specs.declared.Command.{Command}
use Rattle.command_writer.specs.Writing.{command_words, write_rules, WroteCommand}
use Rattle.refusals.specs.declared.Refusal.{Refusal}

abbrev pub numbers_given : List ℕ
numbers_given = 6 ∷ 7 ∷ 8 ∷ 11 ∷ 19 ∷ []

-- whether n is one of the numbers
abbrev pub one_of : List ℕ → ℕ → Bool
one_of [] n = false
one_of (m ∷ ms) n = eqb n m || one_of ms n

-- a command, a block and lent words for which n is given
pub record GivenFor (n : ℕ) : Type 0 where
  pub command : Command
  pub block : List ℕ
  pub out : List ℕ
  pub place : ℕ
  pub gives : writing (write_rules command block) (command_words command block) out ≡ refused n place

abbrev pub EachGiven : List ℕ → Type 0
EachGiven [] = Unit
EachGiven (n ∷ ns) = GivenFor n × EachGiven ns

-- of what the writer promises: a refusal has one of these numbers, and each of them is given
pub record CanGive (numbers : List ℕ) : Type 0 where
  pub only : (c : Command) (b out : List ℕ) (r : Result ℕ Refusal) (after : List ℕ) → WroteCommand c b out r after
      → (n p : ℕ) → answer_of r ≡ refused n p → one_of numbers n ≡ true
  pub each : EachGiven numbers
