-- 01, Command words: the words of a command as they are written, and the refusals of its writer.
use Rattle.std.specs.Prelude.{ℕ, ◌^◌, ◌<◌, List, [], ◌∷◌, ◌++◌, ltb, eqb, Result}
use Rattle.refusals.specs.Tables.{Rule, rule}
use Rattle.refusals.specs.Writing.{Wrote}
use Rattle.numbers.specs.Numbers.{digits}
use Rattle.bounds.specs.Bounds.{bound_of, lent_rules}
use Rattle.commands.specs.Commands.{id_of, parameter_of}
use Rattle.commands.specs.declared.RunLength.TheVariants.{Endless, Counted}
use Rattle.commands.specs.declared.Command.{Command}
use Rattle.commands.specs.declared.Command.TheVariants.{Read, Write, Start, Stop, Ping, CrateReset}
use Rattle.refusals.specs.declared.Refusal.{Refusal}

-- "Word 0 is 0x0040; 1 the command; 2 the parameter; 3 and 4 zero"
abbrev pub five_words : ℕ → ℕ → List ℕ
five_words id parameter = 0x0040 ∷ id ∷ parameter ∷ 0 ∷ 0 ∷ []

-- the block of a command: b for a write, and X "in 2 words, high first"
abbrev pub block_for : Command → List ℕ → List ℕ
block_for (Read kind) b = []
block_for Write b = b
block_for (Start Endless) b = []
block_for (Start (Counted x)) b = digits 65536 2 x
block_for Stop b = []
block_for Ping b = []
block_for (CrateReset c) b = []

-- "then a data block where one is due"
abbrev pub command_words : Command → List ℕ → List ℕ
command_words c b = five_words (id_of c) (parameter_of c) ++ block_for c b

-- a writer's own refusals: "it can give 6, 7, 8, 11 or 19"
abbrev pub write_rules : Command → List ℕ → List Rule
write_rules (Read kind) b = []
write_rules Write b = lent_rules bound_of 436 b
write_rules (Start Endless) b = []
write_rules (Start (Counted x)) b = rule 7 (eqb x 0) ∷ []
write_rules Stop b = []
write_rules Ping b = []
write_rules (CrateReset c) b = rule 11 (ltb 3 c) ∷ []

-- X has 32 bits, as the command's type says
abbrev pub CountFits : Command → Type 0
CountFits (Read kind) = Unit
CountFits Write = Unit
CountFits (Start Endless) = Unit
CountFits (Start (Counted x)) = x < 2 ^ 32
CountFits Stop = Unit
CountFits Ping = Unit
CountFits (CrateReset n) = Unit

-- the writer of the command c, with the block b of a write, answered r, and the lent words `out` became `after`
pub record WroteCommand (c : Command) (b out : List ℕ) (r : Result ℕ Refusal) (after : List ℕ) : Type 0 where
  pub wrote : Wrote (write_rules c b) (command_words c b) out r after
  pub fits : CountFits c
