-- What a writer of one command did is what the writer of commands does for it; and its table rises.
-- Assumes nothing.
use Prim.Native.Nat.{ℕ}
use mathlib.Core.Path.{◌≡◌}
use mathlib.Core.List.{List}
use lib.Dec.{T}
use lib.ListN.{length}
use Rattle.std.specs.Prelude.{Result}
use Rattle.refusals.specs.Tables.{rising}
use Rattle.refusals.specs.Writing.{Wrote, writing_rules, writing}
use Rattle.refusals.proofs.Tables.{Exactly}
use Rattle.refusals.proofs.Writing.{writing-exactly}
use Rattle.bounds.specs.Bounds.{lent_rules}
use Rattle.commands.specs.declared.RunLength.TheVariants.{Endless, Counted}
use Rattle.commands.specs.declared.Command.{Command}
use Rattle.commands.specs.declared.Command.TheVariants.{Read, Write, Start, Stop, Ping, CrateReset}
use Rattle.command_writer.specs.Writing.{command_words, write_rules, CountFits, WroteCommand}
use Rattle.refusals.specs.declared.Refusal.{Refusal}

module _ (b out : List ℕ) (r : Result ℕ Refusal) (after : List ℕ) where
  pub command-is : (c d : Command) → c ≡ d → CountFits d → Wrote (write_rules d b) (command_words d b) out r after → WroteCommand c b out r after
  command-is c d e f w = rw e (record { wrote = w; fits = f })

write-rises : (c : Command) (b out : List ℕ) → T (rising (writing_rules (write_rules c b) (command_words c b) out))
unfolding lent_rules writing_rules
write-rises (Read kind) b out = tt
write-rises Write b out = tt
write-rises (Start Endless) b out = tt
write-rises (Start (Counted x)) b out = tt
write-rises Stop b out = tt
write-rises Ping b out = tt
write-rises (CrateReset c) b out = tt

-- a command is written exactly where no row of the table, 19 after the writer's own, applies
pub write-exactly : (c : Command) (b out : List ℕ)
    → Exactly (writing_rules (write_rules c b) (command_words c b) out) (length (command_words c b)) (writing (write_rules c b) (command_words c b) out)
write-exactly c b out = writing-exactly (writing_rules (write_rules c b) (command_words c b) out) (command_words c b) out (write-rises c b out)
