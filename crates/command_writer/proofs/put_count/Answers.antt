-- `command_writer::put_count` meets its contract. Assumes nothing.
use Prim.Native.Nat.{ℕ}
use mathlib.Core.Path.{refl, ap}
use mathlib.Core.List.{List, [], ◌∷◌, ◌++◌}
use lib.ListN.{get_or}
use borrow.Author.Tests.{eq-eqb, ne_eqb}
use Rattle.refusals.specs.declared.Refusal.TheVariants.{NoEvents}
use Rattle.refusals.proofs.Writing.{wrote-short, wrote-refused}
use Rattle.words.proofs.Writing.{wrote-copied}
use Rattle.command_writer.specs.Writing.{five_words}
use borrow.Author.Rules.{rules}
use native.Mathlib.Omega.{arith}
use Rattle.command_writer.proofs.put_count.Goals as goal

pub returns-then-x-eq0 : goal.returns-then-x-eq0
returns-then-x-eq0 c = record { wrote = wrote-refused _ _ _ NoEvents (simp (eq-eqb _ _ c.if-x-eq0.true)); fits = search rules }

pub returns-then-out-lt7 : goal.returns-then-out-lt7
returns-then-out-lt7 c = record { wrote = wrote-short _ _ _ (ne_eqb _ _ c.if-x-eq0.false, tt) 7 refl (omega arith); fits = search rules }

pub returns : goal.returns
returns c =
    record {
      wrote =
          wrote-copied _ (ne_eqb _ _ c.if-x-eq0.false, tt) _ _ _ _ 7 refl (omega arith)
          (ap (λ (l : List ℕ). five_words 0x04 2 ++ (get_or l 0 0 ∷ get_or l 1 0 ∷ [])) c.words-count.ensures)
          c.copy_words.ensures;
      fits = search rules;
    }
