-- Words that begin with the same five: the refusals 1 to 5 are given alike, and the same row of the table of commands is named, of whatever X.
-- Assumes nothing.
use Prim.Native.Nat.{ℕ, ◌<◌, ◌≤◌}
use mathlib.Core.Path.{◌≡◌, ap, ◌∙◌}
use mathlib.Core.Bool.{false, not}
use mathlib.Core.List.{List}
use native.Mathlib.Omega.{arith}
use lib.Dec.{eqb}
use lib.ListN.{length, get_or, take}
use borrow.Author.Tests.{le-ltb}
use Rattle.refusals.proofs.Tables.{Clear}
use Rattle.commands.specs.Commands.{block_length}
use Rattle.command_reader.specs.Reading.{count_in, named_in, command_in, spare_set, read_rules}
use Rattle.explanations.specs.declared.Present.{Present}
use Rattle.explanations.proofs.Answers.{rules_in}
use Rattle.explanations.proofs.SameRow.{SameNamed, same-named, same_block, same-refusal}

module _ (v w : List ℕ) (long : 5 ≤ length v) (same : (k : ℕ) → k < 5 → get_or v k 0 ≡ get_or w k 0) where
  pub same-command : SameNamed (named_in v) (named_in w)
  same-command = rw (same 1 (omega arith), same 2 (omega arith)) (same-named (get_or w 1 0) (get_or w 2 0) (count_in v) (count_in w))

  pub same-due : block_length (command_in v) ≡ block_length (command_in w)
  same-due = same_block (named_in v) (named_in w) same-command

  -- where none of the five is given for the one, none is for the other
  pub clear-five : (p : Present) → Clear (take 5 (rules_in w p)) → Clear (take 5 (rules_in v p))
  unfolding read_rules spare_set
  clear-five p (five, (first, (id, (parameter, (spare, end))))) =
      let first' : not (eqb (get_or v 0 0) 0x0040) ≡ false = ap (λ (n : ℕ). not (eqb n 0x0040)) (same 0 (omega arith)) ∙ first in
      let id' = same-refusal 3 (named_in v) (named_in w) same-command ∙ id in
      let parameter' = same-refusal 4 (named_in v) (named_in w) same-command ∙ parameter in
      let spare' : spare_set v ≡ false = rw (same 3 (omega arith), same 4 (omega arith)) spare in
      (le-ltb _ _ long, (first', (id', (parameter', (spare', tt)))))
