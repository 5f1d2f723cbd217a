-- X says nothing of which row of the table of commands it is: whatever X is, an ID and a parameter name the same row, or are refused alike.
-- Assumes nothing.
use Prim.Native.Nat.{ℕ}
use mathlib.Core.Path.{◌≡◌, refl, ap}
use mathlib.Core.Bool.{Bool, true, false, cond}
use mathlib.Core.List.{List, [], ◌∷◌}
use lib.Dec.{eqb}
use Rattle.refusals.specs.Tables.{Answer, given, refused}
use Rattle.commands.specs.Commands.{id_of, parameter_of, block_length, is_write, rows, look_up, listed_as}
use Rattle.commands.specs.declared.RunLength.TheVariants.{Counted}
use Rattle.commands.specs.declared.Command.{Command}
use Rattle.commands.specs.declared.Command.TheVariants.{Start}
use Rattle.command_reader.specs.Reading.{is_refusal, command_of}

-- two commands of the same row
pub record SameRow (c d : Command) : Type 0 where
  pub id : id_of c ≡ id_of d
  pub parameter : parameter_of c ≡ parameter_of d
  pub block : block_length c ≡ block_length d
  pub write : is_write c ≡ is_write d

abbrev SameRows : List Command → List Command → Type 0
SameRows [] [] = Unit
SameRows [] (d ∷ ds) = ⊥
SameRows (c ∷ cs) [] = ⊥
SameRows (c ∷ cs) (d ∷ ds) = SameRow c d × SameRows cs ds

-- two answers that name the same row, or refuse alike
abbrev pub SameNamed : Answer Command → Answer Command → Type 0
SameNamed (given c) (given d) = SameRow c d
SameNamed (given c) (refused m q) = ⊥
SameNamed (refused n p) (given d) = ⊥
SameNamed (refused n p) (refused m q) = (n ≡ m) × (p ≡ q)

either : (t : Bool) (a b a' b' : Answer Command) → SameNamed a a' → SameNamed b b' → SameNamed (cond t a b) (cond t a' b')
either true a b a' b' h k = h
either false a b a' b' h k = k

looked-up : (i p n m : ℕ) (cs ds : List Command) → SameRows cs ds → SameNamed (look_up i p (refused n m) cs) (look_up i p (refused n m) ds)
looked-up i p n m [] [] s = (refl, refl)
looked-up i p n m [] (d ∷ ds) s = absurd s
looked-up i p n m (c ∷ cs) [] s = absurd s
looked-up i p n m (c ∷ cs) (d ∷ ds) (s, rest) =
    rw (s.id, s.parameter)
    (either (eqb i (id_of d)) _ _ _ _ (either (eqb p (parameter_of d)) (given c) _ (given d) _ s (looked-up i p 4 0 cs ds rest)) (looked-up i p n m cs ds rest))

same : (c : Command) → SameRow c c
same c = record { id = refl; parameter = refl; block = refl; write = refl }

pub same-named : (i p x y : ℕ) → SameNamed (listed_as i p x) (listed_as i p y)
unfolding listed_as
same-named i p x y =
    let counted : SameRow (Start (Counted x)) (Start (Counted y)) = record { id = refl; parameter = refl; block = refl; write = refl } in
    looked-up i p 3 0 (rows x) (rows y)
    (same _, (same _, (same _, (same _, (counted, (same _, (same _, (same _, (same _, (same _, (same _, tt)))))))))))

-- ---- so they have the same block, and refuse alike

pub same_block : (a b : Answer Command) → SameNamed a b → block_length (command_of a) ≡ block_length (command_of b)
same_block (given c) (given d) s = s.block
same_block (given c) (refused m q) s = absurd s
same_block (refused n p) (given d) s = absurd s
same_block (refused n p) (refused m q) s = refl

pub same_write : (a b : Answer Command) → SameNamed a b → is_write (command_of a) ≡ is_write (command_of b)
same_write (given c) (given d) s = s.write
same_write (given c) (refused m q) s = absurd s
same_write (refused n p) (given d) s = absurd s
same_write (refused n p) (refused m q) s = refl

pub same-refusal : (k : ℕ) (a b : Answer Command) → SameNamed a b → is_refusal k a ≡ is_refusal k b
same-refusal k (given c) (given d) s = refl
same-refusal k (given c) (refused m q) s = absurd s
same-refusal k (refused n p) (given d) s = absurd s
same-refusal k (refused n p) (refused m q) s = ap (λ (j : ℕ). eqb j k) s.0
