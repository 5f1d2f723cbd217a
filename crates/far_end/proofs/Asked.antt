-- The command, and the kind, that bytes ask for.
-- Assumes nothing.
use Prim.Native.Nat.{ℕ}
use mathlib.Core.Path.{◌≡◌, refl, ap}
use mathlib.Core.Bool.{Bool, true, false}
use mathlib.Core.List.{List, [], ◌∷◌}
use native.Mathlib.Omega.{arith}
use lib.ListN.{length, get_or}
use borrow.Author.Tests.{eq-eqb, ne_eqb}
use Rattle.std.specs.Prelude.{Some, None}
use Rattle.numbers.specs.Numbers.{number}
use Rattle.words.specs.Words.{words_in}
use Rattle.commands.specs.declared.BlockKind.TheVariants.{Static, Dynamic}
use Rattle.commands.specs.declared.RunLength.TheVariants.{Endless, Counted}
use Rattle.commands.specs.declared.Command.{Command}
use Rattle.commands.specs.declared.Command.TheVariants.{Read, Write, Start, Stop, Ping, CrateReset}
use Rattle.script.specs.Forms.{taking, one_byte, no_byte, any_words, found}
use Rattle.far_end.specs.FarEnd.{FarEndOrder, write_command, other_form, read_order, start_order, reset_order, ids}
use Rattle.far_end.specs.CodeShape.{block_taken, AsksKind}
use Rattle.block_reader.specs.declared.Kind.TheVariants as kind

-- ---- an order in another form, and in its form

pub unasked : (t : Bool) (o : FarEndOrder) → t ≡ false → other_form ≡ taking other_form t o
unasked t o e = rw e

pub asked : (t : Bool) (o : FarEndOrder) → t ≡ true → o ≡ taking other_form t o
asked t o e = rw e

-- ---- the commands

-- no words are no block
no_block : (c : Command) → block_taken c [] ≡ []
no_block (Read kind) = refl
no_block Write = refl
no_block (Start run) = refl
no_block Stop = refl
no_block Ping = refl
no_block (CrateReset n) = refl

pub alone : (c : Command) (b : List ℕ) → length b ≡ 0 → write_command c (block_taken c (words_in b)) ≡ no_byte other_form (write_command c []) b
alone c [] l = ap (write_command c) (no_block c)
alone c (x ∷ b) l = absurd (let k : ⊥ = omega arith in k)

module _ (b : List ℕ) where
  module _ (l : length b ≡ 1) where
    pub read_static : get_or b 0 0 ≡ 1 → write_command (Read Static) [] ≡ one_byte other_form read_order b
    read_static e = rw (eq-eqb _ _ l, e)

    pub read-dynamic : get_or b 0 0 ≡ 2 → write_command (Read Dynamic) [] ≡ one_byte other_form read_order b
    read-dynamic e = rw (eq-eqb _ _ l, e)

    pub read-neither : (get_or b 0 0 ≡ 1 → ⊥) → (get_or b 0 0 ≡ 2 → ⊥) → other_form ≡ one_byte other_form read_order b
    read-neither p q = rw (eq-eqb _ _ l, ne_eqb _ _ p, ne_eqb _ _ q)

  pub endless : length b ≡ 0 → write_command (Start Endless) [] ≡ start_order b
  endless l = rw (eq-eqb _ _ l)

  pub not-counted : (length b ≡ 0 → ⊥) → (length b ≡ 4 → ⊥) → other_form ≡ start_order b
  not-counted n m = rw (ne_eqb _ _ n, ne_eqb _ _ m)

  pub counted : (length b ≡ 0 → ⊥) → length b ≡ 4 → (x : ℕ) → x ≡ number 65536 (words_in b) → write_command (Start (Counted x)) [] ≡ start_order b
  counted n l x e = rw (ne_eqb _ _ n, eq-eqb _ _ l, e)

  -- ---- by the ID
  module _ (id : ℕ) where
    pub id-read : id ≡ 0x01 → one_byte other_form read_order b ≡ found other_form ids id b
    id-read e = rw e

    pub id-write : id ≡ 0x02 → any_words other_form (write_command Write) b ≡ found other_form ids id b
    id-write e = rw e

    pub id-start : id ≡ 0x04 → start_order b ≡ found other_form ids id b
    id-start e = rw e

    pub id-stop : id ≡ 0x08 → no_byte other_form (write_command Stop []) b ≡ found other_form ids id b
    id-stop e = rw e

    pub id-ping : id ≡ 0x10 → no_byte other_form (write_command Ping []) b ≡ found other_form ids id b
    id-ping e = rw e

    pub id-reset : id ≡ 0x20 → one_byte other_form reset_order b ≡ found other_form ids id b
    id-reset e = rw e

    pub id_other : (id ≡ 0x01 → ⊥) → (id ≡ 0x02 → ⊥) → (id ≡ 0x04 → ⊥) → (id ≡ 0x08 → ⊥) → (id ≡ 0x10 → ⊥) → (id ≡ 0x20 → ⊥)
        → other_form ≡ found other_form ids id b
    id_other a w s t p r = simp (ne_eqb _ _ a, ne_eqb _ _ w, ne_eqb _ _ s, ne_eqb _ _ t, ne_eqb _ _ p, ne_eqb _ _ r)

-- ---- the kinds

module _ (k : ℕ) where
  pub kind-static : k ≡ 1 → AsksKind k (Some kind.Static)
  kind-static e b = rw e

  pub kind-dynamic : k ≡ 2 → AsksKind k (Some kind.Dynamic)
  kind-dynamic e b = rw e

  pub kind-list : k ≡ 3 → AsksKind k (Some kind.FtuList)
  kind-list e b = rw e

  pub kind-failure : k ≡ 4 → AsksKind k (Some kind.Failure)
  kind-failure e b = rw e

  pub kind-other : (k ≡ 1 → ⊥) → (k ≡ 2 → ⊥) → (k ≡ 3 → ⊥) → (k ≡ 4 → ⊥) → AsksKind k None
  kind-other s d l f b = simp (ne_eqb _ _ s, ne_eqb _ _ d, ne_eqb _ _ l, ne_eqb _ _ f)
