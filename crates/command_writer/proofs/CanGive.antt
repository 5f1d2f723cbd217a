-- The writer of commands "can give 6, 7, 8, 11 or 19", each of them, and no other (`can-give`).
-- Assumes nothing.
use Prim.Native.Nat.{ℕ}
use mathlib.Core.Path.{◌≡◌, refl, sym, ap, ◌∙◌}
use mathlib.Core.Bool.{Bool, true, false, ◌&&◌}
use mathlib.Core.List.{List, [], ◌∷◌}
use mathlib.Core.Logic.{inl, inr}
use native.Mathlib.Omega.{arith}
use lib.ListN.{length, replicate}
use Rattle.std.specs.Prelude.{Result}
use Rattle.refusals.specs.Tables.{Rule, refused, answer_of}
use Rattle.refusals.specs.Writing.{writing_by, writing_rules}
use Rattle.refusals.proofs.Tables.{Applies, refused-applies}
use Rattle.bounds.specs.Bounds.{bound_of, lent_rules}
use Rattle.commands.specs.declared.BlockKind.TheVariants.{Static}
use Rattle.commands.specs.declared.RunLength.TheVariants.{Endless, Counted}
use Rattle.commands.specs.declared.Command.{Command}
use Rattle.commands.specs.declared.Command.TheVariants.{Read, Write, Start, Stop, Ping, CrateReset}
use Rattle.command_writer.specs.Writing.{command_words, write_rules, WroteCommand}
use Rattle.command_writer.specs.CanGive.{numbers_given, one_of, GivenFor, CanGive}
use Rattle.refusals.specs.declared.Refusal.{Refusal}

-- ---- no other

-- whether each row of a table has one of the numbers
abbrev all_of : List ℕ → List Rule → Bool
all_of numbers [] = true
all_of numbers (r ∷ rs) = one_of numbers r.number && all_of numbers rs

both : (a b : Bool) → (a && b) ≡ true → (a ≡ true) × (b ≡ true)
both true b e = (refl, e)
both false b e = absurd (let z : ◌≡◌ {A = ℕ} 0 1 = cc in omega arith)

one-of-rows : (numbers : List ℕ) (rs : List Rule) (n p : ℕ) → all_of numbers rs ≡ true → Applies rs n p → one_of numbers n ≡ true
one-of-rows numbers [] n p e h = elim h [ ]
one-of-rows numbers (r ∷ rs) n p e (inl h) = ap (one_of numbers) (sym h.1) ∙ (both (one_of numbers r.number) (all_of numbers rs) e).0
one-of-rows numbers (r ∷ rs) n p e (inr h) = one-of-rows numbers rs n p (both (one_of numbers r.number) (all_of numbers rs) e).1 h

rows : (c : Command) (b out : List ℕ) → all_of numbers_given (writing_rules (write_rules c b) (command_words c b) out) ≡ true
unfolding writing_rules lent_rules
rows (Read kind) b out = refl
rows Write b out = refl
rows (Start Endless) b out = refl
rows (Start (Counted x)) b out = refl
rows Stop b out = refl
rows Ping b out = refl
rows (CrateReset c) b out = refl

only-these : (c : Command) (b out : List ℕ) (r : Result ℕ Refusal) (after : List ℕ) → WroteCommand c b out r after
    → (n p : ℕ) → answer_of r ≡ refused n p → one_of numbers_given n ≡ true
unfolding writing_by
only-these c b out r after w n p e =
    let rules = writing_rules (write_rules c b) (command_words c b) out in
    one-of-rows numbers_given rules n p (rows c b out) (refused-applies rules (length (command_words c b)) n p (sym w.wrote.answer ∙ e))

-- ---- each of them

-- a block of no word
gives-6 : GivenFor 6
unfolding writing_by writing_rules lent_rules
gives-6 = record { command = Write; block = []; out = []; place = 0; gives = refl }

gives-7 : GivenFor 7
unfolding writing_by writing_rules
gives-7 = record { command = Start (Counted 0); block = []; out = []; place = 0; gives = refl }

-- word 0x000 above 0x00FF
gives-8 : GivenFor 8
unfolding writing_by writing_rules lent_rules bound_of
gives-8 = record { command = Write; block = replicate 436 0x0100; out = []; place = 0; gives = refl }

gives-11 : GivenFor 11
unfolding writing_by writing_rules
gives-11 = record { command = CrateReset 4; block = []; out = []; place = 0; gives = refl }

-- no word lent
gives-19 : GivenFor 19
unfolding writing_by writing_rules
gives-19 = record { command = Read Static; block = []; out = []; place = 0; gives = refl }

pub can-give : CanGive numbers_given
can-give = record { only = only-these; each = (gives-6, (gives-7, (gives-8, (gives-11, (gives-19, tt))))) }
