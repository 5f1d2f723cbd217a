-- What an answer says of the rows of its table, and which refusal its explanation names.
-- Assumes nothing.
use Prim.Native.Nat.{ℕ}
use mathlib.Core.Path.{◌≡◌, refl, sym, ap, ◌∙◌}
use mathlib.Core.Bool.{true, false, false≢true}
use mathlib.Core.List.{List}
use mathlib.Core.Logic.{inl, inr}
use lib.Dec.{eqb}
use lib.ListN.{take}
use borrow.Author.Tests.{eqb-true}
use Rattle.refusals.specs.Tables.{Answer, given, refused, answer_number, Rule}
use Rattle.refusals.proofs.Tables.{Clear, Applies, NoneBelow}
use Rattle.commands.specs.declared.Command.{Command}
use Rattle.command_reader.specs.Reading.{command_in, read_rules}
use Rattle.acceptance.specs.Acceptance.{command_rules, decided}
use Rattle.acceptance.proofs.Deciding.{command-exactly}
use Rattle.explanations.specs.Explaining.{status_in, Explained, accepted, missing, at_fault, in_state, not_fresh}
use Rattle.explanations.specs.Explaining.{explained_number, explained_by, explained}
use Rattle.explanations.specs.TrueReason.{answered, names}
use Rattle.explanations.specs.declared.Present.{Present}
use Rattle.explanations.proofs.Rows.{and_left, never, applied, applies-applied, row_at, row-given}

-- ---- what an answer says of the rows

abbrev pub rules_in : List ℕ → Present → List Rule
rules_in w p = command_rules w (status_in p)

pub explained-is : (w : List ℕ) (p : Present) (a : Answer Command) → answered w p ≡ a → explained w p ≡ explained_by w p a
unfolding explained
explained-is w p a e = ap (explained_by w p) e

module _ (w : List ℕ) (p : Present) (n q : ℕ) (e : answered w p ≡ refused n q) where
  pub given-row : Applies (rules_in w p) n q
  given-row = ((command-exactly w (status_in p)).refused-only n q e).0

  -- its own row applies
  pub applies-here : applied n q (rules_in w p) ≡ true
  applies-here = applies-applied (rules_in w p) n q given-row

  -- and none below it
  pub none_below : NoneBelow (rules_in w p) n
  none_below = ((command-exactly w (status_in p)).refused-only n q e).1

-- after k rows that do not apply, the next is given where it does
pub row-answered : (w : List ℕ) (p : Present) (k : ℕ) → Clear (take k (rules_in w p)) → (row_at k (rules_in w p)).applies ≡ true
    → answered w p ≡ refused (row_at k (rules_in w p)).number (row_at k (rules_in w p)).place
unfolding decided
row-answered w p k clear t = row-given k (rules_in w p) (command_in w) clear t

-- no command gets another number than 1 to 10
row_number : (w : List ℕ) (p : Present) (n q : ℕ) → Applies (rules_in w p) n q → explained_number (explained_by w p (refused n q)) ≡ n
unfolding read_rules
row_number w p n q (inl (t, e, z)) = rw (sym e) refl
row_number w p n q (inr (inl (t, e, z))) = rw (sym e) refl
row_number w p n q (inr (inr (inl (t, e, z)))) = rw (sym e) refl
row_number w p n q (inr (inr (inr (inl (t, e, z))))) = rw (sym e) refl
row_number w p n q (inr (inr (inr (inr (inl (t, e, z)))))) = rw (sym e) refl
row_number w p n q (inr (inr (inr (inr (inr (inl (t, e, z))))))) = rw (sym e) refl
row_number w p n q (inr (inr (inr (inr (inr (inr (inl (t, e, z)))))))) = rw (sym e) refl
row_number w p n q (inr (inr (inr (inr (inr (inr (inr (inl (t, e, z))))))))) = rw (sym e) refl
row_number w p n q (inr (inr (inr (inr (inr (inr (inr (inr (inl (t, e, z)))))))))) = rw (sym e) refl
row_number w p n q (inr (inr (inr (inr (inr (inr (inr (inr (inr (inl (t, e, z))))))))))) = rw (sym e) refl
row_number w p n q (inr (inr (inr (inr (inr (inr (inr (inr (inr (inr h)))))))))) = elim h [ ]

-- "the explanation names the refusal that the board itself gives"
pub same_number : (w : List ℕ) (p : Present) → explained_number (explained w p) ≡ answer_number (answered w p)
same_number w p = go (answered w p) refl
  where
    go : (a : Answer Command) → answered w p ≡ a → explained_number (explained w p) ≡ answer_number a
    go (given c) e = ap explained_number (explained-is w p (given c) e)
    go (refused n q) e = ap explained_number (explained-is w p (refused n q) e) ∙ row_number w p n q (given-row w p n q e)

-- ---- a refusal at a place, named or not

named-number : (n place : ℕ) (x : Explained) → names n place x ≡ true → explained_number x ≡ n
named-number n place accepted e = absurd (false≢true e)
named-number n place (missing m k) e = absurd (false≢true e)
named-number n place (at_fault m q stands allowed) e = eqb-true m n (and_left (eqb m n) (eqb q place) e)
named-number n place (in_state a) e = absurd (false≢true e)
named-number n place (not_fresh f) e = absurd (false≢true e)

module _ (w : List ℕ) (p : Present) (n place : ℕ) where
  -- it is not, where the board does not give it there
  pub not_named : ((q : ℕ) → answered w p ≡ refused n q → names n place (explained_by w p (refused n q)) ≡ true → ⊥)
      → names n place (explained w p) ≡ false
  not_named h = never (names n place (explained w p)) (λ e. go (answered w p) refl e)
    where
      go : (a : Answer Command) → answered w p ≡ a → names n place (explained w p) ≡ true → ⊥
      go (given c) d e = false≢true (sym (ap (names n place) (explained-is w p (given c) d)) ∙ e)
      go (refused m q) d e =
          let k : m ≡ n = sym (ap answer_number d) ∙ sym (same_number w p) ∙ named-number n place (explained w p) e in
          let d' : answered w p ≡ refused n q = d ∙ ap (λ (j : ℕ). refused j q) k in
          h q d' (sym (ap (names n place) (explained-is w p (refused n q) d')) ∙ e)

  -- and it is, where it does
  pub is-named : (q : ℕ) → answered w p ≡ refused n q → names n place (explained_by w p (refused n q)) ≡ true → names n place (explained w p) ≡ true
  is-named q d e = ap (names n place) (explained-is w p (refused n q) d) ∙ e
