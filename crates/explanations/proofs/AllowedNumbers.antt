-- Which IDs and parameters are allowed: those that are not refused with 3, or with 4. And X is 0 where a start that counts no events is named.
-- Assumes nothing.
use Prim.Native.Nat.{ℕ}
use mathlib.Core.Path.{◌≡◌, refl, sym, ap, ◌∙◌}
use mathlib.Core.Bool.{Bool, true, false, cond, not, ◌&&◌, ◌||◌, and-true, and-false, or-true, or-false, false≢true}
use mathlib.Core.List.{List, [], ◌∷◌, map}
use lib.Dec.{eqb}
use borrow.Author.Tests.{eqb-true}
use Rattle.refusals.specs.Tables.{given, refused}
use Rattle.commands.specs.Commands.{id_of, parameter_of, no_events, rows, look_up, listed_as, ids, parameters_in, parameters_of}
use Rattle.commands.specs.declared.Command.{Command}
use Rattle.command_reader.specs.Reading.{is_refusal, command_of}
use Rattle.explanations.specs.Explaining.{member}
use Rattle.explanations.proofs.SameRow.{same-named, same-refusal}

-- ---- looking up in a list of rows, where m is refused if none has the ID

-- 3 is given where m is 3 and no row has the ID
three : (i p m : ℕ) (cs : List Command) → is_refusal 3 (look_up i p (refused m 0) cs) ≡ (eqb m 3 && not (member i (map id_of cs)))
three i p m [] = sym (and-true (eqb m 3))
three i p m (c ∷ cs) = go (three i p 4 cs) (three i p m cs) (eqb i (id_of c)) (eqb p (parameter_of c))
  where
    go : is_refusal 3 (look_up i p (refused 4 0) cs) ≡ false → is_refusal 3 (look_up i p (refused m 0) cs) ≡ (eqb m 3 && not (member i (map id_of cs)))
        → (t u : Bool) → is_refusal 3 (cond t (cond u (given c) (look_up i p (refused 4 0) cs)) (look_up i p (refused m 0) cs))
        ≡ (eqb m 3 && not (t || member i (map id_of cs)))
    go four more true true = sym (and-false (eqb m 3))
    go four more true false = four ∙ sym (and-false (eqb m 3))
    go four more false u = more

-- 4 is given where m is 4 or a row has the ID, and none with this ID has the parameter
four : (i p m : ℕ) (cs : List Command)
    → is_refusal 4 (look_up i p (refused m 0) cs) ≡ ((eqb m 4 || member i (map id_of cs)) && not (member p (parameters_in i cs)))
four i p m [] = sym (and-true (eqb m 4 || false) ∙ or-false (eqb m 4))
four i p m (c ∷ cs) = go (four i p 4 cs) (four i p m cs) (eqb i (id_of c)) (eqb p (parameter_of c)) refl
  where
    go : is_refusal 4 (look_up i p (refused 4 0) cs) ≡ not (member p (parameters_in i cs))
        → is_refusal 4 (look_up i p (refused m 0) cs) ≡ ((eqb m 4 || member i (map id_of cs)) && not (member p (parameters_in i cs)))
        → (t u : Bool) → eqb p (parameter_of c) ≡ u
        → is_refusal 4 (cond t (cond u (given c) (look_up i p (refused 4 0) cs)) (look_up i p (refused m 0) cs))
        ≡ ((eqb m 4 || (t || member i (map id_of cs))) && not (member p (cond t (parameter_of c ∷ parameters_in i cs) (parameters_in i cs))))
    go found more true true e = rw e (sym (and-false (eqb m 4 || true)))
    go found more true false e = rw e (rw or-true found)
    go found more false u e = more

-- ---- in the table of commands

-- its rows have the six IDs, some more than once
six : (i : ℕ) → member i (map id_of (rows 0)) ≡ member i ids
six i = go (eqb i 1) (eqb i 2) (eqb i 4) (eqb i 8) (eqb i 16) (eqb i 32)
  where
    go : (a b c d e f : Bool)
        → (a || (a || (b || (c || (c || (d || (e || (f || (f || (f || (f || false))))))))))) ≡ (a || (b || (c || (d || (e || (f || false))))))
    go true b c d e f = refl
    go false true c d e f = refl
    go false false true d e f = refl
    go false false false true e f = refl
    go false false false false true f = refl
    go false false false false false true = refl
    go false false false false false false = refl

module _ (i p x : ℕ) where
  pub unknown-id : is_refusal 3 (listed_as i p x) ≡ not (member i ids)
  unfolding listed_as
  unknown-id = same-refusal 3 (listed_as i p x) (listed_as i p 0) (same-named i p x 0) ∙ three i p 3 (rows 0) ∙ ap not (six i)

  pub unlisted-parameter : is_refusal 4 (listed_as i p x) ≡ (member i ids && not (member p (parameters_of i)))
  unfolding listed_as parameters_of
  unlisted-parameter =
      same-refusal 4 (listed_as i p x) (listed_as i p 0) (same-named i p x 0)
      ∙ four i p 3 (rows 0)
      ∙ ap (λ (t : Bool). t && not (member p (parameters_in i (rows 0)))) (six i)

-- ---- what holds of every row, and of the command that stands for none, holds of what is looked up

abbrev Each : (Command → Type 0) → List Command → Type 0
Each P [] = Unit
Each P (c ∷ cs) = P c × Each P cs

looked-up : (P : Command → Type 0) (i p n : ℕ) (cs : List Command) → P (command_of (refused 0 0)) → Each P cs → P (command_of (look_up i p (refused n 0) cs))
looked-up P i p n [] none each = none
looked-up P i p n (c ∷ cs) none (here, rest) = go (looked-up P i p 4 cs none rest) (looked-up P i p n cs none rest) (eqb i (id_of c)) (eqb p (parameter_of c))
  where
    go : P (command_of (look_up i p (refused 4 0) cs)) → P (command_of (look_up i p (refused n 0) cs))
        → (t u : Bool) → P (command_of (cond t (cond u (given c) (look_up i p (refused 4 0) cs)) (look_up i p (refused n 0) cs)))
    go four more true true = here
    go four more true false = four
    go four more false u = more

pub events-zero : (i p x : ℕ) → no_events (command_of (listed_as i p x)) ≡ true → x ≡ 0
unfolding listed_as
events-zero i p x =
    let other : false ≡ true → x ≡ 0 = λ e. absurd (false≢true e) in
    looked-up (λ (c : Command). no_events c ≡ true → x ≡ 0) i p 3 (rows x) other
    (other, (other, (other, (other, (eqb-true x 0, (other, (other, (other, (other, (other, (other, tt)))))))))))
