-- 02, c: the explanation is the true reason, of any words and any state (`true-reason`).
-- Assumes nothing.
use Prim.Native.Nat.{ℕ}
use mathlib.Core.Path.{◌≡◌, refl, sym, ap, subst, ◌∙◌}
use mathlib.Core.Bool.{true, false, not, false≢true}
use mathlib.Core.List.{List}
use mathlib.Core.Logic.{inl, inr}
use native.Mathlib.Omega.{arith}
use borrow.Author.Tests.{not-true}
use Rattle.refusals.specs.Tables.{Answer, given, refused, answer_number}
use Rattle.refusals.proofs.Tables.{Applies}
use Rattle.commands.specs.declared.Command.{Command}
use Rattle.commands.specs.declared.Command.TheVariants.{Read, Write, Start, Stop, Ping, CrateReset}
use Rattle.command_reader.specs.Reading.{command_in, read_rules}
use Rattle.acceptance.specs.Acceptance.{not_fresh as without_fresh}
use Rattle.acceptance.proofs.Deciding.{obeyed-named}
use Rattle.run.specs.Run.{is_fresh}
use Rattle.explanations.specs.Explaining.{status_in, is_idle, AllowedThere, Explained, accepted, missing, at_fault, in_state, not_fresh}
use Rattle.explanations.specs.Explaining.{explained_number, explained_by, explained}
use Rattle.explanations.specs.TrueReason.{answered, True, TrueReason}
use Rattle.explanations.specs.declared.Present.{Present}
use Rattle.explanations.proofs.Rows.{and_left, and_right}
use Rattle.explanations.proofs.Answers.{rules_in, explained-is, given-row, same_number}
use Rattle.explanations.proofs.WordsAtFault.{word-2, word-3, word-4, word-5, word-7}
use Rattle.explanations.proofs.BlockWords.{word-8}
use Rattle.explanations.proofs.MissingWords.{missing-1, missing-6}

-- 10: a start, the board idle, and nothing fresh
idle-not-fresh : (c : Command) (p : Present) → without_fresh c (status_in p) ≡ true → (is_fresh p.freshness ≡ false) × (is_idle p.activity ≡ true)
idle-not-fresh (Read kind) p e = absurd (false≢true e)
idle-not-fresh Write p e = absurd (false≢true e)
idle-not-fresh (Start run) p e = (not-true _ (and_right (is_idle p.activity) _ e), and_left (is_idle p.activity) (not (is_fresh p.freshness)) e)
idle-not-fresh Stop p e = absurd (false≢true e)
idle-not-fresh Ping p e = absurd (false≢true e)
idle-not-fresh (CrateReset c) p e = absurd (false≢true e)

module _ (w : List ℕ) (p : Present) (n q : ℕ) (d : answered w p ≡ refused n q) where
  -- a row with the number k is that of n
  with_number : (k : ℕ) → k ≡ n → (answered w p ≡ refused k q → True w p (explained_by w p (refused k q))) → True w p (explained_by w p (refused n q))
  with_number k e h = subst (λ (m : ℕ). True w p (explained_by w p (refused m q))) e (h (d ∙ ap (λ (m : ℕ). refused m q) (sym e)))

  -- each row's own reason is true
  row-true : Applies (rules_in w p) n q → True w p (explained_by w p (refused n q))
  unfolding read_rules
  row-true (inl (t, e, z)) = with_number 1 e (missing-1 w p q)
  row-true (inr (inl (t, e, z))) = with_number 2 e (word-2 w p q)
  row-true (inr (inr (inl (t, e, z)))) = with_number 3 e (word-3 w p q)
  row-true (inr (inr (inr (inl (t, e, z))))) = with_number 4 e (word-4 w p q)
  row-true (inr (inr (inr (inr (inl (t, e, z)))))) = with_number 5 e (word-5 w p q)
  row-true (inr (inr (inr (inr (inr (inl (t, e, z))))))) = with_number 6 e (missing-6 w p q)
  row-true (inr (inr (inr (inr (inr (inr (inl (t, e, z)))))))) = with_number 7 e (word-7 w p q)
  row-true (inr (inr (inr (inr (inr (inr (inr (inl (t, e, z))))))))) = with_number 8 e (word-8 w p q)
  row-true (inr (inr (inr (inr (inr (inr (inr (inr (inl (t, e, z)))))))))) = with_number 9 e (λ f. refl)
  row-true (inr (inr (inr (inr (inr (inr (inr (inr (inr (inl (t, e, z))))))))))) =
      with_number 10 e (λ f. let s = idle-not-fresh (command_in w) p t in (refl, s.0, s.1))
  row-true (inr (inr (inr (inr (inr (inr (inr (inr (inr (inr h)))))))))) = elim h [ ]

-- 8 has the place that the board gives
abbrev place_said : Explained → ℕ
place_said accepted = 0
place_said (missing n k) = 0
place_said (at_fault n place stands allowed) = place
place_said (in_state a) = 0
place_said (not_fresh f) = 0

eighth-place : (w : List ℕ) (p : Present) (a : Answer Command) → answered w p ≡ a
    → (place stands : ℕ) (allowed : AllowedThere) → explained w p ≡ at_fault 8 place stands allowed → a ≡ refused 8 place
eighth-place w p (given c) d place stands allowed e =
    absurd (let z : ◌≡◌ {A = ℕ} 0 8 = sym (ap explained_number (explained-is w p (given c) d)) ∙ ap explained_number e in let y : ⊥ = omega arith in y)
eighth-place w p (refused n q) d place stands allowed e =
    let k : n ≡ 8 = sym (ap answer_number d) ∙ sym (same_number w p) ∙ ap explained_number e in
    let f : explained w p ≡ explained_by w p (refused 8 q) = explained-is w p (refused 8 q) (d ∙ ap (λ (m : ℕ). refused m q) k) in
    ap (λ (m : ℕ). refused m q) k ∙ ap (refused 8) (sym (ap place_said f) ∙ ap place_said e)

pub true-reason : (w : List ℕ) (p : Present) → TrueReason w p (explained w p)
true-reason w p =
    record {
      number = same_number w p;
      eighth = λ place stands allowed e. eighth-place w p (answered w p) refl place stands allowed e;
      accepts = λ c e. explained-is w p (given c) e;
      reason = go (answered w p) refl;
    }
  where
    go : (a : Answer Command) → answered w p ≡ a → True w p (explained w p)
    go (given c) e =
        rw (explained-is w p (given c) e) (e ∙ ap given (sym (obeyed-named w (status_in p) c e)))
    go (refused n q) e = rw (explained-is w p (refused n q) e) (row-true w p n q e (given-row w p n q e))
