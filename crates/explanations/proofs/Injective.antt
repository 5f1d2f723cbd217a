-- The contract of `explain` determines its result: two explanations of the same command in the same state are the same (`explanation-determined`).
-- Assumes nothing.
use Prim.Native.Nat.{ℕ, zero, suc, ◌≤◌}
use mathlib.Core.Path.{◌≡◌, refl, sym, ap, ◌∙◌}
use mathlib.Core.Bool.{Bool, true, false, cond}
use mathlib.Core.List.{List, [], ◌∷◌}
use native.Mathlib.Omega.{arith}
use lib.Dec.{leb, eqb}
use lib.ListN.{length, get_or, take, length-append, length-replicate}
use lib.Seq.{length-take-le, take_all}
use borrow.Author.Tests.{leb-true, leb-false, eqb-true, eqb-false}
use Rattle.refusals.specs.Tables.{answer_number, answer_place}
use Rattle.commands.specs.Commands.{parameters_of}
use Rattle.acceptance.specs.Acceptance.{decided}
use Rattle.explanations.specs.Explaining.{AllowedThere, numbers, range, Explained, accepted, missing, at_fault, in_state, not_fresh}
use Rattle.explanations.specs.Explaining.{status_in, explanations, explained, allowed_meaning, reason_meaning, numbers_allowed, numbers_in, Explains}
use Rattle.explanations.specs.declared.Present.{Present}
use Rattle.explanations.specs.declared.Allowed.{Allowed}
use Rattle.explanations.specs.declared.Allowed.TheVariants.{Numbers, Range}
use Rattle.explanations.specs.declared.WordAtFault.{WordAtFault}
use Rattle.explanations.specs.declared.Reason.{Reason}
use Rattle.explanations.specs.declared.Reason.TheVariants.{Accepted, TooFewWords, WrongFirstWord, UnknownCommand, UnlistedParameter}
use Rattle.explanations.specs.declared.Reason.TheVariants.{SpareWordNotZero, WrongLength, NoEvents, AboveBound, NotAcceptedNow, NotFresh}
use Rattle.explanations.specs.declared.Explanation.{Explanation}
use Rattle.explanations.proofs.Saying.{no-parameters}

-- ---- the value that says something

abbrev allowed_of : AllowedThere → Allowed
allowed_of (numbers ns) = Numbers (length ns)
allowed_of (range low high) = Range low high

-- the case of a word at fault, by the refusal's number
abbrev word_case : ℕ → WordAtFault → Reason
word_case n f =
    cond (eqb n 2) (WrongFirstWord f)
    (cond (eqb n 3) (UnknownCommand f)
    (cond (eqb n 4) (UnlistedParameter f)
    (cond (eqb n 5) (SpareWordNotZero f)
    (cond (eqb n 7) (NoEvents f)
    (AboveBound f)))))

abbrev reason_of : Explained → Reason
reason_of accepted = Accepted
reason_of (missing n k) = cond (eqb n 1) (TooFewWords k) (WrongLength k)
reason_of (at_fault n place stands allowed) = word_case n (record { place = place; stands = stands; allowed = allowed_of allowed })
reason_of (in_state a) = NotAcceptedNow a
reason_of (not_fresh f) = NotFresh f

-- of eight numbers, fewer than eight are counted as many as they are
counted : (k : ℕ) (l : List ℕ) → length l ≡ 8 → length (take k l) ≤ 7 → length (take k l) ≡ k
counted k l n h = go (leb k 8) refl
  where
    go : (t : Bool) → leb k 8 ≡ t → length (take k l) ≡ k
    go true e = let m : k ≤ 8 = leb-true _ _ e in length-take-le k l (omega arith)
    go false e =
        let m = leb-false k 8 e in
        let s : length (take k l) ≡ 8 = ap length (take_all k l (omega arith)) ∙ n in
        absurd (let z : ⊥ = omega arith in z)

module _ (listed : List ℕ) (n : length listed ≡ 8) where
  allowed-back : (a : Allowed) → length (numbers_allowed (allowed_meaning a listed)) ≤ 7 → allowed_of (allowed_meaning a listed) ≡ a
  allowed-back (Numbers k) h = ap Numbers (counted k listed n h)
  allowed-back (Range low high) h = refl

  word_back : (case : WordAtFault → Reason) (f : WordAtFault) → length (numbers_allowed (allowed_meaning f.allowed listed)) ≤ 7
      → case (record { place = f.place; stands = f.stands; allowed = allowed_of (allowed_meaning f.allowed listed) }) ≡ case f
  word_back case f h = ap (λ (a : Allowed). case (record { place = f.place; stands = f.stands; allowed = a })) (allowed-back f.allowed h)

  reason-back : (r : Reason) → length (numbers_in (reason_meaning r listed)) ≤ 7 → reason_of (reason_meaning r listed) ≡ r
  reason-back Accepted h = refl
  reason-back (TooFewWords k) h = refl
  reason-back (WrongFirstWord f) h = word_back WrongFirstWord f h
  reason-back (UnknownCommand f) h = word_back UnknownCommand f h
  reason-back (UnlistedParameter f) h = word_back UnlistedParameter f h
  reason-back (SpareWordNotZero f) h = word_back SpareWordNotZero f h
  reason-back (WrongLength k) h = refl
  reason-back (NoEvents f) h = word_back NoEvents f h
  reason-back (AboveBound f) h = word_back AboveBound f h
  reason-back (NotAcceptedNow a) h = refl
  reason-back (NotFresh f) h = refl

-- ---- no explanation lists more than seven numbers

is-or-not : {A : Type 0} (i k : ℕ) → (i ≡ k → A) → ((i ≡ k → ⊥) → A) → A
is-or-not {A} i k same other = go (eqb i k) refl
  where
    go : (t : Bool) → eqb i k ≡ t → A
    go true e = same (eqb-true i k e)
    go false e = other (eqb-false i k e)

few-parameters : (i : ℕ) → length (parameters_of i) ≤ 7
unfolding parameters_of
few-parameters i =
    let known : (k : ℕ) → length (parameters_of k) ≤ 7 → i ≡ k → length (parameters_of i) ≤ 7 =
    λ k h e. rw e h in
    is-or-not i 0x01 (known 0x01 (omega arith))
    (λ a. is-or-not i 0x02 (known 0x02 (omega arith))
    (λ b. is-or-not i 0x04 (known 0x04 (omega arith))
    (λ c. is-or-not i 0x08 (known 0x08 (omega arith))
    (λ d. is-or-not i 0x10 (known 0x10 (omega arith))
    (λ e. is-or-not i 0x20 (known 0x20 (omega arith))
    (λ f. let z = (no-parameters i a b c d e f).count in omega arith))))))

abbrev Few : Explained → Type 0
Few x = length (numbers_in x) ≤ 7

abbrev AllFew : List Explained → Type 0
AllFew [] = Unit
AllFew (x ∷ xs) = Few x × AllFew xs

few-at : (xs : List Explained) (n : ℕ) → AllFew xs → Few (get_or xs n accepted)
few-at [] n h = omega arith
few-at (x ∷ xs) zero h = h.0
few-at (x ∷ xs) (suc n) h = few-at xs n h.1

few : (w : List ℕ) (p : Present) → Few (explained w p)
unfolding explained
few w p =
    let none : 0 ≤ 7 = omega arith in
    let one : 1 ≤ 7 = omega arith in
    let six : 6 ≤ 7 = omega arith in
    let a = decided w (status_in p) in
    few-at (explanations w p (answer_place a)) (answer_number a)
    (none, (none, (one, (six, (few-parameters (get_or w 1 0), (one, (none, (none, (none, (none, (none, tt)))))))))))

-- ---- so the contract determines the result

says-reason : (x : Explained) (e : Explanation) → Few x → Explains x e → e.reason ≡ reason_of x
says-reason x e h s =
    let eight : length e.listed ≡ 8 = ap length s.listed ∙ length-append (numbers_in x) _ ∙ (rw length-replicate (omega arith)) in
    let fits : length (numbers_in (reason_meaning e.reason e.listed)) ≤ 7 = rw s.meaning h in
    sym (reason-back e.listed eight e.reason fits) ∙ ap reason_of s.meaning

pub explanation-determined : (w : List ℕ) (p : Present) (e f : Explanation) → Explains (explained w p) e → Explains (explained w p) f → e ≡ f
explanation-determined w p e f s t =
    let x = explained w p in
    let r : e.reason ≡ f.reason = says-reason x e (few w p) s ∙ sym (says-reason x f (few w p) t) in
    let l : e.listed ≡ f.listed = s.listed ∙ sym t.listed in
    λ i. record { reason = r i; listed = l i }
