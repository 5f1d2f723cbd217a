-- What a crate keeps of its boards stands for the steps that failed (`failed_steps`), and for what the pass found (`boards_of`).
-- Assumes nothing.
use Prim.Native.Nat.{ℕ, zero, suc, ◌+◌, ◌<◌, ◌≤◌}
use mathlib.Core.Path.{◌≡◌, refl, sym, ap, ap₂, ◌∙◌, subst}
use mathlib.Core.List.{List, [], ◌∷◌, ◌++◌, map, append-nil, append_assoc}
use mathlib.Core.Bool.{Bool, true, false, cond}
use native.Mathlib.Omega.{arith}
use lib.ListN.{length, get_or, set, replicate}
use lib.Seq.{get_or-set_same, get_or-set_other}
use lib.Dec.{ltb, eqb}
use borrow.Author.Tests.{ltb-true, ltb-false, eq-eqb, ne_eqb}
use Rattle.ftu_list.specs.declared.Entry.{Entry}
use Rattle.steps.specs.declared.Judged.{Judged}
use Rattle.crate_pass.specs.Crate.{entries_in, calls_at, with_entry_in, with_rates_in, noted, with_reply}
use Rattle.crate_pass.proofs.Entries.{entry, entries-set}
use Rattle.crate_pass.specs.declared.PassKind.{PassKind}
use Rattle.crate_pass.specs.declared.PassKind.TheVariants.{Reprogramming, Ping, Rates}
use Rattle.crate_pass.specs.declared.Crate.{Crate}
use Rattle.any_order.specs.Steps.{Step, step, Found, nothing, found, rated, rates_from, found_by}
use Rattle.any_order.specs.AnyOrder.{Rising}
use Rattle.any_order.proofs.Places.{Code, one, two, three, four, five}
use Rattle.any_order.proofs.RatesByBoard.{twelves, twelves-set, joined, twelves-joined}

-- ---- the steps that failed

-- a board's, where its code is not 0
abbrev pub failed_step : ℕ → ℕ → List Step
failed_step b code = cond (eqb code 0) [] (step b code ∷ [])

-- those of the first n boards
unfoldable pub failed_steps : List ℕ → ℕ → List Step
failed_steps codes zero = []
failed_steps codes (suc n) = failed_steps codes n ++ failed_step n (get_or codes n 0)

-- the same, from a board on
abbrev pub failed_from : List ℕ → ℕ → ℕ → List Step
failed_from codes zero b = []
failed_from codes (suc n) b = failed_step b (get_or codes b 0) ++ failed_from codes n (suc b)

pub failed-split : (codes : List ℕ) (n b : ℕ) → failed_steps codes b ++ failed_from codes n b ≡ failed_steps codes (b + n)
unfolding failed_steps
failed-split codes zero b = append-nil (failed_steps codes b) ∙ ap (failed_steps codes) (let e : b ≡ b + 0 = omega arith in e)
failed-split codes (suc n) b =
    sym (append_assoc (failed_steps codes b) (failed_step b (get_or codes b 0)) (failed_from codes n (suc b)))
    ∙ failed-split codes n (suc b)
    ∙ ap (failed_steps codes) (let e : suc b + n ≡ b + suc n = omega arith in e)

-- they are in rising order, and no more than there are boards
rising-less : (a b : ℕ) (ss : List Step) → a ≤ b → Rising b ss → Rising a ss
rising-less a b [] h r = tt
rising-less a b (s ∷ ss) h r = (let l = r.0 in omega arith, r.1, r.2)

rising-from : (codes : List ℕ) (n b : ℕ) → b + n ≤ 10 → Rising b (failed_from codes n b)
rising-from codes zero b h = tt
rising-from codes (suc n) b h = go (eqb (get_or codes b 0) 0) (rising-from codes n (suc b) (omega arith))
  where
    go : (t : Bool) → Rising (suc b) (failed_from codes n (suc b)) → Rising b (cond t [] (step b (get_or codes b 0) ∷ []) ++ failed_from codes n (suc b))
    go true r = rising-less b (suc b) (failed_from codes n (suc b)) (omega arith) r
    go false r = (omega arith, omega arith, r)

pub failed-rising : (codes : List ℕ) → Rising 0 (failed_steps codes 10)
unfolding failed_steps
failed-rising codes = subst (Rising 0) (failed-split codes 10 0) (rising-from codes 10 0 (omega arith))

pub rising-most : (b : ℕ) (ss : List Step) → b ≤ 10 → Rising b ss → b + length ss ≤ 10
rising-most b [] h r = omega arith
rising-most b (s ∷ ss) h r = let q = rising-most (suc s.board) ss (let l = r.1 in omega arith) r.2 in let l = r.0 in omega arith

-- no board from b on has failed
abbrev pub NoneFrom : ℕ → List ℕ → Type 0
NoneFrom b codes = (j : ℕ) → b ≤ j → get_or codes j 0 ≡ 0

failed-none : (b code : ℕ) → code ≡ 0 → failed_step b code ≡ []
failed-none b code e = rw (eq-eqb _ _ e)

failed-one : (b code : ℕ) → (code ≡ 0 → ⊥) → failed_step b code ≡ step b code ∷ []
failed-one b code e = rw (ne_eqb _ _ e)

module _ (codes : List ℕ) (b code : ℕ) (h : b < length codes) (nonzero : code ≡ 0 → ⊥) (clear : NoneFrom b codes) where
  -- the boards before it keep theirs
  failed-before : (n : ℕ) → n ≤ b → failed_steps (set codes b code) n ≡ failed_steps codes n
  unfolding failed_steps
  failed-before zero l = refl
  failed-before (suc n) l =
      ap₂ (λ (ss : List Step) (c : ℕ). ss ++ failed_step n c) (failed-before n (omega arith)) (get_or-set_other codes b n code 0 (λ q. omega arith))

  failed-last : (n : ℕ) → n ≡ b → failed_steps (set codes b code) (suc n) ≡ failed_steps codes (suc n) ++ (step b code ∷ [])
  unfolding failed_steps
  failed-last n e =
      rw e
      (ap₂ (λ (ss : List Step) (c : ℕ). ss ++ failed_step b c) (failed-before b (omega arith)) (get_or-set_same codes b code 0 h)
      ∙ ap (λ (ss : List Step). failed_steps codes b ++ ss) (failed-one b code nonzero)
      ∙ ap (λ (ss : List Step). ss ++ (step b code ∷ []))
      (sym
      (ap (λ (ss : List Step). failed_steps codes b ++ ss) (failed-none b (get_or codes b 0) (clear b (omega arith)))
      ∙ append-nil (failed_steps codes b))))

  -- a failure is the last of them
  pub failed-set : (n : ℕ) → b < n → failed_steps (set codes b code) n ≡ failed_steps codes n ++ (step b code ∷ [])
  unfolding failed_steps
  failed-set zero l = absurd (omega arith)
  failed-set (suc n) l = go (ltb b n) refl (failed-set n)
    where
      go : (t : Bool) → ltb b n ≡ t → (b < n → failed_steps (set codes b code) n ≡ failed_steps codes n ++ (step b code ∷ []))
          → failed_steps (set codes b code) (suc n) ≡ failed_steps codes (suc n) ++ (step b code ∷ [])
      go true e ih =
          let m : b < n = ltb-true _ _ e in
          ap₂ (λ (ss : List Step) (c : ℕ). ss ++ failed_step n c) (ih m) (get_or-set_other codes b n code 0 (λ q. omega arith))
          ∙ ap (λ (ss : List Step). (failed_steps codes n ++ (step b code ∷ [])) ++ ss) (failed-none n (get_or codes n 0) (clear n (omega arith)))
          ∙ append-nil (failed_steps codes n ++ (step b code ∷ []))
          ∙ ap (λ (ss : List Step). ss ++ (step b code ∷ []))
          (sym
          (ap (λ (ss : List Step). failed_steps codes n ++ ss) (failed-none n (get_or codes n 0) (clear n (omega arith)))
          ∙ append-nil (failed_steps codes n)))
      go false e ih = let m : n ≤ b = ltb-false _ _ e in failed-last n (omega arith)

  pub none_after : (j : ℕ) → b + 1 ≤ j → get_or (set codes b code) j 0 ≡ 0
  none_after j l = get_or-set_other codes b j code 0 (λ q. omega arith) ∙ clear j (omega arith)

-- ---- what a pass found

-- of a board: nothing where it has no calls
abbrev pub found_in : Entry → Found
found_in e = cond (eqb e.calls 0) nothing (found e.calls e.dna e.crc_errors)

-- of the ten: in a ping by the entries, in a rate pass by the words of rates; another pass looks at none of them
abbrev pub boards_of : PassKind → List Entry → List ℕ → List Found
boards_of Reprogramming entries words = replicate 10 nothing
boards_of Ping entries words = map found_in entries
boards_of Rates entries words = map rated (twelves 10 words)

map-set : {A : Type 0} (f : A → Found) (l : List A) (i : ℕ) (x : A) → map f (set l i x) ≡ set (map f l) i (f x)
map-set f [] i x = refl
map-set f (y ∷ l) zero x = refl
map-set f (y ∷ l) (suc i) x = ap (λ (fs : List Found). f y ∷ fs) (map-set f l i x)

-- the calls that the code counts are the sends
pub calls_are : (tries : ℕ) → tries ≤ 2 → calls_at tries ≡ tries + 1
calls_are tries h = go (ltb tries 2) refl
  where
    go : (t : Bool) → ltb tries 2 ≡ t → cond t (tries + 1) 3 ≡ tries + 1
    go true e = refl
    go false e = let k : 2 ≤ tries = ltb-false _ _ e in omega arith

found-entry : (tries dna errors : ℕ) → found_in (entry dna (tries + 1) errors) ≡ found (tries + 1) dna errors
found-entry tries dna errors = let k : tries + 1 ≡ 0 → ⊥ = λ q. omega arith in rw (ne_eqb _ _ k)

-- what is noted is what the steps find: of a ping in the list, with rates in their words
noted-ping : (k : Crate) (h : Judged) → k.tries ≤ 2 → k.code ≡ 4
    → map found_in (entries_in (with_reply k h)) ≡ found_by (step k.board k.code) k.tries h (map found_in (entries_in k))
unfolding noted with_entry_in found_by
noted-ping k h t e =
    rw (eq-eqb _ _ e)
    (ap (map found_in) (entries-set k.dna k.calls k.crc_errors k.board h.dna (calls_at k.tries) h.crc_errors)
    ∙ map-set found_in (entries_in k) k.board (entry h.dna (calls_at k.tries) h.crc_errors)
    ∙ ap (set (map found_in (entries_in k)) k.board)
    (ap (λ (n : ℕ). found_in (entry h.dna n h.crc_errors)) (calls_are k.tries t) ∙ found-entry k.tries h.dna h.crc_errors))

noted-rates : (k : Crate) (h : Judged) → k.board < 10 → length k.rates ≡ 120 → length h.rates ≡ 12 → k.code ≡ 5
    → map rated (twelves 10 (with_reply k h).rates) ≡ found_by (step k.board k.code) k.tries h (map rated (twelves 10 k.rates))
unfolding noted with_rates_in found_by
noted-rates k h b l m e =
    rw e
    (ap (map rated) (twelves-set 10 k.board k.rates h.rates b l m)
    ∙ map-set rated (twelves 10 k.rates) k.board h.rates)

found-other : (s : Step) (tries : ℕ) (h : Judged) (boards : List Found) → s.code < 4 → found_by s tries h boards ≡ boards
unfolding found_by
found-other s tries h boards l =
    let n : s.code ≡ 4 → ⊥ = λ q. omega arith in
    let m : s.code ≡ 5 → ⊥ = λ q. omega arith in
    rw (ne_eqb _ _ n, ne_eqb _ _ m)

pub boards-noted : {kind : PassKind} {code : ℕ} → Code kind code → (k : Crate) (h : Judged) → k.code ≡ code → k.tries ≤ 2 → k.board < 10
    → (kind ≡ Rates → length k.rates ≡ 120) → length h.rates ≡ 12
    → boards_of kind (entries_in (with_reply k h)) (with_reply k h).rates
    ≡ found_by (step k.board k.code) k.tries h (boards_of kind (entries_in k) k.rates)
boards-noted one k h e t b l m = sym (found-other (step k.board k.code) k.tries h (replicate 10 nothing) (omega arith))
boards-noted two k h e t b l m = sym (found-other (step k.board k.code) k.tries h (replicate 10 nothing) (omega arith))
boards-noted three k h e t b l m = sym (found-other (step k.board k.code) k.tries h (replicate 10 nothing) (omega arith))
boards-noted four k h e t b l m = noted-ping k h t e
boards-noted five k h e t b l m = noted-rates k h b (l refl) m e

-- in a rate pass what was found is the words of rates
pub rates-found : (words : List ℕ) → length words ≡ 120 → rates_from (map rated (twelves 10 words)) ≡ words
rates-found words l = side_by_side (twelves 10 words) ∙ twelves-joined 10 words l
  where
    side_by_side : (ls : List (List ℕ)) → rates_from (map rated ls) ≡ joined ls
    side_by_side [] = refl
    side_by_side (x ∷ ls) = ap (λ (ys : List ℕ). x ++ ys) (side_by_side ls)
