-- The frames of a pass: at most three for each of its steps (`bound-kept`), one for each accepted reply or time-up (`frames-accepted`), and those that
-- are handed out (`frames-handed`, `frames-fetched`).
-- Assumes nothing.
use Prim.Native.Nat.{ℕ, zero, suc, ◌+◌, ◌*◌, ◌≤◌}
use mathlib.Core.Path.{◌≡◌, refl, sym, ap, ap₂, ◌∙◌}
use mathlib.Core.List.{List, [], ◌∷◌, ◌++◌, map}
use mathlib.Core.Bool.{Bool, true, false, cond}
use native.Mathlib.Omega.{arith}
use lib.ListN.{length, drop, length-append, length-map}
use lib.Seq.{take_at}
use lib.Dec.{eqb}
use borrow.Author.Tests.{le-ltb}
use Rattle.refusals.specs.Tables.{given}
use Rattle.crate_pass.specs.Crate.{says_done}
use Rattle.crate_pass.specs.declared.PassKind.{PassKind}
use Rattle.crate_pass.specs.declared.PassKind.TheVariants.{Reprogramming, Ping, Rates}
use Rattle.crate_pass.specs.declared.Outcome.{Outcome}
use Rattle.crate_pass.specs.declared.Outcome.TheVariants.{Good, Again, BoardFailed}
use Rattle.any_order.specs.Steps.{Step, is_served, board_steps, steps_from, steps, served_from, judged, fetch, Lending, Found, Pass, pass, begun}
use Rattle.any_order.specs.Steps.{outcome, Result, first, none, others, found_by, handed_over, fetch_to, react}
use Rattle.any_order.specs.AnyOrder.{Item, is_accepted, pass_end, pass_results, frames_in, accepted_in, most_frames}
use Rattle.any_order.specs.AnyOrder.{seen_of, handed_out_by, fetched_by, handed_out_in, fetched_in, EachIs}
use Rattle.any_order.proofs.Reacting.{react-any}

-- ---- at most three frames for each step

-- the sends of the outstanding step
abbrev spent : List Step → ℕ → ℕ
spent [] t = 0
spent (s ∷ ss) t = t + 1

-- n frames were sent: they, and three for each step left, are no more than three for each step and the sends of the outstanding one
pub record Bound (most n : ℕ) (p : Pass) : Type 0 where
  pub low : p.tries ≤ 2
  pub count : n + 3 * length p.todo ≤ 3 * most + spent p.todo p.tries

others-length : (b : ℕ) (ss : List Step) → length (others b ss) ≤ length ss
unfolding others
others-length b [] = omega arith
others-length b (s ∷ ss) = go (eqb s.board b) (others-length b ss)
  where
    go : (t : Bool) → length (others b ss) ≤ length ss → length (cond t (others b ss) (s ∷ others b ss)) ≤ length (s ∷ ss)
    go true ih = omega arith
    go false ih = omega arith

-- the frame of the first of some steps, where there is one
abbrev pub first_frame : (Step → List ℕ) → List Step → List (List ℕ)
first_frame frame ss = map frame (first ss)

module _ (frame : Step → List ℕ) (most : ℕ) where
  moved-bound : (n m counted : ℕ) (failed : List Step) (boards : List Found) (ss : List Step) → n + 3 * suc m ≤ 3 * most + 3 → length ss ≤ m
      → Bound most (n + length (first_frame frame ss)) (pass ss 0 failed boards counted)
  moved-bound n m counted failed boards [] h l = record { low = omega arith; count = omega arith }
  moved-bound n m counted failed boards (s ∷ ss) h l = record { low = omega arith; count = omega arith }

  pub bound-kept : (n : ℕ) (x : Lending) (p : Pass) → Bound most n p → Bound most (n + length (react frame x p).0.frames) (react frame x p).1
  bound-kept n x p b =
      react-any frame x.1 p (λ (r : Result × Pass). Bound most (n + length r.0.frames) r.1)
      (record {
        refused = λ m. record { low = b.low; count = omega (arith, b.count) };
        good = λ e s ss q l.
            let h : n + 3 * suc (length ss) ≤ 3 * most + (p.tries + 1) = rw q at b.count in
            let low = b.low in
            moved-bound n (length ss) (p.counted + 1) p.failed (found_by s p.tries (judged (frame s) e) p.boards) ss (omega arith) (omega arith);
        again = λ s ss q l t.
            let h : n + 3 * suc (length ss) ≤ 3 * most + (p.tries + 1) = rw q at b.count in
            record { low = omega arith; count = omega arith };
        failed = λ s ss q l.
            let h : n + 3 * suc (length ss) ≤ 3 * most + (p.tries + 1) = rw q at b.count in
            let low = b.low in
            moved-bound n (length ss) (p.counted + 1) (p.failed ++ (s ∷ [])) p.boards (others s.board ss) (omega arith)
            (others-length s.board ss);
        fetched = λ s ss q z l. record { low = b.low; count = omega (arith, b.count) };
      })
      x.0

pub bound-begun : (kind : PassKind) (ss : List Step) → Bound (length ss) (length (first ss)) (begun kind ss)
bound-begun kind [] = record { low = omega arith; count = omega arith }
bound-begun kind (s ∷ ss) = record { low = omega arith; count = omega arith }

pub bound-sent : (most n : ℕ) (p : Pass) → Bound most n p → n ≤ 3 * most
bound-sent most n p b = go p.todo b.count
  where
    go : (todo : List Step) → n + 3 * length todo ≤ 3 * most + spent todo p.tries → n ≤ 3 * most
    go [] h = omega arith
    go (s ∷ ss) h = omega (arith, b.low)

-- ---- how many steps there are

steps-reprogramming : (w n b : ℕ) → length (steps_from Reprogramming w n b) ≡ 3 * served_from Reprogramming w n b
unfolding steps_from served_from
steps-reprogramming w zero b = omega arith
steps-reprogramming w (suc n) b = go (is_served Reprogramming w b) (steps-reprogramming w n (suc b))
  where
    go : (t : Bool) → length (steps_from Reprogramming w n (suc b)) ≡ 3 * served_from Reprogramming w n (suc b)
        → length (cond t (board_steps Reprogramming b) [] ++ steps_from Reprogramming w n (suc b)) ≡ 3 * (cond t 1 0 + served_from Reprogramming w n (suc b))
    go true ih = omega arith
    go false ih = omega arith

-- where each board has one, as many as boards are served
steps-single : (kind : PassKind) → ((b : ℕ) → length (board_steps kind b) ≡ 1) → (w n b : ℕ) → length (steps_from kind w n b) ≡ served_from kind w n b
unfolding steps_from served_from
steps-single kind single w zero b = refl
steps-single kind single w (suc n) b = go (is_served kind w b) (steps-single kind single w n (suc b))
  where
    go : (t : Bool) → length (steps_from kind w n (suc b)) ≡ served_from kind w n (suc b)
        → length (cond t (board_steps kind b) [] ++ steps_from kind w n (suc b)) ≡ cond t 1 0 + served_from kind w n (suc b)
    go true ih = length-append (board_steps kind b) (steps_from kind w n (suc b)) ∙ rw (single b, ih)
    go false ih = ih ∙ let e : served_from kind w n (suc b) ≡ 0 + served_from kind w n (suc b) = omega arith in e

served-most : (kind : PassKind) (w n b : ℕ) → served_from kind w n b ≤ n
unfolding served_from
served-most kind w zero b = omega arith
served-most kind w (suc n) b = go (is_served kind w b) (served-most kind w n (suc b))
  where
    go : (t : Bool) → served_from kind w n (suc b) ≤ n → cond t 1 0 + served_from kind w n (suc b) ≤ suc n
    go true ih = omega arith
    go false ih = omega arith

pub steps-most : (kind : PassKind) (w : ℕ) → length (steps kind w) ≤ 30
steps-most Reprogramming w = omega (arith, steps-reprogramming w 10 0, served-most Reprogramming w 10 0)
steps-most Ping w = omega (arith, steps-single Ping (λ b. refl) w 10 0, served-most Ping w 10 0)
steps-most Rates w = omega (arith, steps-single Rates (λ b. refl) w 10 0, served-most Rates w 10 0)

-- three for each of them
pub most-frames : (kind : PassKind) (w : ℕ) → 3 * length (steps kind w) ≤ most_frames kind w
most-frames Reprogramming w = omega (arith, steps-reprogramming w 10 0)
most-frames Ping w = omega (arith, steps-single Ping (λ b. refl) w 10 0, served-most Ping w 10 0)
most-frames Rates w = omega (arith, steps-single Rates (λ b. refl) w 10 0)

-- ---- and one for each accepted reply or time-up, with one more while a frame is outstanding

module _ (frame : Step → List ℕ) where
  -- of a result and the pass then, after the pass p
  abbrev CountsOne : Pass → Result × Pass → Type 0
  CountsOne p r = length (first p.todo) + length r.0.frames ≡ cond (is_accepted r.0.answer) 1 0 + length (first r.1.todo)

  accepted-once : (x : Lending) (p : Pass) → CountsOne p (react frame x p)
  accepted-once x p =
      react-any frame x.1 p (CountsOne p)
      (record {
        refused = λ m. omega arith;
        good = λ e s ss q l. rw q (ap (λ (m : ℕ). 1 + m) (length-map (first ss) frame));
        again = λ s ss q l t. rw q refl;
        failed = λ s ss q l. rw q (ap (λ (m : ℕ). 1 + m) (length-map (first (others s.board ss)) frame));
        fetched = λ s ss q z l. omega arith;
      })
      x.0

  pub frames-accepted : (p : Pass) (xs : List Item) → length (first p.todo) + length (frames_in (pass_results frame p xs))
      ≡ accepted_in (pass_results frame p xs) + length (first (pass_end frame p xs).todo)
  unfolding pass_end pass_results frames_in accepted_in
  frames-accepted p [] = omega arith
  frames-accepted p (x ∷ xs) =
      omega (
        arith,
        frames-accepted (react frame x.1 p).1 xs,
        accepted-once x.1 p,
        length-append (react frame x.1 p).0.frames (frames_in (pass_results frame (react frame x.1 p).1 xs)),
      )

-- ---- they are those that are handed out

module _ (frame : Step → List ℕ) (size : (s : Step) → length (frame s) ≡ 28) where
  -- a frame in the first 28 of the lent bytes, where the crate is not done
  handed-first : (o : Bool → Outcome) → ((d : Bool) → says_done (o d) ≡ d) → (lent : List ℕ) (ss : List Step)
      → handed_out_by (given (outcome (o (none ss)))) (handed_over (map frame (first ss)) lent) ≡ map frame (first ss)
  handed-first o says-done lent [] = rw (says-done true)
  handed-first o says-done lent (s ∷ ss) = rw (says-done false) (ap (λ (f : List ℕ). f ∷ []) (take_at (frame s) (drop 28 lent) 28 (size s)))

  -- of one result: by a reply or a time-up, and by a fetch
  abbrev HandsOut : Result × Pass → Type 0
  HandsOut r = handed_out_by r.0.answer r.0.bytes ≡ r.0.frames

  handed-once : (x : Lending) (p : Pass) → HandsOut (react frame x p)
  handed-once x p =
      react-any frame x.1 p HandsOut
      (record {
        refused = λ m. refl;
        good = λ e s ss q l. handed-first Good (λ d. refl) x.1 ss;
        again = λ s ss q l t. handed-first Again (λ d. refl) x.1 (s ∷ ss);
        failed = λ s ss q l. handed-first BoardFailed (λ d. refl) x.1 (others s.board ss);
        fetched = λ s ss q z l. refl;
      })
      x.0

  pub frames-handed : (p : Pass) (xs : List Item) → handed_out_in (map seen_of (pass_results frame p xs)) ≡ frames_in (pass_results frame p xs)
  unfolding pass_results frames_in handed_out_in
  frames-handed p [] = refl
  frames-handed p (x ∷ xs) = ap₂ ◌++◌ (handed-once x.1 p) (frames-handed (react frame x.1 p).1 xs)

  -- a fetch that is not refused hands out the frame of the first step, as long as nothing is counted
  abbrev Unmoved : List Step → Pass → Type 0
  Unmoved todo p = p.counted ≡ 0 → p.todo ≡ todo

  record FetchesFirst (todo : List Step) (r : Result × Pass) : Type 0 where
    gives : EachIs (map frame (first todo)) (fetched_by r.0.answer r.0.bytes)
    stays : Unmoved todo r.1

  fetched-once : (todo : List Step) (x : Lending) (p : Pass) → Unmoved todo p → FetchesFirst todo (react frame x p)
  fetched-once todo x p u =
      react-any frame x.1 p (FetchesFirst todo)
      (record {
        refused = λ m. record { gives = tt; stays = u };
        good = λ e s ss q l. record { gives = tt; stays = λ z. absurd (let k : ⊥ = omega arith in k) };
        again = λ s ss q l t. record { gives = tt; stays = λ z. absurd (let k : ⊥ = omega arith in k) };
        failed = λ s ss q l. record { gives = tt; stays = λ z. absurd (let k : ⊥ = omega arith in k) };
        fetched = λ s ss q z l. record {
          gives = (
            ap (λ (f : List ℕ). f ∷ []) (take_at (frame s) (drop 28 x.1) 28 (size s)) ∙ ap (λ (ss : List Step). map frame (first ss)) (sym q ∙ u z),
            tt,
          );
          stays = u;
        };
      })
      x.0

  each_append : (one fs gs : List (List ℕ)) → EachIs one fs → EachIs one gs → EachIs one (fs ++ gs)
  each_append one [] gs a b = b
  each_append one (f ∷ fs) gs a b = (a.0, each_append one fs gs a.1 b)

  pub frames-fetched : (todo : List Step) (p : Pass) (xs : List Item) → Unmoved todo p
      → EachIs (map frame (first todo)) (fetched_in (map seen_of (pass_results frame p xs)))
  unfolding pass_results fetched_in
  frames-fetched todo p [] u = tt
  frames-fetched todo p (x ∷ xs) u =
      let once = fetched-once todo x.1 p u in
      let r = react frame x.1 p in
      each_append (map frame (first todo)) (fetched_by r.0.answer r.0.bytes) (fetched_in (map seen_of (pass_results frame r.1 xs)))
      once.gives (frames-fetched todo r.1 xs once.stays)

  -- a fetch as the pass begins hands out the first frame, where there is one
  pub fetched-begun : (kind : PassKind) (c : ℕ) (lent : List ℕ) (ss : List Step) → 28 ≤ length lent
      → fetched_in (map seen_of (pass_results frame (begun kind ss) ((c, (fetch, lent)) ∷ []))) ≡ map frame (first ss)
  unfolding pass_results fetched_in fetch_to
  fetched-begun kind c lent [] l = refl
  fetched-begun kind c lent (s ∷ ss) l =
      rw (le-ltb _ _ l) (ap (λ (f : List ℕ). f ∷ []) (take_at (frame s) (drop 28 lent) 28 (size s)))
