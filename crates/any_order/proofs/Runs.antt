-- A crate's run is the run of its pass (`run_end`, `run-results`), and its number is that of the frames sent (`run-sent`).
-- Assumes nothing.
use Prim.Native.Nat.{ℕ, ◌+◌, ◌<◌, ◌≤◌}
use mathlib.Core.Path.{◌≡◌, refl, sym, ap, ap₂, ◌∙◌, subst}
use mathlib.Core.List.{List, [], ◌∷◌}
use mathlib.Core.Bool.{Bool, true, false}
use native.Mathlib.Omega.{arith}
use lib.ListN.{length, length-append, length-map}
use lib.Dec.{ltb}
use borrow.Author.Tests.{ltb-true, ltb-false}
use Rattle.refusals.specs.Tables.{Answer, given, refused}
use Rattle.configuration.specs.Configuration.{active_word}
use Rattle.steps.specs.Steps.{step_frame}
use Rattle.steps.specs.declared.Judged.{Judged}
use Rattle.steps.proofs.Lengths.{step-length}
use Rattle.crate_pass.specs.Crate.{entries_in, clears_list, is_rate_pass, moved}
use Rattle.crate_pass.proofs.Entries.{reply-keeps-entries, reply-keeps-rates}
use Rattle.crate_pass.proofs.Serving.{answer-none, answer-short, answer-moved, after-refused, after-given}
use Rattle.crate_pass.specs.declared.PassKind.{PassKind}
use Rattle.crate_pass.specs.declared.Outcome.{Outcome}
use Rattle.crate_pass.specs.declared.Crate.{Crate}
use Rattle.crate_pass.proofs.Answered.{crate_answer, crate_after}
use Rattle.four_crates.specs.FourCrates.{no_crate}
use Rattle.cells.proofs.Cells.{end_alone, out_alone}
use Rattle.any_order.specs.Steps.{Step, steps, Event, judged, Request, hand_in, fetch, Lending, Pass, Given, outcome, first_frame, Result}
use Rattle.any_order.specs.Steps.{react, react_to}
use Rattle.any_order.specs.AnyOrder.{Item, ItemResult, frames_in, pass_results, pass_end, step_of, sent_after}
use Rattle.any_order.proofs.Places.{is_code, Place, at, past, place}
use Rattle.any_order.proofs.RatesByBoard.{twelve-judged}
use Rattle.any_order.proofs.Sent.{Numbered, sent-on}
use Rattle.any_order.proofs.Follows.{Fit, view, served_result, follows}
use Rattle.any_order.proofs.Fits.{fit-kept}
use Rattle.any_order.proofs.Frames.{Bound, bound-kept, bound-sent, steps-most}
use Rattle.any_order.proofs.Fetch.{frame_in, fetch_answer, fetch-follows}
use Rattle.any_order.proofs.Served.{crate_next, serving, crate_step, no_such}

-- what holds of a crate all through a pass
pub record Runs (kind : PassKind) (w : ℕ) (k : Crate) : Type 0 where
  pub fit : Fit kind k
  pub bound : Bound (length (steps kind w)) k.sent (view kind w k)
  -- the outstanding frame is counted
  pub one : length (step_of k) ≤ k.sent

-- ---- the number goes up with each frame

pub numbered : (kind : PassKind) (w : ℕ) (k : Crate) → Runs kind w k → Numbered k
numbered kind w k r =
    record {
      one = r.one;
      room = omega (arith, bound-sent (length (steps kind w)) k.sent (view kind w k) r.bound, steps-most kind w);
    }

module _ (frame : Step → List ℕ) (kind : PassKind) (w : ℕ) (k : Crate) (h : Judged) (lent : List ℕ) (room : k.sent < 65535) where
  -- of an answer, and the crate after it: a reply or a time-up that is served sends a frame where one is then outstanding
  record Sends (a : Answer Outcome) (next : Crate) : Type 0 where
    sends : next.sent ≡ k.sent + length (served_result frame lent a next).frames
    least : length (step_of k) ≤ k.sent → length (step_of next) ≤ next.sent

  sends_none : (n p : ℕ) → crate_answer kind w k h lent ≡ refused n p → Sends (crate_answer kind w k h lent) (crate_after kind w k h lent)
  sends_none n p e =
      subst (λ (a : Answer Outcome). Sends a (crate_after kind w k h lent)) (sym e)
      (subst (Sends (refused n p)) (sym (after-refused kind w k h lent n p e)) (record { sends = omega arith; least = λ l. l }))

  sends-one : crate_answer kind w k h lent ≡ given (moved kind w k h).outcome → Sends (crate_answer kind w k h lent) (crate_after kind w k h lent)
  sends-one e =
      let next = (moved kind w k h).state in
      let on = sent-on kind w k h room in
      subst (λ (a : Answer Outcome). Sends a (crate_after kind w k h lent)) (sym e)
      (subst (Sends (given (moved kind w k h).outcome)) (sym (after-given kind w k h lent (moved kind w k h).outcome e))
      (record { sends = on ∙ ap (λ (m : ℕ). k.sent + m) (sym (length-map (step_of next) frame)); least = λ l. omega arith }))

  sends-any : Sends (crate_answer kind w k h lent) (crate_after kind w k h lent)
  sends-any = go (place k.board) (ltb (length lent) 28) refl
    where
      go : Place k.board → (t : Bool) → ltb (length lent) 28 ≡ t → Sends (crate_answer kind w k h lent) (crate_after kind w k h lent)
      go (past b) t x = sends_none 12 0 (answer-none kind w k h lent b)
      go (at b) true x = sends_none 19 0 (answer-short kind w k h lent b (ltb-true _ _ x))
      go (at b) false x = sends-one (answer-moved kind w k h lent b (ltb-false _ _ x))

no_frames : (a : Answer Given) → sent_after a [] ≡ []
no_frames (given (outcome o)) = refl
no_frames (given first_frame) = refl
no_frames (refused n p) = refl

-- ---- a step of the crate

module _ (kind : PassKind) (block : List ℕ) (c : ℕ) where
  abbrev word : ℕ
  word = active_word block c

  abbrev frame : Step → List ℕ
  frame = frame_in block c

  abbrev next : Crate → Lending → Crate
  next k x = (crate_step kind block c k x).1

  abbrev result : Crate → Lending → Result
  result k x = (crate_step kind block c k x).0

  abbrev said : Crate → Event → Judged
  said k e = judged (step_frame block c k.board k.code) e

  size : (s : Step) → length (frame s) ≡ 28
  size s = step-length block c s.board s.code

  -- what it gives and the pass that it then stands for are what the steps give
  by-request : (k : Crate) (request : Request) (lent : List ℕ) → Runs kind word k
      → ◌≡◌ {A = Result × Pass} ((serving kind block c k request lent).0, view kind word (serving kind block c k request lent).1)
      (react_to frame request lent (view kind word k))
  unfolding crate_next
  by-request k (hand_in e) lent r = follows frame kind word lent k e r.fit (numbered kind word k r)
  by-request k fetch lent r = ap (λ (x : Result). (x, view kind word k)) (fetch-follows frame size kind word lent k (numbered kind word k r))

  step-result : (k : Crate) (x : Lending) → Runs kind word k → result k x ≡ (react frame x (view kind word k)).0
  unfolding crate_step
  step-result k x r = ap (λ (p : Result × Pass). p.0) (by-request k x.0 x.1 r)

  step-view : (k : Crate) (x : Lending) → Runs kind word k → view kind word (next k x) ≡ (react frame x (view kind word k)).1
  unfolding crate_step
  step-view k x r = ap (λ (p : Result × Pass). p.1) (by-request k x.0 x.1 r)

  -- what it keeps
  fit-by : (k : Crate) (request : Request) (lent : List ℕ) → Fit kind k → Fit kind (serving kind block c k request lent).1
  unfolding crate_next
  fit-by k (hand_in e) lent f = fit-kept kind word k f (said k e) (twelve-judged (step_frame block c k.board k.code) e) lent
  fit-by k fetch lent f = f

  step-fit : (k : Crate) (x : Lending) → Fit kind k → Fit kind (next k x)
  unfolding crate_step
  step-fit k x f = fit-by k x.0 x.1 f

  sent-by : (k : Crate) (request : Request) (lent : List ℕ) → Runs kind word k
      → (serving kind block c k request lent).1.sent ≡ k.sent + length (serving kind block c k request lent).0.frames
  unfolding crate_next
  sent-by k (hand_in e) lent r = (sends-any frame kind word k (said k e) lent (numbered kind word k r).room).sends
  sent-by k fetch lent r = let z : length (sent_after (fetch_answer k lent) []) ≡ 0 = ap length (no_frames (fetch_answer k lent)) in omega arith

  step-sent : (k : Crate) (x : Lending) → Runs kind word k → (next k x).sent ≡ k.sent + length (result k x).frames
  unfolding crate_step
  step-sent k x r = sent-by k x.0 x.1 r

  one-by : (k : Crate) (request : Request) (lent : List ℕ) → Runs kind word k
      → length (step_of (serving kind block c k request lent).1) ≤ (serving kind block c k request lent).1.sent
  unfolding crate_next
  one-by k (hand_in e) lent r = (sends-any frame kind word k (said k e) lent (numbered kind word k r).room).least r.one
  one-by k fetch lent r = r.one

  step-one : (k : Crate) (x : Lending) → Runs kind word k → length (step_of (next k x)) ≤ (next k x).sent
  unfolding crate_step
  step-one k x r = one-by k x.0 x.1 r

  pub step-runs : (k : Crate) (x : Lending) → Runs kind word k → Runs kind word (next k x)
  step-runs k x r =
      record {
        fit = step-fit k x r.fit;
        bound = rw (step-sent k x r, step-result k x r, step-view k x r)
            (bound-kept frame (length (steps kind word)) k.sent x (view kind word k) r.bound);
        one = step-one k x r;
      }

  -- ---- all of a crate's items

  abbrev ending : Crate → List Item → Crate
  ending k xs = end_alone no_crate (crate_step kind block) no_such c k xs

  abbrev givings : Crate → List Item → List ItemResult
  givings k xs = out_alone no_crate (crate_step kind block) no_such c k xs

  pub run_end : (k : Crate) (xs : List Item) → Runs kind word k → view kind word (ending k xs) ≡ pass_end frame (view kind word k) xs
  unfolding end_alone pass_end
  run_end k [] r = refl
  run_end k (x ∷ xs) r = run_end (next k x.1) xs (step-runs k x.1 r) ∙ ap (λ p. pass_end frame p xs) (step-view k x.1 r)

  pub run-results : (k : Crate) (xs : List Item) → Runs kind word k → givings k xs ≡ pass_results frame (view kind word k) xs
  unfolding out_alone pass_results
  run-results k [] r = refl
  run-results k (x ∷ xs) r =
      ap₂ (λ (o : Result) (l : List ItemResult). (x, o) ∷ l) (step-result k x.1 r)
      (run-results (next k x.1) xs (step-runs k x.1 r) ∙ ap (λ p. pass_results frame p xs) (step-view k x.1 r))

  pub run-runs : (k : Crate) (xs : List Item) → Runs kind word k → Runs kind word (ending k xs)
  unfolding end_alone
  run-runs k [] r = r
  run-runs k (x ∷ xs) r = run-runs (next k x.1) xs (step-runs k x.1 r)

  pub run-sent : (k : Crate) (xs : List Item) → Runs kind word k → (ending k xs).sent ≡ k.sent + length (frames_in (givings k xs))
  unfolding end_alone out_alone frames_in
  run-sent k [] r = omega arith
  run-sent k (x ∷ xs) r =
      omega (
        arith,
        run-sent (next k x.1) xs (step-runs k x.1 r),
        step-sent k x.1 r,
        length-append (result k x.1).frames (frames_in (givings (next k x.1) xs)),
      )

-- ---- what a pass leaves as it was

-- a part of the crate that no reply and no time-up of such a pass changes
module _ {A : Type 0} (part : Crate → A) (kind : PassKind)
    (stays : (w : ℕ) (k : Crate) (h : Judged) (lent : List ℕ) → Fit kind k → part (crate_after kind w k h lent) ≡ part k) (block : List ℕ) (c : ℕ) where
  stays_by : (k : Crate) (request : Request) (lent : List ℕ) → Fit kind k → part (serving kind block c k request lent).1 ≡ part k
  unfolding crate_next
  stays_by k (hand_in e) lent f = stays (active_word block c) k (said kind block c k e) lent f
  stays_by k fetch lent f = refl

  run-stays : (k : Crate) (xs : List Item) → Fit kind k → part (end_alone no_crate (crate_step kind block) no_such c k xs) ≡ part k
  unfolding end_alone crate_step
  run-stays k [] f = refl
  run-stays k (x ∷ xs) f =
      run-stays (crate_step kind block c k x.1).1 xs (step-fit kind block c k x.1 f) ∙ stays_by k x.1.0 x.1.1 f

-- a pass that is no ping leaves the list
pub run-list : (kind : PassKind) → clears_list kind ≡ false → (block : List ℕ) (c : ℕ) (k : Crate) (xs : List Item) → Fit kind k
    → entries_in (end_alone no_crate (crate_step kind block) no_such c k xs) ≡ entries_in k
run-list kind e block c k xs f = run-stays entries_in kind (λ w k h lent f. reply-keeps-entries kind e w k h lent (is_code f.code)) block c k xs f

-- and one that is no rate pass the rates
abbrev rates : Crate → List ℕ
rates k = k.rates

pub run-rates : (kind : PassKind) → is_rate_pass kind ≡ false → (block : List ℕ) (c : ℕ) (k : Crate) (xs : List Item) → Fit kind k
    → (end_alone no_crate (crate_step kind block) no_such c k xs).rates ≡ k.rates
run-rates kind e block c k xs f = run-stays rates kind (λ w k h lent f. reply-keeps-rates kind e w k h lent (is_code f.code)) block c k xs f
