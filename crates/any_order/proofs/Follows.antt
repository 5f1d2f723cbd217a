-- A crate stands for a pass (`view`), and a step of the crate is a step of that pass (`follows`).
-- Assumes nothing.
use Prim.Native.Nat.{ℕ, zero, suc, ◌+◌, ◌-◌, ◌<◌, ◌≤◌}
use mathlib.Core.Path.{◌≡◌, refl, sym, ap, ap₂, ◌∙◌}
use mathlib.Core.List.{List, [], ◌∷◌, ◌++◌, map}
use mathlib.Core.Bool.{Bool, true, false, cond}
use native.Mathlib.Omega.{arith}
use lib.ListN.{length, get_or, set, replicate}
use lib.Dec.{ltb}
use borrow.Author.Tests.{ltb-true, ltb-false, lt-ltb, le-ltb}
use Rattle.refusals.specs.Tables.{Answer, given, refused}
use Rattle.steps.specs.declared.Judged.{Judged}
use Rattle.crate_pass.specs.Crate.{next_board, first_code, as_entries, entries_in, is_done, sent_at, begun_crate}
use Rattle.crate_pass.specs.Crate.{placed, advanced, stepped, noted, with_reply, with_record, with_outcome}
use Rattle.crate_pass.specs.Crate.{after_good_reply, after_failed_send, moved, unless_refused}
use Rattle.crate_pass.specs.declared.PassKind.{PassKind}
use Rattle.crate_pass.specs.declared.PassKind.TheVariants.{Reprogramming, Ping, Rates}
use Rattle.crate_pass.specs.declared.Outcome.{Outcome}
use Rattle.crate_pass.specs.declared.Outcome.TheVariants.{Good, Again, BoardFailed}
use Rattle.crate_pass.specs.declared.Crate.{Crate}
use Rattle.crate_pass.specs.declared.Moved.{Moved}
use Rattle.crate_pass.proofs.Serving.{answer-none, answer-short, answer-moved, after-refused, after-given}
use Rattle.crate_pass.proofs.Answered.{crate_answer, crate_after}
use Rattle.any_order.specs.Steps.{Step, step, steps_from, steps, Event, judged, Found, unanswered, Pass, pass, begun, Result, refusal}
use Rattle.any_order.specs.Steps.{first, none, others, found_by, handed_over, says, serve_to}
use Rattle.any_order.specs.AnyOrder.{outcome_given, result_for, step_of}
use Rattle.any_order.proofs.Places.{Code, one, two, three, four, five, first_code_lem, later, todo_at, todo-here, todo-done, next-board-todo, begun-todo}
use Rattle.any_order.proofs.Places.{others-later, Place, at, past, place, first-at, none-at}
use Rattle.any_order.proofs.Kept.{failed_steps, NoneFrom, failed-set, boards_of, boards-noted}
use Rattle.any_order.proofs.RatesByBoard.{twelves, twelve-judged}
use Rattle.any_order.proofs.Sent.{counted_of, Numbered, counted-placed, counted-here}

-- ---- the pass that a crate stands for

unfoldable pub view : PassKind → ℕ → Crate → Pass
view kind w k = pass (todo_at kind w k.board k.code) k.tries (failed_steps k.failed 10) (boards_of kind (entries_in k) k.rates) (counted_of k)

-- the outstanding step is the first one left, and the crate is done when none is
pub view_first : (kind : PassKind) (w : ℕ) (k : Crate) → step_of k ≡ first (view kind w k).todo
unfolding step_of view
view_first kind w k = first-at kind w k.board k.code

pub view-none : (kind : PassKind) (w : ℕ) (k : Crate) → is_done k ≡ none (view kind w k).todo
unfolding view
view-none kind w k = none-at kind w k.board k.code

-- what holds of a crate in a pass: its code is one of the pass, it failed twice at most, no board from its place on has failed, and in a
-- rate pass it has twelve words for each board
pub record Fit (kind : PassKind) (k : Crate) : Type 0 where
  pub code : Code kind k.code
  pub low : k.tries ≤ 2
  pub ten : length k.failed ≡ 10
  pub clear : NoneFrom k.board k.failed
  pub words : kind ≡ Rates → length k.rates ≡ 120

pub nonzero : {kind : PassKind} {code : ℕ} → Code kind code → code ≡ 0 → ⊥
nonzero one q = omega arith
nonzero two q = omega arith
nonzero three q = omega arith
nonzero four q = omega arith
nonzero five q = omega arith

-- ---- a crate as the pass begins

boards-begun : (kind : PassKind) (w : ℕ) (k : Crate)
    → boards_of kind (entries_in (begun_crate kind w k)) (begun_crate kind w k).rates ≡ replicate 10 (unanswered kind)
unfolding begun_crate as_entries twelves
boards-begun Reprogramming w k = refl
boards-begun Ping w k = refl
boards-begun Rates w k = refl

-- nothing is counted yet
counted-begun : (kind : PassKind) (w : ℕ) (k : Crate) → counted_of (begun_crate kind w k) ≡ 0
unfolding begun_crate sent_at step_of
counted-begun kind w k = go (ltb (next_board kind w 0) 10)
  where
    go : (t : Bool) → cond t 1 0 - length (cond t (step (next_board kind w 0) (first_code kind) ∷ []) []) ≡ 0
    go true = refl
    go false = refl

pub view-begun : (kind : PassKind) (w : ℕ) (k : Crate) → view kind w (begun_crate kind w k) ≡ begun kind (steps kind w)
unfolding view begun_crate failed_steps
view-begun kind w k =
    ap₂ (λ (todo : List Step) (boards : List Found). pass todo 0 [] boards (counted_of (begun_crate kind w k))) (begun-todo kind w) (boards-begun kind w k)
    ∙ ap (λ (n : ℕ). pass (steps kind w) 0 [] (replicate 10 (unanswered kind)) n) (counted-begun kind w k)

no_code : (n j : ℕ) → ◌≡◌ {A = ℕ} (get_or (replicate n 0) j 0) 0
no_code zero j = refl
no_code (suc n) zero = refl
no_code (suc n) (suc j) = no_code n j

pub fit-begun : (kind : PassKind) (w : ℕ) (k : Crate) → Fit kind (begun_crate kind w k)
unfolding begun_crate
fit-begun kind w k = record { code = first_code_lem kind; low = omega arith; ten = refl; clear = λ j h. no_code 10 j; words = λ e. rw e }

-- ---- a crate at another place

module _ (kind : PassKind) (w : ℕ) where
  -- the pass with other steps left, and one reply or time-up more
  abbrev leaves : Crate → List Step → Pass
  leaves k todo = pass todo 0 (failed_steps k.failed 10) (boards_of kind (entries_in k) k.rates) k.sent

  view-at : (k : Crate) (b code tries : ℕ) → k.sent < 65535
      → view kind w (placed k b code tries) ≡ pass (todo_at kind w b code) tries (failed_steps k.failed 10) (boards_of kind (entries_in k) k.rates) k.sent
  unfolding view placed
  view-at k b code tries r =
      ap (λ (n : ℕ). pass (todo_at kind w b code) tries (failed_steps k.failed 10) (boards_of kind (entries_in k) k.rates) n)
      (counted-placed k b code tries r)

  view-again : (k : Crate) → k.sent < 65535 → view kind w (placed k k.board k.code (k.tries + 1))
      ≡ pass (view kind w k).todo (k.tries + 1) (failed_steps k.failed 10) (boards_of kind (entries_in k) k.rates) k.sent
  unfolding view
  view-again k r = view-at k k.board k.code (k.tries + 1) r

  view-advanced : (k : Crate) → k.sent < 65535 → k.board < 10
      → view kind w (advanced kind w k) ≡ leaves k (steps_from kind w (10 - (k.board + 1)) (k.board + 1))
  unfolding advanced
  view-advanced k r h = view-at k (next_board kind w (k.board + 1)) (first_code kind) 0 r ∙ ap (leaves k) (next-board-todo kind w k.board h)

  pub stepped-low : (k : Crate) → k.code < 3 → stepped kind w k ≡ placed k k.board (k.code + 1) 0
  unfolding stepped
  stepped-low k h = rw (lt-ltb _ _ h)

  pub stepped-high : (k : Crate) → 3 ≤ k.code → stepped kind w k ≡ advanced kind w k
  unfolding stepped
  stepped-high k h = rw (le-ltb _ _ h)

  -- on to the next code of the same board, and to the next board
  view-low : (k : Crate) (code : ℕ) → k.sent < 65535 → k.code < 3 → k.code + 1 ≡ code → k.board < 10
      → view kind w (stepped kind w k) ≡ leaves k (step k.board code ∷ later kind w k.board code)
  view-low k code r l e h =
      ap (view kind w) (stepped-low k l ∙ ap (λ c. placed k k.board c 0) e)
      ∙ view-at k k.board code 0 r
      ∙ ap (leaves k) (todo-here kind w k.board code h)

  view-high : (k : Crate) → k.sent < 65535 → 3 ≤ k.code → k.board < 10
      → view kind w (stepped kind w k) ≡ leaves k (steps_from kind w (10 - (k.board + 1)) (k.board + 1))
  view-high k r l h = ap (view kind w) (stepped-high k l) ∙ view-advanced k r h

-- the next step is the first of those after the outstanding one
view-stepped : {kind : PassKind} {code : ℕ} → Code kind code → (w : ℕ) (k : Crate) → k.sent < 65535 → k.code ≡ code → k.board < 10
    → view kind w (stepped kind w k) ≡ leaves kind w k (later kind w k.board code)
view-stepped one w k r e h = view-low _ w k 2 r (omega arith) (omega arith) h
view-stepped two w k r e h = view-low _ w k 3 r (omega arith) (omega arith) h
view-stepped three w k r e h = view-high _ w k r (omega arith) h
view-stepped four w k r e h = view-high _ w k r (omega arith) h
view-stepped five w k r e h = view-high _ w k r (omega arith) h

-- a failed board gets a record, and its other steps are dropped
abbrev failed_pass : PassKind → ℕ → Crate → Pass
failed_pass kind w k =
    pass (others k.board (later kind w k.board k.code)) 0
    (failed_steps k.failed 10 ++ (step k.board k.code ∷ [])) (boards_of kind (entries_in k) k.rates) k.sent

view-marked : (kind : PassKind) (w : ℕ) (k : Crate) → k.sent < 65535 → k.board < 10
    → view kind w (advanced kind w (with_record k))
    ≡ pass (steps_from kind w (10 - (k.board + 1)) (k.board + 1)) 0 (failed_steps (set k.failed k.board k.code) 10)
    (boards_of kind (entries_in k) k.rates) k.sent
unfolding with_record
view-marked kind w k r h = view-advanced kind w (with_record k) r h

view-failed : (kind : PassKind) (w : ℕ) (k : Crate) → k.sent < 65535 → k.board < 10 → Fit kind k
    → view kind w (advanced kind w (with_record k)) ≡ failed_pass kind w k
view-failed kind w k r h fit =
    view-marked kind w k r h
    ∙ ap₂ (λ (todo failed : List Step). pass todo 0 failed (boards_of kind (entries_in k) k.rates) k.sent)
    (sym (others-later fit.code w k.board))
    (failed-set k.failed k.board k.code (rw fit.ten h) (nonzero fit.code) fit.clear 10 h)

-- ---- what the steps do with an event for the first of them

module _ (frame : Step → List ℕ) (e : Event) (lent : List ℕ) (p : Pass) (s : Step) (ss : List Step) where
  -- "19 whenever fewer than 28 bytes are lent"
  serve-short : length lent < 28 → serve_to frame e lent p (s ∷ ss) ≡ (refusal 19 lent, p)
  unfolding serve_to
  serve-short l = simp (lt-ltb _ _ l)

  module _ (l : 28 ≤ length lent) where
    -- "A good reply moves to the next step"
    serve-good : (judged (frame s) e).good ≡ true
        → serve_to frame e lent p (s ∷ ss)
        ≡ says frame Good lent (pass ss 0 p.failed (found_by s p.tries (judged (frame s) e) p.boards) (p.counted + 1))
    unfolding serve_to
    serve-good g = simp (le-ltb _ _ l, g)

    -- "after the third send of a step fails, the board gets a failure record and its other steps are dropped"
    serve-failed : (judged (frame s) e).good ≡ false → 2 ≤ p.tries
        → serve_to frame e lent p (s ∷ ss)
        ≡ says frame BoardFailed lent (pass (others s.board ss) 0 (p.failed ++ (s ∷ [])) p.boards (p.counted + 1))
    unfolding serve_to
    serve-failed g t = simp (le-ltb _ _ l, g, le-ltb _ _ t)

    -- "A bad reply, or a time-up, sends again"
    serve-again : (judged (frame s) e).good ≡ false → p.tries < 2
        → serve_to frame e lent p (s ∷ ss) ≡ says frame Again lent (pass (s ∷ ss) (p.tries + 1) p.failed p.boards (p.counted + 1))
    unfolding serve_to
    serve-again g t = simp (le-ltb _ _ l, g, lt-ltb _ _ t)

serve-none : (frame : Step → List ℕ) (e : Event) (lent : List ℕ) (p : Pass) → serve_to frame e lent p [] ≡ (refusal 12 lent, p)
unfolding serve_to
serve-none frame e lent p = refl

-- ---- a reply or a time-up on the crate is one on the pass

-- an answer, what the lent bytes then hold, and the frame of the crate as it then is
abbrev pub served_result : (Step → List ℕ) → List ℕ → Answer Outcome → Crate → Result
served_result frame lent a k =
    result_for (outcome_given a) (unless_refused a (handed_over (map frame (step_of k)) lent) lent) (map frame (step_of k))

module _ (frame : Step → List ℕ) (kind : PassKind) (w : ℕ) (lent : List ℕ) where
  -- what a crate gives that moved, and the pass that it then stands for
  abbrev gives : Moved → Result × Pass
  gives m = (served_result frame lent (given m.outcome) m.state, view kind w m.state)

  gives-outcome : (o : Bool → Outcome) (k : Crate) → gives (with_outcome o k) ≡ says frame o lent (view kind w k)
  gives-outcome o k = rw (view-none kind w k, view_first kind w k)

  -- a note in the list leaves the place alone
  abbrev good_pass : Crate → Judged → Pass
  good_pass k h =
      pass (later kind w k.board k.code) 0 (failed_steps k.failed 10)
      (found_by (step k.board k.code) k.tries h (boards_of kind (entries_in k) k.rates)) k.sent

  view-noted : (k : Crate) (h : Judged) → length h.rates ≡ 12 → k.sent < 65535 → k.board < 10 → Fit kind k
      → view kind w (stepped kind w (with_reply k h)) ≡ good_pass k h
  unfolding noted
  view-noted k h t r b fit =
      view-stepped fit.code w (with_reply k h) r refl b
      ∙ ap (λ (boards : List Found). pass (later kind w k.board k.code) 0 (failed_steps k.failed 10) boards k.sent)
      (boards-noted fit.code k h refl fit.low b fit.words t)

  -- a good reply
  follows-good : (k : Crate) (h : Judged) → length h.rates ≡ 12 → k.sent < 65535 → k.board < 10 → Fit kind k
      → gives (after_good_reply kind w k h) ≡ says frame Good lent (good_pass k h)
  unfolding after_good_reply
  follows-good k h t r b fit = gives-outcome Good (stepped kind w (with_reply k h)) ∙ ap (says frame Good lent) (view-noted k h t r b fit)

  -- a first or a second one that is not good, and a third
  abbrev again_pass : Crate → Pass
  again_pass k = pass (view kind w k).todo (k.tries + 1) (failed_steps k.failed 10) (boards_of kind (entries_in k) k.rates) k.sent

  follows-again : (k : Crate) → k.sent < 65535 → k.tries < 2 → gives (after_failed_send kind w k) ≡ says frame Again lent (again_pass k)
  unfolding after_failed_send
  follows-again k r t =
      rw (lt-ltb _ _ t) (gives-outcome Again (placed k k.board k.code (k.tries + 1)) ∙ ap (says frame Again lent) (view-again kind w k r))

  follows-failed : (k : Crate) → k.sent < 65535 → k.board < 10 → 2 ≤ k.tries → Fit kind k
      → gives (after_failed_send kind w k) ≡ says frame BoardFailed lent (failed_pass kind w k)
  unfolding after_failed_send
  follows-failed k r b t fit =
      rw (le-ltb _ _ t)
      (gives-outcome BoardFailed (advanced kind w (with_record k)) ∙ ap (says frame BoardFailed lent) (view-failed kind w k r b fit))

  moved-good : (k : Crate) (h : Judged) → h.good ≡ true → moved kind w k h ≡ after_good_reply kind w k h
  moved-good k h g = rw g

  moved-bad : (k : Crate) (h : Judged) → h.good ≡ false → moved kind w k h ≡ after_failed_send kind w k
  moved-bad k h g = rw g

  -- the step of the crate's place, and an event judged against it
  abbrev here : Crate → Step
  here k = step k.board k.code

  abbrev judged_by : Crate → Event → Judged
  judged_by k e = judged (frame (here k)) e

  -- what the steps give for it, where one more is then counted
  abbrev serves : Crate → Event → Pass → Result × Pass
  serves k e p = serve_to frame e lent p (here k ∷ later kind w k.board k.code)

  abbrev viewed : Crate → ℕ → Pass
  viewed k n = pass (todo_at kind w k.board k.code) k.tries (failed_steps k.failed 10) (boards_of kind (entries_in k) k.rates) n

  pub view-here : (k : Crate) → k.board < 10 → (view kind w k).todo ≡ here k ∷ later kind w k.board k.code
  unfolding view
  view-here k b = todo-here kind w k.board k.code b

  follows-moved : (k : Crate) (e : Event) (n : ℕ) → n + 1 ≡ k.sent → 28 ≤ length lent → k.sent < 65535 → k.board < 10 → Fit kind k
      → gives (moved kind w k (judged_by k e)) ≡ serves k e (viewed k n)
  unfolding view
  follows-moved k e n q l r b fit = go (judged_by k e).good (ltb k.tries 2) refl refl
    where
      rest : List Step
      rest = later kind w k.board k.code

      go : (t u : Bool) → (judged_by k e).good ≡ t → ltb k.tries 2 ≡ u → gives (moved kind w k (judged_by k e)) ≡ serves k e (viewed k n)
      go true u g x =
          ap gives (moved-good k (judged_by k e) g)
          ∙ follows-good k (judged_by k e) (twelve-judged (frame (here k)) e) r b fit
          ∙ ap (λ (m : ℕ). says frame Good lent (pass rest 0 (failed_steps k.failed 10)
          (found_by (here k) k.tries (judged_by k e) (boards_of kind (entries_in k) k.rates)) m)) (sym q)
          ∙ sym (serve-good frame e lent (viewed k n) (here k) rest l g)
      go false true g x =
          ap gives (moved-bad k (judged_by k e) g)
          ∙ follows-again k r (ltb-true _ _ x)
          ∙ ap₂ (λ (todo : List Step) (m : ℕ).
          says frame Again lent (pass todo (k.tries + 1) (failed_steps k.failed 10) (boards_of kind (entries_in k) k.rates) m)) (view-here k b) (sym q)
          ∙ sym (serve-again frame e lent (viewed k n) (here k) rest l g (ltb-true _ _ x))
      go false false g x =
          ap gives (moved-bad k (judged_by k e) g)
          ∙ follows-failed k r b (ltb-false _ _ x) fit
          ∙ ap (λ (m : ℕ). says frame BoardFailed lent (pass (others k.board rest) 0
          (failed_steps k.failed 10 ++ (here k ∷ [])) (boards_of kind (entries_in k) k.rates) m)) (sym q)
          ∙ sym (serve-failed frame e lent (viewed k n) (here k) rest l g (ltb-false _ _ x))

  -- what a crate gives for a judged event, done or not, and the pass that it then stands for
  abbrev serves_it : Crate → Judged → Result × Pass
  serves_it k h = (served_result frame lent (crate_answer kind w k h lent) (crate_after kind w k h lent), view kind w (crate_after kind w k h lent))

  abbrev both : Result → Pass → Result × Pass
  both r p = (r, p)

  -- refused, and served
  refused-it : (k : Crate) (h : Judged) (n : ℕ) → crate_answer kind w k h lent ≡ refused n 0 → serves_it k h ≡ (refusal n lent, view kind w k)
  refused-it k h n e =
      ap₂ (λ (a : Answer Outcome) (next : Crate). both (served_result frame lent a next) (view kind w next)) e (after-refused kind w k h lent n 0 e)

  served-it : (k : Crate) (h : Judged) → crate_answer kind w k h lent ≡ given (moved kind w k h).outcome → serves_it k h ≡ gives (moved kind w k h)
  served-it k h e =
      ap₂ (λ (a : Answer Outcome) (next : Crate). both (served_result frame lent a next) (view kind w next)) e
      (after-given kind w k h lent (moved kind w k h).outcome e)

  viewed-is : (k : Crate) → viewed k (counted_of k) ≡ view kind w k
  unfolding view
  viewed-is k = refl

  pub view-past : (k : Crate) → 10 ≤ k.board → (view kind w k).todo ≡ []
  unfolding view
  view-past k b = todo-done kind w k.board k.code b

  pub follows : (k : Crate) (e : Event) → Fit kind k → Numbered k
      → serves_it k (judged_by k e) ≡ serve_to frame e lent (view kind w k) (view kind w k).todo
  follows k e fit num = go (place k.board) (ltb (length lent) 28) refl
    where
      p : Pass
      p = view kind w k

      h : Judged
      h = judged_by k e

      rest : List Step
      rest = later kind w k.board k.code

      go : Place k.board → (t : Bool) → ltb (length lent) 28 ≡ t → serves_it k h ≡ serve_to frame e lent p p.todo
      go (past b) t x =
          refused-it k h 12 (answer-none kind w k h lent b)
          ∙ sym (ap (serve_to frame e lent p) (view-past k b) ∙ serve-none frame e lent p)
      go (at b) true x =
          refused-it k h 19 (answer-short kind w k h lent b (ltb-true _ _ x))
          ∙ sym (ap (serve_to frame e lent p) (view-here k b) ∙ serve-short frame e lent p (here k) rest (ltb-true _ _ x))
      go (at b) false x =
          served-it k h (answer-moved kind w k h lent b (ltb-false _ _ x))
          ∙ follows-moved k e (counted_of k) (counted-here k b num) (ltb-false _ _ x) num.room b fit
          ∙ ap (serves k e) (viewed-is k)
          ∙ sym (ap (serve_to frame e lent p) (view-here k b))
