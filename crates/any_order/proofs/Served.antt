-- The board's crates are cells that do not see each other (`final-cells`, `results-cells`).
-- Assumes nothing.
use Prim.Native.Nat.{ℕ, ◌<◌, ◌≤◌}
use mathlib.Core.Path.{◌≡◌, refl, sym, ap, ap₂, ◌∙◌}
use mathlib.Core.List.{List, [], ◌∷◌, ◌++◌, map}
use mathlib.Core.Bool.{Bool, true, false, cond, ◌||◌}
use native.Mathlib.Omega.{arith}
use lib.Dec.{ltb}
use lib.ListN.{length, get_or, set, drop}
use lib.Seq.{get_or-set_same, set-get_or}
use borrow.Author.Tests.{le-ltb, lt-ltb}
use Rattle.refusals.specs.Tables.{Answer, given, refused}
use Rattle.refusals.specs.Writing.{output_after, writing_by, writing_rules, writing}
use Rattle.configuration.specs.Configuration.{active_word}
use Rattle.steps.specs.Steps.{step_frame}
use Rattle.steps.proofs.Lengths.{step-length}
use Rattle.crate_pass.specs.Crate.{is_done, moved, unless_refused, frame_due}
use Rattle.crate_pass.specs.declared.PassKind.{PassKind}
use Rattle.crate_pass.specs.declared.Outcome.{Outcome}
use Rattle.crate_pass.specs.declared.Crate.{Crate}
use Rattle.crate_pass.proofs.Serving.{due-here, due-none}
use Rattle.crate_pass.proofs.Answered.{crate_answer, crate_after}
use Rattle.four_crates.specs.FourCrates.{no_crate}
use Rattle.board.specs.State.{crate_at, with_crates}
use Rattle.board.specs.SlowControl.{frame_at, fetch_rules}
use Rattle.board.specs.declared.Board.{Board}
use Rattle.any_order.specs.Steps.{Event, judged, Request, hand_in, fetch, Lending, Given, first_frame, Result, refusal, handed_over}
use Rattle.any_order.specs.AnyOrder.{Item, ItemResult, item_crate, first_given, outcome_given, board_after_request, after_item, judged_on}
use Rattle.any_order.specs.AnyOrder.{outstanding, sent_after, result_for, result_of, results, final, step_of}
use Rattle.cells.proofs.Order.{Side, low, high, side}
use Rattle.cells.proofs.Cells.{one, end, out, one-high, one-low, one-length}
use Rattle.board.proofs.Serving.{answer-high, board-high, bytes-refused, answer-low, board-low, bytes_low}
use Rattle.any_order.proofs.Places.{Place, at, past, place}
use Rattle.any_order.proofs.Sent.{step-here, step-none}
use Rattle.any_order.proofs.Follows.{served_result}
use Rattle.any_order.proofs.Fetch.{frame_in, outstanding-step, fetch_answer, fetch_result}

-- what crate c gives for a request, in a pass of the kind with the stored block, and what it is then
unfoldable pub crate_next : PassKind → List ℕ → ℕ → Crate → Event → List ℕ → Crate
crate_next kind block c k e lent = crate_after kind (active_word block c) k (judged (step_frame block c k.board k.code) e) lent

abbrev pub serving : PassKind → List ℕ → ℕ → Crate → Request → List ℕ → Result × Crate
serving kind block c k (hand_in e) lent = (
  served_result (frame_in block c) lent
      (crate_answer kind (active_word block c) k (judged (step_frame block c k.board k.code) e) lent)
      (crate_next kind block c k e lent),
  crate_next kind block c k e lent,
)
serving kind block c k fetch lent = (fetch_result (frame_in block c) lent k, k)

unfoldable pub crate_step : PassKind → List ℕ → ℕ → Crate → Lending → Result × Crate
crate_step kind block c k x = serving kind block c k x.0 x.1

-- there is no such crate
abbrev pub no_such : Lending → Result
no_such x = refusal 11 x.1

-- ---- one request, on a crate up to 3 and above

module _ (β : Board) (cs : List Crate) (c : ℕ) where
  abbrev γ : Board
  γ = with_crates β cs

  abbrev own : Crate
  own = get_or cs c no_crate

  frame-size : length (frame_at γ c) ≡ 28
  unfolding frame_at
  frame-size = step-length γ.block c (crate_at γ c).board (crate_at γ c).code

  -- a fetch above 3
  fetch-high : (lent : List ℕ) → 4 ≤ c → writing (fetch_rules γ c) (frame_at γ c) lent ≡ refused 11 0
  unfolding writing_by writing_rules
  fetch-high lent h = let l : 3 < c = omega arith in rw (lt-ltb _ _ l)

  -- and up to 3, by whether the first frame is still to be had, and whether too few bytes are lent
  fetch-low : (lent : List ℕ) → c < 4 → first_given (writing (fetch_rules γ c) (frame_at γ c) lent) ≡ fetch_answer (crate_at γ c) lent
  unfolding writing_by writing_rules fetch_answer
  fetch-low lent h =
      let l : c ≤ 3 = omega arith in
      rw (le-ltb _ _ l, frame-size) (go (is_done (crate_at γ c) || ltb 1 (crate_at γ c).sent) (ltb (length lent) 28))
    where
      go : (t v : Bool) → first_given (cond t (refused 12 0) (cond v (refused 19 0) (given 28)))
          ≡ cond t (refused 12 0) (cond v (refused 19 0) (given first_frame))
      go true v = refl
      go false true = refl
      go false false = refl

  -- what the fetch leaves in the lent bytes goes by its answer
  written_after : (a : Answer ℕ) (f lent : List ℕ) → output_after a f lent ≡ output_after (first_given a) f lent
  written_after (given n) f lent = refl
  written_after (refused n p) f lent = refl

  -- it sends no frame
  sent-none : (a : Answer ℕ) (frames : List (List ℕ)) → sent_after (first_given a) frames ≡ []
  sent-none (given n) frames = refl
  sent-none (refused n p) frames = refl

  -- ---- a reply or a time-up on a crate up to 3

  -- the lent bytes hold the frame of the crate as it then is
  due-handed : (block : List ℕ) (k : Crate) (lent : List ℕ)
      → frame_due block c k ++ drop (length (frame_due block c k)) lent ≡ handed_over (map (frame_in block c) (step_of k)) lent
  due-handed block k lent = go (place k.board)
    where
      go : Place k.board → frame_due block c k ++ drop (length (frame_due block c k)) lent ≡ handed_over (map (frame_in block c) (step_of k)) lent
      go (at b) =
          rw (due-here block c k b, step-here k b)
          (ap (λ (n : ℕ). step_frame block c k.board k.code ++ drop n lent) (step-length block c k.board k.code))
      go (past b) = rw (due-none block c k b, step-none k b)

  bytes-handed : (block : List ℕ) (a : Answer Outcome) (m k : Crate) (lent : List ℕ)
      → output_after a (frame_due block c m) lent
      ≡ unless_refused a (handed_over (map (frame_in block c) (step_of (unless_refused a m k))) lent) lent
  bytes-handed block (given o) m k lent = due-handed block m lent
  bytes-handed block (refused n p) m k lent = refl

  sent-after : (k : Crate) → c < 4 → c < length cs → outstanding (with_crates β (set cs c k)) c ≡ map (frame_in β.block c) (step_of k)
  unfolding with_crates
  sent-after k h l =
      outstanding-step (with_crates β (set cs c k)) c h ∙ ap (λ q. map (frame_in β.block c) (step_of q)) (get_or-set_same cs c k no_crate l)

-- ---- the board's crates are cells

-- a result with an answer, bytes and frames that are the same
same-result : {a b : Answer Given} {bytes bytes' : List ℕ} {frames frames' : List (List ℕ)} → a ≡ b → bytes ≡ bytes' → frames ≡ frames'
    → result_for a bytes frames ≡ result_for b bytes' frames'
same-result ea eb ef = λ i. result_for (ea i) (eb i) (ef i)

module _ (β : Board) where
  abbrev pub step : ℕ → Crate → Lending → Result × Crate
  step = crate_step β.kind β.block

  abbrev pub one_cell : List Crate → Item → Result × List Crate
  one_cell = one no_crate step no_such

  abbrev pub end_cells : List Crate → List Item → List Crate
  end_cells = end no_crate step no_such

  abbrev pub out_cells : List Crate → List Item → List ItemResult
  out_cells = out no_crate step no_such

  module _ (cs : List Crate) (c : ℕ) where
    -- the state after a request: on no crate, and on one
    after-high : (request : Request) (lent : List ℕ) → 4 ≤ c → board_after_request (with_crates β cs) c request lent ≡ with_crates β cs
    after-high (hand_in e) lent h = board-high (with_crates β cs) c (judged_on (with_crates β cs) c e) lent (omega arith)
    after-high fetch lent h = refl

    after-low : (request : Request) (lent : List ℕ) → c < 4
        → board_after_request (with_crates β cs) c request lent ≡ with_crates β (set cs c (serving β.kind β.block c (get_or cs c no_crate) request lent).1)
    unfolding with_crates crate_next frame_at
    after-low (hand_in e) lent h = board-low (with_crates β cs) c (judged_on (with_crates β cs) c e) lent (omega arith)
    after-low fetch lent h = sym (ap (with_crates β) (set-get_or cs c no_crate))

    -- what it gets
    result-high : (request : Request) (lent : List ℕ) → 4 ≤ c → result_of (with_crates β cs) (c, (request, lent)) ≡ refusal 11 lent
    unfolding result_of
    result-high (hand_in e) lent h =
        let g = judged_on (with_crates β cs) c e in
        let q = answer-high (with_crates β cs) c g lent (omega arith) in
        same-result (ap outcome_given q) (bytes-refused (with_crates β cs) c g lent 11 0 q) refl
    result-high fetch lent h =
        let q = fetch-high β cs c lent h in
        same-result (ap first_given q) (ap (λ (a : Answer ℕ). output_after a (frame_at (with_crates β cs) c) lent) q) refl

    result_low : (request : Request) (lent : List ℕ) → c < 4 → c < length cs
        → result_of (with_crates β cs) (c, (request, lent)) ≡ (serving β.kind β.block c (get_or cs c no_crate) request lent).0
    unfolding result_of with_crates crate_next crate_after frame_at
    result_low (hand_in e) lent h l =
        let γ = with_crates β cs in
        let g = judged_on γ c e in
        let w = active_word β.block c in
        let k = get_or cs c no_crate in
        same-result
        (ap outcome_given (answer-low γ c g lent (omega arith)))
        (bytes_low γ c g lent (omega arith) ∙ bytes-handed β cs c β.block (crate_answer β.kind w k g lent) (moved β.kind w k g).state k lent)
        (ap (λ b. outstanding b c) (board-low γ c g lent (omega arith)) ∙ sent-after β cs c _ h l)
    result_low fetch lent h l =
        let γ = with_crates β cs in
        let a = writing (fetch_rules γ c) (frame_at γ c) lent in
        ap (λ (fs : List (List ℕ)). record { answer = first_given a; bytes = output_after a (frame_at γ c) lent; frames = fs })
        (sent-none β cs c a (outstanding γ c) ∙ sym (sent-none β cs c a []))
        ∙ same-result (fetch-low β cs c lent h)
        (written_after β cs c a (frame_at γ c) lent ∙ ap (λ (x : Answer Given). output_after x (frame_at γ c) lent) (fetch-low β cs c lent h)) refl

  cell-board : (cs : List Crate) (x : Item) → length cs ≡ 4 → after_item (with_crates β cs) x ≡ with_crates β (one_cell cs x).1
  unfolding crate_step
  cell-board cs x n = go (side item_crate (length cs) x)
    where
      go : Side item_crate (length cs) x → after_item (with_crates β cs) x ≡ with_crates β (one_cell cs x).1
      go (high h) =
          after-high cs x.0 x.1.0 x.1.1 (omega arith)
          ∙ ap (λ (p : Result × List Crate). with_crates β p.1) (sym (one-high no_crate step no_such cs x h))
      go (low h) =
          after-low cs x.0 x.1.0 x.1.1 (omega arith)
          ∙ ap (λ (p : Result × List Crate). with_crates β p.1) (sym (one-low no_crate step no_such cs x h))

  cell_out : (cs : List Crate) (x : Item) → length cs ≡ 4 → result_of (with_crates β cs) x ≡ (one_cell cs x).0
  unfolding crate_step
  cell_out cs x n = go (side item_crate (length cs) x)
    where
      go : Side item_crate (length cs) x → result_of (with_crates β cs) x ≡ (one_cell cs x).0
      go (high h) =
          result-high cs x.0 x.1.0 x.1.1 (omega arith)
          ∙ ap (λ (p : Result × List Crate). p.0) (sym (one-high no_crate step no_such cs x h))
      go (low h) =
          result_low cs x.0 x.1.0 x.1.1 (omega arith) h
          ∙ ap (λ (p : Result × List Crate). p.0) (sym (one-low no_crate step no_such cs x h))

  cell-length : (cs : List Crate) (x : Item) → length cs ≡ 4 → length (one_cell cs x).1 ≡ 4
  cell-length cs x n = one-length no_crate step no_such cs x ∙ n

  pub final-cells : (cs : List Crate) (xs : List Item) → length cs ≡ 4 → final (with_crates β cs) xs ≡ with_crates β (end_cells cs xs)
  unfolding final end
  final-cells cs [] n = refl
  final-cells cs (x ∷ xs) n = ap (λ b. final b xs) (cell-board cs x n) ∙ final-cells (one_cell cs x).1 xs (cell-length cs x n)

  pub results-cells : (cs : List Crate) (xs : List Item) → length cs ≡ 4 → results (with_crates β cs) xs ≡ out_cells cs xs
  unfolding results out
  results-cells cs [] n = refl
  results-cells cs (x ∷ xs) n =
      ap₂ (λ (o : Result) (l : List ItemResult). (x, o) ∷ l) (cell_out cs x n)
      (ap (λ b. results b xs) (cell-board cs x n) ∙ results-cells (one_cell cs x).1 xs (cell-length cs x n))
