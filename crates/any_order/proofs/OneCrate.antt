-- After the begin of a pass each crate does what the steps give for its own items alone (`alone`).
-- Assumes nothing.
use Prim.Native.Nat.{ℕ, ◌+◌, ◌<◌, ◌≤◌}
use mathlib.Core.Path.{◌≡◌, refl, sym, ap, ap₂, ◌∙◌, subst}
use mathlib.Core.List.{List, [], ◌∷◌, ◌++◌, map}
use native.Mathlib.Omega.{arith}
use lib.ListN.{length, get_or, length-append, length-map}
use borrow.Author.Tests.{le-ltb}
use Rattle.refusals.specs.Tables.{given}
use Rattle.steps.proofs.Lengths.{step-length}
use Rattle.crate_pass.specs.Crate.{entries_in, is_done}
use Rattle.crate_pass.specs.declared.PassKind.{PassKind}
use Rattle.crate_pass.specs.declared.PassKind.TheVariants.{Rates}
use Rattle.crate_pass.specs.declared.Crate.{Crate}
use Rattle.four_crates.specs.FourCrates.{no_crate, sent_on}
use Rattle.board.specs.State.{crate_at}
use Rattle.board.specs.SlowControl.{sent_answer}
use Rattle.board.specs.declared.Board.{Board}
use Rattle.cells.specs.Order.{only}
use Rattle.cells.proofs.Order.{only-take}
use Rattle.cells.proofs.Cells.{end, out, end_alone, out_alone, end-at, out_at}
use Rattle.any_order.specs.Steps.{Step, steps, fetch, Lending, rates_from, Pass, Result, first, none}
use Rattle.any_order.specs.AnyOrder.{Item, ItemResult, item_crate, result_crate, Begin, Accepted, start_of, kind_of, stored_block, word_of, begun_board}
use Rattle.any_order.specs.AnyOrder.{outstanding, results, final, frames_in, frames_on, accepted_in, most_frames, pass_results, pass_end}
use Rattle.any_order.specs.AnyOrder.{Seen, seen_of, handed_out_in, fetched_in, seen_on, first_fetched, EachIs}
use Rattle.any_order.specs.AnyOrder.{frame_on, pass_on, results_on, end_on, rates_on, Rising, step_of, Alone}
use Rattle.any_order.proofs.Kept.{failed_steps, failed-rising, boards_of, rates-found}
use Rattle.any_order.proofs.Follows.{view, view_first, view-none, view-begun}
use Rattle.any_order.proofs.Frames.{bound-sent, most-frames, frames-accepted, frames-handed, frames-fetched, fetched-begun}
use Rattle.any_order.proofs.Fetch.{frame_in, outstanding-step}
use Rattle.any_order.proofs.Served.{crate_step, no_such, end_cells, out_cells, final-cells, results-cells}
use Rattle.any_order.proofs.Runs.{run_end, run-results, run-runs, run-sent}
use Rattle.any_order.proofs.Begun.{begun_crates, base, base-with, start_is, four, crate_begun, crate-begun, sent-begun, runs-begun}

module _ (β : Board) (g : Begin) (a : Accepted β g) where
  abbrev pub start : Board
  start = start_of β g

  abbrev pub step_cells : ℕ → Crate → Lending → Result × Crate
  step_cells = crate_step (kind_of g) (stored_block β g)

  abbrev pub crates_after : List Item → List Crate
  crates_after xs = end no_crate step_cells no_such (begun_crates β g) xs

  -- ---- the board is its cells
  start-base : (cs : List Crate) (xs : List Item) → end_cells (base β g) cs xs ≡ end no_crate step_cells no_such cs xs
  unfolding begun_board
  start-base cs xs = refl

  base-out : (cs : List Crate) (xs : List Item) → out_cells (base β g) cs xs ≡ out no_crate step_cells no_such cs xs
  unfolding begun_board
  base-out cs xs = refl

  pub final-is : (ys : List Item) → final start ys ≡ begun_board β g (crates_after ys)
  final-is ys =
      ap (λ (γ : Board). final γ ys) (start_is β g a ∙ sym (base-with β g (begun_crates β g)))
      ∙ final-cells (base β g) (begun_crates β g) ys (four β g)
      ∙ base-with β g (end_cells (base β g) (begun_crates β g) ys)
      ∙ ap (begun_board β g) (start-base (begun_crates β g) ys)

  pub results-are : (ys : List Item) → results start ys ≡ out no_crate step_cells no_such (begun_crates β g) ys
  results-are ys =
      ap (λ (γ : Board). results γ ys) (start_is β g a ∙ sym (base-with β g (begun_crates β g)))
      ∙ results-cells (base β g) (begun_crates β g) ys (four β g)
      ∙ base-out (begun_crates β g) ys

  pub crates-are : (ys : List Item) → (final start ys).crates ≡ crates_after ys
  unfolding begun_board
  crates-are ys = ap (λ (γ : Board). γ.crates) (final-is ys)

  pub block-is : (ys : List Item) → (final start ys).block ≡ stored_block β g
  unfolding begun_board
  block-is ys = ap (λ (γ : Board). γ.block) (final-is ys)

  start-block : start.block ≡ stored_block β g
  unfolding begun_board
  start-block = ap (λ (γ : Board). γ.block) (start_is β g a)

  start-crate : (c : ℕ) → c < 4 → crate_at start c ≡ crate_begun β g c
  unfolding begun_board
  start-crate c h = ap (λ (γ : Board). crate_at γ c) (start_is β g a) ∙ crate-begun β g c h

  module _ (xs : List Item) (c : ℕ) (h : c < 4) where
    abbrev kind : PassKind
    kind = kind_of g

    abbrev word : ℕ
    word = word_of (stored_block β g) c

    abbrev frame : Step → List ℕ
    frame = frame_on β g c

    abbrev own : List Item
    own = only item_crate c xs

    abbrev first-crate : Crate
    first-crate = crate_begun β g c

    abbrev at-end : Crate
    at-end = crate_at (final start xs) c

    abbrev pass-end : Pass
    pass-end = end_on β g c xs

    there : c < length (begun_crates β g)
    there = subst (λ n. c < n) (sym (four β g)) h

    -- ---- the crate at the end stands for the pass at the end, and got what the pass got
    pub crate-is : at-end ≡ end_alone no_crate step_cells no_such c first-crate own
    crate-is =
        ap (λ (cs : List Crate). get_or cs c no_crate) (crates-are xs)
        ∙ end-at no_crate step_cells no_such c (begun_crates β g) xs there
        ∙ ap (λ (k : Crate). end_alone no_crate step_cells no_such c k own) (crate-begun β g c h)

    pub view-is : view kind word at-end ≡ pass-end
    view-is =
        ap (view kind word) crate-is
        ∙ run_end kind (stored_block β g) c first-crate own (runs-begun kind word (crate_at β c))
        ∙ ap (λ (p : Pass). pass_end frame p own) (view-begun kind word (crate_at β c))

    crate-results : only result_crate c (results start xs) ≡ out_alone no_crate step_cells no_such c first-crate own
    crate-results =
        ap (only result_crate c) (results-are xs)
        ∙ out_at no_crate step_cells no_such c (begun_crates β g) xs there
        ∙ ap (λ (k : Crate). out_alone no_crate step_cells no_such c k own) (crate-begun β g c h)

    answers-are : only result_crate c (results start xs) ≡ results_on β g c xs
    answers-are =
        crate-results
        ∙ run-results kind (stored_block β g) c first-crate own (runs-begun kind word (crate_at β c))
        ∙ ap (λ (p : Pass). pass_results frame p own) (view-begun kind word (crate_at β c))

    -- ---- what the crate keeps
    place_is : step_of at-end ≡ first pass-end.todo
    place_is = view_first kind word at-end ∙ ap (λ (p : Pass). first p.todo) view-is

    pub done-is : is_done at-end ≡ none pass-end.todo
    done-is = view-none kind word at-end ∙ ap (λ (p : Pass). none p.todo) view-is

    tries-is : at-end.tries ≡ pass-end.tries
    unfolding view
    tries-is = ap (λ (p : Pass). p.tries) view-is

    pub failed-is : failed_steps at-end.failed 10 ≡ pass-end.failed
    unfolding view
    failed-is = ap (λ (p : Pass). p.failed) view-is

    pub rising-is : Rising 0 pass-end.failed
    rising-is = subst (Rising 0) failed-is (failed-rising at-end.failed)

    pub boards-are : boards_of kind (entries_in at-end) at-end.rates ≡ pass-end.boards
    unfolding view
    boards-are = ap (λ (p : Pass). p.boards) view-is

    -- in a rate pass it has twelve words for each board
    pub words_are : kind ≡ Rates → length at-end.rates ≡ 120
    words_are e =
        ap (λ (k : Crate). length k.rates) crate-is
        ∙ (run-runs kind (stored_block β g) c first-crate own (runs-begun kind word (crate_at β c))).fit.words e

    rates-are : kind ≡ Rates → at-end.rates ≡ rates_on β g c xs
    rates-are e =
        sym (rates-found at-end.rates (words_are e))
        ∙ ap (λ (k : PassKind). rates_from (boards_of k (entries_in at-end) at-end.rates)) (sym e)
        ∙ ap rates_from boards-are

    -- ---- the frames
    first-sent : outstanding start c ≡ map frame (first (pass_on β g c).todo)
    first-sent =
        outstanding-step start c h
        ∙ ap₂ (λ (block : List ℕ) (k : Crate). map (frame_in block c) (step_of k)) start-block (start-crate c h)
        ∙ ap (map frame) (view_first kind word first-crate ∙ ap (λ (p : Pass). first p.todo) (view-begun kind word (crate_at β c)))

    frames-are : frames_on β g c xs ≡ map frame (first (pass_on β g c).todo) ++ frames_in (results_on β g c xs)
    frames-are = ap₂ ◌++◌ first-sent (ap frames_in answers-are)

    outstanding-is : outstanding (final start xs) c ≡ map frame (first pass-end.todo)
    outstanding-is =
        outstanding-step (final start xs) c h
        ∙ ap₂ (λ (block : List ℕ) (ss : List Step). map (frame_in block c) ss) (block-is xs) place_is

    -- ---- which are those that are handed out
    size : (s : Step) → length (frame s) ≡ 28
    size s = step-length (stored_block β g) c s.board s.code

    seen-is : seen_on β g c xs ≡ map seen_of (results_on β g c xs)
    seen-is = ap (map seen_of) answers-are

    fetched-is : EachIs (outstanding start c) (fetched_in (seen_on β g c xs))
    fetched-is =
        subst (λ (l : List Seen). EachIs (outstanding start c) (fetched_in l)) (sym seen-is)
        (subst (λ (one : List (List ℕ)). EachIs one (fetched_in (map seen_of (results_on β g c xs)))) (sym first-sent)
        (frames-fetched frame size (pass_on β g c).todo (pass_on β g c) own (λ z. refl)))

    -- ---- their number
    frames-number : length (frames_on β g c xs) ≡ at-end.sent
    frames-number =
        omega (
          arith,
          length-append (outstanding start c) (frames_in (only result_crate c (results start xs))),
          ap length first-sent,
          length-map (first (pass_on β g c).todo) frame,
          ap (λ (ts : List ItemResult). length (frames_in ts)) crate-results,
          sent-begun kind word (crate_at β c),
          run-sent kind (stored_block β g) c first-crate own (runs-begun kind word (crate_at β c)),
          ap (λ (k : Crate). k.sent) crate-is,
        )

    number_is : sent_answer (final start xs) c ≡ given (length (frames_on β g c xs))
    unfolding sent_on
    number_is = let l : c ≤ 3 = omega arith in rw (le-ltb _ _ l) (ap given (sym frames-number))

    counted_is : length (frames_on β g c xs) ≡ accepted_in (only result_crate c (results start xs)) + length (outstanding (final start xs) c)
    counted_is =
        omega (
          arith,
          length-append (map frame (first (pass_on β g c).todo)) (frames_in (results_on β g c xs)),
          ap length frames-are,
          length-map (first (pass_on β g c).todo) frame,
          frames-accepted frame (pass_on β g c) own,
          ap accepted_in answers-are,
          ap length outstanding-is,
          length-map (first pass-end.todo) frame,
        )

    bounded-is : length (frames_on β g c xs) ≤ most_frames kind word
    bounded-is =
        omega (
          arith,
          frames-number,
          ap (λ (k : Crate). k.sent) crate-is,
          bound-sent (length (steps kind word)) (end_alone no_crate step_cells no_such c first-crate own).sent
              (view kind word (end_alone no_crate step_cells no_such c first-crate own))
              (run-runs kind (stored_block β g) c first-crate own (runs-begun kind word (crate_at β c))).bound,
          most-frames kind word,
        )

  -- a fetch as the pass begins
  first-fetched : (c : ℕ) (h : c < 4) (lent : List ℕ) → 28 ≤ length lent → first_fetched β g c lent ≡ outstanding start c
  unfolding only
  first-fetched c h lent l =
      ap fetched_in (seen-is ((c, (fetch, lent)) ∷ []) c h)
      ∙ ap (λ (ys : List Item). fetched_in (map seen_of (pass_results (frame_on β g c) (pass_on β g c) ys))) (only-take item_crate c (c, (fetch, lent)) [] refl)
      ∙ fetched-begun (frame_on β g c) (size [] c h) (kind_of g) c lent (pass_on β g c).todo l
      ∙ sym (first-sent [] c h)

  pub alone : (xs : List Item) (c : ℕ) → c < 4 → Alone β g c xs
  alone xs c h =
      record {
        answers = answers-are xs c h;
        frames = frames-are xs c h;
        handed = λ lent l.
            ap₂ ◌++◌ (sym (first-fetched c h lent l))
            (ap frames_in (answers-are xs c h)
            ∙ sym (frames-handed (frame_on β g c) (size xs c h) (pass_on β g c) (only item_crate c xs))
            ∙ ap handed_out_in (sym (seen-is xs c h)));
        fetched = fetched-is xs c h;
        place = place_is xs c h;
        tries = tries-is xs c h;
        frame = outstanding-is xs c h;
        number = number_is xs c h;
        counted = counted_is xs c h;
        bounded = bounded-is xs c h;
        rising = rising-is xs c h;
        rates = rates-are xs c h;
      }
