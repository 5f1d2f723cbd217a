-- Demand 3 (`demand-3`): after an accepted write, ping or begin of a rate pass, any order of replies, time-ups and fetches of first frames gets what the
-- crates get one by one.
-- Assumes nothing.
use Prim.Native.Nat.{ℕ, ◌<◌}
use mathlib.Core.Path.{◌≡◌, refl, sym, ap, ap₂, ◌∙◌, subst}
use mathlib.Core.List.{List, [], ◌∷◌, ◌++◌}
use mathlib.Core.Bool.{Bool, true, false, not, ◌&&◌}
use Rattle.run.specs.Run.{is_running}
use Rattle.crate_pass.specs.declared.Crate.{Crate}
use Rattle.four_crates.specs.FourCrates.{no_crate}
use Rattle.board.specs.State.{is_idle}
use Rattle.board.specs.declared.Board.{Board}
use Rattle.cells.specs.Order.{only, from, ordered}
use Rattle.cells.proofs.Order.{only-ordered}
use Rattle.cells.proofs.Cells.{turned, in-order-out, in-order-end, out-from, out, end}
use Rattle.any_order.specs.Steps.{Lending, Result}
use Rattle.any_order.specs.AnyOrder.{Item, ItemResult, item_crate, result_crate, Begin, Accepted, start_of, runs_as_before, begun_board}
use Rattle.any_order.specs.AnyOrder.{outstanding, results, final, frames_in, frames_on, all_done, refused_all, AnyOrder}
use Rattle.any_order.proofs.Served.{no_such}
use Rattle.any_order.proofs.Begun.{begun_crates, four, start_is, runs-as-before}
use Rattle.any_order.proofs.OneCrate.{step_cells, final-is, results-are, crates-are, alone}
use Rattle.any_order.proofs.SentOut.{in-pass, failures-are, records-given, records-most, list-is, list-given, list-begun}
use Rattle.any_order.proofs.RatesOut.{rates-given, rates-held}

turned-refused : (f : ℕ → Crate → Lending → Result × Crate) (xs : List Item) → turned no_crate f no_such xs ≡ refused_all xs
unfolding turned refused_all
turned-refused f [] = refl
turned-refused f (x ∷ xs) = ap (λ (l : List ItemResult). (x, no_such x.1) ∷ l) (turned-refused f xs)

double-not : (t : Bool) → not (not t) ≡ t
double-not true = refl
double-not false = refl

module _ (β : Board) (g : Begin) (a : Accepted β g) (xs : List Item) where
  abbrev start : Board
  start = start_of β g

  abbrev second : List Item
  second = ordered item_crate 4 xs

  abbrev cs : List Crate
  cs = begun_crates β g

  abbrev step : ℕ → Crate → Lending → Result × Crate
  step = step_cells β g a

  -- the same answers, bytes and frames, and the same state
  answers-are : results start second ≡ ordered result_crate 4 (results start xs)
  answers-are =
      results-are β g a second
      ∙ subst (λ n. out no_crate step no_such cs (ordered item_crate n xs) ≡ ordered result_crate n (out no_crate step no_such cs xs)) (four β g)
      (in-order-out no_crate step no_such cs xs)
      ∙ ap (ordered result_crate 4) (sym (results-are β g a xs))

  state-is : final start second ≡ final start xs
  state-is =
      final-is β g a second
      ∙ ap (begun_board β g) (subst (λ n. end no_crate step no_such cs (ordered item_crate n xs) ≡ end no_crate step no_such cs xs) (four β g)
      (in-order-end no_crate step no_such cs xs))
      ∙ sym (final-is β g a xs)

  -- the items for no crate
  above-are : from result_crate 4 (results start xs) ≡ refused_all (from item_crate 4 xs)
  above-are =
      ap (from result_crate 4) (results-are β g a xs)
      ∙ subst (λ n. from result_crate n (out no_crate step no_such cs xs) ≡ turned no_crate step no_such (from item_crate n xs)) (four β g)
      (out-from no_crate step no_such cs xs)
      ∙ turned-refused step (from item_crate 4 xs)

  -- the same frames
  frames-are : (c : ℕ) → c < 4 → frames_on β g c second ≡ frames_on β g c xs
  frames-are c h =
      ap (λ (ts : List ItemResult). outstanding start c ++ frames_in ts)
      (ap (only result_crate c) answers-are ∙ only-ordered result_crate c 4 (results start xs) h)

  -- the state that the command returned
  start-kept : start ≡ begun_board β g start.crates
  unfolding begun_board
  start-kept = start_is β g a ∙ ap (begun_board β g) (sym (ap (λ (γ : Board). γ.crates) (start_is β g a)))

  -- nothing but the crates changes
  rest-is : final start xs ≡ begun_board β g (final start xs).crates
  rest-is = final-is β g a xs ∙ ap (begun_board β g) (sym (crates-are β g a xs))

  -- a run is on as before, and the board is idle once all four are done and none is
  running-is : is_running (final start xs).run ≡ runs_as_before β g
  running-is = ap (λ (γ : Board). is_running γ.run) (final-is β g a xs) ∙ runs-as-before β g a _

  idle-is : is_idle (final start xs) ≡ (not (runs_as_before β g) && all_done β g xs)
  idle-is =
      ap₂ (λ r p. not r && not p) running-is (in-pass β g a xs)
      ∙ ap (λ (d : Bool). not (runs_as_before β g) && d) (double-not (all_done β g xs))

-- whatever board, whatever accepted begin of a pass, and whatever comes then
pub demand-3 : (β : Board) (g : Begin) → Accepted β g → (xs : List Item) → AnyOrder β g xs
demand-3 β g a xs =
    record {
      start = start-kept β g a xs;
      begun-list = list-begun β g a;
      answers = answers-are β g a xs;
      frames = frames-are β g a xs;
      state = state-is β g a xs;
      alone = alone β g a xs;
      above = above-are β g a xs;
      records = records-given β g a xs;
      records-most = records-most β g a xs;
      records-kept = failures-are β g a xs;
      list = list-given β g a xs;
      list-kept = list-is β g a xs;
      rates = rates-given β g a xs;
      rates-kept = rates-held β g a xs;
      rest = rest-is β g a xs;
      running = running-is β g a xs;
      idle = idle-is β g a xs;
    }
