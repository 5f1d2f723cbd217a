-- 02, i: what comes between the items of a pass does not matter to them, nor they to it (`nothing-between`). Items change the crates alone, and are
-- answered by the kind of pass, the block and the crates; triggers, clock steps and stops change the run alone, and are answered by it.
-- Assumes nothing.
use Prim.Native.Nat.{ℕ}
use mathlib.Core.Path.{◌≡◌, refl, sym, ap, ap₂, ◌∙◌, subst}
use mathlib.Core.Bool.{Bool, true, false, cond}
use mathlib.Core.List.{List, [], ◌∷◌}
use lib.ListN.{set}
use Rattle.refusals.specs.Tables.{Answer, given, refused}
use Rattle.commands.specs.declared.Command.TheVariants.{Stop}
use Rattle.command_reader.specs.Reading.{block_of}
use Rattle.run.specs.Run.{is_running, stopped, clocked_run, trigger_answer, after_answer}
use Rattle.run.specs.declared.Run.{Run}
use Rattle.crate_pass.specs.Crate.{unless_refused}
use Rattle.crate_pass.specs.declared.Outcome.{Outcome}
use Rattle.board.specs.State.{with_run, with_crates}
use Rattle.board.specs.Commands.{after_command, board_after}
use Rattle.board.specs.SlowControl.{frame_at, moved_at, reply_answer, board_replied, bytes_replied}
use Rattle.board.specs.declared.Board.{Board}
use Rattle.board.specs.declared.Identity.{Identity}
use Rattle.blocks.specs.declared.Header.{Header}
use Rattle.steps.specs.declared.Judged.{Judged}
use Rattle.any_order.specs.Steps.{Request, hand_in, fetch, Given, Result}
use Rattle.any_order.specs.AnyOrder.{Item, ItemResult, judged_on, answer_for, bytes_for, board_after_request, after_item, outstanding}
use Rattle.any_order.specs.AnyOrder.{result_for, result_of, results, final}
use Rattle.reachable.specs.Between.{Other, trigger, clock_step, stop, stop_words, after_other, OtherResult, other_result}
use Rattle.reachable.specs.Between.{Act, item, other, after_acts, item_results, other_results, items_in, others_in, NothingBetween}
use Rattle.reachable.specs.Stays.{PassStays}
use Rattle.reachable.proofs.OneCall.{replied-run, replied-identity}
use Rattle.reachable.proofs.PassStays.{stays-run}
use Rattle.reachable.proofs.Stops.{stop_answer, stop-answer}

-- ---- the others, on the run alone

-- a stop ends a run, where one is on
abbrev run_after : Run → Other → Run
run_after r (trigger f out) = after_answer r (trigger_answer r f out)
run_after r (clock_step ticks) = clocked_run r ticks
run_after r (stop after) = cond (is_running r) (stopped r) r

stop-after : (β : Board) (after : List ℕ) → board_after β (stop_words after) ≡ with_run β (run_after β.run (stop after))
unfolding with_run
stop-after β after = ap (after_command β (block_of (stop_words after))) (stop-answer β after) ∙ go (is_running β.run)
  where
    go : (t : Bool) → after_command β (block_of (stop_words after)) (cond t (given Stop) (refused 9 0)) ≡ with_run β (cond t (stopped β.run) β.run)
    go true = refl
    go false = refl

other_after : (β : Board) (o : Other) → after_other β o ≡ with_run β (run_after β.run o)
other_after β (trigger f out) = refl
other_after β (clock_step ticks) = refl
other_after β (stop after) = stop-after β after

-- what one gets is by the run
other-same : (β γ : Board) (o : Other) → β.run ≡ γ.run → other_result β o ≡ other_result γ o
unfolding other_result
other-same β γ (trigger f out) e = rw e
other-same β γ (clock_step ticks) e = refl
other-same β γ (stop after) e =
    ap OtherResult.stopped (stop-answer β after ∙ ap stop_answer e ∙ sym (stop-answer γ after))

-- ---- the items, whatever the run

module _ (β : Board) (r : Run) where
  replied-after : (c : ℕ) (h : Judged) (lent : List ℕ) → board_replied (with_run β r) c h lent ≡ with_run (board_replied β c h lent) r
  unfolding board_replied with_run with_crates
  replied-after c h lent = go (reply_answer β c h lent)
    where
      next : Board
      next = with_crates β (set β.crates c (moved_at β c h).state)

      go : (a : Answer Outcome) → unless_refused a (with_run next r) (with_run β r) ≡ with_run (unless_refused a next β) r
      go (given o) = refl
      go (refused n p) = refl

  request-after : (c : ℕ) (request : Request) (lent : List ℕ)
      → board_after_request (with_run β r) c request lent ≡ with_run (board_after_request β c request lent) r
  unfolding frame_at with_run
  request-after c (hand_in e) lent = replied-after c (judged_on β c e) lent
  request-after c fetch lent = refl

  item-after : (x : Item) → after_item (with_run β r) x ≡ with_run (after_item β x) r
  item-after x = request-after x.0 x.1.0 x.1.1

  request-answer : (c : ℕ) (request : Request) (lent : List ℕ) → answer_for (with_run β r) c request lent ≡ answer_for β c request lent
  unfolding frame_at with_run
  request-answer c (hand_in e) lent = refl
  request-answer c fetch lent = refl

  request-bytes : (c : ℕ) (request : Request) (lent : List ℕ) → bytes_for (with_run β r) c request lent ≡ bytes_for β c request lent
  unfolding frame_at bytes_replied with_run
  request-bytes c (hand_in e) lent = refl
  request-bytes c fetch lent = refl

  frames-same : (c : ℕ) → outstanding (with_run β r) c ≡ outstanding β c
  unfolding outstanding frame_at with_run
  frames-same c = refl

item-result : (β : Board) (r : Run) (x : Item) → result_of (with_run β r) x ≡ result_of β x
unfolding result_of
item-result β r x =
    let c = x.0 in
    let lent = x.1.1 in
    ap₂ (λ (a : Answer Given) (b : List ℕ). result_for a b (outstanding (after_item (with_run β r) x) c))
    (request-answer β r c x.1.0 lent) (request-bytes β r c x.1.0 lent)
    ∙ ap (λ (fs : List (List ℕ)). result_for (answer_for β c x.1.0 lent) (bytes_for β c x.1.0 lent) fs)
    (ap (λ (γ : Board). outstanding γ c) (item-after β r x) ∙ frames-same (after_item β x) r c)

-- they leave it
request-run : (β : Board) (c : ℕ) (request : Request) (lent : List ℕ) → (board_after_request β c request lent).run ≡ β.run
request-run β c (hand_in e) lent = replied-run β c (judged_on β c e) lent
request-run β c fetch lent = refl

item-run : (β : Board) (x : Item) → (after_item β x).run ≡ β.run
item-run β x = request-run β x.0 x.1.0 x.1.1

-- ---- both in one sequence

-- one of the others on a board with another run
other-on : (β : Board) (r : Run) (o : Other) → after_other (with_run β r) o ≡ with_run β (run_after r o)
unfolding with_run
other-on β r o = other_after (with_run β r) o

runs : Run → List Act → Run
runs r [] = r
runs r (item x ∷ acts) = runs r acts
runs r (other o ∷ acts) = runs (run_after r o) acts

acts-items : (β : Board) (r : Run) (acts : List Act) → item_results (with_run β r) acts ≡ results β (items_in acts)
unfolding item_results results items_in
acts-items β r [] = refl
acts-items β r (item x ∷ acts) =
    ap₂ (λ (o : Result) (l : List ItemResult). (x, o) ∷ l) (item-result β r x)
    (ap (λ (γ : Board). item_results γ acts) (item-after β r x) ∙ acts-items (after_item β x) r acts)
acts-items β r (other o ∷ acts) = ap (λ (γ : Board). item_results γ acts) (other-on β r o) ∙ acts-items β (run_after r o) acts

acts-end : (β : Board) (r : Run) (acts : List Act) → after_acts (with_run β r) acts ≡ with_run (final β (items_in acts)) (runs r acts)
unfolding after_acts final items_in runs
acts-end β r [] = refl
acts-end β r (item x ∷ acts) = ap (λ (γ : Board). after_acts γ acts) (item-after β r x) ∙ acts-end (after_item β x) r acts
acts-end β r (other o ∷ acts) = ap (λ (γ : Board). after_acts γ acts) (other-on β r o) ∙ acts-end β (run_after r o) acts

-- the others, on two boards with the same run
other-run : (β γ : Board) (o : Other) → β.run ≡ γ.run → (after_other β o).run ≡ (after_other γ o).run
unfolding with_run
other-run β γ o e =
    ap (λ (δ : Board). δ.run) (other_after β o) ∙ ap (λ (r : Run). run_after r o) e ∙ sym (ap (λ (δ : Board). δ.run) (other_after γ o))

acts-others : (β γ : Board) (acts : List Act) → β.run ≡ γ.run → other_results β acts ≡ other_results γ (others_in acts)
unfolding other_results others_in
acts-others β γ [] e = refl
acts-others β γ (item x ∷ acts) e = acts-others (after_item β x) γ acts (item-run β x ∙ e)
acts-others β γ (other o ∷ acts) e =
    ap₂ (λ (a : OtherResult) (l : List (Other × OtherResult)). (o, a) ∷ l) (other-same β γ o e)
    (acts-others (after_other β o) (after_other γ o) acts (other-run β γ o e))

acts-run : (β γ : Board) (acts : List Act) → β.run ≡ γ.run → (after_acts β acts).run ≡ (after_acts γ (others_in acts)).run
unfolding after_acts others_in
acts-run β γ [] e = e
acts-run β γ (item x ∷ acts) e = acts-run (after_item β x) γ acts (item-run β x ∙ e)
acts-run β γ (other o ∷ acts) e = acts-run (after_other β o) (after_other γ o) acts (other-run β γ o e)

-- the identity never changes
request-identity : (β : Board) (c : ℕ) (request : Request) (lent : List ℕ) → (board_after_request β c request lent).identity ≡ β.identity
request-identity β c (hand_in e) lent = replied-identity β c (judged_on β c e) lent
request-identity β c fetch lent = refl

other-identity : (β : Board) (o : Other) → (after_other β o).identity ≡ β.identity
unfolding with_run
other-identity β o = ap (λ (γ : Board). γ.identity) (other_after β o)

acts-identity : (β γ : Board) (acts : List Act) → β.identity ≡ γ.identity → (after_acts β acts).identity ≡ (after_acts γ (others_in acts)).identity
unfolding after_acts others_in
acts-identity β γ [] e = e
acts-identity β γ (item x ∷ acts) e = acts-identity (after_item β x) γ acts (request-identity β x.0 x.1.0 x.1.1 ∙ e)
acts-identity β γ (other o ∷ acts) e =
    acts-identity (after_other β o) (after_other γ o) acts (other-identity β o ∙ e ∙ sym (other-identity γ o))

-- whatever board, whatever pass it is in, and whatever comes
pub nothing-between : (β : Board) (acts : List Act) → NothingBetween β acts
unfolding with_run
nothing-between β acts =
    let run = acts-run β β acts refl in
    let identity = acts-identity β β acts refl in
    record {
      items = acts-items β β.run acts;
      passes = subst (PassStays (final β (items_in acts))) (sym (acts-end β β.run acts)) (stays-run (final β (items_in acts)) (runs β.run acts));
      others = acts-others β β acts refl;
      header = ap₂ header_with identity run;
      on-time = ap (λ (r : Run). r.on_time) run;
      running = ap is_running run;
      run = run;
    }
  where
    header_with : Identity → Run → Header
    header_with i r =
        record { board_id = i.board_id; firmware_id = i.firmware_id; trigger_counter = r.trigger_counter; timestamp = r.timestamp }
