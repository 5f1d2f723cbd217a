-- Once a reply or a time-up on a crate is counted, its first frame is not given until the next pass begins (`no-first-frame`).
-- Assumes nothing.
use Prim.Native.Nat.{ℕ, ◌+◌, ◌<◌, ◌≤◌}
use mathlib.Core.Path.{◌≡◌, refl, sym, ap, ◌∙◌, subst}
use mathlib.Core.Bool.{Bool, true, false, cond, ◌||◌}
use mathlib.Core.Logic.{◌⊎◌, inl, inr}
use mathlib.Core.List.{List}
use native.Mathlib.Omega.{arith}
use lib.Dec.{ltb}
use lib.ListN.{length}
use lib.Seq.{get_or-set_same}
use borrow.Author.Tests.{ltb-true, ltb-false, lt-ltb, le-ltb, lt-leb, le-leb}
use Rattle.refusals.specs.Tables.{Answer, given, refused, is_given}
use Rattle.refusals.specs.Writing.{output_after, writing_by, writing_rules, writing}
use Rattle.refusals.proofs.Tables.{given≢refused}
use Rattle.numbers.specs.Numbers.{id_limit}
use Rattle.configuration.specs.Configuration.{active_word}
use Rattle.steps.specs.declared.Judged.{Judged}
use Rattle.crate_pass.specs.Crate.{next_board, is_done, counted_frame, placed, advanced, noted, with_record, moved}
use Rattle.crate_pass.specs.declared.PassKind.{PassKind}
use Rattle.crate_pass.specs.declared.Outcome.{Outcome}
use Rattle.crate_pass.specs.declared.Crate.{Crate}
use Rattle.crate_pass.proofs.Answered.{crate_answer, crate_after}
use Rattle.crate_pass.proofs.After.{after_any}
use Rattle.crate_pass.proofs.Serving.{answer-none, after-given}
use Rattle.four_crates.specs.FourCrates.{no_crate}
use Rattle.board.specs.State.{crate_at, with_run, with_crates, fresh_board}
use Rattle.command_reader.specs.Reading.{block_of}
use Rattle.board.specs.Commands.{board_answer}
use Rattle.board.specs.SlowControl.{frame_at, board_replied, fetch_rules}
use Rattle.board.specs.RatePass.{begin_answer}
use Rattle.board.specs.declared.Board.{Board}
use Rattle.board.proofs.Serving.{answer-low, board-low, board-high}
use Rattle.any_order.specs.Steps.{Event}
use Rattle.any_order.specs.AnyOrder.{judged_on, word_of, step_of}
use Rattle.any_order.proofs.Places.{Place, at, past, place}
use Rattle.any_order.proofs.Sent.{sent-on, step-here}
use Rattle.any_order.proofs.Runs.{Runs, numbered}
use Rattle.reachable.specs.Calls.{Call, command, clock_step, trigger, hand_in, begin_rates, after_call, after_all, is_write_or_ping, no_pass_begun}
use Rattle.reachable.specs.FirstFrame.{Counts, NoFirstFrame}
use Rattle.reachable.proofs.OneCall.{Free, kept-by-calls, not-begun}
use Rattle.reachable.proofs.Holding.{Holds, holds-power-up}
use Rattle.reachable.proofs.OnPasses.{next, at_set}
use Rattle.reachable.proofs.PassStays.{command-run}
use Rattle.reachable.proofs.States.{holds_kept, holds-all}

-- ---- one crate

-- nothing is outstanding, or more than the first frame was sent
abbrev Past : Crate → Type 0
Past k = (10 ≤ k.board) ⊎ (1 < k.sent)

-- the number does not go down
counted-least : (b n : ℕ) → n ≤ counted_frame b n
unfolding counted_frame
counted-least b n = go (ltb b 10) (ltb n 65535)
  where
    go : (t u : Bool) → n ≤ cond t (cond u (n + 1) n) n
    go true true = omega arith
    go true false = omega arith
    go false u = omega arith

-- so what is past stays so
past-kept : (kind : PassKind) (w : ℕ) (k : Crate) (h : Judged) (lent : List ℕ) → Past k → Past (crate_after kind w k h lent)
unfolding placed advanced noted with_record
past-kept kind w k h lent (inl d) =
    after_any kind w k h Past
    (record {
      same = inl d;
      next-step = λ b g l. absurd (let z : ⊥ = omega arith in z);
      next-board = λ b g l. absurd (let z : ⊥ = omega arith in z);
      again = λ b l. absurd (let z : ⊥ = omega arith in z);
      failed = λ b l. absurd (let z : ⊥ = omega arith in z);
    })
    lent
past-kept kind w k h lent (inr s) =
    after_any kind w k h Past
    (record {
      same = inr s;
      next-step = λ b g l. inr (omega (arith, counted-least k.board k.sent));
      next-board = λ b g l. inr (omega (arith, counted-least (next_board kind w (k.board + 1)) k.sent));
      again = λ b l. inr (omega (arith, counted-least k.board k.sent));
      failed = λ b l. inr (omega (arith, counted-least (next_board kind w (k.board + 1)) k.sent));
    })
    lent

-- and a counted reply or time-up makes it so
past-moved : (kind : PassKind) (w : ℕ) (k : Crate) (h : Judged) → k.board < 10 → Runs kind w k → Past (moved kind w k h).state
past-moved kind w k h b r = go (place (moved kind w k h).state.board)
  where
    one : length (step_of k) ≡ 1
    one = ap length (step-here k b)

    go : Place (moved kind w k h).state.board → Past (moved kind w k h).state
    go (past d) = inl d
    go (at d) =
        let n : length (step_of (moved kind w k h).state) ≡ 1 = ap length (step-here (moved kind w k h).state d) in
        inr (omega (arith, r.one, one, sent-on kind w k h (numbered kind w k r).room))

-- ---- the crate of a board, through calls that begin no pass

module _ (c : ℕ) (low : c < 4) where
  past-event : (β : Board) (i : ℕ) (e : Event) (lent : List ℕ) → Holds β → Past (crate_at β c)
      → Past (crate_at (board_replied β i (judged_on β i e) lent) c)
  unfolding with_crates
  past-event β i e lent h p = go (ltb i 4) refl
    where
      said : Judged
      said = judged_on β i e

      go : (t : Bool) → ltb i 4 ≡ t → Past (crate_at (board_replied β i said lent) c)
      go false q = rw (board-high β i said lent (ltb-false i 4 q)) p
      go true q =
          let l : i < 4 = ltb-true i 4 q in
          let four = h.reaches.four in
          subst (λ (γ : Board). Past (crate_at γ c)) (sym (board-low β i said lent (omega arith)))
          (at_set β.crates i (next β i e lent) (omega arith) (λ n k. n ≡ c → Past k)
          (λ s. past-kept β.kind (active_word β.block i) (crate_at β i) said lent (subst (λ n. Past (crate_at β n)) (sym s) p)) c (λ s. p) refl)

  past-call : (β : Board) (x : Call) → Free is_write_or_ping true β x → Holds β × Past (crate_at β c)
      → Holds (after_call β x) × Past (crate_at (after_call β x) c)
  unfolding after_call with_run
  past-call β (command words) free (h, p) = (
    holds_kept β (command words) h,
    subst (λ (γ : Board). Past (crate_at γ c)) (sym (command-run β (block_of words) (board_answer β words) free)) p,
  )
  past-call β (clock_step ticks) free (h, p) = (holds_kept β (clock_step ticks) h, p)
  past-call β (trigger fields out) free (h, p) = (holds_kept β (trigger fields out) h, p)
  past-call β (hand_in i e lent) free (h, p) = (holds_kept β (hand_in i e lent) h, past-event β i e lent h p)
  past-call β begin_rates free (h, p) = (
    holds_kept β begin_rates h,
    subst (λ (γ : Board). Past (crate_at γ c)) (sym (not-begun β (begin_answer β) free)) p,
  )

  -- one that is counted
  module _ (β : Board) (e : Event) (lent : List ℕ) (h : Holds β) where
    abbrev said : Judged
    said = judged_on β c e

    abbrev w : ℕ
    w = word_of β.block c

    abbrev k : Crate
    k = crate_at β c

    past_next : (a : Answer Outcome) → crate_answer β.kind w k said lent ≡ a → is_given a ≡ 1 → Past (crate_after β.kind w k said lent)
    past_next (refused n p) q g = absurd (let z : ⊥ = omega arith in z)
    past_next (given o) q g = go (place k.board)
      where
        go : Place k.board → Past (crate_after β.kind w k said lent)
        go (past d) = absurd (given≢refused (sym q ∙ answer-none β.kind w k said lent d))
        go (at d) =
            subst Past (sym (after-given β.kind w k said lent o q))
            (past-moved β.kind w k said d (h.follows c low (lt-leb _ _ d)))

    past-counted : Counts β c e lent → Past (crate_at (board_replied β c said lent) c)
    unfolding with_crates
    past-counted n =
        let four = h.reaches.four in
        subst (λ (γ : Board). Past (crate_at γ c)) (sym (board-low β c said lent (omega arith)))
        (subst Past (sym (get_or-set_same β.crates c _ no_crate (omega arith)))
        (past_next (crate_answer β.kind w k said lent) refl (ap is_given (sym (answer-low β c said lent (omega arith))) ∙ n)))

  -- ---- what the fetch then gets

  or-past : (k : Crate) → Past k → (is_done k || ltb 1 k.sent) ≡ true
  or-past k (inl d) = rw (le-leb _ _ d)
  or-past k (inr s) = go (is_done k)
    where
      go : (t : Bool) → (t || ltb 1 k.sent) ≡ true
      go true = refl
      go false = lt-ltb _ _ s

  fetch-past : (β : Board) (lent : List ℕ) → Past (crate_at β c) → writing (fetch_rules β c) (frame_at β c) lent ≡ refused 12 0
  unfolding writing_by writing_rules
  fetch-past β lent p = let l : c ≤ 3 = omega arith in rw (le-ltb _ _ l, or-past (crate_at β c) p)

  past-fetch : (β : Board) → Past (crate_at β c) → NoFirstFrame β c
  past-fetch β p lent r after u =
      let e = fetch-past β lent p in (u.answer ∙ e, u.output ∙ ap (λ (a : Answer ℕ). output_after a (frame_at β c) lent) e)

-- from power-up, through any calls, a reply or a time-up that is counted, and on through calls among which none begins a pass
pub no-first-frame : (id firmware : ℕ) → id < id_limit → firmware < 65536 → (before : List Call) (c : ℕ) → c < 4 → (e : Event) (lent : List ℕ)
    → let now = after_all (fresh_board id firmware) before in Counts now c e lent
    → (xs : List Call) → no_pass_begun (after_call now (hand_in c e lent)) xs ≡ true → NoFirstFrame (after_all (after_call now (hand_in c e lent)) xs) c
unfolding after_call
no-first-frame id firmware i f before c low e lent n xs free =
    let now = after_all (fresh_board id firmware) before in
    let holds = holds-all (fresh_board id firmware) before (holds-power-up id firmware i f) in
    let next = after_call now (hand_in c e lent) in
    let kept = kept-by-calls is_write_or_ping true (λ (γ : Board). Holds γ × Past (crate_at γ c)) (past-call c low) next xs free
    (holds_kept now (hand_in c e lent) holds, past-counted c low now e lent holds n) in
    past-fetch c low (after_all next xs) kept.1
