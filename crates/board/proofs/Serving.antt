-- Replies and time-ups on a board, and the first frame.
-- Assumes nothing.
use Prim.Native.Nat.{ℕ, ◌<◌, ◌≤◌}
use mathlib.Core.Path.{◌≡◌, refl, sym, ap, ap₂, ◌∙◌, subst}
use mathlib.Core.Logic.{◌⊎◌, inl, inr}
use mathlib.Core.List.{List, []}
use lib.ListN.{set}
use lib.Seq.{set-get_or}
use Rattle.std.specs.Prelude.{Result, Err}
use Rattle.refusals.specs.Refusals.{number_of, place_of}
use Rattle.refusals.specs.Tables.{Answer, given, refused, lowest, refusal_meaning}
use Rattle.refusals.specs.Writing.{output_after, Wrote}
use Rattle.refusals.specs.declared.Refusal.{Refusal}
use Rattle.refusals.proofs.Tables.{given-clear, given-same, refused-any}
use Rattle.refusals.proofs.Writing.{wrote-refused, wrote-under}
use Rattle.configuration.specs.Configuration.{active_word}
use Rattle.steps.specs.Steps.{step_frame}
use Rattle.steps.specs.declared.Event.{Event}
use Rattle.steps.specs.declared.Judged.{Judged}
use Rattle.crate_pass.specs.Crate.{moved, unless_refused, judged_on, frame_due, Serves}
use Rattle.crate_pass.specs.declared.Outcome.{Outcome}
use Rattle.crate_pass.specs.declared.Crate.{Crate}
use Rattle.crate_pass.specs.declared.CrateResult.{CrateResult}
use Rattle.crate_pass.proofs.Serving.{served-high, served-low}
use Rattle.crate_pass.proofs.Answered.{crate_answer, crate_after}
use Rattle.four_crates.specs.FourCrates.{no_crate, first_rules, first_answer}
use Rattle.board.specs.State.{crate_at, with_crates}
use Rattle.board.specs.SlowControl.{frame_at, judged_at, moved_at, reply_answer, board_replied, bytes_replied, Replies, fetch_rules, Fetches}
use Rattle.board.specs.declared.Board.{Board}

module _ (β : Board) (i : ℕ) where
  -- ---- the first frame

  module _ (b code : ℕ) (e : given (b, code) ≡ first_answer β.crates i) where
    same_step : ◌≡◌ {A = ℕ × ℕ} ((crate_at β i).board, (crate_at β i).code) (b, code)
    unfolding first_answer
    same_step = given-same (first_rules β.crates i) ((crate_at β i).board, (crate_at β i).code) (b, code) (sym e)

    -- the frame of that board and code is the crate's
    frame-of : step_frame β.block i b code ≡ frame_at β i
    unfolding frame_at
    frame-of = ap (λ (s : ℕ × ℕ). step_frame β.block i s.0 s.1) (sym same_step)

    -- it is written under the rows 11 and 12, neither of which applies
    pub fetched : (frame out after : List ℕ) (r : Result ℕ Refusal) → frame ≡ step_frame β.block i b code
        → Wrote [] frame out r after → Fetches β i out r after
    unfolding first_answer
    fetched frame out after r q w =
        wrote-under (fetch_rules β i) (frame_at β i) out r after (given-clear (fetch_rules β i) _ (b, code) (sym e))
        (rw (q ∙ frame-of) at w)

  -- it is not given, or there is no such crate
  module _ (r : Refusal) (e : refusal_meaning r ≡ first_answer β.crates i) where
    refuses : {A : Type 0} (a : A) → lowest (fetch_rules β i) a ≡ refused (number_of r) (place_of r)
    unfolding first_answer
    refuses a = refused-any (fetch_rules β i) _ a (number_of r) (place_of r) (sym e)

    pub fetch-refused : (out : List ℕ) → Fetches β i out (Err r) out
    fetch-refused out = wrote-refused (fetch_rules β i) (frame_at β i) out r (refuses 0)

  -- ---- a reply or a time-up: one on a crate up to 3 is that crate's to answer, and changes it alone

  -- an event judged on the crate k there
  pub judged-at : (k : Crate) (event : Event) (bytes : List ℕ) → k ≡ crate_at β i → judged_on β.block i k event bytes ≡ judged_at β i event bytes
  unfolding frame_at
  judged-at k event bytes q = ap (λ (x : Crate). judged_on β.block i x event bytes) q

  pub with-same : with_crates β β.crates ≡ β
  unfolding with_crates
  with-same = refl

  module _ (h : Judged) (lent : List ℕ) where
    -- a crate's word of active flags
    abbrev word : ℕ
    word = active_word β.block i

    -- what a refusal leaves
    pub board-refused : (n p : ℕ) → reply_answer β i h lent ≡ refused n p → board_replied β i h lent ≡ β
    unfolding board_replied
    board-refused n p e = ap (λ (a : Answer Outcome). unless_refused a (with_crates β (set β.crates i (moved_at β i h).state)) β) e

    pub bytes-refused : (n p : ℕ) → reply_answer β i h lent ≡ refused n p → bytes_replied β i h lent ≡ lent
    unfolding bytes_replied
    bytes-refused n p e = ap (λ (a : Answer Outcome). output_after a (frame_due β.block i (moved_at β i h).state) lent) e

    pub answer-high : 3 < i → reply_answer β i h lent ≡ refused 11 0
    answer-high l = served-high β.kind word (crate_at β i) h lent i l

    pub board-high : 3 < i → board_replied β i h lent ≡ β
    board-high l = board-refused 11 0 (answer-high l)

    pub answer-low : i ≤ 3 → reply_answer β i h lent ≡ crate_answer β.kind word (crate_at β i) h lent
    answer-low l = served-low β.kind word (crate_at β i) h lent i l

    pub board-low : i ≤ 3 → board_replied β i h lent ≡ with_crates β (set β.crates i (crate_after β.kind word (crate_at β i) h lent))
    unfolding board_replied crate_after
    board-low l = ap changed (answer-low l) ∙ go (crate_answer β.kind word (crate_at β i) h lent)
      where
        changed : Answer Outcome → Board
        changed a = unless_refused a (with_crates β (set β.crates i (moved_at β i h).state)) β

        go : (a : Answer Outcome) → changed a ≡ with_crates β (set β.crates i (unless_refused a (moved_at β i h).state (crate_at β i)))
        go (given o) = refl
        go (refused n p) = sym (ap (with_crates β) (set-get_or β.crates i no_crate) ∙ with-same)

    pub bytes_low : i ≤ 3
        → bytes_replied β i h lent ≡ output_after (crate_answer β.kind word (crate_at β i) h lent) (frame_due β.block i (moved_at β i h).state) lent
    unfolding bytes_replied
    bytes_low l = ap (λ (a : Answer Outcome). output_after a (frame_due β.block i (moved_at β i h).state) lent) (answer-low l)

    -- ---- as the code serves it: `k`, `w`, `j`: the crate, its word of active flags and its place as the code has them

    module _ (k : Crate) (w : ℕ) where
      -- where there is no such crate, another was asked, and stays as it is
      replies-11 : (g : Judged) (r : CrateResult) (after : List ℕ) → Serves β.kind w β.block i k g lent r after
          → (j : ℕ) → 3 < i → k ≡ crate_at β j
          → Replies β i h lent (record { board = with_crates β (set β.crates j r.state); answer = r.answer }) after
      replies-11 g r after s j l ek =
          let e = served-high β.kind w k g lent i l in
          let kept : r.state ≡ crate_at β j = s.state ∙ ap (λ (a : Answer Outcome). unless_refused a (moved β.kind w k g).state k) e ∙ ek in
          record {
            answer = s.answer ∙ e ∙ sym (answer-high l);
            board = ap (λ (x : Crate). with_crates β (set β.crates j x)) kept
                ∙ ap (with_crates β) (set-get_or β.crates j no_crate) ∙ with-same ∙ sym (board-high l);
            bytes = s.bytes
                ∙ ap (λ (a : Answer Outcome). output_after a (frame_due β.block i (moved β.kind w k g).state) lent) e
                ∙ sym (bytes-refused 11 0 (answer-high l));
          }

      replies-own : (g : Judged) (r : CrateResult) (after : List ℕ) → Serves β.kind w β.block i k g lent r after
          → (j : ℕ) → i ≡ j → j ≤ 3 → k ≡ crate_at β i → g ≡ h → (i ≤ 3 → w ≡ active_word β.block i)
          → Replies β i h lent (record { board = with_crates β (set β.crates j r.state); answer = r.answer }) after
      unfolding crate_after bytes_replied
      replies-own g r after s j e l ek eg ew =
          let low : i ≤ 3 = subst (λ n. n ≤ 3) (sym e) l in
          let served : Serves β.kind word β.block i (crate_at β i) h lent r after = rw (eg, ek, ew low) at s in
          let state : r.state ≡ crate_after β.kind word (crate_at β i) h lent =
          served.state ∙ ap (λ (a : Answer Outcome). unless_refused a (moved_at β i h).state (crate_at β i)) (answer-low low) in
          record {
            answer = served.answer;
            board = ap₂ (λ x y. with_crates β (set β.crates x y)) (sym e) state ∙ sym (board-low low);
            bytes = served.bytes;
          }

      -- the crate j was asked: the one of that number, or the last where there is none
      pub replies-at : (g : Judged) (r : CrateResult) (after : List ℕ) → Serves β.kind w β.block i k g lent r after
          → (j : ℕ) → (i ≡ j) ⊎ (3 < i) → j ≤ 3 → k ≡ crate_at β j → (k ≡ crate_at β i → g ≡ h)
          → (i ≤ 3 → w ≡ active_word β.block i)
          → Replies β i h lent (record { board = with_crates β (set β.crates j r.state); answer = r.answer }) after
      replies-at g r after s j (inl e) l ek eg ew =
          let own : k ≡ crate_at β i = ek ∙ ap (crate_at β) (sym e) in replies-own g r after s j e l own (eg own) ew
      replies-at g r after s j (inr m) l ek eg ew = replies-11 g r after s j m ek
