-- The frame outstanding on a crate of the board is that of the crate's step (`outstanding-step`); the first frame's fetch on a crate is one on the pass
-- (`fetch-follows`).
-- Assumes nothing.
use Prim.Native.Nat.{ℕ, ◌<◌, ◌≤◌}
use mathlib.Core.Path.{◌≡◌, refl, sym, ap, ◌∙◌}
use mathlib.Core.List.{List, [], ◌∷◌, ◌++◌, map}
use mathlib.Core.Bool.{Bool, true, false, cond, ◌||◌}
use native.Mathlib.Omega.{arith}
use lib.Dec.{ltb, leb}
use lib.ListN.{length, drop}
use borrow.Author.Tests.{ltb-true, ltb-false, le-ltb, lt-leb, le-leb}
use Rattle.refusals.specs.Tables.{Answer, given, refused}
use Rattle.refusals.specs.Writing.{output_after}
use Rattle.steps.specs.Steps.{step_frame}
use Rattle.crate_pass.specs.Crate.{is_done}
use Rattle.crate_pass.specs.declared.PassKind.{PassKind}
use Rattle.crate_pass.specs.declared.Crate.{Crate}
use Rattle.board.specs.State.{crate_at}
use Rattle.board.specs.SlowControl.{frame_at}
use Rattle.board.specs.declared.Board.{Board}
use Rattle.any_order.specs.Steps.{Step, step, Pass, Given, first_frame, Result, refusal, fetch_to}
use Rattle.any_order.specs.AnyOrder.{outstanding, result_for, step_of}
use Rattle.any_order.proofs.Places.{later, Place, at, past, place}
use Rattle.any_order.proofs.Sent.{counted_of, Numbered, counted-here}
use Rattle.any_order.proofs.Follows.{view, view-here, view-past}

-- the bytes of a step's frame on crate c, with the block
abbrev pub frame_in : List ℕ → ℕ → Step → List ℕ
frame_in block c s = step_frame block c s.board s.code

pub outstanding-step : (β : Board) (c : ℕ) → c < 4 → outstanding β c ≡ map (frame_in β.block c) (step_of (crate_at β c))
unfolding outstanding frame_at step_of
outstanding-step β c h = let l : c ≤ 3 = omega arith in rw (le-ltb _ _ l) (go (ltb (crate_at β c).board 10) refl)
  where
    go : (t : Bool) → ltb (crate_at β c).board 10 ≡ t
        → cond (leb 10 (crate_at β c).board) [] (step_frame β.block c (crate_at β c).board (crate_at β c).code ∷ [])
        ≡ map (frame_in β.block c) (cond t (step (crate_at β c).board (crate_at β c).code ∷ []) [])
    go true e = rw (lt-leb _ _ (ltb-true _ _ e))
    go false e = rw (le-leb _ _ (ltb-false _ _ e))

-- ---- the fetch

-- what a crate answers to it: 12, then 19
unfoldable pub fetch_answer : Crate → List ℕ → Answer Given
fetch_answer k lent = cond (is_done k || ltb 1 k.sent) (refused 12 0) (cond (ltb (length lent) 28) (refused 19 0) (given first_frame))

abbrev pub fetch_result : (Step → List ℕ) → List ℕ → Crate → Result
fetch_result frame lent k = result_for (fetch_answer k lent) (output_after (fetch_answer k lent) (frame (step k.board k.code)) lent) []

module _ (frame : Step → List ℕ) (size : (s : Step) → length (frame s) ≡ 28) (kind : PassKind) (w : ℕ) (lent : List ℕ) (k : Crate) (num : Numbered k) where
  abbrev p : Pass
  p = view kind w k

  fetch-none : fetch_to frame lent p [] ≡ refusal 12 lent
  unfolding fetch_to
  fetch-none = refl

  -- with a frame outstanding, by whether one more than it was sent, and whether too few bytes are lent
  fetch-here : k.board < 10 → fetch_result frame lent k ≡ fetch_to frame lent p (step k.board k.code ∷ later kind w k.board k.code)
  unfolding fetch_to fetch_answer view
  fetch-here b = rw (lt-leb _ _ b) (go (ltb 1 k.sent) (ltb 0 (counted_of k)) (ltb (length lent) 28) refl refl)
    where
      f : List ℕ
      f = frame (step k.board k.code)

      by : Bool → Bool → Answer Given
      by t v = cond t (refused 12 0) (cond v (refused 19 0) (given first_frame))

      go : (t u v : Bool) → ltb 1 k.sent ≡ t → ltb 0 (counted_of k) ≡ u
          → result_for (by t v) (output_after (by t v) f lent) []
          ≡ cond u (refusal 12 lent) (cond v (refusal 19 lent) (record { answer = given first_frame; bytes = f ++ drop 28 lent; frames = [] }))
      go true true v x y = refl
      go true false v x y =
          absurd (let a : 1 < k.sent = ltb-true _ _ x in let c : counted_of k ≤ 0 = ltb-false _ _ y in let e = counted-here k b num in
          let z : ⊥ = omega arith in z)
      go false true v x y =
          absurd (let a : k.sent ≤ 1 = ltb-false _ _ x in let c : 0 < counted_of k = ltb-true _ _ y in let e = counted-here k b num in
          let z : ⊥ = omega arith in z)
      go false false true x y = refl
      go false false false x y = ap (λ (n : ℕ). result_for (given first_frame) (f ++ drop n lent) []) (size (step k.board k.code))

  fetch-past : 10 ≤ k.board → fetch_result frame lent k ≡ refusal 12 lent
  unfolding fetch_answer
  fetch-past b = rw (le-leb _ _ b)

  pub fetch-follows : fetch_result frame lent k ≡ fetch_to frame lent p p.todo
  fetch-follows = go (place k.board)
    where
      go : Place k.board → fetch_result frame lent k ≡ fetch_to frame lent p p.todo
      go (at b) = fetch-here b ∙ sym (ap (fetch_to frame lent p) (view-here frame kind w lent k b))
      go (past b) = fetch-past b ∙ sym (ap (fetch_to frame lent p) (view-past frame kind w lent k b) ∙ fetch-none)
