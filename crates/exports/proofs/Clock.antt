-- Clock steps one after another: the timestamps after them, then the on-time.
-- Assumes nothing.
use Prim.Native.Nat.{ℕ, ◌+◌, ◌<◌, ◌≤◌}
use mathlib.Core.Path.{◌≡◌, refl, sym, ap, ap₂, ◌∙◌}
use mathlib.Core.List.{List, [], ◌∷◌, ◌++◌}
use native.Mathlib.Omega.{arith}
use native.Mathlib.Numerals.{add-one}
use lib.ListN.{length, get_or, take, drop, set, drop_of_length-le}
use lib.Seq.{take_all}
use Rattle.words.proofs.Laws.{copy_more}
use Rattle.run.specs.Run.{clocked_run}
use Rattle.board.specs.State.{with_run}
use Rattle.board.specs.declared.Board.{Board}
use Rattle.command_series.proofs.Parts.{next_of}
use Rattle.exports.specs.Exports.{clocked_all, timestamps_of, steps_of}

abbrev stepped : Board → ℕ → Board
stepped β t = with_run β (clocked_run β.run t)

-- one step and those after it; and no step
step-first : (β : Board) (t : ℕ) (ts : List ℕ) → steps_of β (t ∷ ts) ≡ (clocked_run β.run t).timestamp ∷ steps_of (stepped β t) ts
unfolding steps_of timestamps_of clocked_all
step-first β t ts = refl

step-none : (β : Board) → steps_of β [] ≡ β.run.on_time ∷ []
unfolding steps_of timestamps_of clocked_all
step-none β = refl

-- a number for each step, and one more
pub length-steps : (β : Board) (ts : List ℕ) → length (steps_of β ts) ≡ length ts + 1
length-steps β [] = ap length (step-none β)
length-steps β (t ∷ ts) = let n = length-steps (stepped β t) ts in ap length (step-first β t ts) ∙ omega arith

module _ (first : Board) (ticks out : List ℕ) where
  abbrev due : List ℕ
  due = steps_of first ticks

  -- the first i steps left the board β and these numbers; the others lead from there to the end
  pub record Made (i : ℕ) (β : Board) (now : List ℕ) : Type 0 where
    pub left : steps_of β (drop i ticks) ≡ drop i due
    pub numbers : now ≡ take i due ++ drop i out

  pub none_made : (β : Board) → β ≡ first → Made 0 β out
  none_made β e = record { left = ap (λ (b : Board). steps_of b ticks) e; numbers = refl }

  module _ (i : ℕ) (β : Board) (now : List ℕ) (m : Made i β now) where
    -- the next number, and those after it
    one-output : (t : ℕ) (rest : List ℕ) → drop i due ≡ t ∷ rest → i < length due → i < length out
        → (rest ≡ drop (i + 1) due) × (set now i t ≡ take (i + 1) due ++ drop (i + 1) out)
    one-output t rest e h room =
        let both : t ∷ rest ≡ get_or due i 0 ∷ drop (i + 1) due = sym e ∙ next_of due i h in
        let stamp : t ≡ get_or due i 0 = ap (λ (l : List ℕ). get_or l 0 0) both in
        (ap (drop 1) both, rw (m.numbers, stamp, add-one) (copy_more due out i h room))

    -- one step more
    pub one_more : i < length ticks → i < length out → (β' : Board) → β' ≡ stepped β (get_or ticks i 0) → (t : ℕ) → t ≡ β'.run.timestamp
        → Made (i + 1) β' (set now i t)
    unfolding with_run
    one_more h room β' e t et =
        let n = length-steps first ticks in
        let others = ap (λ (b : Board). steps_of b (drop (i + 1) ticks)) (sym e) in
        let stamp : (clocked_run β.run (get_or ticks i 0)).timestamp ≡ t = sym (et ∙ ap (λ (b : Board). b.run.timestamp) e) in
        let output_after =
        one-output t (steps_of β' (drop (i + 1) ticks))
        (sym m.left ∙ ap (steps_of β) (next_of ticks i h) ∙ step-first β _ _ ∙ ap₂ (λ (k : ℕ) (l : List ℕ). k ∷ l) stamp others)
        (omega arith) room in
        record { left = output_after.0; numbers = output_after.1 }

    -- the on-time after the last
    pub all_made : i ≡ length ticks → length ticks + 1 ≤ length out → (t : ℕ) → t ≡ β.run.on_time
        → set now (length ticks) t ≡ due ++ drop (length due) out
    all_made h room t et =
        let n = length-steps first ticks in
        let last : drop i due ≡ t ∷ [] =
        sym m.left ∙ ap (steps_of β) (drop_of_length-le ticks {i = i} (omega arith)) ∙ step-none β ∙ ap (λ (k : ℕ). k ∷ []) (sym et) in
        let whole : i + 1 ≡ length due = omega arith in
        ap (λ (k : ℕ). set now k t) (sym h)
        ∙ (one-output t [] last (omega arith) (omega arith)).1
        ∙ rw whole (ap (λ (l : List ℕ). l ++ drop (length due) out) (take_all (length due) due (omega arith)))

-- the same of an equal board
pub steps-output : (first other : Board) (ticks out after : List ℕ) → first ≡ other
    → after ≡ steps_of first ticks ++ drop (length (steps_of first ticks)) out → after ≡ steps_of other ticks ++ drop (length (steps_of other ticks)) out
steps-output first other ticks out after e q = q ∙ ap (λ (b : Board). steps_of b ticks ++ drop (length (steps_of b ticks)) out) e
