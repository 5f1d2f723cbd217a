-- `board::Board::hand_in` meets its contract. Assumes nothing.
use Prim.Native.Nat.{ℕ, ◌<◌, ◌≤◌}
use mathlib.Core.Path.{◌≡◌, refl, ap, ◌∙◌}
use mathlib.Core.Bool.{Bool, true, false}
use mathlib.Core.Logic.{◌⊎◌, inl, inr}
use native.Mathlib.Omega.{arith}
use lib.Dec.{ltb}
use lib.ListN.{set}
use borrow.Author.Tests.{ltb-true, ltb-false}
use Rattle.board.specs.State.{crate_at, with_crates}
use Rattle.board.specs.SlowControl.{judged_at, Replies}
use Rattle.board.proofs.Serving.{judged-at, replies-at}
use Rattle.board.proofs.Board.hand_in.Goals as goal
use Rattle.board.proofs.Board.hand_in.Goals.{After-serve-served, in-0, in-1, in-2, in_default}

-- the crate read out is the one of that number, or the last
own-low : (c : After-serve-served) (j : ℕ) → c.args.index ≡ j → j ≤ 2 → c.match-index.own ≡ crate_at c.args.self j
own-low c j e l =
    let crate = crate_at c.args.self in
    elim c.match-index.branch [
      | in-0 w ↦ let q : 0 ≡ j = omega arith in w.own-is ∙ ap crate q
      | in-1 w ↦ let q : 1 ≡ j = omega arith in w.own-is ∙ ap crate q
      | in-2 w ↦ let q : 2 ≡ j = omega arith in w.own-is ∙ ap crate q
      | in_default w ↦ absurd (let z : ⊥ = omega arith in z)
    ]

own-last : (c : After-serve-served) → 3 ≤ c.args.index → c.match-index.own ≡ crate_at c.args.self 3
own-last c l =
    elim c.match-index.branch [
      | in-0 w ↦ absurd (let z : ⊥ = omega arith in z)
      | in-1 w ↦ absurd (let z : ⊥ = omega arith in z)
      | in-2 w ↦ absurd (let z : ⊥ = omega arith in z)
      | in_default w ↦ w.own-is
    ]

-- it is served, and stored at its place j
stored : (c : After-serve-served) (j : ℕ) → (c.args.index ≡ j) ⊎ (3 < c.args.index) → j ≤ 3 → c.match-index.own ≡ crate_at c.args.self j
    → Replies c.args.self c.args.index (judged_at c.args.self c.args.index c.args.event c.args.bytes.now) c.args.out.now
    (record {
      board = with_crates c.args.self (set c.args.self.crates j c.serve-served.result.state);
      answer = c.serve-served.result.answer;
    })
    c.serve-served.new.out
stored c j i l own =
    let a = c.args in
    replies-at a.self a.index _ _ _ _ _ _ _ c.serve-served.ensures j i l own (judged-at a.self a.index _ a.event a.bytes.now) c.flags_of-word.ensures

-- the last, where the number is 3 or there is no such crate
last-asked : (i : ℕ) → 3 ≤ i → (i ≡ 3) ⊎ (3 < i)
last-asked i l = go (ltb 3 i) refl
  where
    go : (t : Bool) → ltb 3 i ≡ t → (i ≡ 3) ⊎ (3 < i)
    go true e = inr (ltb-true _ _ e)
    go false e = let m : i ≤ 3 = ltb-false _ _ e in inl (omega arith)

pub returns-in-0-index : goal.returns-in-0-index
unfolding with_crates
returns-in-0-index c =
    let s = (goal.at.returns-in-0-index c).After-serve-served in
    stored s 0 (inl (omega arith)) (omega arith) (own-low s 0 (omega arith) (omega arith))

pub returns-in-1-index : goal.returns-in-1-index
unfolding with_crates
returns-in-1-index c =
    let s = (goal.at.returns-in-1-index c).After-serve-served in
    stored s 1 (inl (omega arith)) (omega arith) (own-low s 1 (omega arith) (omega arith))

pub returns-in-2-index : goal.returns-in-2-index
unfolding with_crates
returns-in-2-index c =
    let s = (goal.at.returns-in-2-index c).After-serve-served in
    stored s 2 (inl (omega arith)) (omega arith) (own-low s 2 (omega arith) (omega arith))

pub returns-in_default-index : goal.returns-in_default-index
unfolding with_crates
returns-in_default-index c =
    let s = (goal.at.returns-in_default-index c).After-serve-served in
    let last : 3 ≤ c.args.index = omega arith in
    stored s 3 (last-asked _ last) (omega arith) (own-last s last)
