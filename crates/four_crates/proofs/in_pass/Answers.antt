-- `four_crates::in_pass` meets its contract. Assumes nothing.
use Prim.Native.Nat.{ℕ}
use mathlib.Core.Path.{◌≡◌, refl, sym, ap, ◌∙◌}
use mathlib.Core.Bool.{Bool, true, false, not}
use lib.Dec.{ltb, leb}
use borrow.Author.Tests.{ltb-true, ltb-false, lt-leb, le-leb}
use Rattle.four_crates.specs.FourCrates.{in_pass, crate_of}
use Rattle.four_crates.proofs.in_pass.Goals as goal

-- a place is a board, or past the last
below-ten : (b : ℕ) → ltb b 10 ≡ not (leb 10 b)
below-ten b = go (ltb b 10) refl
  where
    go : (t : Bool) → ltb b 10 ≡ t → ltb b 10 ≡ not (leb 10 b)
    go true e = e ∙ ap not (sym (lt-leb 10 b (ltb-true _ _ e)))
    go false e = e ∙ ap not (sym (le-leb 10 b (ltb-false _ _ e)))

pub returns-then-a-lt10 : goal.returns-then-a-lt10
unfolding in_pass
returns-then-a-lt10 c = rw (lt-leb _ _ c.if-a-lt10.true)

pub returns-then-b-lt10 : goal.returns-then-b-lt10
unfolding in_pass
returns-then-b-lt10 c = rw (le-leb _ _ c.if-a-lt10.false, lt-leb _ _ c.if-b-lt10.true)

pub returns-then-c-lt10 : goal.returns-then-c-lt10
unfolding in_pass
returns-then-c-lt10 c =
    rw (le-leb _ _ c.if-a-lt10.false, le-leb _ _ c.if-b-lt10.false, lt-leb _ _ c.if-c-lt10.true)

pub returns : goal.returns
unfolding in_pass
returns c =
    let crates = c.args.crates in
    rw (le-leb _ _ c.if-a-lt10.false, le-leb _ _ c.if-b-lt10.false, le-leb _ _ c.if-c-lt10.false) (below-ten (crate_of crates 3).board)
