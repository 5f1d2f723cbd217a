-- A crate's place, a board and a code, stands for the list of the steps that are left (`todo_at`).
-- Assumes nothing.
use Prim.Native.Nat.{ℕ, zero, suc, ◌+◌, ◌-◌, ◌<◌, ◌≤◌}
use mathlib.Core.Path.{◌≡◌, refl, ap, ◌∙◌}
use mathlib.Core.List.{List, [], ◌∷◌, ◌++◌}
use mathlib.Core.Bool.{Bool, true, false, cond}
use native.Mathlib.Omega.{arith}
use native.Mathlib.Numerals.{add-one}
use lib.Dec.{ltb, leb, eqb}
use borrow.Author.Tests.{ltb-true, ltb-false, eq-eqb, ne_eqb, lt-ltb, le-ltb, le-leb, lt-leb}
use Rattle.crate_pass.specs.Crate.{serves, first_served, next_board, first_code}
use Rattle.crate_pass.specs.Invariant.{IsCode}
use Rattle.crate_pass.specs.declared.PassKind.{PassKind}
use Rattle.crate_pass.specs.declared.PassKind.TheVariants.{Reprogramming, Ping, Rates}
use Rattle.any_order.specs.Steps.{Step, step, is_served, board_steps, steps_from, steps, first, none, others}

-- the boards that the code serves are those of the steps
pub served-is : (kind : PassKind) (w b : ℕ) → is_served kind w b ≡ serves kind w b
served-is Reprogramming w b = refl
served-is Ping w b = refl
served-is Rates w b = refl

-- ---- the steps that a place stands for

-- the codes of a pass
pub data Code : PassKind → ℕ → Type 0 where
  one : Code Reprogramming 1
  two : Code Reprogramming 2
  three : Code Reprogramming 3
  four : Code Ping 4
  five : Code Rates 5

pub is_code : {kind : PassKind} {code : ℕ} → Code kind code → IsCode kind code
is_code one = (omega arith, omega arith)
is_code two = (omega arith, omega arith)
is_code three = (omega arith, omega arith)
is_code four = refl
is_code five = refl

pub first_code_lem : (kind : PassKind) → Code kind (first_code kind)
first_code_lem Reprogramming = one
first_code_lem Ping = four
first_code_lem Rates = five

-- a board's steps after that of a code
abbrev pub more : ℕ → ℕ → List Step
more b code = cond (eqb code 1) (step b 2 ∷ step b 3 ∷ []) (cond (eqb code 2) (step b 3 ∷ []) [])

-- the steps after the outstanding one
abbrev pub later : PassKind → ℕ → ℕ → ℕ → List Step
later kind w b code = more b code ++ steps_from kind w (10 - (b + 1)) (b + 1)

unfoldable pub todo_at : PassKind → ℕ → ℕ → ℕ → List Step
todo_at kind w b code = cond (ltb b 10) (step b code ∷ later kind w b code) []

pub todo-here : (kind : PassKind) (w b code : ℕ) → b < 10 → todo_at kind w b code ≡ step b code ∷ later kind w b code
unfolding todo_at
todo-here kind w b code h = rw (lt-ltb _ _ h)

pub todo-done : (kind : PassKind) (w b code : ℕ) → 10 ≤ b → todo_at kind w b code ≡ []
unfolding todo_at
todo-done kind w b code h = rw (le-ltb _ _ h)

all-steps : (kind : PassKind) (b : ℕ) → step b (first_code kind) ∷ more b (first_code kind) ≡ board_steps kind b
all-steps Reprogramming b = refl
all-steps Ping b = refl
all-steps Rates b = refl

-- the steps from b on begin at the first board that is served
next-todo : (kind : PassKind) (w n b : ℕ) → b + n ≡ 10 → todo_at kind w (first_served kind w n b) (first_code kind) ≡ steps_from kind w n b
unfolding steps_from first_served
next-todo kind w zero b h = todo-done kind w 10 (first_code kind) (omega arith)
next-todo kind w (suc n) b h = rw (served-is kind w b) (go (serves kind w b) (next-todo kind w n (suc b) (omega arith)))
  where
    go : (t : Bool) → todo_at kind w (first_served kind w n (suc b)) (first_code kind) ≡ steps_from kind w n (suc b)
        → todo_at kind w (cond t b (first_served kind w n (suc b))) (first_code kind) ≡ cond t (board_steps kind b) [] ++ steps_from kind w n (suc b)
    go true ih =
        let left : 10 - (b + 1) ≡ n = omega arith in
        todo-here kind w b (first_code kind) (omega arith)
        ∙ rw (left, add-one b) (ap (λ l. l ++ steps_from kind w n (suc b)) (all-steps kind b))
    go false ih = ih

pub next-board-todo : (kind : PassKind) (w b : ℕ) → b < 10
    → todo_at kind w (next_board kind w (b + 1)) (first_code kind) ≡ steps_from kind w (10 - (b + 1)) (b + 1)
unfolding next_board
next-board-todo kind w b h = next-todo kind w (10 - (b + 1)) (b + 1) (omega arith)

pub begun-todo : (kind : PassKind) (w : ℕ) → todo_at kind w (next_board kind w 0) (first_code kind) ≡ steps kind w
unfolding next_board
begun-todo kind w = next-todo kind w 10 0 refl

-- ---- the other boards' steps

others-skip : (b : ℕ) (s : Step) (ss : List Step) → s.board ≡ b → others b (s ∷ ss) ≡ others b ss
unfolding others
others-skip b s ss e = rw (eq-eqb _ _ e)

others_keep : (b : ℕ) (s : Step) (ss : List Step) → (s.board ≡ b → ⊥) → others b (s ∷ ss) ≡ s ∷ others b ss
unfolding others
others_keep b s ss e = rw (ne_eqb _ _ e)

others-board : (kind : PassKind) (b k : ℕ) (ss : List Step) → (k ≡ b → ⊥) → others b (board_steps kind k ++ ss) ≡ board_steps kind k ++ others b ss
others-board Reprogramming b k ss n =
    others_keep b (step k 1) _ n ∙ ap (λ l. step k 1 ∷ l) (others_keep b (step k 2) _ n ∙ ap (λ l. step k 2 ∷ l) (others_keep b (step k 3) ss n))
others-board Ping b k ss n = others_keep b (step k 4) ss n
others-board Rates b k ss n = others_keep b (step k 5) ss n

-- those of the boards after b are none of b's
others-from : (kind : PassKind) (w n b k : ℕ) → b < k → others b (steps_from kind w n k) ≡ steps_from kind w n k
unfolding steps_from others
others-from kind w zero b k h = refl
others-from kind w (suc n) b k h = go (is_served kind w k) (others-from kind w n b (suc k) (omega arith))
  where
    go : (t : Bool) → others b (steps_from kind w n (suc k)) ≡ steps_from kind w n (suc k)
        → others b (cond t (board_steps kind k) [] ++ steps_from kind w n (suc k)) ≡ cond t (board_steps kind k) [] ++ steps_from kind w n (suc k)
    go true ih = others-board kind b k (steps_from kind w n (suc k)) (λ q. omega arith) ∙ ap (λ l. board_steps kind k ++ l) ih
    go false ih = ih

pub others-later : {kind : PassKind} {code : ℕ} → Code kind code → (w b : ℕ) → others b (later kind w b code) ≡ steps_from kind w (10 - (b + 1)) (b + 1)
others-later one w b = others-skip b (step b 2) _ refl ∙ others-skip b (step b 3) _ refl ∙ others-from _ w _ b (b + 1) (omega arith)
others-later two w b = others-skip b (step b 3) _ refl ∙ others-from _ w _ b (b + 1) (omega arith)
others-later three w b = others-from _ w _ b (b + 1) (omega arith)
others-later four w b = others-from _ w _ b (b + 1) (omega arith)
others-later five w b = others-from _ w _ b (b + 1) (omega arith)

-- ---- a place is a board, or past all of them

pub data Place (b : ℕ) : Type 0 where
  at : b < 10 → Place b
  past : 10 ≤ b → Place b

pub place : (b : ℕ) → Place b
place b = go (ltb b 10) refl
  where
    go : (t : Bool) → ltb b 10 ≡ t → Place b
    go true e = at (ltb-true _ _ e)
    go false e = past (ltb-false _ _ e)

-- the outstanding step is the first one left, and the crate is done when none is
pub first-at : (kind : PassKind) (w b code : ℕ) → cond (ltb b 10) (step b code ∷ []) [] ≡ first (todo_at kind w b code)
first-at kind w b code = go (place b)
  where
    go : Place b → cond (ltb b 10) (step b code ∷ []) [] ≡ first (todo_at kind w b code)
    go (at h) = rw (lt-ltb _ _ h, todo-here kind w b code h)
    go (past h) = rw (le-ltb _ _ h, todo-done kind w b code h)

pub none-at : (kind : PassKind) (w b code : ℕ) → leb 10 b ≡ none (todo_at kind w b code)
none-at kind w b code = go (place b)
  where
    go : Place b → leb 10 b ≡ none (todo_at kind w b code)
    go (at h) = rw (lt-leb _ _ h, todo-here kind w b code h)
    go (past h) = rw (le-leb _ _ h, todo-done kind w b code h)

-- the next board is none before
first-least : (kind : PassKind) (w n b : ℕ) → b + n ≡ 10 → b ≤ first_served kind w n b
unfolding first_served
first-least kind w zero b h = omega arith
first-least kind w (suc n) b h = go (serves kind w b) (first-least kind w n (suc b) (omega arith))
  where
    go : (t : Bool) → suc b ≤ first_served kind w n (suc b) → b ≤ cond t b (first_served kind w n (suc b))
    go true ih = omega arith
    go false ih = omega arith

pub next-least : (kind : PassKind) (w b : ℕ) → b ≤ 10 → b ≤ next_board kind w b
unfolding next_board
next-least kind w b h = first-least kind w (10 - b) b (omega arith)
