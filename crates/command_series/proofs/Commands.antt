-- Commands one after another, on a fresh board.
-- Assumes nothing.
use Prim.Native.Nat.{ℕ, ◌+◌, ◌-◌, ◌<◌, ◌≤◌}
use native.Mathlib.Nat.{zero-add, sub-zero}
use native.Mathlib.Omega.{arith}
use mathlib.Core.Path.{◌≡◌, refl, sym, ap, ap₂, ◌∙◌}
use mathlib.Core.Bool.{Bool, true, false, cond}
use mathlib.Core.List.{List}
use lib.Dec.{eqb}
use borrow.Author.Tests.{eq-eqb, ne_eqb, eqb-true}
use Rattle.refusals.specs.Tables.{answer_number, is_given, answer_of}
use Rattle.command_reader.specs.Reading.{rest_after, rest_of}
use Rattle.board.specs.State.{fresh_board, power_up_answer, PowersUp}
use Rattle.board.specs.Commands.{board_answer, board_after, Obeys}
use Rattle.board.specs.declared.Board.{Board}
use Rattle.board.specs.declared.PowerUpResult.{PowerUpResult}
use Rattle.board.specs.declared.CommandResult.{CommandResult}
use Rattle.command_series.specs.Series.{first_of, after_commands, accepted_of, first_refusal, ObeysAll}
use Rattle.command_series.proofs.Parts.{one_left}

-- the first of two
module _ (m n : ℕ) where
  pub first-later : m ≡ 0 → n ≡ first_of m n
  unfolding first_of
  first-later e = rw (eq-eqb m 0 e) refl

  pub first-there : (m ≡ 0 → ⊥) → m ≡ first_of m n
  unfolding first_of
  first-there h = rw (ne_eqb m 0 h) refl

-- the first of three
first_three : (a b c : ℕ) → first_of (first_of a b) c ≡ first_of a (first_of b c)
unfolding first_of
first_three a b c = go (eqb a 0) refl
  where
    go : (t : Bool) → eqb a 0 ≡ t → first_of (first_of a b) c ≡ first_of a (first_of b c)
    go true e = rw e refl
    go false e = rw (e, e) refl

first_alone : (a : ℕ) → first_of a 0 ≡ a
unfolding first_of
first_alone a = go (eqb a 0) refl
  where
    go : (t : Bool) → eqb a 0 ≡ t → ◌≡◌ {A = ℕ} (cond t 0 a) a
    go true e = sym (eqb-true a 0 e)
    go false e = refl

-- The first i commands of `count` left the words `rest` and the board β; `accepted` of them were accepted, and `refusal` is the number of the
-- first that was not.
pub record ObeyedSoFar (w : List ℕ) (count i : ℕ) (rest : List ℕ) (β : Board) (accepted refusal : ℕ) : Type 0 where
  pub board : after_commands (count - i) β rest ≡ after_commands count (fresh_board 0 0) w
  pub number : accepted + accepted_of (count - i) β rest ≡ accepted_of count (fresh_board 0 0) w
  pub first : first_of refusal (first_refusal (count - i) β rest) ≡ first_refusal count (fresh_board 0 0) w

pub none-obeyed : (w : List ℕ) (count : ℕ) (p : PowerUpResult) → PowersUp 0 0 p → ObeyedSoFar w count 0 w p.board 0 0
unfolding power_up_answer first_of
none-obeyed w count p up =
    record {
      board = ap₂ (λ (k : ℕ) (β : Board). after_commands k β w) (sub-zero count) up.board;
      number = zero-add _ ∙ ap₂ (λ (k : ℕ) (β : Board). accepted_of k β w) (sub-zero count) up.board;
      first = ap₂ (λ (k : ℕ) (β : Board). first_refusal k β w) (sub-zero count) up.board;
    }

module _ (w : List ℕ) (count i : ℕ) (rest : List ℕ) (β : Board) (accepted refusal : ℕ) (so_far : ObeyedSoFar w count i rest β accepted refusal) where
  -- the next command, on the words that are left
  pub one-obeyed : (o : CommandResult) → Obeys β rest o → (left : List ℕ) → left ≡ rest_after o.used rest
      → (g n f : ℕ) → i < count → g ≡ is_given (answer_of o.answer) → n ≡ answer_number (answer_of o.answer)
      → f ≡ first_of refusal n → ObeyedSoFar w count (i + 1) left o.board (accepted + g) f
  unfolding after_commands accepted_of first_refusal
  one-obeyed o obeyed left el g n f l eg en ef =
      let m = count - (i + 1) in
      let e = one_left count i l in
      let after : left ≡ rest_of rest = el ∙ ap (λ (k : ℕ). rest_after k rest) obeyed.used in
      let given : g ≡ is_given (board_answer β rest) = eg ∙ ap is_given obeyed.answer in
      let others : accepted_of m o.board left ≡ accepted_of m (board_after β rest) (rest_of rest) = ap₂ (accepted_of m) obeyed.board after in
      let all : accepted_of (count - i) β rest ≡ is_given (board_answer β rest) + accepted_of m (board_after β rest) (rest_of rest) =
      ap (λ (k : ℕ). accepted_of k β rest) e in
      let number = so_far.number in
      let more = first_refusal m o.board left in
      let later : first_of n more ≡ first_refusal (count - i) β rest =
      ap₂ first_of (en ∙ ap answer_number obeyed.answer) (ap₂ (first_refusal m) obeyed.board after)
      ∙ sym (ap (λ (k : ℕ). first_refusal k β rest) e) in
      record {
        board = ap₂ (after_commands m) obeyed.board after ∙ sym (ap (λ (k : ℕ). after_commands k β rest) e) ∙ so_far.board;
        number = omega arith;
        first = ap (λ (k : ℕ). first_of k more) ef ∙ first_three refusal n more ∙ ap (first_of refusal) later ∙ so_far.first;
      }

  pub all-obeyed : count ≤ i → ObeysAll count w (record { board = β; accepted = accepted; refusal = refusal })
  unfolding after_commands accepted_of first_refusal
  all-obeyed h =
      let e : count - i ≡ 0 = omega arith in
      let none : accepted_of (count - i) β rest ≡ 0 = ap (λ (k : ℕ). accepted_of k β rest) e in
      let number = so_far.number in
      let last : first_of refusal (first_refusal (count - i) β rest) ≡ refusal =
      ap (λ (k : ℕ). first_of refusal (first_refusal k β rest)) e ∙ first_alone refusal in
      record {
        board = sym (ap (λ (k : ℕ). after_commands k β rest) e) ∙ so_far.board;
        accepted = omega arith;
        refusal = sym last ∙ so_far.first;
      }
