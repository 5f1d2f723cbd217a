-- What one call leaves as it was, and what calls keep among which none gets such an answer (`kept-by-calls`).
-- Assumes nothing.
use Prim.Native.Nat.{ℕ}
use mathlib.Core.Path.{◌≡◌, refl, sym, ap}
use mathlib.Core.Bool.{Bool, true, false, not, ◌&&◌}
use mathlib.Core.List.{List, [], ◌∷◌}
use native.Mathlib.Omega.{arith}
use lib.ListN.{set}
use Rattle.refusals.specs.Tables.{Answer, given, refused}
use Rattle.commands.specs.declared.Command.{Command}
use Rattle.steps.specs.declared.Judged.{Judged}
use Rattle.crate_pass.specs.Crate.{unless_refused}
use Rattle.crate_pass.specs.declared.Outcome.{Outcome}
use Rattle.board.specs.State.{with_crates}
use Rattle.board.specs.Commands.{board_answer}
use Rattle.board.specs.SlowControl.{moved_at, reply_answer, board_replied}
use Rattle.board.specs.RatePass.{rates_begun, begin_answer, after_begin}
use Rattle.board.specs.declared.Board.{Board}
use Rattle.reachable.specs.Calls.{Call, command, clock_step, trigger, hand_in, begin_rates, after_call, after_all, begins, none_gets}

pub false≢true : {A : Type 0} → false ≡ true → A
false≢true e = absurd (let z : ◌≡◌ {A = ℕ} 0 1 = cc in omega arith)

-- ---- a reply or a time-up changes nothing but the crates

module _ (β : Board) (c : ℕ) (h : Judged) (lent : List ℕ) where
  pub replied-rest : board_replied β c h lent ≡ with_crates β (board_replied β c h lent).crates
  unfolding board_replied with_crates
  replied-rest = go (reply_answer β c h lent)
    where
      next : Board
      next = with_crates β (set β.crates c (moved_at β c h).state)

      go : (a : Answer Outcome) → unless_refused a next β ≡ with_crates β (unless_refused a next β).crates
      go (given o) = refl
      go (refused n p) = refl

  pub replied-run : (board_replied β c h lent).run ≡ β.run
  unfolding with_crates
  replied-run = ap (λ (γ : Board). γ.run) replied-rest

  pub replied-identity : (board_replied β c h lent).identity ≡ β.identity
  unfolding with_crates
  replied-identity = ap (λ (γ : Board). γ.identity) replied-rest

-- ---- the begin of a rate pass leaves the run

pub begun-run : (β : Board) (a : Answer Unit) → (after_begin β a).run ≡ β.run
unfolding rates_begun
begun-run β (given t) = refl
begun-run β (refused n p) = refl

-- and where it begins none, everything
pub not-begun : (β : Board) (a : Answer Unit) → begins a ≡ false → after_begin β a ≡ β
not-begun β (given t) e = false≢true (sym e)
not-begun β (refused n p) e = refl

pub only-first : (t : Bool) → (t && true) ≡ false → t ≡ false
only-first true e = e
only-first false e = refl

-- ---- none of some calls gets such an answer

-- the call is no command that gets such an answer, nor, where `rates` says so, begins a rate pass
abbrev pub Free : (Answer Command → Bool) → Bool → Board → Call → Type 0
Free such rates β (command words) = such (board_answer β words) ≡ false
Free such rates β (clock_step ticks) = Unit
Free such rates β (trigger fields out) = Unit
Free such rates β (hand_in c event out) = Unit
Free such rates β begin_rates = (rates && begins (begin_answer β)) ≡ false

not-and : (a b : Bool) → (not a && b) ≡ true → (a ≡ false) × (b ≡ true)
not-and true b e = false≢true e
not-and false b e = (refl, e)

-- of a first call and others: it does not, and none of the others does
pub none_first : (such : Answer Command → Bool) (rates : Bool) (β : Board) (x : Call) (xs : List Call) → none_gets such rates β (x ∷ xs) ≡ true
    → Free such rates β x × (none_gets such rates (after_call β x) xs ≡ true)
none_first such rates β (command words) xs e = not-and (such (board_answer β words)) (none_gets such rates (after_call β (command words)) xs) e
none_first such rates β (clock_step ticks) xs e = (tt, e)
none_first such rates β (trigger fields out) xs e = (tt, e)
none_first such rates β (hand_in c event out) xs e = (tt, e)
none_first such rates β begin_rates xs e = not-and (rates && begins (begin_answer β)) (none_gets such rates (after_call β begin_rates) xs) e

-- what each call keeps that gets no such answer, they keep together
pub kept-by-calls : (such : Answer Command → Bool) (rates : Bool) (P : Board → Type 0)
    → ((β : Board) (x : Call) → Free such rates β x → P β → P (after_call β x))
    → (β : Board) (xs : List Call) → none_gets such rates β xs ≡ true → P β → P (after_all β xs)
kept-by-calls such rates P one β [] e p = p
kept-by-calls such rates P one β (x ∷ xs) e p =
    let first = none_first such rates β x xs e in
    kept-by-calls such rates P one (after_call β x) xs first.1 (one β x first.0 p)
