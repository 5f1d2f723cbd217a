-- Every answer of a board is a result or one of the paper's numbers: for each call, from which to which.
-- Assumes nothing.
use Prim.Native.Nat.{ℕ, ◌≤◌}
use mathlib.Core.Path.{◌≡◌}
use mathlib.Core.Bool.{Bool, true, false, ◌&&◌}
use mathlib.Core.Logic.{inl, inr}
use mathlib.Core.List.{List, [], ◌∷◌, ◌++◌}
use native.Mathlib.Omega.{arith}
use lib.Dec.{T, leb, leb→le}
use Rattle.refusals.specs.Tables.{Answer, refused, Rule}
use Rattle.refusals.specs.Writing.{writing_by, writing_rules, writing}
use Rattle.refusals.proofs.Tables.{Applies, Exactly}
use Rattle.packets.specs.declared.Fields.{Fields}
use Rattle.command_reader.specs.Reading.{read_rules}
use Rattle.run.specs.Run.{trigger_rules, trigger_answer}
use Rattle.blocks.specs.Blocks.{header_words, static_rules, temperature_rules, block_rules}
use Rattle.ftu_list.specs.List.{list_body}
use Rattle.steps.specs.declared.Judged.{Judged}
use Rattle.board.specs.State.{power_up_answer}
use Rattle.board.specs.Commands.{board_answer}
use Rattle.board.specs.SlowControl.{frame_at, fetch_rules, reply_answer, sent_answer}
use Rattle.board.specs.RatePass.{begin_answer}
use Rattle.board.specs.SentOut.{header_of, dynamic_body_of, list_rules, list_of, failure_rules, failure_body_of}
use Rattle.board.specs.declared.Board.{Board}
use Rattle.board.proofs.Tables.{power-up-exactly, command-exactly, trigger-exactly, reply-exactly, frame-exactly, sent-exactly, begin-exactly}
use Rattle.board.proofs.Tables.{static-exactly, dynamic-exactly, list-exactly, failure-exactly}

-- each number of a table is from a to b
abbrev between : ℕ → ℕ → List Rule → Bool
between a b [] = true
between a b (r ∷ rs) = leb a r.number && leb r.number b && between a b rs

both : (s t : Bool) → T (s && t) → T s × T t
both true t h = (tt, h)
both false t h = absurd h

pub applies-between : (a b : ℕ) (rs : List Rule) → T (between a b rs) → (n p : ℕ) → Applies rs n p → (a ≤ n) × (n ≤ b)
applies-between a b [] t n p h = elim h [ ]
applies-between a b (r ∷ rs) t n p h =
    let x = both (leb a r.number && leb r.number b) (between a b rs) t in
    let y = both (leb a r.number) (leb r.number b) x.0 in
    go (leb→le a r.number y.0) (leb→le r.number b y.1) (applies-between a b rs x.1 n p) h
  where
    go : a ≤ r.number → r.number ≤ b → (Applies rs n p → (a ≤ n) × (n ≤ b)) → Applies (r ∷ rs) n p → (a ≤ n) × (n ≤ b)
    go l m f (inl k) = let e : r.number ≡ n = k.1 in (omega arith, omega arith)
    go l m f (inr k) = f k

-- an answer is a result, or refuses with a number from a to b
abbrev pub RefusesFrom : {A : Type 0} → ℕ → ℕ → Answer A → Type 0
RefusesFrom a b answer = (n p : ℕ) → answer ≡ refused n p → (a ≤ n) × (n ≤ b)

refuses-from : {A : Type 0} (a b : ℕ) {rules : List Rule} {x : A} {answer : Answer A} → Exactly rules x answer → T (between a b rules) → RefusesFrom a b answer
refuses-from a b {rules} e t n p q = applies-between a b rules t n p (e.refused-only n p q).0

pub power-up-numbers : (id : ℕ) → RefusesFrom 20 20 (power_up_answer id)
power-up-numbers id = refuses-from 20 20 (power-up-exactly id) tt

module _ (β : Board) where
  pub command-numbers : (w : List ℕ) → RefusesFrom 1 10 (board_answer β w)
  unfolding read_rules
  command-numbers w = refuses-from 1 10 (command-exactly β w) tt

  pub trigger-numbers : (f : Fields) (out : List ℕ) → RefusesFrom 15 19 (trigger_answer β.run f out)
  unfolding trigger_rules writing_rules
  trigger-numbers f out = refuses-from 15 19 (trigger-exactly β f out) tt

  pub reply-numbers : (i : ℕ) (h : Judged) (lent : List ℕ) → RefusesFrom 11 19 (reply_answer β i h lent)
  reply-numbers i h lent = refuses-from 11 19 (reply-exactly β i h lent) tt

  pub frame-numbers : (i : ℕ) (out : List ℕ) → RefusesFrom 11 19 (writing (fetch_rules β i) (frame_at β i) out)
  unfolding writing_rules
  frame-numbers i out = refuses-from 11 19 (frame-exactly β i out) tt

  pub sent-numbers : (i : ℕ) → RefusesFrom 11 11 (sent_answer β i)
  sent-numbers i = refuses-from 11 11 (sent-exactly β i) tt

  pub begin-numbers : RefusesFrom 9 9 (begin_answer β)
  begin-numbers = refuses-from 9 9 (begin-exactly β) tt

  -- what the writer of a block of the board with these rows of its own answers
  abbrev pub block_answer : List Rule → List ℕ → List ℕ → Answer ℕ
  block_answer own body out = writing_by (block_rules own (header_of β) body out) (header_words (header_of β) ++ body)

  pub static-numbers : (out : List ℕ) → RefusesFrom 8 20 (block_answer (static_rules β.block) β.block out)
  unfolding block_rules
  static-numbers out = refuses-from 8 20 (static-exactly β out) tt

  pub dynamic-numbers : (t out : List ℕ) → RefusesFrom 6 20 (block_answer (temperature_rules t) (dynamic_body_of β t) out)
  unfolding block_rules
  dynamic-numbers t out = refuses-from 6 20 (dynamic-exactly β t out) tt

  pub list-numbers : (out : List ℕ) → RefusesFrom 9 20 (block_answer (list_rules β) (list_body (list_of β)) out)
  unfolding block_rules
  list-numbers out = refuses-from 9 20 (list-exactly β out) tt

  pub failure-numbers : (ordinal : ℕ) (out : List ℕ) → RefusesFrom 9 20 (block_answer (failure_rules β ordinal) (failure_body_of β ordinal) out)
  unfolding block_rules
  failure-numbers ordinal out = refuses-from 9 20 (failure-exactly β ordinal out) tt
