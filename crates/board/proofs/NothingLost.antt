-- 01, Numbers given when we say no: "No refusal changes the state or lent memory. 1 to 8 use no words of a command; 9 and 10 use the whole command."
-- Assumes nothing.
use Prim.Native.Nat.{ℕ, ◌+◌, ◌≤◌}
use mathlib.Core.Path.{◌≡◌, refl, sym, ap, ◌∙◌}
use mathlib.Core.Logic.{◌⊎◌, inl, inr, ⊎_elim}
use mathlib.Core.List.{List}
use native.Mathlib.Omega.{arith}
use Rattle.std.specs.Prelude.{Result}
use Rattle.refusals.specs.Tables.{Answer, given, refused, lowest, answer_of}
use Rattle.refusals.proofs.Tables.{refused-more, refused-applies}
use Rattle.refusals.proofs.Writing.{refused-keeps}
use Rattle.packets.specs.declared.Fields.{Fields}
use Rattle.commands.specs.Commands.{block_length}
use Rattle.commands.specs.declared.Command.{Command}
use Rattle.command_reader.specs.declared.Taken.{Taken}
use Rattle.command_reader.specs.Reading.{read_rules, command_in, command_answer, used_of, block_of}
use Rattle.command_reader.proofs.Tables.{accepted}
use Rattle.command_reader.proofs.Used.{used-is}
use Rattle.acceptance.specs.Acceptance.{state_rules, decided}
use Rattle.acceptance.proofs.Deciding.{by_state}
use Rattle.run.specs.Run.{trigger_answer, after_answer}
use Rattle.steps.specs.declared.Judged.{Judged}
use Rattle.board.proofs.Answers.{applies-between}
use Rattle.board.proofs.Serving.{board-refused, bytes-refused}
use Rattle.board.specs.State.{status_of, with_run}
use Rattle.board.specs.Commands.{board_answer, after_command, board_after, Obeys, after_trigger_on, TriggersOn}
use Rattle.board.specs.SlowControl.{reply_answer, Replies, Fetches}
use Rattle.board.specs.RatePass.{after_begin, Begins}
use Rattle.board.specs.declared.BeginResult.{BeginResult}
use Rattle.board.specs.SentOut.{SendsStatic, SendsDynamic, SendsList, SendsFailure}
use Rattle.board.specs.declared.Board.{Board}
use Rattle.board.specs.declared.CommandResult.{CommandResult}
use Rattle.board.specs.declared.TriggerResult.{TriggerResult}
use Rattle.board.specs.declared.ReplyResult.{ReplyResult}
use Rattle.refusals.specs.declared.Refusal.{Refusal}

-- what a writer does, from the lent output to its answer and to what the output then holds
abbrev pub Writer : Type 1
Writer = List ℕ → (Result ℕ Refusal) → List ℕ → Type 0

-- where it refuses it leaves the lent output as it was
abbrev pub KeepsOutput : Writer → Type 0
KeepsOutput writer = (out : List ℕ) (r : Result ℕ Refusal) (after : List ℕ) → writer out r after → (n p : ℕ) → answer_of r ≡ refused n p → after ≡ out

-- ---- the next state, and the words that a command uses

-- the words that a command refused with the number n uses
abbrev UsedAs : List ℕ → ℕ → Type 0
UsedAs w n = ((n ≤ 8) × (used_of (command_answer w) ≡ 0)) ⊎ ((9 ≤ n) × (used_of (command_answer w) ≡ 5 + block_length (command_in w)))

module _ (β : Board) (n p : ℕ) where
  module _ (w : List ℕ) (e : board_answer β w ≡ refused n p) where
    pub command-keeps : board_after β w ≡ β
    command-keeps = ap (after_command β (block_of w)) e

    -- the words refuse it, or they are right and the state does
    by-words-or-state : UsedAs w n
    unfolding decided command_answer read_rules
    by-words-or-state = go (command_answer w) refl
      where
        go : (a : Answer Taken) → command_answer w ≡ a → UsedAs w n
        go (refused m q) r =
            let d : decided w (status_of β) ≡ refused m q =
            refused-more (read_rules w) (state_rules (command_in w) (status_of β)) (accepted w) (command_in w) m q r in
            let k : ◌≡◌ {A = Answer Command} (refused m q) (refused n p) = sym d ∙ e in
            let l = applies-between 1 8 (read_rules w) tt m q (refused-applies (read_rules w) (accepted w) m q r) in
            let j : m ≡ n = cc in
            inl (omega arith, ap used_of r)
        go (given t) r =
            let rules = state_rules t.command (status_of β) in
            let d : lowest rules t.command ≡ refused n p = sym (by_state w (status_of β) t.command t.used r) ∙ e in
            inr ((applies-between 9 10 rules tt n p (refused-applies rules t.command n p d)).0, ap used_of r ∙ used-is w t r)

    pub unread-words : n ≤ 8 → used_of (command_answer w) ≡ 0
    unread-words h = ⊎_elim (λ a. a.1) (λ a. absurd (let l = a.0 in let k : ⊥ = omega arith in k)) by-words-or-state

    pub read-words : 9 ≤ n → used_of (command_answer w) ≡ 5 + block_length (command_in w)
    read-words h = ⊎_elim (λ a. absurd (let l = a.0 in let k : ⊥ = omega arith in k)) (λ a. a.1) by-words-or-state

  pub trigger-keeps : (f : Fields) (out : List ℕ) → trigger_answer β.run f out ≡ refused n p → after_trigger_on β f out ≡ β
  unfolding with_run
  trigger-keeps f out e = ap (λ (a : Answer ℕ). with_run β (after_answer β.run a)) e

-- ---- what a refused call returns, and what it leaves in lent memory

pub record NothingLost (β : Board) : Type 0 where
  pub command : (w : List ℕ) (r : CommandResult) → Obeys β w r → (n p : ℕ) → answer_of r.answer ≡ refused n p
      → (r.board ≡ β) × (n ≤ 8 → r.used ≡ 0) × (9 ≤ n → r.used ≡ 5 + block_length (command_in w))
  pub trigger : (f : Fields) (out after : List ℕ) (t : TriggerResult) → TriggersOn β f out t after → (n p : ℕ) → answer_of t.answer ≡ refused n p
      → (t.board ≡ β) × (after ≡ out)
  -- a reply or a time-up
  pub reply : (i : ℕ) (h : Judged) (lent after : List ℕ) (r : ReplyResult) → Replies β i h lent r after → (n p : ℕ)
      → answer_of r.answer ≡ refused n p
      → (r.board ≡ β) × (after ≡ lent)
  -- the begin of a rate pass
  pub begin : (r : BeginResult) → Begins β r → (n p : ℕ) → answer_of r.answer ≡ refused n p → r.board ≡ β
  -- the first frame, and the four blocks
  pub frame : (i : ℕ) → KeepsOutput (Fetches β i)
  pub static : KeepsOutput (SendsStatic β)
  pub dynamic : (t : List ℕ) → KeepsOutput (SendsDynamic β t)
  pub list : KeepsOutput (SendsList β)
  pub failure : (ordinal : ℕ) → KeepsOutput (SendsFailure β ordinal)

pub nothing-lost : (β : Board) → NothingLost β
nothing-lost β =
    record {
      command = λ w r o n p q.
          let e : board_answer β w ≡ refused n p = sym o.answer ∙ q in
          (o.board ∙ command-keeps β n p w e, λ h. o.used ∙ unread-words β n p w e h, λ h. o.used ∙ read-words β n p w e h);
      trigger = λ f out after t o n p q.
          (o.board ∙ trigger-keeps β n p f out (sym o.packet.answer ∙ q), refused-keeps _ _ out t.answer after o.packet n p q);
      reply = λ i h lent after r o n p q.
          let e : reply_answer β i h lent ≡ refused n p = sym o.answer ∙ q in
          (o.board ∙ board-refused β i h lent n p e, o.bytes ∙ bytes-refused β i h lent n p e);
      begin = λ r o n p q. o.board ∙ ap (after_begin β) (sym o.answer ∙ q);
      frame = λ i out r after w. refused-keeps _ _ out r after w;
      static = λ out r after w. refused-keeps _ _ out r after w.wrote;
      dynamic = λ t out r after w. refused-keeps _ _ out r after w.block.wrote;
      list = λ out r after w. refused-keeps _ _ out r after w.wrote;
      failure = λ ordinal out r after w. refused-keeps _ _ out r after w.wrote;
    }
