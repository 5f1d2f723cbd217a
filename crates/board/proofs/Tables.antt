-- "Exactly when", of every call on a board: the result is given where no row of its table applies, and otherwise the lowest number whose row does.
-- Assumes nothing.
use Prim.Native.Nat.{ℕ}
use mathlib.Core.List.{List, [], ◌∷◌}
use lib.ListN.{length}
use Rattle.refusals.specs.Tables.{Rule}
use Rattle.refusals.specs.Writing.{writing_rules, writing}
use Rattle.refusals.proofs.Tables.{Exactly, exactly}
use Rattle.refusals.proofs.Writing.{writing-exactly}
use Rattle.packets.specs.Packets.{packet_bytes}
use Rattle.packets.specs.declared.Fields.{Fields}
use Rattle.command_reader.specs.Reading.{command_in}
use Rattle.acceptance.specs.Acceptance.{command_rules}
use Rattle.acceptance.proofs.Deciding as deciding
use Rattle.run.specs.Run.{trigger_number, trigger_rules}
use Rattle.run.proofs.Tables as run
use Rattle.blocks.specs.Blocks.{static_rules, temperature_rules, block_rules}
use Rattle.blocks.proofs.Tables as blocks
use Rattle.blocks.proofs.Tables.{BlockExactly, block-exactly}
use Rattle.ftu_list.specs.List.{list_body}
use Rattle.steps.specs.declared.Judged.{Judged}
use Rattle.crate_pass.specs.Crate.{no_such_crate}
use Rattle.crate_pass.proofs.Tables as crate-pass
use Rattle.four_crates.proofs.OneCrate as crates
use Rattle.board.specs.State.{crate_at, status_of, power_up_rules, power_up_answer, finished_rates}
use Rattle.board.specs.Commands.{board_answer}
use Rattle.board.specs.SlowControl.{frame_at, fetch_rules, moved_at, reply_rules, reply_answer, sent_answer}
use Rattle.board.specs.RatePass.{begin_rules, begin_answer}
use Rattle.board.specs.SentOut.{header_of, dynamic_body_of, list_rules, list_of, failure_rules, failure_body_of}
use Rattle.board.specs.declared.Board.{Board}

-- a writer of `due` with its own rows, then 19: it answers how much it wrote
abbrev pub WritesExactly : List Rule → List ℕ → List ℕ → Type 0
WritesExactly rules due out = Exactly (writing_rules rules due out) (length due) (writing rules due out)

-- power-up: 20
pub power-up-exactly : (id : ℕ) → Exactly (power_up_rules id) tt (power_up_answer id)
unfolding power_up_answer
power-up-exactly id = exactly (power_up_rules id) tt tt

module _ (β : Board) where
  -- a command: 1 to 10
  pub command-exactly : (w : List ℕ) → Exactly (command_rules w (status_of β)) (command_in w) (board_answer β w)
  command-exactly w = deciding.command-exactly w (status_of β)

  -- a trigger: 15, 16, 17, 19
  pub trigger-exactly : (f : Fields) (out : List ℕ) → WritesExactly (trigger_rules β.run f) (packet_bytes (trigger_number β.run) f) out
  trigger-exactly f out = run.trigger-exactly β.run f out

  -- a reply or a time-up: 11, 12, 19
  pub reply-exactly : (i : ℕ) (h : Judged) (lent : List ℕ) → Exactly (reply_rules β i lent) (moved_at β i h).outcome (reply_answer β i h lent)
  reply-exactly i h lent = crate-pass.served-exactly β.kind _ i (crate_at β i) h lent

  -- the first frame: 11, 12, 19
  pub frame-exactly : (i : ℕ) (out : List ℕ) → WritesExactly (fetch_rules β i) (frame_at β i) out
  unfolding writing_rules
  frame-exactly i out = writing-exactly (writing_rules (fetch_rules β i) (frame_at β i) out) (frame_at β i) out tt

  -- the number of frames sent: 11
  pub sent-exactly : (i : ℕ) → Exactly (no_such_crate i ∷ []) (crate_at β i).sent (sent_answer β i)
  sent-exactly i = crates.sent-exactly β.crates i

  -- the static block: 8, 19, 20
  pub static-exactly : (out : List ℕ) → BlockExactly (static_rules β.block) (header_of β) β.block out
  static-exactly out = blocks.static-exactly (header_of β) β.block out

  -- the dynamic block: 6, 19, 20
  pub dynamic-exactly : (t out : List ℕ) → BlockExactly (temperature_rules t) (header_of β) (dynamic_body_of β t) out
  dynamic-exactly t out = blocks.dynamic-exactly (header_of β) β.run.on_time t (finished_rates β) out

  -- the begin of a rate pass: 9
  pub begin-exactly : Exactly (begin_rules β) tt (begin_answer β)
  unfolding begin_answer
  begin-exactly = exactly (begin_rules β) tt tt

  -- the FTU list: 9, 19, 20
  pub list-exactly : (out : List ℕ) → BlockExactly (list_rules β) (header_of β) (list_body (list_of β)) out
  unfolding block_rules
  list-exactly out = block-exactly (list_rules β) (header_of β) (list_body (list_of β)) out tt

  -- a failure message: 9, 18, 19, 20
  pub failure-exactly : (ordinal : ℕ) (out : List ℕ) → BlockExactly (failure_rules β ordinal) (header_of β) (failure_body_of β ordinal) out
  unfolding block_rules
  failure-exactly ordinal out = block-exactly (failure_rules β ordinal) (header_of β) (failure_body_of β ordinal) out tt
