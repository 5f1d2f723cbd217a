-- A trigger is accepted exactly where no row of its table applies, and refused with the lowest that does; a refused one changes nothing.
-- Assumes nothing.
use Prim.Native.Nat.{ℕ}
use mathlib.Core.Path.{◌≡◌, sym, ap, ◌∙◌}
use mathlib.Core.List.{List}
use lib.Dec.{T}
use lib.ListN.{length}
use Rattle.refusals.specs.Tables.{Answer, refused, rising, answer_of}
use Rattle.refusals.specs.Writing.{writing_rules, output_after}
use Rattle.refusals.proofs.Tables.{Exactly}
use Rattle.refusals.proofs.Writing.{writing-exactly}
use Rattle.packets.specs.Packets.{packet_bytes}
use Rattle.packets.specs.declared.Fields.{Fields}
use Rattle.run.specs.Run.{trigger_number, trigger_rules, trigger_answer, after_answer, Triggers}
use Rattle.run.specs.declared.Run.{Run}
use Rattle.run.specs.declared.Triggered.{Triggered}

module _ (r : Run) (f : Fields) (out : List ℕ) where
  trigger-rises : T (rising (writing_rules (trigger_rules r f) (packet_bytes (trigger_number r) f) out))
  unfolding trigger_rules writing_rules
  trigger-rises = tt

  -- 01, Numbers given when we say no: 15, 16, 17, then 19, and "Where several apply, the lowest is given"
  pub trigger-exactly :
      let due = packet_bytes (trigger_number r) f in
      Exactly (writing_rules (trigger_rules r f) due out) (length due) (trigger_answer r f out)
  trigger-exactly =
      writing-exactly (writing_rules (trigger_rules r f) (packet_bytes (trigger_number r) f) out) (packet_bytes (trigger_number r) f) out trigger-rises

  -- 01, Numbers given when we say no: "A refusal returns its number, the unchanged state where the call has one"; and the lent bytes stay
  pub nothing-lost : (t : Triggered) (after : List ℕ) → Triggers r f out t after → (n p : ℕ) → answer_of t.answer ≡ refused n p
      → (t.run ≡ r) × (after ≡ out)
  nothing-lost t after h n p e =
      let q : trigger_answer r f out ≡ refused n p = sym h.packet.answer ∙ e in
      (h.run ∙ ap (after_answer r) q, h.packet.output ∙ ap (λ (a : Answer ℕ). output_after a (packet_bytes (trigger_number r) f) out) q)
