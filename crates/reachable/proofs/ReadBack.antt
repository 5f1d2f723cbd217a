-- Every block that a board writes in a state that it reaches reads back equal, and so does a trigger's packet; with room, its static block is
-- written, and every other block that no row of its own refuses: 20 never comes, nor 8 for the stored block.
-- Assumes nothing.
use Prim.Native.Nat.{ℕ, ◌+◌, ◌<◌, ◌≤◌, ◌^◌}
use mathlib.Core.Path.{◌≡◌, subst, ◌∙◌}
use mathlib.Core.List.{List}
use native.Mathlib.Nat.{mod-eq_of_lt}
use native.Mathlib.Omega.{arith}
use lib.ListN.{length, take}
use borrow.Author.Tests.{eqb-false}
use Rattle.std.specs.Prelude.{Result, Ok}
use Rattle.refusals.specs.Tables.{given, Rule}
use Rattle.refusals.specs.Writing.{writing_rules, Wrote}
use Rattle.refusals.proofs.Tables.{Clear}
use Rattle.refusals.proofs.Writing.{wrote-length, wrote-clear}
use Rattle.packets.specs.Packets.{first_six, packet_bytes}
use Rattle.packets.specs.declared.Fields.{Fields}
use Rattle.numbers.specs.Numbers.{number}
use Rattle.bounds.specs.Bounds.{bound_of}
use Rattle.bounds.proofs.Lent.{above-clear}
use Rattle.blocks.specs.Blocks.{static_rules, temperature_rules, dynamic_body, WroteBlock}
use Rattle.blocks.specs.declared.Header.{Header}
use Rattle.blocks.proofs.Laws.{block-accepts}
use Rattle.blocks.proofs.Dynamic.{right-length, length-dynamic}
use Rattle.ftu_list.specs.List.{list_body}
use Rattle.block_reader.specs.Reading.{body_of}
use Rattle.block_reader.specs.declared.Kind.{Kind}
use Rattle.block_reader.specs.declared.Kind.TheVariants.{Static, Dynamic, FtuList, Failure}
use Rattle.packet_reader.specs.Reading.{packet_answer}
use Rattle.round_trips.specs.Blocks.{as_sent, ReadsBack, DynamicBack}
use Rattle.round_trips.proofs.Blocks.{static-back, dynamic_back, list_back, failure-back, sent-whole}
use Rattle.round_trips.proofs.Packets as packets
use Rattle.run.specs.Run.{trigger_number, trigger_rules}
use Rattle.board.specs.State.{finished_rates}
use Rattle.board.specs.SentOut.{header_of, list_rules, list_of, failure_rules, failure_body_of, SendsStatic, SendsDynamic, SendsList, SendsFailure}
use Rattle.board.specs.declared.Board.{Board}
use Rattle.reachable.specs.Reachable.{Reachable}
use Rattle.reachable.proofs.Rates.{finished-sound}
use Rattle.refusals.specs.declared.Refusal.{Refusal}

module _ (β : Board) (h : Reachable β) where
  -- the timestamp of its header fits its words
  as-held : {kind : Kind} {w b : List ℕ} → ReadsBack kind w (as_sent (header_of β)) b → ReadsBack kind w (header_of β) b
  as-held {kind} {w} {b} r =
      subst (λ (k : Header). ReadsBack kind w k b) (sent-whole (header_of β) h.run.timestamp) r

  -- ---- blocks: n words were written, from the front of what was lent

  module _ (out after : List ℕ) (n : ℕ) where
    pub static-reads : SendsStatic β out (Ok n) after → ReadsBack Static (take n after) (header_of β) β.block
    static-reads w = as-held (static-back (header_of β) out n after β.block w)

    -- whatever temperatures are lent (02, i)
    pub dynamic-reads : (t : List ℕ) → SendsDynamic β t out (Ok n) after
        → DynamicBack (take n after) (header_of β) β.run.on_time t (finished_rates β)
    dynamic-reads t w =
        let back = dynamic_back (header_of β) out n after β.run.on_time t (finished_rates β) (finished-sound β h).1 w in
        record { block = as-held back.block; on-time = back.on-time; temperatures = back.temperatures; rates = back.rates }

    -- whose on-time fits its words too
    pub on-time-reads : (t : List ℕ) → SendsDynamic β t out (Ok n) after
        → number 65536 (take 3 (body_of Dynamic (take n after))) ≡ β.run.on_time
    on-time-reads t w = (dynamic-reads t w).on-time ∙ mod-eq_of_lt h.run.on-time

    pub list-reads : SendsList β out (Ok n) after → ReadsBack FtuList (take n after) (header_of β) (list_body (list_of β))
    list-reads w = as-held (list_back (header_of β) out n after (list_rules β) (list_of β) w)

    pub failure-reads : (i : ℕ) → SendsFailure β i out (Ok n) after → ReadsBack Failure (take n after) (header_of β) (failure_body_of β i)
    failure-reads i w = as-held (failure-back (header_of β) out n after (failure_rules β i) 3 _ w)

  -- ---- with room

  -- a block that no row of its own refuses
  pub block_written : (own : List Rule) (n : ℕ) (body out : List ℕ) (r : Result ℕ Refusal) (after : List ℕ) → Clear own → length body ≡ n → 11 + n ≤ length out
      → WroteBlock own n (header_of β) body out r after → r ≡ Ok (11 + n)
  block_written own n body out r after clear l room w = block-accepts own n (header_of β) body out r after clear l room h.id w

  -- the static block, always
  pub static-written : (out : List ℕ) (r : Result ℕ Refusal) (after : List ℕ) → 447 ≤ length out → SendsStatic β out r after
      → (r ≡ Ok 447) × ReadsBack Static (take 447 after) (header_of β) β.block
  static-written out r after room w =
      let within : Clear (static_rules β.block) = above-clear bound_of 436 β.block (let e = h.within in omega arith) in
      let e : r ≡ Ok 447 = block_written (static_rules β.block) 436 β.block out r after within h.length-block room w in
      (e, static-reads out after 447 (subst (λ (x : Result ℕ Refusal). SendsStatic β out x after) e w))

  -- the dynamic block, with any four temperatures: a board gives no 8 there
  pub dynamic-written : (t out : List ℕ) (r : Result ℕ Refusal) (after : List ℕ) → length t ≡ 4 → 498 ≤ length out → SendsDynamic β t out r after
      → (r ≡ Ok 498) × DynamicBack (take 498 after) (header_of β) β.run.on_time t (finished_rates β)
  dynamic-written t out r after four room w =
      let body = dynamic_body β.run.on_time t (finished_rates β) in
      let size = length-dynamic t β.run.on_time (finished_rates β) four (finished-sound β h).0 in
      let e : r ≡ Ok 498 = block_written (temperature_rules t) 487 body out r after (right-length t four) size room w.block in
      (e, dynamic-reads out after 498 t (subst (λ (x : Result ℕ Refusal). SendsDynamic β t out x after) e w))

  -- ---- packets

  pub packet-reads : (out after : List ℕ) (n : ℕ) (f : Fields) → Wrote (trigger_rules β.run f) (packet_bytes (trigger_number β.run) f) out (Ok n) after
      → (n ≡ 7) × (packet_answer (take n after) ≡ given (record { number = trigger_number β.run; fields = f }))
  unfolding trigger_rules first_six
  packet-reads out after n f w =
      let due = packet_bytes (trigger_number β.run) f in
      let clear = wrote-clear (trigger_rules β.run f) due out n after w in
      let size = wrote-length (writing_rules (trigger_rules β.run f) due out) due out n after w in
      let room = eqb-false β.run.trigger_counter 4294967295 clear.1.1.0 in
      let low : trigger_number β.run < 2 ^ 32 = let k = h.run.counter in omega arith in (
        omega arith,
        packets.read_by (trigger_rules β.run f) (trigger_number β.run) f out n after w low clear.0,
      )
