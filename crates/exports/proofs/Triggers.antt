-- Triggers one after another, each on the whole board.
-- Assumes nothing.
use Prim.Native.Nat.{ℕ, suc, ◌+◌, ◌*◌, ◌-◌, ◌<◌, ◌≤◌}
use native.Mathlib.Omega.{arith}
use mathlib.Core.Path.{◌≡◌, refl, sym, ap, subst, ap₂, ◌∙◌}
use mathlib.Core.Bool.{cond}
use mathlib.Core.List.{List, [], ◌∷◌, ◌++◌, append-nil, append_assoc}
use lib.ListN.{length, take, drop, length-append, length-drop, take-append-drop, drop_of_length-le}
use lib.Seq.{length-take-le, take_at, drop_at}
use borrow.Author.Tests.{le-ltb}
use Rattle.std.specs.Prelude.{Ok, Err}
use Rattle.refusals.specs.Tables.{Answer, given, refused, Rule, lowest, answer_of}
use Rattle.refusals.specs.Writing.{writing_by, writing_rules, output_after}
use Rattle.refusals.specs.declared.Refusal.{Refusal}
use Rattle.packets.specs.Packets.{first_six, packet_bytes}
use Rattle.words.proofs.Laws.{part-rest}
use Rattle.run.specs.Run.{trigger_number, trigger_rules, trigger_answer, after_trigger, after_answer}
use Rattle.run.specs.declared.Run.{Run}
use Rattle.board.specs.State.{fresh_board, with_run}
use Rattle.board.specs.Commands.{TriggersOn}
use Rattle.board.specs.declared.Board.{Board}
use Rattle.board.specs.declared.TriggerResult.{TriggerResult}
use Rattle.call_refusals.specs.CallRefusals.{triggers_refusal}
use Rattle.command_series.specs.Series.{first_refusal, ObeysAll}
use Rattle.command_series.specs.declared.AfterCommands.{AfterCommands}
use Rattle.command_series.proofs.Parts.{past, one_left}
use Rattle.exports.specs.Exports.{four, packet_then, packets_of, after_two}
use Rattle.exports.specs.CodeShape.{GivesPackets}

-- rows at the end that do not apply change nothing
rows_before : {A : Type 0} (rs more : List Rule) (a : A) → lowest more a ≡ given a → lowest (rs ++ more) a ≡ lowest rs a
rows_before [] more a e = e
rows_before {A} (r ∷ rs) more a e = ap (λ (x : Answer A). cond r.applies (refused r.number r.place) x) (rows_before rs more a e)

pub packet-size : (r : Run) → length (packet_bytes (trigger_number r) four) ≡ 7
unfolding first_six
packet-size r = refl

-- where there is room for a packet, the answer is that of a trigger's own rows
room : (r : Run) (out : List ℕ) → 7 ≤ length out → trigger_answer r four out ≡ lowest (trigger_rules r four) 7
unfolding writing_by writing_rules first_six
room r out h = rows_before (trigger_rules r four) _ 7 (rw (le-ltb _ _ h) refl)

module _ (β : Board) (m : ℕ) (out : List ℕ) (t : TriggerResult) (after : List ℕ) (s : TriggersOn β four out t after) (h : 7 ≤ length out) where
  abbrev r : Run
  r = β.run

  run-after : t.board.run ≡ after_answer r (trigger_answer r four out)
  unfolding with_run
  run-after = ap (λ (b : Board). b.run) s.board

  told : lowest (trigger_rules r four) 7 ≡ answer_of t.answer
  told = sym (room r out h) ∙ sym s.packet.answer

  abbrev packet : List ℕ
  packet = packet_bytes (trigger_number r) four

  module _ (k : ℕ) (e : t.answer ≡ Ok k) where
    answered : trigger_answer r four out ≡ given k
    answered = sym s.packet.answer ∙ ap answer_of e

    pub given-packets : packets_of (suc m) r ≡ packet ++ packets_of m t.board.run
    unfolding packets_of
    given-packets =
        ap (λ (a : Answer ℕ). packet_then a packet (packets_of m (after_trigger r))) (told ∙ ap answer_of e)
        ∙ ap (λ (q : Run). packet ++ packets_of m q) (sym (run-after ∙ ap (after_answer r) answered))

    pub given-output : after ≡ packet ++ drop 7 out
    given-output = s.packet.output ∙ ap (λ (a : Answer ℕ). output_after a packet out) answered ∙ ap (λ (n : ℕ). packet ++ drop n out) (packet-size r)

  module _ (f : Refusal) (e : t.answer ≡ Err f) where
    pub refused-packets : packets_of (suc m) r ≡ []
    unfolding packets_of
    refused-packets = ap (λ (a : Answer ℕ). packet_then a packet (packets_of m (after_trigger r))) (told ∙ ap answer_of e)

    pub refused-output : after ≡ out
    refused-output = s.packet.output ∙ ap (λ (a : Answer ℕ). output_after a packet out) (sym s.packet.answer ∙ ap answer_of e)

-- ---- a turn of the loop

-- p in the place of as much of a list
module _ (out p : List ℕ) (a b : ℕ) (end : a + length p ≡ b) (fits : b ≤ length out) where
  abbrev put : List ℕ
  put = take a out ++ (p ++ drop b out)

  put_front : length (take a out ++ p) ≡ b
  put_front = length-append (take a out) p ∙ ap (λ (k : ℕ). k + length p) (length-take-le a out (omega arith)) ∙ end

  put-take : take b put ≡ take a out ++ p
  put-take = ap (take b) (sym (append_assoc (take a out) p (drop b out))) ∙ take_at (take a out ++ p) (drop b out) b put_front

  put-drop : drop b put ≡ drop b out
  put-drop = ap (drop b) (sym (append_assoc (take a out) p (drop b out))) ∙ drop_at (take a out ++ p) (drop b out) b put_front

  put-length : length put ≡ length out
  put-length =
      ap length (sym (append_assoc (take a out) p (drop b out)))
      ∙ length-append (take a out ++ p) (drop b out)
      ∙ ap (λ (k : ℕ). k + length (drop b out)) put_front
      ∙ ap (λ (k : ℕ). b + k) (length-drop b out)
      ∙ (let e : b + (length out - b) ≡ length out = omega arith in e)

-- the part of `out` from a on, which became `after`, is back
back : (out after : List ℕ) (a : ℕ) → take a out ++ (after ++ drop (length out - a) (drop a out)) ≡ take a out ++ after
back out after a =
    ap (λ (l : List ℕ). take a out ++ (after ++ l)) (drop_of_length-le (drop a out) {i = length out - a} (rw length-drop (omega arith)))
    ∙ ap (λ (l : List ℕ). take a out ++ l) (append-nil after)

-- The first i triggers of n were given on the run `first`, and left the run r: their packets stand in front.
pub record TriggersSoFar (first : Run) (n i : ℕ) (out₀ out : List ℕ) (r : Run) : Type 0 where
  pub same : length out ≡ length out₀
  pub all : packets_of n first ≡ take (7 * i) out ++ packets_of (n - i) r
  pub rest : drop (7 * i) out ≡ drop (7 * i) out₀

pub none-given : (first r : Run) (n : ℕ) (out : List ℕ) → r ≡ first → TriggersSoFar first n 0 out out r
none-given first r n out q = record { same = refl; all = ap₂ packets_of (let e : n ≡ n - 0 = omega arith in e) (sym q); rest = refl }

-- and no more are
all-given : (first : Run) (n i : ℕ) (out₀ out : List ℕ) (r : Run) → TriggersSoFar first n i out₀ out r → 7 * n ≤ length out₀ → i ≤ n
    → packets_of (n - i) r ≡ [] → GivesPackets first n out₀ i out
all-given first n i out₀ out r g en m e =
    let same = g.same in
    let all : packets_of n first ≡ take (7 * i) out = g.all ∙ ap (λ (l : List ℕ). take (7 * i) out ++ l) e ∙ append-nil (take (7 * i) out) in
    let size : length (packets_of n first) ≡ 7 * i = ap length all ∙ length-take-le (7 * i) out (omega arith) in
    record {
      number = omega arith;
      packets =
          sym (take-append-drop (7 * i) out)
          ∙ ap (λ (l : List ℕ). take (7 * i) out ++ l) g.rest
          ∙ ap (λ (k : ℕ). take (7 * i) out ++ drop k out₀) (sym size)
          ∙ ap (λ (l : List ℕ). l ++ drop (length (packets_of n first)) out₀) (sym all);
    }

pub at-end : (first : Run) (n i : ℕ) (out₀ out : List ℕ) (r : Run) → TriggersSoFar first n i out₀ out r → 7 * n ≤ length out₀ → i ≤ n
    → n ≤ i → GivesPackets first n out₀ n out
unfolding packets_of
at-end first n i out₀ out r g en l m =
    let last : i ≡ n = omega arith in
    subst (λ (k : ℕ). GivesPackets first n out₀ k out) last
    (all-given first n i out₀ out r g en l (ap (λ (k : ℕ). packets_of k r) (let e : n - i ≡ 0 = omega arith in e)))

module _ (first : Run) (n i : ℕ) (out₀ out : List ℕ) (β : Board) (g : TriggersSoFar first n i out₀ out β.run) (en : 7 * n ≤ length out₀) (l : i < n)
    (t : TriggerResult) (after : List ℕ) (s : TriggersOn β four (take (length out - 7 * i) (drop (7 * i) out)) t after) where
  abbrev part : List ℕ
  part = drop (7 * i) out

  served : TriggersOn β four part t after
  served = rw (part-rest out (7 * i)) at s

  room-left : 7 ≤ length part
  room-left = let same = g.same in rw length-drop (omega arith)

  -- `out` once the part is back
  abbrev changed : List ℕ
  changed = take (7 * i) out ++ (after ++ drop (length out - 7 * i) part)

  pub one-given : (k : ℕ) → t.answer ≡ Ok k → TriggersSoFar first n (i + 1) out₀ changed t.board.run
  one-given k e =
      let same = g.same in
      let p = packet_bytes (trigger_number β.run) four in
      let size : 7 * i + length p ≡ 7 * (i + 1) = ap (λ (m : ℕ). 7 * i + m) (packet-size β.run) ∙ (let q : 7 * i + 7 ≡ 7 * (i + 1) = omega arith in q) in
      let fits : 7 * (i + 1) ≤ length out = omega arith in
      let whole : changed ≡ put out p (7 * i) (7 * (i + 1)) size fits =
      back out after (7 * i)
      ∙ ap (λ (x : List ℕ). take (7 * i) out ++ x) (given-output β (n - (i + 1)) part t after served room-left k e)
      ∙ ap (λ (x : List ℕ). take (7 * i) out ++ (p ++ x)) (past 7 i out) in
      let front : take (7 * (i + 1)) changed ≡ take (7 * i) out ++ p = ap (take (7 * (i + 1))) whole ∙ put-take out p (7 * i) (7 * (i + 1)) size fits in
      record {
        same = ap length whole ∙ put-length out p (7 * i) (7 * (i + 1)) size fits ∙ same;
        all =
            g.all
            ∙ ap (λ (m : ℕ). take (7 * i) out ++ packets_of m β.run) (one_left n i l)
            ∙ ap (λ (x : List ℕ). take (7 * i) out ++ x) (given-packets β (n - (i + 1)) part t after served room-left k e)
            ∙ sym (append_assoc (take (7 * i) out) p (packets_of (n - (i + 1)) t.board.run))
            ∙ ap (λ (x : List ℕ). x ++ packets_of (n - (i + 1)) t.board.run) (sym front);
        rest = ap (drop (7 * (i + 1))) whole ∙ put-drop out p (7 * i) (7 * (i + 1)) size fits ∙ sym (past 7 i out) ∙ ap (drop 7) g.rest ∙ past 7 i out₀;
      }

  pub one-refused : (f : Refusal) → t.answer ≡ Err f → GivesPackets first n out₀ i changed
  one-refused f e =
      let whole : changed ≡ out =
      back out after (7 * i)
      ∙ ap (λ (x : List ℕ). take (7 * i) out ++ x) (refused-output β (n - (i + 1)) part t after served room-left f e)
      ∙ take-append-drop (7 * i) out in
      let none : packets_of (n - i) β.run ≡ [] =
      ap (λ (m : ℕ). packets_of m β.run) (one_left n i l) ∙ refused-packets β (n - (i + 1)) part t after served room-left f e in
      rw whole (all-given first n i out₀ out β.run g en (omega arith) none)

-- after two commands
module _ (w : List ℕ) (b : AfterCommands) (obeyed : ObeysAll 2 w b) where
  pub output_on : (count : ℕ) (out : List ℕ) (n : ℕ) (after : List ℕ)
      → GivesPackets b.board.run count out n after → GivesPackets (after_two w).run count out n after
  output_on count out n after l = rw obeyed.board at l

  -- what refuses the call
  pub triggers-refused : (count packets number r : ℕ)
      → r ≡ triggers_refusal b.refusal count packets number → r ≡ triggers_refusal (first_refusal 2 (fresh_board 0 0) w) count packets number
  triggers-refused count packets number r e = e ∙ ap (λ (k : ℕ). triggers_refusal k count packets number) obeyed.refusal
