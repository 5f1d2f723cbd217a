-- Orders that may change the board, one law for each way that a function returns.
-- Assumes nothing.
use Prim.Native.Nat.{ℕ, ◌/◌, ◌%◌}
use mathlib.Core.Path.{◌≡◌, refl, sym, ap, ap₂, ◌∙◌, subst}
use mathlib.Core.Bool.{Bool, true, false, cond}
use mathlib.Core.List.{List, [], ◌∷◌, ◌++◌, append-nil}
use native.Mathlib.Omega.{arith}
use lib.Dec.{ltb}
use lib.ListN.{length, get_or, set, take, drop, drop_of_length-le}
use borrow.Author.Tests.{eq-eqb}
use Rattle.std.specs.Prelude.{Result, Ok, Err}
use Rattle.refusals.specs.Refusals.{number_of, place_of}
use Rattle.refusals.specs.Tables.{Answer, given, refused, rule, lowest, answer_of}
use Rattle.refusals.specs.Writing.{output_after}
use Rattle.refusals.specs.declared.Refusal.{Refusal}
use Rattle.refusals.proofs.Tables.{given-same}
use Rattle.refusals.proofs.Writing.{room-writing}
use Rattle.numbers.specs.Numbers.{number}
use Rattle.numbers.proofs.Listed.{listed}
use Rattle.words.specs.Words.{words_in}
use Rattle.words.proofs.Bytes.{length-words}
use Rattle.words.proofs.Front.{number_in}
use Rattle.packets.specs.Packets.{first_six, packet_bytes}
use Rattle.packets.specs.declared.Fields.{Fields}
use Rattle.configuration.specs.Configuration.{active_word}
use Rattle.steps.specs.Steps.{step_frame}
use Rattle.steps.specs.declared.Event.{Event}
use Rattle.steps.specs.declared.Event.TheVariants.{Reply, TimeUp}
use Rattle.steps.specs.declared.Judged.{Judged}
use Rattle.steps.proofs.Lengths.{step-length}
use Rattle.run.specs.Run.{clocked_run, trigger_number, trigger_rules, after_answer}
use Rattle.crate_pass.specs.Crate.{is_done, says_done, unless_refused, frame_due, no_such_crate, served_answer}
use Rattle.crate_pass.specs.declared.Outcome.{Outcome}
use Rattle.crate_pass.proofs.Serving.{moved-done}
use Rattle.board.specs.State.{crate_at, with_crates, with_run, board_for, power_up_answer, PowersUp}
use Rattle.board.specs.Commands.{Obeys, TriggersOn}
use Rattle.board.specs.SlowControl.{judged_at, moved_at, reply_rules, reply_answer, board_replied, bytes_replied, Replies}
use Rattle.board.specs.RatePass.{Begins}
use Rattle.board.specs.declared.Board.{Board}
use Rattle.board.specs.declared.BeginResult.{BeginResult}
use Rattle.board.specs.declared.PowerUpResult.{PowerUpResult}
use Rattle.board.specs.declared.CommandResult.{CommandResult}
use Rattle.board.specs.declared.TriggerResult.{TriggerResult}
use Rattle.board.specs.declared.ReplyResult.{ReplyResult}
use Rattle.texts.specs.Texts.{served, in_bytes, next_frame}
use Rattle.texts.specs.declared.Response.{Response}
use Rattle.texts.specs.declared.Response.TheVariants.{One}
use Rattle.responses.specs.Responses.{refusal_printed, command_printed, outcome_printed, Prints, PrintsOutcome, PrintsWrittenBytes}
use Rattle.responses.specs.CodeShape.{PrintsInBytes}
use Rattle.responses.proofs.Writing.{due-response}
use Rattle.script.specs.Forms.{taking, one_byte, no_byte, any_words}
use Rattle.exchange.specs.Orders.{Order, power_up, command, clock_step, trigger, reply, time_up, begin_rates, other_form}
use Rattle.exchange.specs.Orders.{are_fields, fields_from, reply_from, power_up_order, clock_order, trigger_order}
use Rattle.exchange.specs.Exchange.{accepted_printed, lent_bytes, event_printed, printed_answer, after_power_up, after_event, board_after_order}
use Rattle.exchange.specs.CodeShape.{event_order, Answers, AnswersInBytes}
use Rattle.exchange.specs.declared.Answered.{Answered}
use Rattle.exchange.proofs.Asking.{taken}

abbrev answered : Response → Board → Answered
answered s β = record { response = s; board = β }

-- an order that is another
answers-as : (β : Board) (o p : Order) (a : Answered) → o ≡ p → Answers β o a → Answers β p a
answers-as β o p a e h =
    record { response = λ bytes words. h.response bytes words ∙ ap (printed_answer β) e; board = h.board ∙ ap (board_after_order β) e }

-- ---- an order in another form

module _ (β : Board) (a : Answered) (h : Answers β other_form a) where
  pub unserved : (t : Bool) (o : Order) → t ≡ false → Answers β (taking other_form t o) a
  unserved t o e = answers-as β other_form (taking other_form t o) a (sym (ap (λ (u : Bool). taking other_form u o) e)) h

  -- whatever the lent bytes then hold
  module _ (out : List ℕ) where
    in_bytes_lem : (o : Order) → Answers β o a → AnswersInBytes β o a out
    in_bytes_lem o g = record { response = λ words. g.response out words; board = g.board }

    pub unserved-in-bytes : (t : Bool) (o : Order) → t ≡ false → AnswersInBytes β (taking other_form t o) a out
    unserved-in-bytes t o e = in_bytes_lem _ (unserved t o e)

    pub no-reply : (b : List ℕ) → length b ≡ 0 → AnswersInBytes β (reply_from b) a out
    no-reply [] e = in_bytes_lem other_form h
    no-reply (x ∷ b) e = absurd (let k : ⊥ = omega arith in k)

-- ---- P

-- the words of a board ID and a firmware ID
power-up-is : (b w : List ℕ) → length b ≡ 10 → w ≡ words_in b
    → power_up (number 65536 (get_or w 0 0 ∷ get_or w 1 0 ∷ get_or w 2 0 ∷ get_or w 3 0 ∷ [])) (get_or w 4 0) ≡ power_up_order b
power-up-is b w l e =
    let n : length w ≡ 5 = ap length e ∙ length-words b ∙ (let k : length b / 2 ≡ 5 = omega arith in k) in
    ap (λ (v : List ℕ). power_up (number 65536 (take 4 v)) (get_or w 4 0)) (listed w 5 n)
    ∙ ap (λ (v : List ℕ). power_up (number 65536 (take 4 v)) (get_or v 4 0)) e
    ∙ sym (taken _ _ (eq-eqb _ _ l))

module _ (β : Board) (b w : List ℕ) (l : length b ≡ 10) (e : w ≡ words_in b) (id : ℕ)
    (ei : id ≡ number 65536 (get_or w 0 0 ∷ get_or w 1 0 ∷ get_or w 2 0 ∷ get_or w 3 0 ∷ [])) (up : PowerUpResult) (h : PowersUp id (get_or w 4 0) up) where
  power-up-as : power_up id (get_or w 4 0) ≡ power_up_order b
  power-up-as = ap (λ (n : ℕ). power_up n (get_or w 4 0)) ei ∙ power-up-is b w l e

  pub powered-up : up.answer ≡ Ok tt → Answers β (power_up_order b) (answered (One 0) up.board)
  unfolding printed_answer board_after_order
  powered-up q =
      let a : power_up_answer id ≡ given tt = sym h.answer ∙ ap answer_of q in
      answers-as β _ _ _ power-up-as
      (record {
        response = λ bytes words. sym (ap accepted_printed a);
        board = h.board ∙ ap (λ (x : Answer Unit). board_for x id (get_or w 4 0)) a ∙ sym (ap (after_power_up β id (get_or w 4 0)) a);
      })

  pub power-up-refused : (r : Refusal) (s : Response) → up.answer ≡ Err r → Prints s (refusal_printed (number_of r) (place_of r))
      → Answers β (power_up_order b) (answered s β)
  unfolding printed_answer board_after_order
  power-up-refused r s q k =
      let a : power_up_answer id ≡ refused (number_of r) (place_of r) = sym h.answer ∙ ap answer_of q in
      answers-as β _ _ _ power-up-as
      (record { response = λ bytes words. k bytes words ∙ sym (ap accepted_printed a); board = sym (ap (after_power_up β id (get_or w 4 0)) a) })

-- ---- C

pub commanded : (β : Board) (b w : List ℕ) (s : Response) (d : CommandResult) → length b % 2 ≡ 0 → w ≡ words_in b → Obeys β w d
    → Prints s (command_printed d.used (answer_of d.answer)) → Answers β (any_words other_form command b) (answered s d.board)
unfolding printed_answer board_after_order
commanded β b w s d l e h k =
    answers-as β (command w) (any_words other_form command b) _ (ap command e ∙ sym (taken _ _ (eq-eqb _ _ l)))
    (record { response = λ bytes words. k bytes words ∙ ap₂ command_printed h.used h.answer; board = h.board })

-- ---- K

pub clocked : (β : Board) (b w : List ℕ) (ticks : ℕ) (next : Board) → length b ≡ 4 → w ≡ words_in b
    → ticks ≡ number 65536 (get_or w 0 0 ∷ get_or w 1 0 ∷ []) → next ≡ with_run β (clocked_run β.run ticks)
    → Answers β (clock_order b) (answered (One 0) next)
unfolding printed_answer board_after_order
clocked β b w ticks next l e et en =
    answers-as β (clock_step ticks) (clock_order b) _ (ap clock_step (et ∙ number_in b w l e) ∙ sym (taken _ _ (eq-eqb _ _ l)))
    (record { response = λ bytes words. refl; board = en })

-- ---- G

length-packet : (n : ℕ) (f : Fields) → length (packet_bytes n f) ≡ 7
unfolding first_six
length-packet n f = refl

pub triggered : (β : Board) (b out after : List ℕ) (s : Response) (t : Bool) (f : Fields) (g : TriggerResult) → t ≡ are_fields b → t ≡ true → f ≡ fields_from b
    → length out ≡ 28 → TriggersOn β f out g after → PrintsWrittenBytes s (answer_of g.answer)
    → AnswersInBytes β (trigger_order b) (answered s g.board) after
unfolding printed_answer board_after_order
triggered β b out after s t f g et h ef n x k =
    let rules = trigger_rules β.run f in
    let due = packet_bytes (trigger_number β.run) f in
    let d = length-packet (trigger_number β.run) f in
    let e : trigger f ≡ trigger_order b = ap trigger ef ∙ sym (taken _ _ (sym et ∙ h)) in
    record {
      response = λ words. k after words ∙ due-response in_bytes rules due out (λ _. omega arith) after g.answer x.packet ∙ ap (printed_answer β) e;
      board =
          x.board
          ∙ ap (λ (a : Answer ℕ). with_run β (after_answer β.run a)) (room-writing rules due out (omega arith) ∙ ap (lowest rules) d)
          ∙ ap (board_after_order β) e;
    }

-- ---- R and T

module _ (β : Board) (c : ℕ) (h : Judged) where
  -- the frame that is then due
  abbrev due : List ℕ
  due = frame_due β.block c (moved_at β c h).state

  module _ (out : List ℕ) (size : length out ≡ 28) where
    -- the answer goes by how many bytes are lent, not by what they hold
    same_answer : reply_answer β c h out ≡ reply_answer β c h lent_bytes
    unfolding served_answer
    same_answer = ap (λ (n : ℕ). lowest (no_such_crate c ∷ rule 12 (is_done (crate_at β c)) ∷ rule 19 (ltb n 28) ∷ []) (moved_at β c h).outcome) size

    same-board : board_replied β c h out ≡ board_replied β c h lent_bytes
    unfolding board_replied
    same-board = ap (λ (a : Answer Outcome). unless_refused a (with_crates β (set β.crates c (moved_at β c h).state)) β) same_answer

    -- the outcome says whether the crate is done; where it is not, the lent bytes are the frame that is due
    next-due : (o : Outcome) → reply_answer β c h out ≡ given o → next_frame o (bytes_replied β c h out) ≡ due
    unfolding served_answer bytes_replied frame_due
    next-due o e =
        let m = moved_at β c h in
        let said : says_done o ≡ is_done m.state =
        ap says_done (sym (given-same (reply_rules β c out) m.outcome o e)) ∙ moved-done β.kind (active_word β.block c) (crate_at β c) h in
        let held = ap (λ (a : Answer Outcome). output_after a due out) e in
        ap₂ (λ (t : Bool) (l : List ℕ). cond t [] l) said held
        ∙ go (is_done m.state) (step_frame β.block c m.state.board m.state.code) (step-length _ _ _ _)
      where
        go : (t : Bool) (f : List ℕ) → length f ≡ 28 → let l = cond t [] f in cond t [] (l ++ drop (length l) out) ≡ l
        go true f n = refl
        go false f n = ap (λ (l : List ℕ). f ++ l) (drop_of_length-le out {i = length f} (omega arith)) ∙ append-nil f

    -- so the response prints the answer, and that frame
    event-printed : (s : Response) (after : List ℕ) (a : Answer Outcome) → reply_answer β c h out ≡ a
        → after ≡ bytes_replied β c h out → PrintsOutcome s a
        → PrintsInBytes s after (outcome_printed a due)
    event-printed s after (given o) e q k words = k after words ∙ ap (served o) (ap (next_frame o) q ∙ next-due o e)
    event-printed s after (refused n p) e q k words = k after words

pub handed-in : (β : Board) (c : ℕ) (event : Event) (bytes out after : List ℕ) (s : Response) (r : ReplyResult) → length out ≡ 28
    → Replies β c (judged_at β c event bytes) out r after → PrintsOutcome s (answer_of r.answer)
    → AnswersInBytes β (event_order event c bytes) (answered s r.board) after
unfolding printed_answer board_after_order
handed-in β c event bytes out after s r size x k =
    let h = judged_at β c event bytes in
    go event
    (λ words. event-printed β c h out size s after _ refl x.bytes (rw x.answer at k) words
    ∙ ap (λ (a : Answer Outcome). outcome_printed a (due β c h)) (same_answer β c h out size))
    (x.board ∙ same-board β c h out size)
  where
    go : (v : Event) → PrintsInBytes s after (event_printed β c v bytes) → r.board ≡ after_event β c v bytes
        → AnswersInBytes β (event_order v c bytes) (answered s r.board) after
    go Reply p q = record { response = p; board = q }
    go TimeUp p q = record { response = p; board = q }

module _ (β : Board) (b after : List ℕ) (a : Answered) where
  pub replied : (bytes : List ℕ) → (length b ≡ 0 → ⊥) → bytes ≡ drop 1 b → AnswersInBytes β (reply (get_or b 0 0) bytes) a after
      → AnswersInBytes β (reply_from b) a after
  replied bytes n e h = subst (λ (o : Order). AnswersInBytes β o a after) (ap (reply (get_or b 0 0)) e ∙ go b n) h
    where
      go : (l : List ℕ) → (length l ≡ 0 → ⊥) → reply (get_or l 0 0) (drop 1 l) ≡ reply_from l
      go [] n = absurd (n refl)
      go (x ∷ l) n = refl

  pub timed-up : length b ≡ 1 → AnswersInBytes β (time_up (get_or b 0 0)) a after → AnswersInBytes β (one_byte other_form time_up b) a after
  timed-up l h = subst (λ (o : Order). AnswersInBytes β o a after) (sym (taken _ _ (eq-eqb _ _ l))) h

-- ---- B

module _ (β : Board) (b : List ℕ) (l : length b ≡ 0) (r : BeginResult) (h : Begins β r) where
  began : (s : Response) → Prints s (accepted_printed (answer_of r.answer)) → Answers β (no_byte other_form begin_rates b) (answered s r.board)
  unfolding printed_answer board_after_order
  began s k =
      answers-as β _ _ _ (sym (taken _ _ (eq-eqb _ _ l)))
      (record { response = λ bytes words. k bytes words ∙ ap accepted_printed h.answer; board = h.board })

  pub rates-begun : r.answer ≡ Ok tt → Answers β (no_byte other_form begin_rates b) (answered (One 0) r.board)
  rates-begun q = began (One 0) (λ bytes words. sym (ap (λ (x : Result Unit Refusal). accepted_printed (answer_of x)) q))

  pub rates-refused : (x : Refusal) (s : Response) → r.answer ≡ Err x → Prints s (refusal_printed (number_of x) (place_of x))
      → Answers β (no_byte other_form begin_rates b) (answered s r.board)
  rates-refused x s q k = began s (λ bytes words. k bytes words ∙ sym (ap (λ (y : Result Unit Refusal). accepted_printed (answer_of y)) q))
