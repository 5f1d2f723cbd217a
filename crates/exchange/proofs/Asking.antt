-- Orders that only ask, one law for each way that a function returns.
-- Assumes nothing.
use Prim.Native.Nat.{ℕ, suc, ◌%◌, ◌≤◌}
use mathlib.Core.Path.{◌≡◌, refl, sym, ap, ◌∙◌}
use mathlib.Core.Bool.{Bool, true, false}
use mathlib.Core.List.{List, [], ◌∷◌, ◌++◌}
use native.Mathlib.Omega.{arith}
use lib.ListN.{length, take, get_or, length-append}
use borrow.Author.Tests.{eq-eqb, le-ltb, eqb-true, not-false}
use Rattle.std.specs.Prelude.{Result}
use Rattle.refusals.specs.Tables.{Rule, lowest, answer_of}
use Rattle.refusals.specs.Writing.{too_short, Wrote}
use Rattle.refusals.proofs.Tables.{Clear, row-off}
use Rattle.words.specs.Words.{words_in}
use Rattle.blocks.specs.Blocks.{header_words, temperature_rules, wrong_id, block_rules, WroteBlock}
use Rattle.blocks.specs.declared.Header.{Header}
use Rattle.blocks.proofs.Laws.{length-header}
use Rattle.blocks.proofs.Dynamic.{length-dynamic}
use Rattle.ftu_list.specs.List.{list_body}
use Rattle.ftu_list.proofs.Laws.{length-body}
use Rattle.steps.proofs.Lengths.{step-length}
use Rattle.four_crates.proofs.Entries.{forty}
use Rattle.board.specs.State.{finished_rates}
use Rattle.board.specs.SlowControl.{fetch_rules, frame_at, sent_answer}
use Rattle.board.specs.SentOut.{header_of, dynamic_body_of, list_rules, list_of, failure_rules, failure_body_of}
use Rattle.board.specs.SentOut.{SendsStatic, SendsDynamic, SendsList, SendsFailure}
use Rattle.board.specs.declared.Board.{Board}
use Rattle.texts.specs.Texts.{Printed, question, in_bytes, in_words}
use Rattle.texts.specs.declared.Response.{Response}
use Rattle.responses.specs.Responses.{due_printed, written_printed, Prints, PrintsWrittenBytes, PrintsWrittenWords}
use Rattle.responses.specs.CodeShape.{PrintsInBytes, PrintsInWords}
use Rattle.responses.proofs.Writing.{table-response, due-response}
use Rattle.script.specs.Forms.{taking, one_byte, no_byte, any_words}
use Rattle.exchange.specs.Orders.{Order, other_form, first_frame, frames_sent, static, ftu_list, failure, dynamic}
use Rattle.exchange.specs.Exchange.{block_printed, sent_printed, printed_answer}
use Rattle.refusals.specs.declared.Refusal.{Refusal}

-- ---- what is printed of a block that was written: 19 is left out, where the lent words have room for it
pub block-response : (print : List ℕ → Printed) (own : List Rule) (n : ℕ) (h : Header) (body out : List ℕ)
    → (Clear own → length (header_words h ++ body) ≤ length out) → (after : List ℕ) (w : Result ℕ Refusal) → WroteBlock own n h body out w after
    → written_printed (λ n. print (take n after)) (answer_of w) ≡ due_printed print (lowest (own ++ (wrong_id h ∷ [])) (header_words h ++ body))
unfolding block_rules
block-response print own n h body out room after w b =
    table-response print (block_rules own h body out) (header_words h ++ body) out after w b.wrote
    ∙ ap (due_printed print)
    (row-off own (too_short (length (header_words h ++ body)) out) (wrong_id h ∷ []) (header_words h ++ body) (λ c. le-ltb _ _ (room c)))

-- ---- how many words and bytes are due

module _ (β : Board) where
  length-frame : (c : ℕ) → length (frame_at β c) ≡ 28
  unfolding frame_at
  length-frame c = step-length β.block c _ _

  length-list : length (list_body (list_of β)) ≡ 249
  length-list = length-body (list_of β) (forty β.crates)

  length-failure : (n : ℕ) → length (failure_body_of β n) ≡ 29
  length-failure n = ap suc (step-length β.block _ _ _)

  -- 6 refuses unless the temperatures are four
  length-sent : (t : List ℕ) → length (finished_rates β) ≡ 480 → Clear (temperature_rules t) → length (dynamic_body_of β t) ≡ 487
  length-sent t long clear = length-dynamic t β.run.on_time (finished_rates β) (eqb-true _ _ (not-false _ clear.0)) long

-- ---- an order in its form, and in another

pub taken : (t : Bool) (o : Order) → t ≡ true → taking other_form t o ≡ o
taken t o e = ap (λ (u : Bool). taking other_form u o) e

pub question-response : (β : Board) (t : Bool) (o : Order) → t ≡ false → question ≡ printed_answer β (taking other_form t o)
unfolding printed_answer
question-response β t o e = sym (ap (λ (u : Bool). printed_answer β (taking other_form u o)) e)

-- ---- what each is answered

module _ (β : Board) (b : List ℕ) (s : Response) where
  module _ (out after : List ℕ) (w : Result ℕ Refusal) where
    pub frame-asked : length b ≡ 1 → length out ≡ 28 → Wrote (fetch_rules β (get_or b 0 0)) (frame_at β (get_or b 0 0)) out w after
        → PrintsWrittenBytes s (answer_of w) → PrintsInBytes s after (printed_answer β (one_byte other_form first_frame b))
    unfolding printed_answer
    frame-asked l n h k words =
        let d = length-frame β (get_or b 0 0) in
        k after words
        ∙ due-response in_bytes (fetch_rules β (get_or b 0 0)) (frame_at β (get_or b 0 0)) out (λ _. omega arith) after w h
        ∙ sym (ap (printed_answer β) (taken _ _ (eq-eqb _ _ l)))

    -- ---- a block, of at most 487 words after the header, that the order o, which is p, asks for
    block-asked : length out ≡ 498 → (own : List Rule) (n : ℕ) (body : List ℕ) → (Clear own → length body ≤ 487)
        → WroteBlock own n (header_of β) body out w after → (o p : Order) → o ≡ p → printed_answer β p ≡ block_printed β own body
        → PrintsWrittenWords s (answer_of w) → PrintsInWords s after (printed_answer β o)
    block-asked size own n body short h o p e q k bytes =
        k bytes after
        ∙ block-response in_words own n (header_of β) body out
        (λ c. let d = length-append (header_words (header_of β)) body in let j = length-header (header_of β) in let l = short c in omega arith) after w h
        ∙ sym q
        ∙ sym (ap (printed_answer β) e)

    pub static-asked : length b ≡ 0 → length out ≡ 498 → length β.block ≡ 436 → SendsStatic β out w after
        → PrintsWrittenWords s (answer_of w) → PrintsInWords s after (printed_answer β (no_byte other_form static b))
    unfolding printed_answer
    static-asked l n m h k = block-asked n _ 436 β.block (λ _. omega arith) h _ _ (taken _ _ (eq-eqb _ _ l)) refl k

    pub list-asked : length b ≡ 0 → length out ≡ 498 → SendsList β out w after
        → PrintsWrittenWords s (answer_of w) → PrintsInWords s after (printed_answer β (no_byte other_form ftu_list b))
    unfolding printed_answer
    list-asked l n h k =
        let d = length-list β in
        block-asked n (list_rules β) 249 (list_body (list_of β)) (λ _. omega arith) h _ _ (taken _ _ (eq-eqb _ _ l)) refl k

    pub failure-asked : length b ≡ 1 → length out ≡ 498 → SendsFailure β (get_or b 0 0) out w after
        → PrintsWrittenWords s (answer_of w) → PrintsInWords s after (printed_answer β (one_byte other_form failure b))
    unfolding printed_answer
    failure-asked l n h k =
        let d = length-failure β (get_or b 0 0) in
        block-asked n (failure_rules β (get_or b 0 0)) 29 (failure_body_of β (get_or b 0 0)) (λ _. omega arith) h _ _ (taken _ _ (eq-eqb _ _ l)) refl k

    pub dynamic-asked : length b % 2 ≡ 0 → length out ≡ 498 → (t : List ℕ) → t ≡ words_in b → SendsDynamic β t out w after
        → PrintsWrittenWords s (answer_of w) → PrintsInWords s after (printed_answer β (any_words other_form dynamic b))
    unfolding printed_answer
    dynamic-asked l n t et h k =
        block-asked n (temperature_rules t) 487 (dynamic_body_of β t) (λ clear. let d = length-sent β t h.long clear in omega arith) h.block _ _
        (taken _ _ (eq-eqb _ _ l) ∙ sym (ap dynamic et)) refl k

  module _ (l : length b ≡ 1) (f : Result ℕ Refusal) (e : answer_of f ≡ sent_answer β (get_or b 0 0)) where
    pub sent-asked : Prints s (sent_printed (answer_of f)) → Prints s (printed_answer β (one_byte other_form frames_sent b))
    unfolding printed_answer
    sent-asked k bytes words = k bytes words ∙ ap sent_printed e ∙ sym (ap (printed_answer β) (taken _ _ (eq-eqb _ _ l)))
