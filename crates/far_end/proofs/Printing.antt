-- What is printed for each order, one law for each way that a function returns.
-- Assumes nothing.
use Prim.Native.Nat.{ℕ, ◌+◌, ◌%◌, ◌≤◌, ◌<◌}
use mathlib.Core.Path.{◌≡◌, refl, sym, ap, ◌∙◌}
use mathlib.Core.List.{List, [], ◌∷◌}
use native.Mathlib.Omega.{arith}
use lib.ListN.{length, get_or, take, drop, length-drop}
use lib.Seq.{take_at}
use borrow.Author.Tests.{le-leb, lt-leb, eq-eqb, ne_eqb, eqb-true, not-false}
use Rattle.std.specs.Prelude.{Option, Some, None, Result, Ok, Err}
use Rattle.refusals.specs.Refusals.{number_of, place_of}
use Rattle.refusals.specs.Tables.{Answer, given, refused, lowest, answer_of}
use Rattle.refusals.specs.declared.Refusal.{Refusal}
use Rattle.refusals.proofs.Tables.{Clear, given-clear}
use Rattle.bounds.specs.Bounds.{bound_of}
use Rattle.bounds.proofs.Lent.{lent_length}
use Rattle.words.specs.Words.{words_in, copied}
use Rattle.words.proofs.Laws.{copied-whole}
use Rattle.packets.specs.declared.Packet.{Packet}
use Rattle.blocks.specs.declared.Header.{Header}
use Rattle.commands.specs.declared.RunLength.TheVariants.{Endless, Counted}
use Rattle.commands.specs.declared.Command.{Command}
use Rattle.commands.specs.declared.Command.TheVariants.{Read, Write, Start, Stop, Ping, CrateReset}
use Rattle.command_writer.specs.Writing.{command_words, write_rules, WroteCommand}
use Rattle.block_reader.specs.Reading.{body_length, header_in, read_rules, block_answer, body_where, body_of}
use Rattle.block_reader.specs.declared.Kind.{Kind}
use Rattle.block_reader.proofs.Laws.{body-small}
use Rattle.packet_reader.specs.Reading.{packet_answer}
use Rattle.texts.specs.Texts as texts
use Rattle.texts.specs.Texts.{question, numbers, packet_numbers, in_words, response_meaning, text_of, in_front}
use Rattle.texts.specs.declared.Response.{Response}
use Rattle.responses.specs.Responses.{refusal_printed, due_printed, PrintsWrittenWords}
use Rattle.responses.specs.CodeShape.{PrintsInWords}
use Rattle.responses.proofs.Writing.{due-response}
use Rattle.script.specs.Forms.{any_words, Row, found, found_by_first}
use Rattle.far_end.specs.FarEnd.{FarEndOrder, write_command, read_packet, read_block, other_form, ids, kinds, command_from, block_from}
use Rattle.far_end.specs.FarEnd.{packet_printed, body_printed, far_end_printed, PrintsLine}
use Rattle.far_end.specs.CodeShape.{block_taken, command_order, kind_order, AsksKind}
use Rattle.far_end.proofs.Asked.{unasked, asked}

-- ---- the row of the first byte

module _ (rows : List (Row FarEndOrder)) where
  pub no-first : (b : List ℕ) → length b ≡ 0 → other_form ≡ found_by_first other_form rows b
  no-first [] l = refl
  no-first (k ∷ b) l = absurd (let z : ⊥ = omega arith in z)

  pub too_many : (b : List ℕ) → 2048 < length b → other_form ≡ found_by_first other_form rows b
  too_many [] h = refl
  too_many (k ∷ b) h = rw (lt-leb (length b) 2047 (omega arith))

  pub by_first : (b rest : List ℕ) → rest ≡ drop 1 b → (length b ≡ 0 → ⊥) → length b ≤ 2048
      → found other_form rows (get_or b 0 0) rest ≡ found_by_first other_form rows b
  by_first [] rest e n h = absurd (n refl)
  by_first (k ∷ b) rest e n h = ap (found other_form rows k) e ∙ rw (le-leb (length b) 2047 (omega arith))

-- ---- W

-- a command's words are no more than the lent ones
command-room : (c : Command) (w : List ℕ) → Clear (write_rules c w) → length (command_words c w) ≤ 498
command-room (Read kind) w clear = omega arith
command-room Write w clear = let n = lent_length bound_of 436 w clear in omega arith
command-room (Start Endless) w clear = omega arith
command-room (Start (Counted x)) w clear = omega arith
command-room Stop w clear = omega arith
command-room Ping w clear = omega arith
command-room (CrateReset n) w clear = omega arith

-- commands other than a write have no block, whatever words follow
block-alone : (c : Command) (w : List ℕ)
    → due_printed in_words (lowest (write_rules c w) (command_words c w)) ≡ far_end_printed (write_command c (block_taken c w))
unfolding far_end_printed
block-alone (Read kind) w = refl
block-alone Write w = refl
block-alone (Start Endless) w = refl
block-alone (Start (Counted x)) w = refl
block-alone Stop w = refl
block-alone Ping w = refl
block-alone (CrateReset n) w = refl

module _ (b : List ℕ) where
  pub no-command : length b ≡ 0 → question ≡ far_end_printed (command_from b)
  unfolding far_end_printed command_from
  no-command l = ap far_end_printed (no-first ids b l)

  pub long-command : 2048 < length b → question ≡ far_end_printed (command_from b)
  unfolding far_end_printed command_from
  long-command h = ap far_end_printed (too_many ids b h)

  module _ (rest : List ℕ) (er : rest ≡ drop 1 b) (n : length b ≡ 0 → ⊥) (h : length b ≤ 2048) (a : Option Command)
      (e : command_order a (words_in rest) ≡ found other_form ids (get_or b 0 0) rest) where
    command-order : command_order a (words_in rest) ≡ command_from b
    unfolding command_from
    command-order = e ∙ by_first ids b rest er n h

    pub other-command : a ≡ None → question ≡ far_end_printed (command_from b)
    unfolding far_end_printed
    other-command k = ap far_end_printed (sym (ap (λ (x : Option Command). command_order x (words_in rest)) k) ∙ command-order)

    pub command-written : (c : Command) → a ≡ Some c → (w out : List ℕ) (r : Result ℕ Refusal) (after : List ℕ) (s : Response)
        → length out ≡ 498 → w ≡ words_in rest → WroteCommand c w out r after → PrintsWrittenWords s (answer_of r)
        → PrintsInWords s after (far_end_printed (command_from b))
    command-written c k w out r after s l ew wrote p bytes =
        p bytes after
        ∙ due-response in_words (write_rules c w) (command_words c w) out (λ clear. let m = command-room c w clear in omega arith) after r wrote.wrote
        ∙ block-alone c w
        ∙ ap far_end_printed
        (ap (λ (x : List ℕ). write_command c (block_taken c x)) ew
        ∙ sym (ap (λ (x : Option Command). command_order x (words_in rest)) k)
        ∙ command-order)

-- ---- X

module _ (b : List ℕ) (r : Result Packet Refusal) (e : answer_of r ≡ packet_answer b) where
  pub packet-read : (p : Packet) → r ≡ Ok p → numbers (packet_numbers p) ≡ far_end_printed (read_packet b)
  unfolding far_end_printed
  packet-read p k = ap packet_printed (sym (ap answer_of k) ∙ e)

  pub packet-refused : (f : Refusal) → r ≡ Err f → refusal_printed (number_of f) (place_of f) ≡ far_end_printed (read_packet b)
  unfolding far_end_printed
  packet-refused f k = ap packet_printed (sym (ap answer_of k) ∙ e)

-- ---- Y

-- a body that is handed back is no longer than the lent words
body-room : (kind : Kind) (w : List ℕ) → length (body_of kind w) ≤ 498
unfolding block_answer read_rules
body-room kind w = go (block_answer kind w) refl
  where
    go : (a : Answer Header) → block_answer kind w ≡ a → length (body_where a (drop 11 w)) ≤ 498
    go (given h) e =
        let long : length w ≡ 11 + body_length kind = eqb-true _ _ (not-false _ (given-clear (read_rules kind w) (header_in w) h e).0) in
        let small = body-small kind in
        rw (length-drop) (omega arith)
    go (refused n p) e = omega arith

module _ (kind : Kind) (w : List ℕ) (r : Result Header Refusal) (e : answer_of r ≡ block_answer kind w) where
  pub block_read : (h : Header) → r ≡ Ok h → (body out after : List ℕ) → body ≡ body_of kind w → length out ≡ 498 → after ≡ copied body out
      → texts.block h (take (length body) after) ≡ far_end_printed (read_block kind w)
  unfolding far_end_printed
  block_read h k body out after eb l ea =
      let m = body-room kind w in
      let n : length body ≤ length out = rw eb (omega arith) in
      let front : take (length body) after ≡ body =
      ap (take (length body)) (ea ∙ copied-whole body out n) ∙ take_at body _ (length body) refl in
      ap (texts.block h) (front ∙ eb) ∙ ap (body_printed (body_of kind w)) (sym (ap answer_of k) ∙ e)

  pub block_refused : (f : Refusal) → r ≡ Err f → refusal_printed (number_of f) (place_of f) ≡ far_end_printed (read_block kind w)
  unfolding far_end_printed
  block_refused f k = ap (body_printed (body_of kind w)) (sym (ap answer_of k) ∙ e)

-- the words that bytes hold
module _ (kind : Kind) (b : List ℕ) where
  pub half-word : (length b % 2 ≡ 0 → ⊥) → question ≡ far_end_printed (any_words other_form (read_block kind) b)
  unfolding far_end_printed
  half-word n = ap far_end_printed (unasked _ _ (ne_eqb _ _ n))

  pub in-words : length b % 2 ≡ 0 → (w : List ℕ) → w ≡ words_in b
      → far_end_printed (read_block kind w) ≡ far_end_printed (any_words other_form (read_block kind) b)
  in-words l w e = ap far_end_printed (ap (read_block kind) e ∙ asked _ _ (eq-eqb _ _ l))

-- the kind by the first byte
module _ (b : List ℕ) where
  pub no_kind : length b ≡ 0 → question ≡ far_end_printed (block_from b)
  unfolding far_end_printed block_from
  no_kind l = ap far_end_printed (no-first kinds b l)

  pub long-block : 2048 < length b → question ≡ far_end_printed (block_from b)
  unfolding far_end_printed block_from
  long-block h = ap far_end_printed (too_many kinds b h)

  module _ (rest : List ℕ) (er : rest ≡ drop 1 b) (n : length b ≡ 0 → ⊥) (h : length b ≤ 2048) (a : Option Kind) (e : AsksKind (get_or b 0 0) a) where
    kind-order : (x : Option Kind) → a ≡ x → kind_order x rest ≡ block_from b
    unfolding block_from
    kind-order x k = sym (ap (λ (y : Option Kind). kind_order y rest) k) ∙ e rest ∙ by_first kinds b rest er n h

    pub other-kind : a ≡ None → question ≡ far_end_printed (block_from b)
    unfolding far_end_printed
    other-kind k = ap far_end_printed (kind-order _ k)

    pub by_kind : (kind : Kind) → a ≡ Some kind → far_end_printed (any_words other_form (read_block kind) rest) ≡ far_end_printed (block_from b)
    by_kind kind k = ap far_end_printed (kind-order _ k)

-- ---- the line

pub line-printed : (o : FarEndOrder) (s : Response) (bytes words text : List ℕ) (n : ℕ) (after : List ℕ) → response_meaning s bytes words ≡ far_end_printed o
    → n ≡ length (text_of (response_meaning s bytes words)) → after ≡ in_front (text_of (response_meaning s bytes words)) text → PrintsLine o text n after
line-printed o s bytes words text n after e l p =
    record { length = l ∙ ap (λ r. length (text_of r)) e; printed = p ∙ ap (λ r. in_front (text_of r) text) e }
