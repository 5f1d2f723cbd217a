-- The letters' table: what each letter asks for, and that a letter that only asks leaves the board.
-- Assumes nothing.
use Prim.Native.Nat.{ℕ, ◌%◌}
use mathlib.Core.Path.{◌≡◌, refl, sym, ap, ◌∙◌}
use mathlib.Core.Bool.{Bool, true, false, cond}
use mathlib.Core.List.{List, [], ◌∷◌, ◌++◌}
use lib.Dec.{eqb}
use lib.ListN.{length, get_or, take, drop}
use borrow.Author.Tests.{ne_eqb}
use Rattle.words.specs.Words.{words_in}
use Rattle.board.specs.declared.Board.{Board}
use Rattle.texts.specs.Texts.{Printed, question, response_meaning}
use Rattle.texts.specs.declared.Response.{Response}
use Rattle.script.specs.Forms.{one_byte, no_byte, any_words, Row, found}
use Rattle.far_end.specs.FarEnd.{read_packet, command_from, block_from}
use Rattle.exchange.specs.Orders.{Order, other_form, command, time_up, begin_rates, first_frame, frames_sent, static, ftu_list, failure, dynamic}
use Rattle.exchange.specs.Orders.{explain, far_end, reply_from, power_up_order, clock_order, trigger_order, letters, order_of}
use Rattle.exchange.specs.Exchange.{printed_answer, board_after_order}
use Rattle.exchange.specs.CodeShape.{board_order, asked_by, Answers, AnswersInBytes, AnswersBoth}
use Rattle.exchange.specs.declared.Answered.{Answered}

module _ (letter : ℕ) (b : List ℕ) where
  -- ---- letters that only ask
  pub asks-F : letter ≡ 70 → one_byte other_form first_frame b ≡ asked_by letter b
  unfolding asked_by
  asks-F e = rw e

  pub asks-N : letter ≡ 78 → one_byte other_form frames_sent b ≡ asked_by letter b
  unfolding asked_by
  asks-N e = rw e

  pub asks-S : letter ≡ 83 → no_byte other_form static b ≡ asked_by letter b
  unfolding asked_by
  asks-S e = rw e

  pub asks-L : letter ≡ 76 → no_byte other_form ftu_list b ≡ asked_by letter b
  unfolding asked_by
  asks-L e = rw e

  pub asks-M : letter ≡ 77 → one_byte other_form failure b ≡ asked_by letter b
  unfolding asked_by
  asks-M e = rw e

  pub asks-D : letter ≡ 68 → any_words other_form dynamic b ≡ asked_by letter b
  unfolding asked_by
  asks-D e = rw e

  -- ---- letters that may change the board
  pub orders-P : letter ≡ 80 → power_up_order b ≡ board_order letter b
  unfolding board_order
  orders-P e = rw e

  pub orders-C : letter ≡ 67 → any_words other_form command b ≡ board_order letter b
  unfolding board_order
  orders-C e = rw e

  pub orders-K : letter ≡ 75 → clock_order b ≡ board_order letter b
  unfolding board_order
  orders-K e = rw e

  pub orders-G : letter ≡ 71 → trigger_order b ≡ board_order letter b
  unfolding board_order
  orders-G e = rw e

  pub orders-R : letter ≡ 82 → reply_from b ≡ board_order letter b
  unfolding board_order
  orders-R e = rw e

  pub orders-T : letter ≡ 84 → one_byte other_form time_up b ≡ board_order letter b
  unfolding board_order
  orders-T e = rw e

  pub orders-B : letter ≡ 66 → no_byte other_form begin_rates b ≡ board_order letter b
  unfolding board_order
  orders-B e = rw e

  -- ---- other letters
  only-asked : (letter ≡ 80 → ⊥) → (letter ≡ 67 → ⊥) → (letter ≡ 75 → ⊥) → (letter ≡ 71 → ⊥) → (letter ≡ 82 → ⊥) → (letter ≡ 84 → ⊥)
      → (letter ≡ 66 → ⊥) → asked_by letter b ≡ board_order letter b
  unfolding asked_by board_order
  only-asked p c k g r t n = simp (ne_eqb _ _ p, ne_eqb _ _ c, ne_eqb _ _ k, ne_eqb _ _ g, ne_eqb _ _ r, ne_eqb _ _ t, ne_eqb _ _ n)

  module _ (β : Board) where
    pub asks-other : (letter ≡ 70 → ⊥) → (letter ≡ 78 → ⊥) → (letter ≡ 83 → ⊥) → (letter ≡ 76 → ⊥) → (letter ≡ 77 → ⊥) → (letter ≡ 68 → ⊥)
        → question ≡ printed_answer β (asked_by letter b)
    unfolding asked_by printed_answer
    asks-other f n s l m d = simp (ne_eqb _ _ f, ne_eqb _ _ n, ne_eqb _ _ s, ne_eqb _ _ l, ne_eqb _ _ m, ne_eqb _ _ d)

    keeps : (t : Bool) (o p : Order) → board_after_order β o ≡ β → board_after_order β p ≡ β → board_after_order β (cond t o p) ≡ β
    keeps true o p h k = h
    keeps false o p h k = k

    -- each order of a table leaves the board
    abbrev Keep : List (Row Order) → Type 0
    Keep [] = Unit
    Keep (r ∷ rs) = (board_after_order β (r.order b) ≡ β) × Keep rs

    found-keeps : (rs : List (Row Order)) → Keep rs → board_after_order β (found other_form rs letter b) ≡ β
    unfolding board_after_order
    found-keeps [] k = refl
    found-keeps (r ∷ rs) k = keeps (eqb letter r.key) (r.order b) (found other_form rs letter b) k.0 (found-keeps rs k.1)

    -- an order that only asks leaves the board
    asked-keeps : board_after_order β (asked_by letter b) ≡ β
    unfolding asked_by board_after_order
    asked-keeps =
        let one = eqb (length b) 1 in
        let none = eqb (length b) 0 in
        let even = eqb (length b % 2) 0 in
        let f = keeps one (first_frame (get_or b 0 0)) other_form refl refl in
        let n = keeps one (frames_sent (get_or b 0 0)) other_form refl refl in
        let s = keeps none static other_form refl refl in
        let l = keeps none ftu_list other_form refl refl in
        let m = keeps one (failure (get_or b 0 0)) other_form refl refl in
        let d = keeps even (dynamic (words_in b)) other_form refl refl in
        found-keeps (drop 7 (take 13 letters)) (f, (n, (s, (l, (m, (d, tt))))))

    pub orders-other : (letter ≡ 80 → ⊥) → (letter ≡ 67 → ⊥) → (letter ≡ 75 → ⊥) → (letter ≡ 71 → ⊥) → (letter ≡ 82 → ⊥) → (letter ≡ 84 → ⊥)
        → (letter ≡ 66 → ⊥) → (s : Response) (bytes words : List ℕ) → response_meaning s bytes words ≡ printed_answer β (asked_by letter b)
        → AnswersBoth β (board_order letter b) (record { response = s; board = β }) bytes words
    orders-other p c k g r t n s bytes words h =
        let e : asked_by letter b ≡ board_order letter b = only-asked p c k g r t n in
        record { response = h ∙ ap (printed_answer β) e; board = sym asked-keeps ∙ ap (board_after_order β) e }

-- ---- the far end's letters, and `E`

-- rows at the end that do not have the key
more_rows : (rs more : List (Row Order)) (key : ℕ) (b : List ℕ) → found other_form more key b ≡ other_form
    → found other_form rs key b ≡ found other_form (rs ++ more) key b
more_rows [] more key b e = sym e
more_rows (r ∷ rs) more key b e = ap (cond (eqb key r.key) (r.order b)) (more_rows rs more key b e)

module _ (letter : ℕ) (b : List ℕ) where
  pub far-W : letter ≡ 87 → far_end (command_from b) ≡ order_of letter b
  unfolding order_of
  far-W e = rw e

  pub far-X : letter ≡ 88 → far_end (read_packet b) ≡ order_of letter b
  unfolding order_of
  far-X e = rw e

  pub far-Y : letter ≡ 89 → far_end (block_from b) ≡ order_of letter b
  unfolding order_of
  far-Y e = rw e

  pub explains-E : letter ≡ 69 → any_words other_form explain b ≡ order_of letter b
  unfolding order_of
  explains-E e = rw e

  pub on-board : (letter ≡ 87 → ⊥) → (letter ≡ 88 → ⊥) → (letter ≡ 89 → ⊥) → (letter ≡ 69 → ⊥) → board_order letter b ≡ order_of letter b
  unfolding board_order order_of
  on-board w x y e = more_rows (take 13 letters) (drop 13 letters) letter b (simp (ne_eqb _ _ e, ne_eqb _ _ w, ne_eqb _ _ x, ne_eqb _ _ y))

-- ---- a letter's order, answered

module _ (β : Board) (o p : Order) (e : o ≡ p) where
  pub asked-as : (r : Printed) → r ≡ printed_answer β o → r ≡ printed_answer β p
  asked-as r h = h ∙ ap (printed_answer β) e

  module _ (a : Answered) (bytes words : List ℕ) where
    pub ordered-as : Answers β o a → AnswersBoth β p a bytes words
    ordered-as h = record { response = h.response bytes words ∙ ap (printed_answer β) e; board = h.board ∙ ap (board_after_order β) e }

    pub ordered-in-bytes-as : AnswersInBytes β o a bytes → AnswersBoth β p a bytes words
    ordered-in-bytes-as h = record { response = h.response words ∙ ap (printed_answer β) e; board = h.board ∙ ap (board_after_order β) e }
