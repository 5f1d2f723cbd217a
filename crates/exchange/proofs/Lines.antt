-- A line that is read: when it is an order, and what serving it leaves. Assumes nothing.
use Prim.Native.Nat.{ℕ, zero, suc, ◌/◌, ◌%◌, ◌≤◌, ◌<◌, min}
use mathlib.Core.Path.{◌≡◌, refl, sym, ap, ◌∙◌, subst}
use mathlib.Core.Bool.{Bool, true, false, cond, ◌&&◌}
use mathlib.Core.List.{List, [], ◌∷◌}
use lib.Dec.{leb}
use lib.ListN.{length, take}
use lib.Seq.{length-take-le}
use native.Mathlib.Omega.{arith}
use native.Mathlib.Nat.{zero-min, min-zero, suc-min-suc}
use borrow.Author.Tests.{ne_eqb, eq-eqb, lt-leb, le-leb}
use Rattle.board.specs.declared.Board.{Board}
use Rattle.script.specs.Script.{Line, order, malformed, passed_over}
use Rattle.script.specs.ByCharacter.{order_in, line_in}
use Rattle.script.specs.declared.Form.TheVariants.{Empty, Comment, Order, Malformed}
use Rattle.script.specs.declared.Reading.{Reading}
use Rattle.texts.specs.Texts.{question, text_of, response_meaning, in_front}
use Rattle.far_end.specs.FarEnd.{FarEndOrder, PrintsLine}
use Rattle.exchange.specs.Orders.{far_end, order_of}
use Rattle.exchange.specs.Orders as orders
use Rattle.exchange.specs.Exchange.{printed_answer, board_after_order, printed_for, board_after_line, ServesLine}
use Rattle.exchange.specs.CodeShape.{AnswersBoth, ServesOrder}
use Rattle.exchange.specs.declared.Answered.{Answered}
use Rattle.exchange.specs.declared.ServedLine.{ServedLine}

-- ---- when it is an order

never : (t : Bool) (a : Line) → malformed ≡ cond (t && false) a malformed
never true a = refl
never false a = refl

pub too_long : (r : Reading) (bytes : List ℕ) → 4096 < r.digits → malformed ≡ order_in r bytes
too_long r bytes h = rw (lt-leb _ _ h)

pub odd : (r : Reading) (bytes : List ℕ) → (r.digits % 2 ≡ 0 → ⊥) → malformed ≡ order_in r bytes
odd r bytes h = rw (ne_eqb _ _ h) (never (leb r.digits 4096) _)

pub take_min : (n : ℕ) (l : List ℕ) → take (min n (length l)) l ≡ take n l
take_min zero l = ap (λ (k : ℕ). take k l) (zero-min (length l))
take_min (suc n) [] = ap (λ (k : ℕ). take k []) (min-zero (suc n))
take_min (suc n) (x ∷ xs) =
    ap (λ (k : ℕ). take k (x ∷ xs)) (suc-min-suc n (length xs)) ∙ ap (λ (t : List ℕ). x ∷ t) (take_min n xs)

-- as many bytes as two digits each make, where there are so many
pub is-order : (r : Reading) (bytes : List ℕ) (k : ℕ)
    → r.digits ≤ 4096
    → r.digits % 2 ≡ 0
    → k ≡ min (r.digits / 2) (length bytes)
    → order r.letter (take k bytes) ≡ order_in r bytes
is-order r bytes k h e m =
    ap (λ (n : ℕ). order r.letter (take n bytes)) m
    ∙ ap (λ (t : List ℕ). order r.letter t) (take_min (r.digits / 2) bytes)
    ∙ rw (le-leb _ _ h, eq-eqb _ _ e)

pub as_many : (n k : ℕ) (l : List ℕ) → k ≡ min n (length l) → k ≡ length (take k l)
as_many n k l m = sym (length-take-le k l (omega (arith, m)))

pub no_more : (n k : ℕ) (l : List ℕ) → n ≤ 2048 → k ≡ min n (length l) → length (take k l) ≤ 2048
no_more n k l h m = rw (sym (as_many n k l m)) (omega (arith, m))

-- ---- serving it

pub empty : (r : Reading) (bytes : List ℕ) → r.form ≡ Empty → passed_over ≡ line_in r bytes
unfolding line_in
empty r bytes e = rw e

pub comment : (r : Reading) (bytes : List ℕ) → r.form ≡ Comment → passed_over ≡ line_in r bytes
unfolding line_in
comment r bytes e = rw e

pub order-form : (r : Reading) (bytes : List ℕ) → r.form ≡ Order → order_in r bytes ≡ line_in r bytes
unfolding line_in
order-form r bytes e = rw e

pub malformed-form : (r : Reading) (bytes : List ℕ) → r.form ≡ Malformed → malformed ≡ line_in r bytes
unfolding line_in
malformed-form r bytes e = rw e

pub as_line : (β : Board) (l m : Line) (text : List ℕ) (s : ServedLine) (after : List ℕ)
    → l ≡ m
    → ServesLine β l text s after
    → ServesLine β m text s after
as_line β l m text s after e h = subst (λ (x : Line). ServesLine β x text s after) e h

pub passed_over_lem : (β : Board) (text : List ℕ) → ServesLine β passed_over text (record { length = 0; board = β }) text
unfolding printed_for board_after_line
passed_over_lem β text = record { length = refl; printed = refl; board = refl }

pub questioned : (β : Board) (text : List ℕ) (n : ℕ) (after : List ℕ)
    → n ≡ length (text_of question)
    → after ≡ in_front (text_of question) text
    → ServesLine β malformed text (record { length = n; board = β }) after
unfolding printed_for board_after_line
questioned β text n after l p = record { length = l; printed = p; board = refl }

-- an order on the board
pub ordered : (β : Board) (o : orders.Order) (a : Answered) (out words text : List ℕ) (n : ℕ) (after : List ℕ)
    → AnswersBoth β o a out words
    → n ≡ length (text_of (response_meaning a.response out words))
    → after ≡ in_front (text_of (response_meaning a.response out words)) text
    → ServesOrder β o text (record { length = n; board = a.board }) after
ordered β o a out words text n after h l p =
    record {
      length = l ∙ ap (λ r. length (text_of r)) h.response;
      printed = p ∙ ap (λ r. in_front (text_of r) text) h.response;
      board = h.board;
    }

-- an order of the far end
far-ordered : (β : Board) (o : FarEndOrder) (text : List ℕ) (n : ℕ) (after : List ℕ) → PrintsLine o text n after
    → ServesOrder β (far_end o) text (record { length = n; board = β }) after
unfolding printed_answer board_after_order
far-ordered β o text n after h = record { length = h.length; printed = h.printed; board = refl }

-- an order that a letter asks for
pub by-letter : (β : Board) (letter : ℕ) (bytes : List ℕ) (o : orders.Order) (text : List ℕ) (s : ServedLine) (after : List ℕ) → o ≡ order_of letter bytes
    → ServesOrder β o text s after → ServesLine β (order letter bytes) text s after
unfolding printed_for board_after_line
by-letter β letter bytes o text s after e h =
    record {
      length = h.length ∙ ap (λ x. length (text_of (printed_answer β x))) e;
      printed = h.printed ∙ ap (λ x. in_front (text_of (printed_answer β x)) text) e;
      board = h.board ∙ ap (board_after_order β) e;
    }

-- an order of the far end that a letter asks for
pub far-letter : (β : Board) (letter : ℕ) (bytes : List ℕ) (o : FarEndOrder) (text : List ℕ) (n : ℕ) (after : List ℕ) → far_end o ≡ order_of letter bytes
    → PrintsLine o text n after → ServesLine β (order letter bytes) text (record { length = n; board = β }) after
far-letter β letter bytes o text n after e h = by-letter β letter bytes (far_end o) text _ after e (far-ordered β o text n after h)
