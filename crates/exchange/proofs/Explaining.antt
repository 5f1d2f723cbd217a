-- `E`: one law for each way that its order returns.
-- Assumes nothing.
use Prim.Native.Nat.{ℕ, ◌%◌}
use mathlib.Core.Path.{◌≡◌, refl, sym, ap, ◌∙◌, subst}
use mathlib.Core.Bool.{Bool, false}
use mathlib.Core.List.{List}
use lib.ListN.{length}
use borrow.Author.Tests.{eq-eqb}
use Rattle.words.specs.Words.{words_in}
use Rattle.explanations.specs.Explaining.{Explained, explanation_meaning, Explains}
use Rattle.explanations.specs.declared.Explanation.{Explanation}
use Rattle.board.specs.Explaining.{explained_on}
use Rattle.board.specs.declared.Board.{Board}
use Rattle.script.specs.Script.{malformed}
use Rattle.script.specs.Forms.{taking, any_words}
use Rattle.texts.specs.Texts.{explanation, text_of, in_front}
use Rattle.exchange.specs.Orders.{Order, explain, other_form}
use Rattle.exchange.specs.Exchange.{printed_answer, board_after_order, printed_for, board_after_line, ServesLine}
use Rattle.exchange.specs.CodeShape.{ServesOrder}
use Rattle.exchange.specs.declared.ServedLine.{ServedLine}
use Rattle.exchange.proofs.Asking.{taken}

module _ (β : Board) (text after : List ℕ) where
  serves-as : (o p : Order) (s : ServedLine) → o ≡ p → ServesOrder β o text s after → ServesOrder β p text s after
  serves-as o p s e h = subst (λ (q : Order). ServesOrder β q text s after) e h

  -- words in another form
  pub unexplained : (t : Bool) (o : Order) (s : ServedLine) → t ≡ false → ServesLine β malformed text s after
      → ServesOrder β (taking other_form t o) text s after
  unfolding printed_for board_after_line printed_answer board_after_order
  unexplained t o s e h =
      serves-as other_form (taking other_form t o) s (sym (ap (λ (u : Bool). taking other_form u o) e))
      (record { length = h.length; printed = h.printed; board = h.board })

  -- the explanation x
  pub explained : (b w : List ℕ) (x : Explanation) (n : ℕ) → length b % 2 ≡ 0 → w ≡ words_in b → Explains (explained_on β w) x
      → n ≡ length (text_of (explanation (explanation_meaning x))) → after ≡ in_front (text_of (explanation (explanation_meaning x))) text
      → ServesOrder β (any_words other_form explain b) text (record { length = n; board = β }) after
  unfolding printed_answer board_after_order
  explained b w x n even e h l p =
      serves-as (explain w) (any_words other_form explain b) _ (ap explain e ∙ sym (taken _ _ (eq-eqb _ _ even)))
      (record {
        length = l ∙ ap (λ (y : Explained). length (text_of (explanation y))) h.meaning;
        printed = p ∙ ap (λ (y : Explained). in_front (text_of (explanation y)) text) h.meaning;
        board = refl;
      })
