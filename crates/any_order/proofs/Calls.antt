-- Demand 3 for any results that keep the contracts of the public calls (`demand-3-of-calls`).
-- Assumes nothing.
use Prim.Native.Nat.{ℕ, ◌<◌}
use mathlib.Core.Path.{◌≡◌, refl, sym, ap, ap₂, ◌∙◌}
use mathlib.Core.List.{List, [], ◌∷◌, ◌++◌, map, append-nil}
use Rattle.std.specs.Prelude.{Result}
use Rattle.refusals.specs.Tables.{Answer, answer_of}
use Rattle.board.specs.SlowControl.{Fetches}
use Rattle.board.specs.declared.Board.{Board}
use Rattle.cells.specs.Order.{only, ordered}
use Rattle.cells.proofs.Order.{only-take, map-only, map-ordered}
use Rattle.any_order.specs.Steps.{reply, time_up, Request, hand_in, fetch, Given}
use Rattle.any_order.specs.AnyOrder.{Item, result_crate, Begin, write, ping, rates, Accepted, start_of, outcome_given}
use Rattle.any_order.specs.AnyOrder.{first_given, answer_for, bytes_for, board_after_request}
use Rattle.any_order.specs.AnyOrder.{result_of, results, final, results_after, board_at_end, in_order, frames_on}
use Rattle.any_order.specs.AnyOrder.{Seen, seen_crate, seen_of, fetched_by, handed_out_in, fetched_in, seen_on, first_fetched}
use Rattle.any_order.specs.Calls.{Began, obeyed, begun, BegunBy, board_begun_by}
use Rattle.any_order.specs.Calls.{Returned, replied, fetched, ServedItem, Keeps, board_then, Chained, last_board, items_of, answer_seen, seen}
use Rattle.any_order.specs.Calls.{Sent, AnyOrderOfCalls}
use Rattle.any_order.proofs.AnyOrder.{demand-3}
use Rattle.refusals.specs.declared.Refusal.{Refusal}

-- ---- one item

module _ (β : Board) (c : ℕ) where
  pub answer-is : (request : Request) (lent : List ℕ) (r : Returned) (after : List ℕ) → Keeps β c request lent r after
      → answer_seen r ≡ answer_for β c request lent
  answer-is (hand_in (reply bytes)) lent (replied r) after k = ap outcome_given k.answer
  answer-is (hand_in time_up) lent (replied r) after k = ap outcome_given k.answer
  answer-is (hand_in e) lent (fetched r) after k = absurd k
  answer-is fetch lent (replied r) after k = absurd k
  answer-is fetch lent (fetched r) after k = ap first_given k.answer

  pub bytes-are : (request : Request) (lent : List ℕ) (r : Returned) (after : List ℕ) → Keeps β c request lent r after
      → after ≡ bytes_for β c request lent
  bytes-are (hand_in (reply bytes)) lent (replied r) after k = k.bytes
  bytes-are (hand_in time_up) lent (replied r) after k = k.bytes
  bytes-are (hand_in e) lent (fetched r) after k = absurd k
  bytes-are fetch lent (replied r) after k = absurd k
  bytes-are fetch lent (fetched r) after k = k.output

  pub board-is : (request : Request) (lent : List ℕ) (r : Returned) (after : List ℕ) → Keeps β c request lent r after
      → board_then β r ≡ board_after_request β c request lent
  board-is (hand_in (reply bytes)) lent (replied r) after k = k.board
  board-is (hand_in time_up) lent (replied r) after k = k.board
  board-is (hand_in e) lent (fetched r) after k = absurd k
  board-is fetch lent (replied r) after k = absurd k
  board-is fetch lent (fetched r) after k = refl

-- ---- a series

chained-seen : (β : Board) (ss : List ServedItem) → Chained β ss → map seen ss ≡ map seen_of (results β (items_of ss))
unfolding results result_of
chained-seen β [] p = refl
chained-seen β (s ∷ ss) p =
    let c = s.item.0 in
    let request = s.item.1.0 in
    let lent = s.item.1.1 in
    let answer = answer-is β c request lent s.returned s.bytes p.0 in
    let bytes = bytes-are β c request lent s.returned s.bytes p.0 in
    ap₂ (λ (t : Seen) (ts : List Seen). t ∷ ts)
    (ap₂ (λ (a : Answer Given) (b : List ℕ). (s.item, (a, b))) answer bytes)
    (chained-seen (board_then β s.returned) ss p.1
    ∙ ap (λ (γ : Board). map seen_of (results γ (items_of ss))) (board-is β c request lent s.returned s.bytes p.0))

chained-final : (β : Board) (ss : List ServedItem) → Chained β ss → last_board β ss ≡ final β (items_of ss)
unfolding final
chained-final β [] p = refl
chained-final β (s ∷ ss) p =
    chained-final (board_then β s.returned) ss p.1
    ∙ ap (λ (γ : Board). final γ (items_of ss)) (board-is β s.item.0 s.item.1.0 s.item.1.1 s.returned s.bytes p.0)

-- ---- the begin

accepted-by : (β : Board) (g : Begin) (r : Began) → BegunBy β g r → Accepted β g
accepted-by β (write w) (obeyed r) b = sym b.0.answer ∙ b.1
accepted-by β (ping w) (obeyed r) b = sym b.0.answer ∙ b.1
accepted-by β rates (begun r) b = sym b.0.answer ∙ b.1
accepted-by β (write w) (begun r) b = absurd b
accepted-by β (ping w) (begun r) b = absurd b
accepted-by β rates (obeyed r) b = absurd b

returned-by : (β : Board) (g : Begin) (r : Began) → BegunBy β g r → board_begun_by r ≡ start_of β g
returned-by β (write w) (obeyed r) b = b.0.board
returned-by β (ping w) (obeyed r) b = b.0.board
returned-by β rates (begun r) b = b.0.board
returned-by β (write w) (begun r) b = absurd b
returned-by β (ping w) (begun r) b = absurd b
returned-by β rates (obeyed r) b = absurd b

module _ (β : Board) (g : Begin) (start : Board) (begins : start ≡ start_of β g) where
  -- what the caller sees of a series, and of crate c alone
  seen_of_lem : (ss : List ServedItem) → Chained start ss → map seen ss ≡ map seen_of (results_after β g (items_of ss))
  seen_of_lem ss p = chained-seen start ss p ∙ ap (λ (γ : Board). map seen_of (results γ (items_of ss))) begins

  seen-on : (c : ℕ) (ss : List ServedItem) → Chained start ss → only seen_crate c (map seen ss) ≡ seen_on β g c (items_of ss)
  seen-on c ss p =
      ap (only seen_crate c) (seen_of_lem ss p) ∙ sym (map-only result_crate seen_crate seen_of (λ t. refl) c (results_after β g (items_of ss)))

  board-of : (ss : List ServedItem) → Chained start ss → last_board start ss ≡ board_at_end β g (items_of ss)
  board-of ss p = chained-final start ss p ∙ ap (λ (γ : Board). final γ (items_of ss)) begins

  -- a fetch on the board that the command returned
  fetched-of : (c : ℕ) (lent : List ℕ) (r : Result ℕ Refusal) (after : List ℕ) → Fetches start c lent r after
      → fetched_by (first_given (answer_of r)) after ≡ first_fetched β g c lent
  unfolding fetched_in only
  fetched-of c lent r after w =
      let one : ServedItem = record { item = (c, (fetch, lent)); returned = fetched r; bytes = after } in
      sym (append-nil (fetched_by (first_given (answer_of r)) after))
      ∙ ap fetched_in (sym (only-take seen_crate c (seen one) [] refl) ∙ seen-on c (one ∷ []) (w, tt))

  -- the frames
  frames-of : Accepted β g → (c : ℕ) → c < 4 → (ss : List ServedItem) → Chained start ss → Sent c start ss (frames_on β g c (items_of ss))
  frames-of a c h ss p lent r after l w =
      ap₂ ◌++◌ (fetched-of c lent r after w) (ap handed_out_in (seen-on c ss p)) ∙ sym (((demand-3 β g a (items_of ss)).alone c h).handed lent l)

pub demand-3-of-calls : (β : Board) (g : Begin) (r : Began) → BegunBy β g r
    → (one two : List ServedItem) → Chained (board_begun_by r) one → Chained (board_begun_by r) two
    → items_of two ≡ in_order (items_of one) → AnyOrderOfCalls β g (board_begun_by r) one two
demand-3-of-calls β g r b one two p q e =
    let a = accepted-by β g r b in
    let start : board_begun_by r ≡ start_of β g = returned-by β g r b in
    let claim = demand-3 β g a (items_of one) in
    let seen_one = seen_of_lem β g (board_begun_by r) start one p in
    let last_one = board-of β g (board_begun_by r) start one p in
    record {
      claim = claim;
      seen_one = seen_one;
      sent-one = λ c h. frames-of β g (board_begun_by r) start a c h one p;
      last_one = last_one;
      seen-two = seen_of_lem β g (board_begun_by r) start two q
          ∙ ap (λ (xs : List Item). map seen_of (results_after β g xs)) e
          ∙ ap (map seen_of) claim.answers
          ∙ map-ordered result_crate seen_crate seen_of (λ t. refl) 4 (results_after β g (items_of one))
          ∙ ap (ordered seen_crate 4) (sym seen_one);
      sent-two = λ c h lent s after l w.
          frames-of β g (board_begun_by r) start a c h two q lent s after l w ∙ ap (frames_on β g c) e ∙ claim.frames c h;
      last-two = board-of β g (board_begun_by r) start two q ∙ ap (board_at_end β g) e ∙ claim.state ∙ sym last_one;
    }
