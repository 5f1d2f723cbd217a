-- 02, i, for any results that keep the contracts of the public calls: what comes between does not matter (`nothing-between-of-calls`).
-- Assumes nothing.
use Prim.Native.Nat.{ℕ}
use mathlib.Core.Path.{◌≡◌, refl, sym, ap, ap₂, ◌∙◌, subst}
use mathlib.Core.List.{List, [], ◌∷◌, map}
use Rattle.refusals.specs.Tables.{Answer}
use Rattle.run.specs.Run.{is_running}
use Rattle.board.specs.SentOut.{header_of}
use Rattle.board.specs.declared.Board.{Board}
use Rattle.any_order.specs.Steps.{Given}
use Rattle.any_order.specs.AnyOrder.{Item, ItemResult, after_item, result_of, results, final, Seen, seen_of}
use Rattle.any_order.specs.Calls.{board_then}
use Rattle.any_order.proofs.Calls.{answer-is, bytes-are, board-is}
use Rattle.reachable.specs.Stays.{PassStays}
use Rattle.reachable.specs.Between.{Other, after_other, OtherResult, other_result}
use Rattle.reachable.specs.Between.{item, after_act, after_acts, item_results, other_results, items_in, others_in}
use Rattle.reachable.specs.BetweenCalls.{ServedOther, triggered, clocked, stopped, other_of, KeepsOther, board_then_of, result_seen}
use Rattle.reachable.specs.BetweenCalls.{ServedAct, served, between, KeepsAct, board_then_act, ChainedActs, last_board_of, act_of, acts_of}
use Rattle.reachable.specs.BetweenCalls.{items_seen, others_seen, NothingBetweenCalls}
use Rattle.reachable.proofs.Between.{nothing-between}

-- ---- one call

other-board : (β : Board) (o : ServedOther) → KeepsOther β o → board_then_of o ≡ after_other β (other_of o)
other-board β (triggered f out t after) k = k.board
other-board β (clocked ticks γ) k = k
other-board β (stopped words r) k = k.board

other_result_lem : (β : Board) (o : ServedOther) → KeepsOther β o → result_seen o ≡ other_result β (other_of o)
unfolding other_result
other_result_lem β (triggered f out t after) k = ap₂ OtherResult.triggered k.packet.answer k.packet.output
other_result_lem β (clocked ticks γ) k = refl
other_result_lem β (stopped words r) k = ap OtherResult.stopped k.answer

act-board : (β : Board) (s : ServedAct) → KeepsAct β s → board_then_act β s ≡ after_act β (act_of s)
act-board β (served s) k = board-is β s.item.0 s.item.1.0 s.item.1.1 s.returned s.bytes k
act-board β (between o) k = other-board β o k

-- ---- a series

chained-end : (β : Board) (ss : List ServedAct) → ChainedActs β ss → last_board_of β ss ≡ after_acts β (acts_of ss)
unfolding after_acts
chained-end β [] p = refl
chained-end β (s ∷ ss) p =
    chained-end (board_then_act β s) ss p.1 ∙ ap (λ (γ : Board). after_acts γ (acts_of ss)) (act-board β s p.0)

chained-items : (β : Board) (ss : List ServedAct) → ChainedActs β ss → items_seen ss ≡ map seen_of (item_results β (acts_of ss))
unfolding item_results result_of
chained-items β [] p = refl
chained-items β (served s ∷ ss) p =
    let c = s.item.0 in
    let request = s.item.1.0 in
    let lent = s.item.1.1 in
    ap₂ (λ (t : Seen) (ts : List Seen). t ∷ ts)
    (ap₂ (λ (a : Answer Given) (b : List ℕ). (s.item, (a, b)))
    (answer-is β c request lent s.returned s.bytes p.0) (bytes-are β c request lent s.returned s.bytes p.0))
    (chained-items (board_then β s.returned) ss p.1
    ∙ ap (λ (γ : Board). map seen_of (item_results γ (acts_of ss))) (act-board β (served s) p.0))
chained-items β (between o ∷ ss) p =
    chained-items (board_then_of o) ss p.1 ∙ ap (λ (γ : Board). map seen_of (item_results γ (acts_of ss))) (other-board β o p.0)

chained-others : (β : Board) (ss : List ServedAct) → ChainedActs β ss → others_seen ss ≡ other_results β (acts_of ss)
unfolding other_results
chained-others β [] p = refl
chained-others β (served s ∷ ss) p =
    chained-others (board_then β s.returned) ss p.1 ∙ ap (λ (γ : Board). other_results γ (acts_of ss)) (act-board β (served s) p.0)
chained-others β (between o ∷ ss) p =
    ap₂ (λ (t : OtherResult) (ts : List (Other × OtherResult)). (other_of o, t) ∷ ts) (other_result_lem β o p.0)
    (chained-others (board_then_of o) ss p.1 ∙ ap (λ (γ : Board). other_results γ (acts_of ss)) (other-board β o p.0))

-- ---- items alone

items-results : (β : Board) (xs : List Item) → item_results β (map item xs) ≡ results β xs
unfolding item_results results
items-results β [] = refl
items-results β (x ∷ xs) = ap (λ (l : List ItemResult). (x, result_of β x) ∷ l) (items-results (after_item β x) xs)

items-end : (β : Board) (xs : List Item) → after_acts β (map item xs) ≡ final β xs
unfolding after_acts final
items-end β [] = refl
items-end β (x ∷ xs) = items-end (after_item β x) xs

pub nothing-between-of-calls : (β : Board) (all items others : List ServedAct) → ChainedActs β all → ChainedActs β items → ChainedActs β others
    → acts_of items ≡ map item (items_in (acts_of all)) → acts_of others ≡ others_in (acts_of all) → NothingBetweenCalls β all items others
nothing-between-of-calls β all items others p q s i o =
    let claim = nothing-between β (acts_of all) in
    let end = chained-end β all p in
    let items-last = chained-end β items q ∙ ap (after_acts β) i ∙ items-end β (items_in (acts_of all)) in
    let others-last = chained-end β others s ∙ ap (after_acts β) o in
    record {
      items-same = chained-items β all p
          ∙ ap (map seen_of) (claim.items ∙ sym (items-results β (items_in (acts_of all))) ∙ sym (ap (item_results β) i))
          ∙ sym (chained-items β items q);
      passes = subst (λ (γ : Board). PassStays γ (last_board_of β all)) (sym items-last)
          (subst (PassStays (final β (items_in (acts_of all)))) (sym end) claim.passes);
      others_same = chained-others β all p ∙ claim.others ∙ ap (other_results β) (sym o) ∙ sym (chained-others β others s);
      header = ap header_of end ∙ claim.header ∙ sym (ap header_of others-last);
      on-time = ap (λ (γ : Board). γ.run.on_time) end ∙ claim.on-time ∙ sym (ap (λ (γ : Board). γ.run.on_time) others-last);
      running = ap (λ (γ : Board). is_running γ.run) end ∙ claim.running ∙ sym (ap (λ (γ : Board). is_running γ.run) others-last);
      run = ap (λ (γ : Board). γ.run) end ∙ claim.run ∙ sym (ap (λ (γ : Board). γ.run) others-last);
    }
