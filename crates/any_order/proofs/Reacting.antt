-- What holds of everything that a request on a pass may give holds of what it gives (`react-any`).
-- Assumes nothing.
use Prim.Native.Nat.{ℕ, ◌+◌, ◌<◌, ◌≤◌}
use mathlib.Core.Path.{◌≡◌, refl}
use mathlib.Core.List.{List, [], ◌∷◌, ◌++◌}
use mathlib.Core.Bool.{Bool, true, false, cond}
use native.Mathlib.Omega.{arith}
use lib.ListN.{length}
use lib.Dec.{ltb}
use borrow.Author.Tests.{ltb-true, ltb-false}
use Rattle.refusals.specs.Tables.{given}
use Rattle.crate_pass.specs.declared.Outcome.TheVariants.{Good, Again, BoardFailed}
use Rattle.any_order.specs.Steps.{Step, Event, judged, Request, hand_in, fetch, Pass, pass, first_frame, Result, refusal}
use Rattle.any_order.specs.Steps.{others, found_by, handed_over, too_few, says, serve_to, fetch_to, react_to}

module _ (frame : Step → List ℕ) (lent : List ℕ) (p : Pass) where
  -- a good reply to the first step, one that is not good or a time-up, and a third one
  abbrev pub good_reply : Event → Step → List Step → Result × Pass
  good_reply e s ss = says frame Good lent (pass ss 0 p.failed (found_by s p.tries (judged (frame s) e) p.boards) (p.counted + 1))

  abbrev pub sent_again : Step → List Step → Result × Pass
  sent_again s ss = says frame Again lent (pass (s ∷ ss) (p.tries + 1) p.failed p.boards (p.counted + 1))

  abbrev pub board_failed : Step → List Step → Result × Pass
  board_failed s ss = says frame BoardFailed lent (pass (others s.board ss) 0 (p.failed ++ (s ∷ [])) p.boards (p.counted + 1))

  -- the first frame
  abbrev pub first_handed : Step → Result
  first_handed s = record { answer = given first_frame; bytes = handed_over (frame s ∷ []) lent; frames = [] }

  module _ (P : Result × Pass → Type 0) where
    pub record EachWay : Type 0 where
      pub refused : (n : ℕ) → P (refusal n lent, p)
      pub good : (e : Event) (s : Step) (ss : List Step) → p.todo ≡ s ∷ ss → 28 ≤ length lent → P (good_reply e s ss)
      pub again : (s : Step) (ss : List Step) → p.todo ≡ s ∷ ss → 28 ≤ length lent → p.tries < 2 → P (sent_again s ss)
      pub failed : (s : Step) (ss : List Step) → p.todo ≡ s ∷ ss → 28 ≤ length lent → P (board_failed s ss)
      pub fetched : (s : Step) (ss : List Step) → p.todo ≡ s ∷ ss → p.counted ≡ 0 → 28 ≤ length lent → P (first_handed s, p)

    module _ (each : EachWay) where
      serve-any : (e : Event) (todo : List Step) → p.todo ≡ todo → P (serve_to frame e lent p todo)
      unfolding serve_to
      serve-any e [] q = each.refused 12
      serve-any e (s ∷ ss) q = go (too_few lent) (judged (frame s) e).good (ltb p.tries 2) refl refl
        where
          go : (v t u : Bool) → too_few lent ≡ v → ltb p.tries 2 ≡ u
              → P (cond v (refusal 19 lent, p) (cond t (good_reply e s ss) (cond u (sent_again s ss) (board_failed s ss))))
          go true t u f x = each.refused 19
          go false true u f x = each.good e s ss q (ltb-false _ _ f)
          go false false true f x = each.again s ss q (ltb-false _ _ f) (ltb-true _ _ x)
          go false false false f x = each.failed s ss q (ltb-false _ _ f)

      fetch-any : (todo : List Step) → p.todo ≡ todo → P (fetch_to frame lent p todo, p)
      unfolding fetch_to
      fetch-any [] q = each.refused 12
      fetch-any (s ∷ ss) q = go (ltb 0 p.counted) (too_few lent) refl refl
        where
          go : (t v : Bool) → ltb 0 p.counted ≡ t → too_few lent ≡ v
              → P (cond t (refusal 12 lent) (cond v (refusal 19 lent) (first_handed s)), p)
          go true v c f = each.refused 12
          go false true c f = each.refused 19
          go false false c f = let l : p.counted ≤ 0 = ltb-false _ _ c in each.fetched s ss q (omega arith) (ltb-false _ _ f)

      pub react-any : (request : Request) → P (react_to frame request lent p)
      react-any (hand_in e) = serve-any e p.todo refl
      react-any fetch = fetch-any p.todo refl
