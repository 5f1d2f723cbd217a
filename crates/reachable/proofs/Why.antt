-- 02, c: over the contracts of the calls the explanation is the true reason (`true-of-calls`); through any calls the state keeps why nothing is fresh
-- (from any state, `freshness-after`; from power-up, `freshness-kept`), and so a start is explained (`start-explained`); and of the states that a board
-- reaches, six can be named (`states-named`).
-- Assumes nothing.
use Prim.Native.Nat.{ℕ}
use mathlib.Core.Path.{◌≡◌, refl, sym, ap, subst, ◌∙◌}
use mathlib.Core.Bool.{Bool, true, false, cond, not, ◌&&◌, ◌||◌}
use mathlib.Core.List.{List, [], ◌∷◌, ◌++◌}
use native.Mathlib.Omega.{arith}
use lib.Dec.{eqb}
use Rattle.refusals.specs.Tables.{Answer, given, refused, answer_number, answer_of}
use Rattle.commands.specs.Commands.{is_write}
use Rattle.commands.specs.declared.Command.{Command}
use Rattle.commands.specs.declared.Command.TheVariants.{Read, Write, Start, Stop, CrateReset}
use Rattle.acceptance.specs.Acceptance.{decided}
use Rattle.acceptance.specs.declared.Status.{Status}
use Rattle.acceptance.proofs.Deciding.{by_state}
use Rattle.run.specs.Run.{is_running, is_fresh, used_by}
use Rattle.run.specs.declared.Freshness.{Freshness}
use Rattle.run.specs.declared.Freshness.TheVariants.{NeverWritten, Fresh, UsedByRun, UsedByReset}
use Rattle.crate_pass.specs.Crate.{is_rate_pass}
use Rattle.crate_pass.specs.declared.PassKind.{PassKind}
use Rattle.crate_pass.specs.declared.PassKind.TheVariants.{Reprogramming, Ping, Rates}
use Rattle.four_crates.specs.FourCrates.{in_pass}
use Rattle.explanations.specs.Explaining.{activity_of, status_in, AllowedThere, Explained, missing, at_fault, in_state, not_fresh}
use Rattle.explanations.specs.Explaining.{explained_number, explanation_meaning, Explains}
use Rattle.explanations.specs.TrueReason.{answered, names, True}
use Rattle.explanations.specs.declared.Explanation.{Explanation}
use Rattle.explanations.specs.declared.Activity.TheVariants.{RunningInPass}
use Rattle.explanations.proofs.Answers.{explained-is}
use Rattle.explanations.proofs.TrueReason.{true-reason}
use Rattle.board.specs.State.{status_of, fresh_board}
use Rattle.board.specs.Commands.{board_answer, Obeys}
use Rattle.board.specs.Explaining.{present_of, explained_on}
use Rattle.board.specs.declared.Board.{Board}
use Rattle.board.specs.declared.CommandResult.{CommandResult}
use Rattle.reachable.specs.Calls.{Call, after_all}
use Rattle.reachable.specs.Reachable.{Reachable}
use Rattle.reachable.proofs.OneCall.{false≢true}
use Rattle.reachable.proofs.Freshness.{used_on, used_after, after-calls}
use Rattle.reachable.specs.Why.{TrueWordOfCalls, TrueOfCalls, accepted_in, any_write, first_use, freshness_by, start_explained, StartExplained}

-- ---- the board's state is what a command is decided by

status-same : (β : Board) → status_in (present_of β) ≡ status_of β
status-same β = go (is_running β.run) (in_pass β.crates)
  where
    go : (r i : Bool) → status_in (record { activity = activity_of r i β.kind; freshness = β.run.freshness })
        ≡ record { idle = not r && not i; running = r; fresh = is_fresh β.run.freshness }
    go true true = refl
    go true false = refl
    go false true = refl
    go false false = refl

answer-same : (β : Board) (w : List ℕ) → answered w (present_of β) ≡ board_answer β w
answer-same β w = ap (decided w) (status-same β)

-- ---- what `explain` gives, beside what `obey` does

module _ (β : Board) (w : List ℕ) (e : Explanation) (h : Explains (explained_on β w) e) where
  -- the reason that is named is true
  reason-true : (x : Explained) → explanation_meaning e ≡ x → True w (present_of β) x
  reason-true x q = subst (True w (present_of β)) (sym h.meaning ∙ q) (true-reason w (present_of β)).reason

  word-true : (n place stands : ℕ) (allowed : AllowedThere) → explanation_meaning e ≡ at_fault n place stands allowed
      → TrueWordOfCalls β w n place stands allowed
  word-true n place stands allowed q =
      let t = reason-true (at_fault n place stands allowed) q in
      record {
        there = t.there;
        word = t.word;
        fault = t.fault;
        lowest = t.lowest;
        gone = λ x a f k. ap (names n place) k.meaning ∙ t.gone x a;
        only = λ x l a f k. ap (names n place) k.meaning ∙ t.only x l a;
      }

  pub true-of-calls : (r : CommandResult) → Obeys β w r → TrueOfCalls β w e r
  true-of-calls r o =
      let p = present_of β in
      let t = true-reason w p in
      let same : answer_of r.answer ≡ answered w p = o.answer ∙ sym (answer-same β w) in
      let number : explained_number (explanation_meaning e) ≡ answer_number (answer_of r.answer) =
      ap explained_number h.meaning ∙ t.number ∙ ap answer_number (sym same) in
      record {
        number = number;
        eighth = λ place stands allowed q. same ∙ t.eighth place stands allowed (sym h.meaning ∙ q);
        accepts = λ c q. h.meaning ∙ t.accepts c (sym same ∙ q);
        accepted-only = λ q. sym number ∙ ap explained_number q;
        word = word-true;
        some = λ n k q. (reason-true (missing n k) q).some;
        added = λ n k q more s u.
            ap (λ (a : Answer Command). eqb (answer_number a) n) (u.answer ∙ sym (answer-same β (w ++ more))) ∙ (reason-true (missing n k) q).added more;
        state = λ a q. reason-true (in_state a) q;
        fresh = λ f q.
            let k = reason-true (not_fresh f) q in
            (k.0, k.1, sym (ap (λ (s : Status). s.idle) (status-same β)) ∙ k.2);
      }

-- ---- a start on an idle board

idle-start : (β : Board) → StartExplained β β.run.freshness
idle-start β idle w l n k e h =
    h.meaning ∙ go (is_fresh β.run.freshness) refl
  where
    got : (t : Bool) → is_fresh β.run.freshness ≡ t → answered w (present_of β) ≡ cond t (given (Start l)) (refused 10 0)
    got true f = answer-same β w ∙ by_state w (status_of β) (Start l) n k ∙ rw (idle, f) refl
    got false f = answer-same β w ∙ by_state w (status_of β) (Start l) n k ∙ rw (idle, f) refl

    go : (t : Bool) → is_fresh β.run.freshness ≡ t → explained_on β w ≡ start_explained β.run.freshness
    go true f = explained-is w (present_of β) (given (Start l)) (got true f) ∙ rw f refl
    go false f = explained-is w (present_of β) (refused 10 0) (got false f) ∙ rw f refl

-- ---- through any calls from power-up

-- what nothing uses stays, and what is used up too
used-by-none : (f : Freshness) → used_by Fresh f ≡ f
used-by-none NeverWritten = refl
used-by-none Fresh = refl
used-by-none UsedByRun = refl
used-by-none UsedByReset = refl

-- only the first use counts
used-once : (u v f : Freshness) → is_fresh v ≡ false → used_by u (used_by v f) ≡ used_by v f
used-once u NeverWritten NeverWritten e = refl
used-once u NeverWritten Fresh e = refl
used-once u NeverWritten UsedByRun e = refl
used-once u NeverWritten UsedByReset e = refl
used-once u Fresh f e = false≢true (sym e)
used-once u UsedByRun NeverWritten e = refl
used-once u UsedByRun Fresh e = refl
used-once u UsedByRun UsedByRun e = refl
used-once u UsedByRun UsedByReset e = refl
used-once u UsedByReset NeverWritten e = refl
used-once u UsedByReset Fresh e = refl
used-once u UsedByReset UsedByRun e = refl
used-once u UsedByReset UsedByReset e = refl

-- commands make of any freshness what the last write and the first use after it say, or, where none of them is a write, what their first use does
history : (cs : List Command) (f : Freshness) → used_after cs f ≡ cond (any_write cs) (freshness_by cs) (used_by (first_use cs) f)
history [] f = sym (used-by-none f)
history (c ∷ cs) f = history cs (used_on c f) ∙ go c (any_write cs)
  where
    go : (c : Command) (t : Bool)
        → cond t (freshness_by cs) (used_by (first_use cs) (used_on c f))
        ≡ cond (is_write c || t) (cond t (freshness_by cs) (cond (is_write c) (first_use cs) NeverWritten)) (used_by (first_use (c ∷ cs)) f)
    go (Read kind) true = refl
    go (Read kind) false = refl
    go Write true = refl
    go Write false = refl
    go (Start run) true = refl
    go (Start run) false = used-once (first_use cs) UsedByRun f refl
    go Stop true = refl
    go Stop false = refl
    go Command.Ping true = refl
    go Command.Ping false = refl
    go (CrateReset n) true = refl
    go (CrateReset n) false = used-once (first_use cs) UsedByReset f refl

-- through any calls from any state
pub freshness-after : (β : Board) (xs : List Call) → let cs = accepted_in β xs in
    (after_all β xs).run.freshness ≡ cond (any_write cs) (freshness_by cs) (used_by (first_use cs) β.run.freshness)
freshness-after β xs = after-calls β xs ∙ history (accepted_in β xs) β.run.freshness

-- from nothing written
from-none : (cs : List Command) → cond (any_write cs) (freshness_by cs) NeverWritten ≡ freshness_by cs
from-none [] = refl
from-none (c ∷ cs) = go (is_write c) (any_write cs)
  where
    go : (t u : Bool) → cond (t || u) (cond u (freshness_by cs) (cond t (first_use cs) NeverWritten)) NeverWritten
        ≡ cond u (freshness_by cs) (cond t (first_use cs) NeverWritten)
    go true true = refl
    go true false = refl
    go false true = refl
    go false false = refl

module _ (id firmware : ℕ) (xs : List Call) where
  abbrev start : Board
  start = fresh_board id firmware

  pub freshness-kept : (after_all start xs).run.freshness ≡ freshness_by (accepted_in start xs)
  unfolding fresh_board
  freshness-kept = freshness-after start xs ∙ from-none (accepted_in start xs)

  pub start-explained : StartExplained (after_all start xs) (freshness_by (accepted_in start xs))
  start-explained = subst (StartExplained (after_all start xs)) freshness-kept (idle-start (after_all start xs))

-- ---- the states that can be named

-- a board that is reached runs and is in a pass at once only where that is a rate pass
pub states-named : (β : Board) → Reachable β → (kind : PassKind) → (present_of β).activity ≡ RunningInPass kind → kind ≡ Rates
states-named β h kind e = go (is_running β.run) (in_pass β.crates) β.kind h.apart e
  where
    go : (r i : Bool) (k : PassKind) → (r && (i && not (is_rate_pass k))) ≡ false → activity_of r i k ≡ RunningInPass kind → kind ≡ Rates
    go true true Reprogramming a q = false≢true (sym a)
    go true true Ping a q = false≢true (sym a)
    go true true Rates a q = cc
    go true false k a q = absurd (let z : ◌≡◌ {A = ℕ} 0 1 = cc in omega arith)
    go false true k a q = absurd (let z : ◌≡◌ {A = ℕ} 0 1 = cc in omega arith)
    go false false k a q = absurd (let z : ◌≡◌ {A = ℕ} 0 1 = cc in omega arith)
