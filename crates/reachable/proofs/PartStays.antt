-- A part of each crate, such as its entries of the FTU list or its rates, stays through calls among which no pass begins that fills it, from a state in
-- which none is under way (`parts_stay`).
-- Assumes nothing.
use Prim.Native.Nat.{ℕ, zero, suc, ◌<◌}
use mathlib.Core.Path.{◌≡◌, refl, sym, ◌∙◌, subst}
use mathlib.Core.Bool.{Bool, true, false, ◌&&◌}
use mathlib.Core.List.{List}
use mathlib.Core.Logic.{◌⊎◌, inl, inr}
use native.Mathlib.Omega.{arith}
use lib.Dec.{ltb}
use lib.ListN.{get_or}
use borrow.Author.Tests.{ltb-true, ltb-false, leb-false}
use Rattle.refusals.specs.Tables.{Answer, given, refused}
use Rattle.commands.specs.declared.Command.{Command}
use Rattle.commands.specs.declared.Command.TheVariants.{Read, Write, Start, Stop, Ping, CrateReset}
use Rattle.steps.specs.declared.Judged.{Judged}
use Rattle.crate_pass.specs.Crate.{is_done, begun_crate}
use Rattle.crate_pass.specs.Invariant.{IsCode}
use Rattle.crate_pass.specs.declared.PassKind.{PassKind}
use Rattle.crate_pass.specs.declared.PassKind.TheVariants.{Reprogramming, Rates}
use Rattle.crate_pass.specs.declared.Crate.{Crate}
use Rattle.crate_pass.proofs.Answered.{crate_after}
use Rattle.four_crates.specs.FourCrates.{crate_of, in_pass, begun_all}
use Rattle.board.specs.State.{crate_at, active_words, with_run, with_crates}
use Rattle.command_reader.specs.Reading.{block_of}
use Rattle.board.specs.Commands.{board_answer, written, pinged, after_command}
use Rattle.board.specs.SlowControl.{board_replied}
use Rattle.board.specs.RatePass.{rates_begun, begin_answer, after_begin}
use Rattle.board.specs.declared.Board.{Board}
use Rattle.board.proofs.Serving.{board-high, board-low}
use Rattle.any_order.specs.Steps.{Event}
use Rattle.any_order.specs.AnyOrder.{word_of, judged_on}
use Rattle.reachable.specs.Calls.{Call, command, clock_step, trigger, hand_in, begin_rates, after_call, after_all, begins, none_gets}
use Rattle.reachable.proofs.OneCall.{Free, kept-by-calls, only-first}
use Rattle.reachable.proofs.Holding.{Holds}
use Rattle.reachable.proofs.OnPasses.{next, at_set, replied-done}
use Rattle.reachable.proofs.PassStays.{replied-same}
use Rattle.reachable.proofs.States.{holds_kept}

-- `fills`: the passes that fill the part. `such` and `rates`: the commands among the calls that begin one, and whether the begin of a rate pass does
module _ {A : Type 0} (part : Crate → A) (fills : PassKind → Bool) (such : Answer Command → Bool) (rates : Bool) where
  -- what is asked of the part, and of these
  pub record Kept : Type 0 where
    -- another pass leaves the part as it begins, and at each reply and time-up
    pub begin : (kind : PassKind) → fills kind ≡ false → (w : ℕ) (k : Crate) → part (begun_crate kind w k) ≡ part k
    pub step : (kind : PassKind) → fills kind ≡ false → (w : ℕ) (k : Crate) (h : Judged) (lent : List ℕ) → IsCode kind k.code
        → part (crate_after kind w k h lent) ≡ part k
    -- a pass that is begun among the calls does not fill it
    pub write : fills Reprogramming ≡ false
    pub ping : such (given Ping) ≡ false → fills PassKind.Ping ≡ false
    pub rate : rates ≡ false → fills Rates ≡ false

  abbrev NoneUnderWay : Board → Type 0
  NoneUnderWay β = (fills β.kind ≡ false) ⊎ (in_pass β.crates ≡ false)

  -- each crate has the same part, and no pass that fills it is under way
  record Same (β γ : Board) : Type 0 where
    parts : (c : ℕ) → c < 4 → part (crate_at γ c) ≡ part (crate_at β c)
    still : NoneUnderWay γ

  module _ (kept : Kept) where
    begun-parts : (kind : PassKind) → fills kind ≡ false → (words : List ℕ) (cs : List Crate) (c : ℕ) → c < 4
        → part (crate_of (begun_all kind words cs) c) ≡ part (crate_of cs c)
    unfolding begun_all
    begun-parts kind e words cs zero h = kept.begin kind e (get_or words 0 0) (crate_of cs 0)
    begun-parts kind e words cs (suc zero) h = kept.begin kind e (get_or words 1 0) (crate_of cs 1)
    begun-parts kind e words cs (suc (suc zero)) h = kept.begin kind e (get_or words 2 0) (crate_of cs 2)
    begun-parts kind e words cs (suc (suc (suc zero))) h = kept.begin kind e (get_or words 3 0) (crate_of cs 3)
    begun-parts kind e words cs (suc (suc (suc (suc c)))) h = absurd (omega arith)

    same-command : (β : Board) (block : List ℕ) (a : Answer Command) → such a ≡ false → NoneUnderWay β → Same β (after_command β block a)
    unfolding with_run written pinged
    same-command β block (given (Read kind)) e n = record { parts = λ c h. refl; still = n }
    same-command β block (given Write) e n =
        record { parts = begun-parts Reprogramming kept.write (active_words block) β.crates; still = inl kept.write }
    same-command β block (given (Start run)) e n = record { parts = λ c h. refl; still = n }
    same-command β block (given Stop) e n = record { parts = λ c h. refl; still = n }
    same-command β block (given Ping) e n =
        let other = kept.ping e in
        record { parts = begun-parts PassKind.Ping other (active_words β.block) β.crates; still = inl other }
    same-command β block (given (CrateReset c)) e n = record { parts = λ c h. refl; still = n }
    same-command β block (refused m p) e n = record { parts = λ c h. refl; still = n }

    same-begin : (β : Board) (a : Answer Unit) → (rates && begins a) ≡ false → NoneUnderWay β → Same β (after_begin β a)
    unfolding rates_begun
    same-begin β (given t) e n =
        let other = kept.rate (only-first rates e) in
        record { parts = begun-parts Rates other (active_words β.block) β.crates; still = inl other }
    same-begin β (refused m p) e n = record { parts = λ c h. refl; still = n }

    same-event : (β : Board) (c : ℕ) (e : Event) (lent : List ℕ) → Holds β → NoneUnderWay β → Same β (board_replied β c (judged_on β c e) lent)
    unfolding with_crates
    same-event β c e lent h (inr d) = rw (replied-same β c (judged_on β c e) lent d) (record { parts = λ n m. refl; still = inr d })
    same-event β c e lent h (inl p) = go (ltb c 4) refl (is_done (crate_at β c)) refl
      where
        said : Judged
        said = judged_on β c e

        go : (t : Bool) → ltb c 4 ≡ t → (u : Bool) → is_done (crate_at β c) ≡ u → Same β (board_replied β c said lent)
        go false q u d = rw (board-high β c said lent (ltb-false c 4 q)) (record { parts = λ n m. refl; still = inl p })
        go true q true d = rw (replied-done β c said lent (ltb-true c 4 q) d) (record { parts = λ n m. refl; still = inl p })
        go true q false d =
            let l = ltb-true c 4 q in
            let four = h.reaches.four in
            let code = (h.reaches.crates c l).code (leb-false _ _ d) in
            let own = kept.step β.kind p (word_of β.block c) (crate_at β c) said lent code in
            subst (Same β) (sym (board-low β c said lent (omega arith)))
            (record {
              parts = λ n m. at_set β.crates c (next β c e lent) (omega arith) (λ i j. part j ≡ part (crate_at β i)) own n refl;
              still = inl p;
            })

    same-call : (β : Board) (x : Call) → Holds β → Free such rates β x → NoneUnderWay β → Same β (after_call β x)
    unfolding after_call with_run
    same-call β (command words) h free n = same-command β (block_of words) (board_answer β words) free n
    same-call β (clock_step ticks) h free n = record { parts = λ c m. refl; still = n }
    same-call β (trigger fields out) h free n = record { parts = λ c m. refl; still = n }
    same-call β (hand_in c event out) h free n = same-event β c event out h n
    same-call β begin_rates h free n = same-begin β (begin_answer β) free n

    one_more : (β γ : Board) (x : Call) → Free such rates γ x → Holds γ × Same β γ → Holds (after_call γ x) × Same β (after_call γ x)
    one_more β γ x free (h, s) =
        let t = same-call γ x h free s.still in
        (holds_kept γ x h, record { parts = λ c m. t.parts c m ∙ s.parts c m; still = t.still })

    -- after the calls each crate has the same part, and still no pass that fills it is under way
    pub parts_stay : (β : Board) (xs : List Call) → Holds β → none_gets such rates β xs ≡ true → NoneUnderWay β
        → ((c : ℕ) → c < 4 → part (crate_at (after_all β xs) c) ≡ part (crate_at β c)) × NoneUnderWay (after_all β xs)
    parts_stay β xs h e n =
        let s = (kept-by-calls such rates (λ (γ : Board). Holds γ × Same β γ) (one_more β) β xs e (h, record { parts = λ c m. refl; still = n })).1 in
        (s.parts, s.still)
