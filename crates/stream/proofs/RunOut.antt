-- Silent boards end every pass of the three kinds, from any state (`runs-out`): three time-ups for each board that is left are enough for a crate.
-- A rate pass leaves the board running or idle as it was (`rate-pass-runs-out`). Assumes nothing.
use Prim.Native.Nat.{ℕ, zero, suc, ◌+◌, ◌*◌, ◌-◌, ◌<◌, ◌≤◌}
use mathlib.Core.Path.{◌≡◌, refl, sym, subst, ◌∙◌}
use mathlib.Core.Bool.{Bool, true, false, cond}
use native.Mathlib.Omega.{arith}
use lib.Dec.{ltb}
use lib.ListN.{length, set, length-set}
use lib.Seq.{get_or-set_same, get_or-set_other}
use borrow.Author.Tests.{ltb-true, ltb-false, leb-false, leb-true, le-leb, le-ltb}
use Rattle.configuration.specs.Configuration.{active_word}
use Rattle.run.specs.Run.{is_running}
use Rattle.crate_pass.specs.Crate.{serves, first_served, next_board, placed, with_record, advanced, with_outcome, after_failed_send, is_done, served_answer}
use Rattle.crate_pass.specs.declared.PassKind.{PassKind}
use Rattle.crate_pass.specs.declared.Outcome.TheVariants.{Again, BoardFailed}
use Rattle.crate_pass.specs.declared.Crate.{Crate}
use Rattle.four_crates.specs.FourCrates.{no_crate, in_pass, begun_all}
use Rattle.board.specs.State.{crate_at, with_crates, is_idle}
use Rattle.board.specs.SlowControl.{board_replied}
use Rattle.board.specs.RatePass.{rates_begun}
use Rattle.board.specs.declared.Board.{Board}
use Rattle.stream.specs.Stream.{timed_up, time_ups, ran_out}

-- ---- a run of time-ups, one at a time

pub more-time-ups : (n c : ℕ) (β : Board) (i : ℕ) → i < n → time_ups (n - i) c β ≡ time_ups (n - (i + 1)) c (timed_up c β)
unfolding time_ups
more-time-ups n c β i h = let l : n - i ≡ suc (n - (i + 1)) = omega arith in rw l

pub no-time-ups : (n c : ℕ) (β : Board) (i : ℕ) → n ≤ i → time_ups (n - i) c β ≡ β
unfolding time_ups
no-time-ups n c β i h = let l : n - i ≡ 0 = omega arith in rw l

-- ---- one crate

-- n time-ups are enough for the crate: three for each board from its place on, less those that the outstanding step has had, which are two at most
abbrev EnoughFrom : ℕ → ℕ → ℕ → Type 0
EnoughFrom n board tries = (3 * (10 - board) ≤ n + tries) × (3 * (10 - board) ≤ n + 2)

abbrev Enough : ℕ → Crate → Type 0
Enough n k = EnoughFrom n k.board k.tries

-- a crate that is done needs none
done-enough : (n b t : ℕ) → 10 ≤ b → EnoughFrom n b t
done-enough n b t h = (omega arith, omega arith)

-- a send more on the same board, and the first on a later board, take one of them
again-enough : (n b t : ℕ) → t < 2 → EnoughFrom (suc n) b t → EnoughFrom n b (t + 1)
again-enough n b t h e = (omega arith, omega arith)

later-enough : (n b d t : ℕ) → b < d → 2 ≤ t → EnoughFrom (suc n) b t → EnoughFrom n d 0
later-enough n b d t h g e = (omega arith, omega arith)

first-from : (kind : PassKind) (w n b : ℕ) → b + n ≤ 10 → b ≤ first_served kind w n b
unfolding first_served
first-from kind w zero b h = omega arith
first-from kind w (suc n) b h = go (serves kind w b) (first-from kind w n (suc b) (omega arith))
  where
    go : (t : Bool) → suc b ≤ first_served kind w n (suc b) → b ≤ cond t b (first_served kind w n (suc b))
    go true f = omega arith
    go false f = omega arith

next-from : (kind : PassKind) (w b : ℕ) → b ≤ 10 → b ≤ next_board kind w b
unfolding next_board
next-from kind w b h = first-from kind w (10 - b) b (omega arith)

-- a time-up on a crate that is not done, by whether there is another send, takes one of them
abbrev failed_send_by : PassKind → ℕ → Crate → Bool → Crate
failed_send_by kind w k t = cond t (placed k k.board k.code (k.tries + 1)) (advanced kind w (with_record k))

failed-send-by : (kind : PassKind) (w : ℕ) (k : Crate) → (after_failed_send kind w k).state ≡ failed_send_by kind w k (ltb k.tries 2)
unfolding after_failed_send
failed-send-by kind w k = go (ltb k.tries 2)
  where
    go : (t : Bool)
        → (cond t (with_outcome Again (placed k k.board k.code (k.tries + 1))) (with_outcome BoardFailed (advanced kind w (with_record k)))).state
        ≡ failed_send_by kind w k t
    go true = refl
    go false = refl

by-enough : (kind : PassKind) (w : ℕ) (k : Crate) (n : ℕ) (t : Bool) → ltb k.tries 2 ≡ t → k.board < 10
    → Enough (suc n) k → Enough n (failed_send_by kind w k t)
unfolding placed advanced with_record
by-enough kind w k n true p h e = again-enough n k.board k.tries (ltb-true _ _ p) e
by-enough kind w k n false p h e =
    let f = next-from kind w (k.board + 1) (omega arith) in
    later-enough n k.board (next_board kind w (k.board + 1)) k.tries (omega arith) (ltb-false _ _ p) e

failed-send-enough : (kind : PassKind) (w : ℕ) (k : Crate) (n : ℕ) → k.board < 10 → Enough (suc n) k → Enough n (after_failed_send kind w k).state
failed-send-enough kind w k n h e = subst (Enough n) (sym (failed-send-by kind w k)) (by-enough kind w k n (ltb k.tries 2) refl h e)

-- ---- one crate of a board

-- a time-up on crate i, by whether it is done
abbrev timed_up_by : Board → ℕ → Bool → Board
timed_up_by β i t = cond t β (with_crates β (set β.crates i (after_failed_send β.kind (active_word β.block i) (crate_at β i)).state))

timed-up : (β : Board) (i : ℕ) → i < 4 → timed_up i β ≡ timed_up_by β i (is_done (crate_at β i))
unfolding board_replied served_answer
timed-up β i h = go (is_done (crate_at β i)) refl
  where
    go : (t : Bool) → is_done (crate_at β i) ≡ t → timed_up i β ≡ timed_up_by β i t
    go true p = simp (le-ltb 3 i (omega arith), p)
    go false p = simp (le-ltb 3 i (omega arith), p)

-- what time-ups on crate i leave as it was
record Apart (i : ℕ) (β γ : Board) : Type 0 where
  run : γ.run ≡ β.run
  many : length γ.crates ≡ length β.crates
  others : (j : ℕ) → (j ≡ i → ⊥) → crate_at γ j ≡ crate_at β j

timed-apart : (β : Board) (i : ℕ) (t : Bool) → Apart i β (timed_up_by β i t)
unfolding with_crates
timed-apart β i true = record { run = refl; many = refl; others = λ j h. refl }
timed-apart β i false = record { run = refl; many = length-set β.crates i _; others = λ j h. get_or-set_other β.crates i j _ no_crate h }

timed-enough : (β : Board) (i n : ℕ) (t : Bool) → is_done (crate_at β i) ≡ t → i < length β.crates
    → Enough (suc n) (crate_at β i) → Enough n (crate_at (timed_up_by β i t) i)
unfolding with_crates
timed-enough β i n true p h e = done-enough n (crate_at β i).board (crate_at β i).tries (leb-true _ _ p)
timed-enough β i n false p h e =
    subst (Enough n) (sym (get_or-set_same β.crates i _ no_crate h))
    (failed-send-enough β.kind (active_word β.block i) (crate_at β i) n (leb-false _ _ p) e)

run-apart : (n i : ℕ) (β : Board) → i < 4 → Apart i β (time_ups n i β)
unfolding time_ups
run-apart zero i β h = record { run = refl; many = refl; others = λ j g. refl }
run-apart (suc n) i β h =
    let a = run-apart n i (timed_up i β) h in
    let b : Apart i β (timed_up i β) = subst (Apart i β) (sym (timed-up β i h)) (timed-apart β i (is_done (crate_at β i))) in
    record { run = a.run ∙ b.run; many = a.many ∙ b.many; others = λ j g. a.others j g ∙ b.others j g }

run-enough : (n i : ℕ) (β : Board) → i < 4 → length β.crates ≡ 4 → Enough n (crate_at β i) → Enough 0 (crate_at (time_ups n i β) i)
unfolding time_ups
run-enough zero i β h l e = e
run-enough (suc n) i β h l e =
    let b : Apart i β (timed_up i β) = subst (Apart i β) (sym (timed-up β i h)) (timed-apart β i (is_done (crate_at β i))) in
    run-enough n i (timed_up i β) h (b.many ∙ l)
    (subst (λ (γ : Board). Enough n (crate_at γ i)) (sym (timed-up β i h)) (timed-enough β i n (is_done (crate_at β i)) refl (omega arith) e))

-- ---- the four crates

abbrev Done : ℕ → Board → Type 0
Done i β = 10 ≤ (crate_at β i).board

-- thirty time-ups end a pass on crate i, and no pass that has ended on another crate begins again
run-done : (i : ℕ) (β : Board) → i < 4 → length β.crates ≡ 4 → Done i (time_ups 30 i β)
run-done i β h l = let e = run-enough 30 i β h l (omega arith, omega arith) in omega arith

still-done : (i j : ℕ) (β : Board) → i < 4 → (j ≡ i → ⊥) → Done j β → Done j (time_ups 30 i β)
still-done i j β h g d = subst (λ (k : Crate). 10 ≤ k.board) (sym ((run-apart 30 i β h).others j g)) d

module _ (β : Board) where
  -- the board after the time-ups on crate 0, on 0 and 1, and on 0 to 2
  on0 : Board
  on0 = time_ups 30 0 β

  on1 : Board
  on1 = time_ups 30 1 on0

  on2 : Board
  on2 = time_ups 30 2 on1

  -- no time-up is a trigger or a command
  pub ran-out-run : (ran_out β).run ≡ β.run
  unfolding ran_out on0 on1 on2
  ran-out-run =
      (run-apart 30 3 on2 (omega arith)).run
      ∙ (run-apart 30 2 on1 (omega arith)).run
      ∙ (run-apart 30 1 on0 (omega arith)).run
      ∙ (run-apart 30 0 β (omega arith)).run

  module _ (l : length β.crates ≡ 4) where
    -- no pass is under way
    pub runs-out : in_pass (ran_out β).crates ≡ false
    unfolding ran_out in_pass on0 on1 on2
    runs-out =
        let l₀ : length on0.crates ≡ 4 = (run-apart 30 0 β (omega arith)).many ∙ l in
        let l₁ : length on1.crates ≡ 4 = (run-apart 30 1 on0 (omega arith)).many ∙ l₀ in
        let l₂ : length on2.crates ≡ 4 = (run-apart 30 2 on1 (omega arith)).many ∙ l₁ in
        let d₀ : Done 0 on1 = still-done 1 0 on0 (omega arith) (λ e. omega arith) (run-done 0 β (omega arith) l) in
        let d₁ : Done 1 on2 = still-done 2 1 on1 (omega arith) (λ e. omega arith) (run-done 1 on0 (omega arith) l₀) in
        simp (
          le-leb _ _ (still-done 3 0 on2 (omega arith) (λ e. omega arith) (still-done 2 0 on1 (omega arith) (λ e. omega arith) d₀)),
          le-leb _ _ (still-done 3 1 on2 (omega arith) (λ e. omega arith) d₁),
          le-leb _ _ (still-done 3 2 on2 (omega arith) (λ e. omega arith) (run-done 2 on1 (omega arith) l₁)),
          le-leb _ _ (run-done 3 on2 (omega arith) l₂),
        )

    -- so a board on which no run is on is idle
    pub ran-out-idle : is_running β.run ≡ false → is_idle (ran_out β) ≡ true
    ran-out-idle h = rw (ran-out-run, h, runs-out)

-- 02, i: a rate pass with silent boards ends too, and the run is as before: "the board runs or is idle as before"
pub rate-pass-runs-out : (β : Board) → (in_pass (ran_out (rates_begun β)).crates ≡ false) × ((ran_out (rates_begun β)).run ≡ β.run)
unfolding rates_begun begun_all
rate-pass-runs-out β = (runs-out (rates_begun β) refl, ran-out-run (rates_begun β))
