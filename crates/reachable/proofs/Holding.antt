-- What every call keeps (`Holds`), and that power-up gives it.
-- Assumes nothing.
use Prim.Native.Nat.{ℕ, zero, suc, ◌<◌, ◌≤◌, zero-le}
use mathlib.Core.Path.{◌≡◌, refl, sym, ap, ◌∙◌, subst}
use mathlib.Core.Bool.{false}
use native.Mathlib.Omega.{arith}
use lib.ListN.{length, get_or, replicate}
use Rattle.numbers.specs.Numbers.{id_limit}
use Rattle.bounds.specs.Bounds.{bound_of, lowest_above}
use Rattle.crate_pass.specs.Crate.{is_done, crate_at_power_up}
use Rattle.crate_pass.specs.Invariant.{CrateInvariant}
use Rattle.crate_pass.specs.declared.PassKind.{PassKind}
use Rattle.crate_pass.specs.declared.PassKind.TheVariants.{Reprogramming}
use Rattle.crate_pass.specs.declared.Crate.{Crate}
use Rattle.crate_pass.proofs.Invariant.{zeros, sound-power-up as sound-up}
use Rattle.run.proofs.Invariant.{sound-power-up as run_Up}
use Rattle.four_crates.specs.FourCrates.{no_crate, in_pass}
use Rattle.board.specs.State.{crate_at, fresh_board}
use Rattle.board.specs.declared.Board.{Board}
use Rattle.any_order.specs.Steps.{steps}
use Rattle.any_order.specs.AnyOrder.{word_of, most_frames, step_of}
use Rattle.any_order.proofs.Frames.{bound-sent, most-frames}
use Rattle.any_order.proofs.Sent.{step-here}
use Rattle.any_order.proofs.Runs.{Runs}
use Rattle.any_order.proofs.Follows.{view}
use Rattle.reachable.specs.Reachable.{Reachable}
use Rattle.reachable.proofs.OneCall.{false≢true}

-- What is kept by every call: with what is claimed, that each crate with a frame outstanding is in a pass of the last kind begun
pub record Holds (β : Board) : Type 0 where
  pub reaches : Reachable β
  pub follows : (c : ℕ) → c < 4 → is_done (crate_at β c) ≡ false → Runs β.kind (word_of β.block c) (crate_at β c)

pub holds-reachable : (β : Board) → Holds β → Reachable β
holds-reachable β h = h.reaches

pub runs_number : (kind : PassKind) (w : ℕ) (k : Crate) → Runs kind w k → k.sent ≤ most_frames kind w
runs_number kind w k r = omega (arith, bound-sent (length (steps kind w)) k.sent (view kind w k) r.bound, most-frames kind w)

pub runs-first : (kind : PassKind) (w : ℕ) (k : Crate) → Runs kind w k → k.board < 10 → 1 ≤ k.sent
runs-first kind w k r b = let one : length (step_of k) ≡ 1 = ap length (step-here k b) in omega (arith, r.one)

-- ---- power-up

-- no word is above its bound
zeros_within : lowest_above bound_of 0 (replicate 436 0) ≡ 436
unfolding bound_of
zeros_within = refl

crate-up : (c : ℕ) → c < 4 → get_or (replicate 4 crate_at_power_up) c no_crate ≡ crate_at_power_up
crate-up zero h = refl
crate-up (suc zero) h = refl
crate-up (suc (suc zero)) h = refl
crate-up (suc (suc (suc zero))) h = refl
crate-up (suc (suc (suc (suc c)))) h = absurd (omega arith)

pub holds-power-up : (id firmware : ℕ) → id < id_limit → firmware < 65536 → Holds (fresh_board id firmware)
unfolding fresh_board in_pass
holds-power-up id firmware i f =
    record {
      reaches = record {
        id = omega arith;
        firmware = omega arith;
        run = run_Up;
        length-block = refl;
        within = zeros_within;
        active = record { four = refl; within = λ c. rw (zeros 4 c) (omega arith) };
        length-rates = refl;
        rates = λ j. rw (zeros 480 j) (omega arith);
        four = refl;
        number = λ c h. rw (crate-up c h) zero-le;
        first = λ c h b. absurd (let e : 10 ≡ (get_or (replicate 4 crate_at_power_up) c no_crate).board = ap (λ (k : Crate). k.board) (sym (crate-up c h)) in
            let z : ⊥ = omega arith in z);
        crates = λ c h. subst (CrateInvariant Reprogramming) (sym (crate-up c h)) sound-up;
        apart = refl;
      };
      follows = λ c h d. false≢true (sym d ∙ ap is_done (crate-up c h));
    }
