-- What a good reply carries: to a ping, a DNA "below 2^57" (`ping-below`); with rates, counts "each below 2^30", so that "High words are at most
-- 0x3FFF" (`rates-below`).
-- Assumes nothing.
use Prim.Native.Nat.{ℕ, ◌/◌, ◌%◌, ◌<◌, ◌≤◌}
use mathlib.Core.Path.{◌≡◌, refl}
use mathlib.Core.Bool.{true}
use mathlib.Core.List.{List}
use native.Mathlib.Omega.{arith}
use lib.Dec.{T, ltb, ltb→lt}
use lib.ListN.{length, get_or}
use Rattle.numbers.specs.Numbers.{id_limit}
use Rattle.bounds.specs.Bounds.{measurement_bound, RatesKept}
use Rattle.bounds.proofs.Rates.{within-each}
use Rattle.frames.specs.Frames.{frame_with}
use Rattle.replies.specs.Replies.{count_in, count_limit, rates_in}
use Rattle.replies.proofs.Conditions.{good-only-if}
use Rattle.steps.specs.Steps.{step_frame, judged_reply, judged_event}
use Rattle.steps.specs.declared.Event.{Event}
use Rattle.steps.specs.declared.Event.TheVariants.{Reply, TimeUp}

module _ (block : List ℕ) (c b code : ℕ) (bytes : List ℕ) (g : (judged_reply (step_frame block c b code) bytes).good ≡ true) where
  -- the frame says that it is a ping
  says-ping : code ≡ 4 → get_or (step_frame block c b code) 4 0 ≡ 4
  unfolding step_frame frame_with
  says-ping e = rw e

  pub ping-below : code ≡ 4 → (judged_reply (step_frame block c b code) bytes).dna < id_limit
  unfolding judged_reply
  ping-below e = (good-only-if (step_frame block c b code) bytes g).below (says-ping e)

  -- that it asks for rates
  says-rates : code ≡ 5 → get_or (step_frame block c b code) 4 0 ≡ 5
  unfolding step_frame frame_with
  says-rates e = rw e

  counts : code ≡ 5 → (p : ℕ) → p < 5 → count_in bytes p < count_limit
  unfolding judged_reply
  counts e = (good-only-if (step_frame block c b code) bytes g).counts (says-rates e)

  pub rates-below : code ≡ 5 → RatesKept (judged_reply (step_frame block c b code) bytes).rates
  unfolding judged_reply rates_in measurement_bound
  rates-below e =
      let high : (p : ℕ) → p < 5 → count_in bytes p / 65536 % 65536 ≤ 0x3FFF = λ p h. let n = counts e p h in omega arith in
      let low : (x : ℕ) → x % 65536 ≤ 0xFFFF = λ x. omega arith in
      let count : (p : ℕ) → T (ltb p 5) → (count_in bytes p / 65536 % 65536 ≤ 0x3FFF) × (count_in bytes p % 65536 ≤ 0xFFFF) =
      λ p t. (high p (ltb→lt p 5 t), low (count_in bytes p)) in
      let n₀ = count 0 tt in
      let n₁ = count 1 tt in
      let n₂ = count 2 tt in
      let n₃ = count 3 tt in
      let n₄ = count 4 tt in
      within-each measurement_bound 4 (rates_in bytes)
      (n₀.0, (n₀.1, (n₁.0, (n₁.1, (n₂.0, (n₂.1, (n₃.0, (n₃.1, (n₄.0, (n₄.1, (low (get_or bytes 25 0), (low (get_or bytes 26 0), tt))))))))))))

-- what an event says has twelve words
pub twelve-rates : (e : Event) (sent bytes : List ℕ) → length (judged_event e sent bytes).rates ≡ 12
unfolding judged_reply rates_in
twelve-rates Reply sent bytes = refl
twelve-rates TimeUp sent bytes = refl
