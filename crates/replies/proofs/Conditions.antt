-- A reply is good exactly if each of 01's conditions holds, said as plain facts; its bytes 3 and 26 are free, and the overflow byte of one with rates.
-- Assumes nothing.
use Prim.Native.Nat.{ℕ, zero, suc, ◌+◌, ◌*◌, ◌<◌, ◌≤◌}
use mathlib.Core.Path.{◌≡◌, refl, sym, ◌∙◌}
use mathlib.Core.Bool.{Bool, true, false, ◌&&◌}
use mathlib.Core.List.{List, [], ◌∷◌}
use mathlib.Core.Logic.{⊎_elim}
use native.Mathlib.Omega.{arith}
use native.Mathlib.Nat.{eq-or-lt_of_le}
use borrow.Author.Tests.{eqb-true, eqb-false, eq-eqb, ltb-true, lt-ltb}
use lib.Dec.{T, eqb, ltb, ltb→lt}
use lib.ListN.{length, get_or, take, get_or-replicate}
use Rattle.numbers.specs.Numbers.{id_limit}
use Rattle.crc.specs.Crc.{crc, frame_start}
use Rattle.crc.proofs.Starts.{start-told}
use Rattle.replies.specs.Replies.{same_from, zeros, dna_in, ping_data, count_in, count_limit, counts_below, data_right, conditions, all_of, good_reply}
use Rattle.replies.proofs.Laws.{bad-crc, by-data, ping-zeros, rates-data, others}

-- ---- of truth values

fst : (a b : Bool) → a && b ≡ true → a ≡ true
fst true b e = refl
fst false b e = e

snd : (a b : Bool) → a && b ≡ true → b ≡ true
snd true b e = e
snd false b e = absurd (let z : ◌≡◌ {A = ℕ} 0 1 = cc in let k : ⊥ = omega arith in k)

each : (n : ℕ) (ts : List Bool) → all_of ts ≡ true → get_or ts n true ≡ true
each n [] e = refl
each zero (t ∷ ts) e = fst t (all_of ts) e
each (suc n) (t ∷ ts) e = each n ts (snd t (all_of ts) e)

alike : (a b : Bool) → (a ≡ true → b ≡ true) → (b ≡ true → a ≡ true) → a ≡ b
alike true b f g = sym (f refl)
alike false true f g = g refl
alike false false f g = refl

-- ---- what a comparison says of each place

-- a and b agree from the place i up to before j
abbrev pub Agree : ℕ → ℕ → List ℕ → List ℕ → Type 0
Agree i j a b = (k : ℕ) → i ≤ k → k < j → get_or b k 0 ≡ get_or a k 0

same-agree : (n i : ℕ) (a b : List ℕ) → same_from n i a b ≡ true → Agree i (i + n) a b
same-agree zero i a b e k l h = absurd (let z : ⊥ = omega arith in z)
same-agree (suc n) i a b e k l h =
    let t = eqb (get_or b i 0) (get_or a i 0) in
    ⊎_elim
    (λ q. rw (← q) (eqb-true _ _ (fst t _ e)))
    (λ m. same-agree n (suc i) a b (snd t _ e) k m (omega arith))
    (eq-or-lt_of_le l)

agree_same : (n i : ℕ) (a b : List ℕ) → Agree i (i + n) a b → same_from n i a b ≡ true
agree_same zero i a b f = refl
agree_same (suc n) i a b f =
    rw (eq-eqb _ _ (f i (omega arith) (omega arith))) (agree_same n (suc i) a b (λ k l h. f k (omega arith) (omega arith)))

-- what the test of n counts from the ith on says of each

each_below : (n i : ℕ) (r : List ℕ) → counts_below n i r ≡ true → (k : ℕ) → i ≤ k → k < i + n → count_in r k < count_limit
each_below zero i r e k l h = absurd (let z : ⊥ = omega arith in z)
each_below (suc n) i r e k l h =
    let t = ltb (count_in r i) count_limit in
    ⊎_elim
    (λ q. rw (← q) (ltb-true _ _ (fst t _ e)))
    (λ m. each_below n (suc i) r (snd t _ e) k m (omega arith))
    (eq-or-lt_of_le l)

below_each : (n i : ℕ) (r : List ℕ) → ((k : ℕ) → i ≤ k → k < i + n → count_in r k < count_limit) → counts_below n i r ≡ true
below_each zero i r f = refl
below_each (suc n) i r f = rw (lt-ltb _ _ (f i (omega arith) (omega arith))) (below_each n (suc i) r (λ k l h. f k (omega arith) (omega arith)))

-- ---- the conditions

-- the frame sent is a ping, and it asks for rates
abbrev pub IsPing : List ℕ → Type 0
IsPing sent = get_or sent 4 0 ≡ 4

abbrev pub AsksRates : List ℕ → Type 0
AsksRates sent = get_or sent 4 0 ≡ 5

pub record Good (sent r : List ℕ) : Type 0 where
  pub bytes : length r ≡ 28
  pub first : get_or r 0 0 ≡ 0x40
  pub destination : get_or r 1 0 ≡ get_or sent 2 0
  pub sender : get_or r 2 0 ≡ get_or sent 1 0
  pub code : get_or r 4 0 ≡ get_or sent 4 0
  pub right-crc : crc frame_start (take 27 r) ≡ get_or r 27 0
  pub equal : (IsPing sent → ⊥) → (AsksRates sent → ⊥) → Agree 5 26 sent r
  pub below : IsPing sent → dna_in r < id_limit
  pub zeros-after : IsPing sent → (k : ℕ) → 13 ≤ k → k < 26 → get_or r k 0 ≡ 0
  pub counts : AsksRates sent → (p : ℕ) → p < 5 → count_in r p < count_limit

module _ (sent r : List ℕ) where
  ping-data : IsPing sent → data_right sent r ≡ ping_data r
  unfolding data_right
  ping-data p = simp (eq-eqb _ _ p)

  pub good-only-if : good_reply sent r ≡ true → Good sent r
  unfolding good_reply conditions
  good-only-if g =
      let at : (n : ℕ) → get_or (conditions sent r) n true ≡ true = λ n. each n (conditions sent r) g in
      let of-ping : IsPing sent → ping_data r ≡ true = λ p. sym (ping-data p) ∙ at 6 in record {
        bytes = eqb-true _ _ (at 0);
        first = eqb-true _ _ (at 1);
        destination = eqb-true _ _ (at 2);
        sender = eqb-true _ _ (at 3);
        code = eqb-true _ _ (at 4);
        right-crc = eqb-true _ _ (at 5);
        equal = λ n m. same-agree 21 5 sent r (others sent r n m ∙ at 6);
        below = λ p. ltb-true _ _ (fst (ltb (dna_in r) id_limit) _ (of-ping p));
        zeros-after = λ p k l h. same-agree 13 13 zeros r (snd (ltb (dna_in r) id_limit) _ (of-ping p)) k l h ∙ get_or-replicate 28 k 0 0 (omega arith);
        counts = λ p k h. each_below 5 0 r (rates-data sent r p ∙ at 6) k (omega arith) h;
      }

  pub good-if : Good sent r → good_reply sent r ≡ true
  good-if g =
      sym (by-data sent r g.bytes g.first g.destination g.sender g.code g.right-crc true (go (eqb (get_or sent 4 0) 4) refl))
    where
      go : (t : Bool) → eqb (get_or sent 4 0) 4 ≡ t → true ≡ data_right sent r
      go true e =
          let p = eqb-true _ _ e in
          sym (agree_same 13 13 zeros r (λ k l h. g.zeros-after p k l h ∙ sym (get_or-replicate 28 k 0 0 (omega arith)))) ∙ ping-zeros sent r p (g.below p)
      go false e = other (eqb-false _ _ e) (eqb (get_or sent 4 0) 5) refl
        where
          other : (IsPing sent → ⊥) → (t : Bool) → eqb (get_or sent 4 0) 5 ≡ t → true ≡ data_right sent r
          other n true f = let p = eqb-true _ _ f in sym (below_each 5 0 r (λ k l h. g.counts p k h)) ∙ rates-data sent r p
          other n false f = let m = eqb-false _ _ f in sym (agree_same 21 5 sent r (g.equal n m)) ∙ others sent r n m

  -- "Slow-control frames stay at 0x00" (02, g): a CRC that is right from another start makes a reply bad
  pub other-start : (s : ℕ) → s < 256 → (s ≡ frame_start → ⊥) → crc s (take 27 r) ≡ get_or r 27 0 → good_reply sent r ≡ false
  other-start s h n e = sym (bad-crc sent r (λ q. n (start-told s frame_start (take 27 r) h (omega arith) (e ∙ sym q))))

-- ---- bytes 3 and 26, and the overflow byte of a reply with rates

-- r and s differ at most in the bytes 3 and 26, in the overflow byte where the frame sent asks for rates, and in the CRC, which is right for each
pub record Alike (sent r s : List ℕ) : Type 0 where
  pub lengths : length r ≡ length s
  pub elsewhere : (k : ℕ) → (k ≡ 3 → ⊥) → (AsksRates sent → k ≡ 25 → ⊥) → (k ≡ 26 → ⊥) → (k ≡ 27 → ⊥) → get_or r k 0 ≡ get_or s k 0
  pub crc-r : crc frame_start (take 27 r) ≡ get_or r 27 0
  pub crc-s : crc frame_start (take 27 s) ≡ get_or s 27 0

turned : (sent r s : List ℕ) → Alike sent r s → Alike sent s r
turned sent r s a = record {
  lengths = sym a.lengths;
  elsewhere = λ k x o y z. sym (a.elsewhere k x o y z);
  crc-r = a.crc-s;
  crc-s = a.crc-r;
}

handed : (sent r s : List ℕ) → Alike sent r s → good_reply sent r ≡ true → good_reply sent s ≡ true
handed sent r s a e =
    let g = good-only-if sent r e in
    let any : (k : ℕ) → k < 26 → (k ≡ 3 → ⊥) → (AsksRates sent → k ≡ 25 → ⊥) → get_or s k 0 ≡ get_or r k 0 =
    λ k h n o. sym (a.elsewhere k n o (omega arith) (omega arith)) in
    let at : (k : ℕ) → k < 25 → (k ≡ 3 → ⊥) → get_or s k 0 ≡ get_or r k 0 = λ k h n. any k (omega arith) n (λ q. omega arith) in
    let dna : (k : ℕ) → T (ltb k 8) → get_or s (5 + k) 0 ≡ get_or r (5 + k) 0 = λ k t. let h = ltb→lt k 8 t in at (5 + k) (omega arith) (omega arith) in
    let count : (p j : ℕ) → p < 5 → T (ltb j 4) → get_or s (5 + j + 4 * p) 0 ≡ get_or r (5 + j + 4 * p) 0 =
    λ p j h t. let i = ltb→lt j 4 t in at (5 + j + 4 * p) (omega arith) (omega arith) in
    good-if sent s (record {
      bytes = sym a.lengths ∙ g.bytes;
      first = at 0 (omega arith) (omega arith) ∙ g.first;
      destination = at 1 (omega arith) (omega arith) ∙ g.destination;
      sender = at 2 (omega arith) (omega arith) ∙ g.sender;
      code = at 4 (omega arith) (omega arith) ∙ g.code;
      right-crc = a.crc-s;
      equal = λ n m k l h. any k (omega arith) (omega arith) (λ q. absurd (m q)) ∙ g.equal n m k l h;
      below = λ p. rw (dna 0 tt, dna 1 tt, dna 2 tt, dna 3 tt, dna 4 tt, dna 5 tt, dna 6 tt, dna 7 tt) (g.below p);
      zeros-after = λ p k l h. any k (omega arith) (omega arith) (λ q. absurd (let z : ⊥ = omega arith in z)) ∙ g.zeros-after p k l h;
      counts = λ q p h. rw (count p 0 h tt, count p 1 h tt, count p 2 h tt, count p 3 h tt) (g.counts q p h);
    })

pub free_bytes : (sent r s : List ℕ) → Alike sent r s → good_reply sent r ≡ good_reply sent s
free_bytes sent r s a = alike _ _ (handed sent r s a) (handed sent s r (turned sent r s a))
