-- A line read a character at a time is the whole line.
-- Assumes nothing.
use Prim.Native.Nat.{ℕ, suc, ◌+◌, ◌*◌, ◌/◌, ◌%◌, ◌<◌}
use mathlib.Core.Path.{◌≡◌, refl, sym, ap₂, ◌∙◌}
use mathlib.Core.Bool.{Bool, true, false, cond, ◌&&◌, and-false}
use mathlib.Core.List.{List, [], ◌∷◌, ◌++◌, append-nil, append_assoc}
use native.Mathlib.Nat.{zero-add}
use native.Mathlib.Omega.{arith}
use lib.Dec.{leb, ltb, eqb}
use lib.ListN.{length, take, set, length-set}
use lib.Seq.{take-suc-set}
use borrow.Author.Tests.{ltb-true, ltb-false, eqb-true, eqb-false, lt-ltb, le-ltb, lt-leb, eq-eqb, ne_eqb}
use Rattle.script.specs.Script.{Line, passed_over, order, malformed, value_of, values_in, all_digits, bytes_from, line_of}
use Rattle.script.specs.ByCharacter.{line_begun, in_form, with_byte, order_on, order_bytes_on, read_on, bytes_on, read_all, bytes_all, line_in}
use Rattle.script.specs.declared.Form.TheVariants.{Comment, Order, Malformed}
use Rattle.script.specs.declared.Reading.{Reading}
use Rattle.script.proofs.Characters.{order-space, order-no-digit, order-full, order-digit, order-high, order-low}

-- the line that more characters make
line_after : Reading → List ℕ → List ℕ → Line
line_after r bytes cs = line_in (read_all r cs) (bytes_all r cs bytes)

-- a comment stays one, and a malformed line too
comment-stays : (r : Reading) (bytes cs : List ℕ) → line_after (in_form Comment r) bytes cs ≡ passed_over
unfolding line_after read_on bytes_on line_in
comment-stays r bytes [] = refl
comment-stays r bytes (c ∷ cs) = comment-stays r bytes cs

malformed-stays : (r : Reading) (bytes cs : List ℕ) → line_after (in_form Malformed r) bytes cs ≡ malformed
unfolding line_after read_on bytes_on line_in
malformed-stays r bytes [] = refl
malformed-stays r bytes (c ∷ cs) = malformed-stays r bytes cs

-- ---- an order of which n digits are read, and of which more values follow

abbrev order_read : ℕ → ℕ → ℕ → Reading
order_read letter n high = record { form = Order; letter = letter; digits = n; high = high }

-- the digits that are in no byte yet: the last one read, where n is odd, and those that follow
abbrev unpaired : ℕ → ℕ → List ℕ → List ℕ
unpaired n high vs = cond (eqb (n % 2) 1) (high ∷ vs) vs

-- an order of n digits, where there can be one
abbrev order_sized : ℕ → List ℕ → ℕ → List ℕ → Line
order_sized letter vs n bytes = cond (all_digits vs && leb n 4096 && eqb (n % 2) 0) (order letter bytes) malformed

-- the line that more values make
line_from : ℕ → ℕ → ℕ → List ℕ → List ℕ → Line
line_from letter n high bytes vs = order_sized letter vs (n + length vs) (take (n / 2) bytes ++ bytes_from (unpaired n high vs))

-- one digit makes no byte
no_byte_lem : (odd : Bool) (high : ℕ) → bytes_from (cond odd (high ∷ []) []) ≡ []
no_byte_lem true high = refl
no_byte_lem false high = refl

module _ (letter n high : ℕ) (bytes : List ℕ) where
  no_more : line_after (order_read letter n high) bytes [] ≡ line_from letter n high bytes []
  unfolding line_after line_in line_from
  no_more = let e : n + 0 ≡ n = omega arith in rw (e, no_byte_lem (eqb (n % 2) 1) high, append-nil)

  module _ (v : ℕ) (vs : List ℕ) where
    more-no-digit : 15 < v → malformed ≡ line_from letter n high bytes (v ∷ vs)
    unfolding line_from
    more-no-digit h = rw (le-ltb v 16 h)

    more-full : 4095 < n → malformed ≡ line_from letter n high bytes (v ∷ vs)
    unfolding line_from
    more-full h = rw (lt-leb (n + length (v ∷ vs)) 4096 (omega arith), and-false)

    more-high : v < 16 → (n % 2 ≡ 1 → ⊥) → line_from letter (n + 1) v bytes vs ≡ line_from letter n high bytes (v ∷ vs)
    unfolding line_from
    more-high d h =
        let e : n + 1 + length vs ≡ n + length (v ∷ vs) = omega arith in
        let k : (n + 1) / 2 ≡ n / 2 = omega arith in rw (e, k, lt-ltb v 16 d, ne_eqb (n % 2) 1 h, eq-eqb ((n + 1) % 2) 1 (omega arith))

    more-low : v < 16 → high < 16 → n < 4096 → length bytes ≡ 2048 → n % 2 ≡ 1
        → line_from letter (n + 1) v (set bytes (n / 2) (high % 16 * 16 + v)) vs ≡ line_from letter n high bytes (v ∷ vs)
    unfolding line_from
    more-low d g room l h =
        let e : n + 1 + length vs ≡ n + length (v ∷ vs) = omega arith in
        let k : (n + 1) / 2 ≡ suc (n / 2) = omega arith in
        let m : high % 16 ≡ high = omega arith in
        rw (e, k, m, lt-ltb v 16 d, eq-eqb (n % 2) 1 h, ne_eqb ((n + 1) % 2) 1 (omega arith), take-suc-set bytes (n / 2) _ (omega arith), append_assoc)

-- ---- the rest of an order

-- the characters cs, read one at a time, do what their values say
abbrev Agrees : List ℕ → ℕ → ℕ → ℕ → List ℕ → Type 0
Agrees cs letter n high bytes = line_after (order_read letter n high) bytes cs ≡ line_from letter n high bytes (values_in cs)

module _ (letter c : ℕ) (cs : List ℕ) (rest : (n high : ℕ) (bytes : List ℕ) → high < 16 → length bytes ≡ 2048 → Agrees cs letter n high bytes) where
  module _ (n high : ℕ) (bytes : List ℕ) (value : high < 16) (whole : length bytes ≡ 2048) where
    abbrev r : Reading
    r = order_read letter n high

    after : {s : Reading} {b : List ℕ} → s ≡ order_on r c → b ≡ order_bytes_on r c bytes → line_after r bytes (c ∷ cs) ≡ line_after s b cs
    unfolding line_after read_on bytes_on
    after e f = ap₂ (λ (s : Reading) (b : List ℕ). line_in (read_all s cs) (bytes_all s cs b)) (sym e) (sym f)

    one_value : (digit room odd : Bool) → (c ≡ 32 → ⊥) → ltb (value_of c) 16 ≡ digit → ltb n 4096 ≡ room → eqb (n % 2) 1 ≡ odd
        → line_after r bytes (c ∷ cs) ≡ line_from letter n high bytes (value_of c ∷ values_in cs)
    one_value false room odd other d m p =
        let v = ltb-false (value_of c) 16 d in
        let e = order-no-digit r c bytes other v in
        after e.0 e.1 ∙ malformed-stays r bytes cs ∙ more-no-digit letter n high bytes (value_of c) (values_in cs) v
    one_value true false odd other d m p =
        let k = ltb-false n 4096 m in
        let e = order-full r c bytes other (ltb-true (value_of c) 16 d) k in
        after e.0 e.1 ∙ malformed-stays r bytes cs ∙ more-full letter n high bytes (value_of c) (values_in cs) k
    one_value true true false other d m p =
        let v = ltb-true (value_of c) 16 d in
        let k = ltb-true n 4096 m in
        let h = eqb-false (n % 2) 1 p in
        after (order-digit r c bytes other v k) (order-high r c bytes other v k h)
        ∙ rest (n + 1) (value_of c) bytes v whole
        ∙ more-high letter n high bytes (value_of c) (values_in cs) v h
    one_value true true true other d m p =
        let v = ltb-true (value_of c) 16 d in
        let k = ltb-true n 4096 m in
        let h = eqb-true (n % 2) 1 p in
        after (order-digit r c bytes other v k) (order-low r c bytes other v k h)
        ∙ rest (n + 1) (value_of c) (with_byte r (value_of c) bytes) v (length-set bytes _ _ ∙ whole)
        ∙ more-low letter n high bytes (value_of c) (values_in cs) v value k whole h

    one_more : (space : Bool) → eqb c 32 ≡ space → Agrees (c ∷ cs) letter n high bytes
    one_more true h = let e = order-space r c bytes (eqb-true c 32 h) in after e.0 e.1 ∙ rest n high bytes value whole ∙ rw h refl
    one_more false h = rw h (one_value (ltb (value_of c) 16) (ltb n 4096) (eqb (n % 2) 1) (eqb-false c 32 h) refl refl refl)

order-after : (cs : List ℕ) (letter n high : ℕ) (bytes : List ℕ) → high < 16 → length bytes ≡ 2048 → Agrees cs letter n high bytes
order-after [] letter n high bytes v l = no_more letter n high bytes
order-after (c ∷ cs) letter n high bytes v l = one_more letter c cs (order-after cs letter) n high bytes v l (eqb c 32) refl

-- ---- the whole line

begun : (comment : Bool) (c : ℕ) (cs bytes : List ℕ) → length bytes ≡ 2048 → eqb c 35 ≡ comment → line_after line_begun bytes (c ∷ cs) ≡ line_of (c ∷ cs)
unfolding line_after read_on bytes_on line_of line_from
begun true c cs bytes l h = rw h (comment-stays line_begun bytes cs)
begun false c cs bytes l h = rw h (rw zero-add at (order-after cs c 0 0 bytes (omega arith) l))

pub whole-line : (line bytes : List ℕ) → length bytes ≡ 2048 → line_in (read_all line_begun line) (bytes_all line_begun line bytes) ≡ line_of line
unfolding line_in line_of line_after
whole-line [] bytes l = refl
whole-line (c ∷ cs) bytes l = begun (eqb c 35) c cs bytes l refl
