-- Numbers as characters, one after another; the kit's decimal digits.
-- Assumes nothing.
use Prim.Native.Nat.{ℕ, zero, suc, ◌+◌, ◌-◌, ◌*◌, ◌≤◌, ◌<◌, ◌/◌, ◌%◌, ◌^◌}
use mathlib.Core.Path.{◌≡◌, refl, sym, ap, ◌∙◌}
use mathlib.Core.List.{List, [], ◌∷◌, ◌++◌, map, append-nil, append_assoc}
use native.Mathlib.Nat.{one-le-pow, pow-le-pow_right, pow-suc, le_of_suc-le-suc, lt_of_not-le}
use native.Mathlib.Omega.{arith}
use native.Mathlib.Numerals.{add-one}
use borrow.Author.Tests.{lt-ltb, le-ltb}
use lib.ListN.{length, take, get_or}
use lib.Seq.{take-suc}
use Rattle.texts.specs.Characters.{ascii}
use Rattle.texts.specs.Texts.{decimal, decimal_in, spaced, joined}
use Rattle.texts.specs.CodeShape.{after_space}
use Rattle.io.specs.Digits.{last_digits, IsDigitCount}

-- ---- decimal numbers

no_more : (n k : ℕ) → n < 2 ^ 64 → IsDigitCount 10 1 n k → 20 < k → ⊥
no_more n k h f over =
    let p : 10 ^ (k - 1) ≤ n = f.2 (omega arith) in
    let l : 20 ≤ k - 1 = omega arith in
    let q : 10 ^ 20 ≤ 10 ^ (k - 1) = pow-le-pow_right (omega arith) l in
    omega arith

-- 20 digits at most
pub twenty : (n k : ℕ) → n < 2 ^ 64 → IsDigitCount 10 1 n k → k ≤ 20
twenty n k h f = le_of_suc-le-suc (lt_of_not-le (no_more n k h f))

-- the fewest digits of a number, as the kit has them, are its decimal digits
pub decimal-digits : (m k n : ℕ) → k ≤ m → IsDigitCount 10 1 n k → last_digits 10 k n ≡ decimal_in m n
decimal-digits m zero n h f = absurd (let z : ⊥ = omega (arith, f.0) in z)
decimal-digits zero (suc k) n h f = absurd (let z : ⊥ = omega arith in z)
decimal-digits (suc m) (suc zero) n h f =
    let s : n < 10 = f.1 in
    let e : n % 10 ≡ n = omega arith in
    rw (e, lt-ltb n 10 s)
decimal-digits (suc m) (suc (suc k)) n h f =
    let p : 10 ^ suc (suc k) ≡ 10 ^ suc k * 10 = pow-suc 10 (suc k) in
    let q : 10 ^ suc k ≡ 10 ^ k * 10 = pow-suc 10 k in
    let o : 1 ≤ 10 ^ k = one-le-pow k 10 (omega arith) in
    let e : (j : ℕ) → suc j - 1 ≡ j = λ j. omega arith in
    let l : 10 ^ suc k ≤ n = rw (e (suc k)) at (f.2 (omega arith)) in
    let u : n < 10 ^ suc (suc k) = f.1 in
    let t : n / 10 < 10 ^ suc k = omega arith in
    let g : 1 < suc k → 10 ^ (suc k - 1) ≤ n / 10 = λ _. rw (e k) (omega arith) in
    let r : n % 10 < 10 = omega arith in
    rw (le-ltb n 10 (omega arith), lt-ltb (n % 10) 10 r)
    (ap (λ (l : List ℕ). l ++ ((48 + n % 10) ∷ [])) (decimal-digits m (suc k) (n / 10) (omega arith) (omega arith, t, g)))

pub ten : decimal 10 ≡ ascii "10"
unfolding decimal
ten = refl

-- a number of one digit
pub digit : (n : ℕ) → n < 10 → decimal n ≡ ((48 + n) ∷ [])
unfolding decimal
digit n h = rw (lt-ltb n 10 h)

-- ---- one after the other

joined_snoc : (digits : ℕ → List ℕ) (xs : List ℕ) (x : ℕ) → joined digits (xs ++ (x ∷ [])) ≡ joined digits xs ++ digits x
joined_snoc digits [] x = append-nil (digits x)
joined_snoc digits (y ∷ xs) x = ap (λ (l : List ℕ). digits y ++ l) (joined_snoc digits xs x) ∙ sym (append_assoc (digits y) (joined digits xs) (digits x))

-- one turn of a loop over them
pub joined-more : {next end : List ℕ} (digits : ℕ → List ℕ) (line xs : List ℕ) (i : ℕ) → i < length xs
    → next ≡ line ++ joined digits (take i xs) → end ≡ next ++ digits (get_or xs i 0) → end ≡ line ++ joined digits (take (i + 1) xs)
joined-more digits line xs i h p q = rw (add-one, take-suc xs i 0, joined_snoc, q, p) (simp append_assoc)

-- a field and numbers after it, a space before each
pub spaced-joined : (digits : ℕ → List ℕ) (f : List ℕ) (ns : List ℕ) → spaced (f ∷ map digits ns) ≡ f ++ joined (after_space digits) ns
spaced-joined digits f [] = sym (append-nil f)
spaced-joined digits f (n ∷ ns) =
    ap (λ (l : List ℕ). f ++ ascii " " ++ l) (spaced-joined digits (digits n) ns)
    ∙ append_assoc f (ascii " ") (digits n ++ joined (after_space digits) ns)
