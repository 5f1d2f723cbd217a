-- The steps of one byte, of words and of six bytes in closed form. A computed test of all 256 bytes proves the first;
-- one of the 32 words of a single bit, or of the 48 such numbers of six bytes, with linearity, proves each of the others.
-- Assumes nothing.
use Prim.Native.Nat.{ℕ, zero, suc, ◌+◌, ◌-◌, ◌*◌, ◌/◌, ◌%◌, ◌^◌, ◌≤◌, ◌<◌}
use mathlib.Core.Path.{◌≡◌, refl, ap, ap₂, ◌∙◌, sym}
use mathlib.Core.Bool.{Bool}
use mathlib.Core.List.{List, [], ◌∷◌, ◌++◌}
use native.Mathlib.Omega.{arith}
use native.Mathlib.Numerals.{one-add}
use native.Mathlib.Nat.{zero-mul, one-mul, mod-lt}
use lib.Bits.{bit_xor, xor_lt, xor_mod, xor_shr, xor_shifted}
use lib.Dec.{T, eqb, eqb→eq}
use lib.ListN.{length, take, drop, get_or, replicate, drop_of_length-le}
use lib.Pow.{pow_pos, shr_lt, split}
use lib.Seq.{drop-cons}
use Rattle.std.specs.List.{concat}
use Rattle.std.specs.Simd.{first_chunks}
use Rattle.std.proofs.lemmas.List.{append_assoc, length-drop, length-take-le, drop-drop, drop_more, take-append-drop}
use Rattle.crc.specs.Crc.{crc_byte, crc}
use Rattle.crc.specs.CodeShape.{crc_word}
use Rattle.crc.proofs.Below.{all_below, below}
use Rattle.crc.proofs.Linear.{xors, crc_byte-linear, crc-linear}
use Rattle.crc.proofs.Starts.{crc-append, start-met, start-adds}
use Rattle.crc.proofs.Xor.{digit, xor-swap, xor-up}

-- as `crc_byte` computes it
abbrev byte_folded : ℕ → ℕ
byte_folded x = bit_xor (bit_xor x (x / 64)) (x / 128)

abbrev byte_step : ℕ → ℕ
byte_step x = bit_xor (bit_xor (byte_folded x) (byte_folded x * 2 % 256)) (byte_folded x * 4 % 256)

byte_right : ℕ → Bool
unfolding crc_byte
byte_right x = eqb (byte_step x) (crc 0 (x ∷ []))

pub byte_step_lem : (b : ℕ) → b < 256 → byte_step b ≡ crc 0 (b ∷ [])
unfolding byte_right crc_byte
byte_step_lem b h = eqb→eq (byte_step b) (crc 0 (b ∷ [])) (below byte_right 256 tt b h)

abbrev Linear : (ℕ → ℕ) → Type 0
Linear F = (a b : ℕ) → F (bit_xor a b) ≡ bit_xor (F a) (F b)

sum : (F G : ℕ → ℕ) → Linear F → Linear G → Linear (λ (n : ℕ). bit_xor (F n) (G n))
sum F G p q a b = ap₂ bit_xor (p a b) (q a b) ∙ xor-swap (F a) (F b) (G a) (G b)

after : (F G : ℕ → ℕ) → Linear F → Linear G → Linear (λ (n : ℕ). G (F n))
after F G p q a b = ap G (p a b) ∙ q (F a) (F b)

register : (F G : ℕ → ℕ) → Linear F → Linear G → Linear (λ (n : ℕ). crc_byte (F n) (G n))
register F G p q a b = ap₂ crc_byte (p a b) (q a b) ∙ crc_byte-linear (F a) (F b) (G a) (G b)

-- two linear functions that agree at the first k powers of 2 agree below 2 ^ k
agree : (F G : ℕ → ℕ) → Linear F → Linear G → F 0 ≡ G 0 → (k : ℕ) → ((j : ℕ) → j < k → F (2 ^ j) ≡ G (2 ^ j)) → (n : ℕ) → n < 2 ^ k → F n ≡ G n
agree F G p q z zero t n h = let e : n ≡ 0 = omega arith in rw e z
agree F G p q z (suc k) t n h =
    let top : n / 2 ^ k < 2 = shr_lt 1 k (rw one-add h) in
    let one : n / 2 ^ k % 2 ≡ n / 2 ^ k = omega arith in
    let bit : F (n / 2 ^ k % 2 * 2 ^ k) ≡ G (n / 2 ^ k % 2 * 2 ^ k) =
    digit (λ (d : ℕ). F (d * 2 ^ k) ≡ G (d * 2 ^ k)) (rw zero-mul z) (rw one-mul (t k (omega arith))) (n / 2 ^ k) in
    let rest : F (n % 2 ^ k) ≡ G (n % 2 ^ k) = agree F G p q z k (λ j l. t j (omega arith)) (n % 2 ^ k) (mod-lt n (pow_pos k)) in
    let whole : bit_xor (n / 2 ^ k * 2 ^ k) (n % 2 ^ k) ≡ n = xor_shifted (n / 2 ^ k) k (n % 2 ^ k) (mod-lt n (pow_pos k)) ∙ split n k in
    sym (ap F whole)
    ∙ p (n / 2 ^ k * 2 ^ k) (n % 2 ^ k)
    ∙ ap₂ bit_xor (rw one at bit) rest
    ∙ sym (q (n / 2 ^ k * 2 ^ k) (n % 2 ^ k))
    ∙ ap G whole

zero-linear : Linear (λ (n : ℕ). 0)
zero-linear a b = refl

shr-linear : (k : ℕ) → Linear (λ (w : ℕ). w / 2 ^ k)
shr-linear k a b = xor_shr a b k

low-linear : (k : ℕ) → Linear (λ (w : ℕ). w % 2 ^ k)
low-linear k a b = xor_mod a b k

shl-linear : (k : ℕ) → Linear (λ (w : ℕ). w * 2 ^ k % 2 ^ 32)
shl-linear k = after (λ (w : ℕ). w * 2 ^ k) (λ (w : ℕ). w % 2 ^ 32) (xor-up k) (low-linear 32)

byte-linear : (k : ℕ) → Linear (λ (w : ℕ). w / 2 ^ k % 2 ^ 8)
byte-linear k = after (λ (w : ℕ). w / 2 ^ k) (λ (w : ℕ). w % 2 ^ 8) (shr-linear k) (low-linear 8)

word-linear : Linear crc_word
unfolding crc_word
word-linear =
    register (λ (w : ℕ). crc_byte (crc_byte (crc_byte 0 (w / 2 ^ 24)) (w / 2 ^ 16 % 2 ^ 8)) (w / 2 ^ 8 % 2 ^ 8)) (λ (w : ℕ). w % 2 ^ 8)
    (register (λ (w : ℕ). crc_byte (crc_byte 0 (w / 2 ^ 24)) (w / 2 ^ 16 % 2 ^ 8)) (λ (w : ℕ). w / 2 ^ 8 % 2 ^ 8)
    (register (λ (w : ℕ). crc_byte 0 (w / 2 ^ 24)) (λ (w : ℕ). w / 2 ^ 16 % 2 ^ 8)
    (register (λ (w : ℕ). 0) (λ (w : ℕ). w / 2 ^ 24) zero-linear (shr-linear 24))
    (byte-linear 16))
    (byte-linear 8))
    (low-linear 8)

-- n and n moved up by i and by j places
abbrev pub spread : ℕ → ℕ → ℕ → ℕ → ℕ
spread i j m n = bit_xor (bit_xor (bit_xor m n) (n * 2 ^ i % 2 ^ 32)) (n * 2 ^ j % 2 ^ 32)

spread-linear : (i j : ℕ) (F G : ℕ → ℕ) → Linear F → Linear G → Linear (λ (w : ℕ). spread i j (F w) (G w))
spread-linear i j F G p q =
    sum (λ (w : ℕ). bit_xor (bit_xor (F w) (G w)) (G w * 2 ^ i % 2 ^ 32)) (λ (w : ℕ). G w * 2 ^ j % 2 ^ 32)
    (sum (λ (w : ℕ). bit_xor (F w) (G w)) (λ (w : ℕ). G w * 2 ^ i % 2 ^ 32)
    (sum F G p q)
    (after G (λ (n : ℕ). n * 2 ^ i % 2 ^ 32) q (shl-linear i)))
    (after G (λ (n : ℕ). n * 2 ^ j % 2 ^ 32) q (shl-linear j))

-- what is above the low k bits, folded in
abbrev folded_at : ℕ → ℕ → ℕ → ℕ → ℕ
folded_at k i j n = spread i j (n % 2 ^ k) (n / 2 ^ k)

folded_at-linear : (k i j : ℕ) → Linear (folded_at k i j)
folded_at-linear k i j = spread-linear i j (λ (n : ℕ). n % 2 ^ k) (λ (n : ℕ). n / 2 ^ k) (low-linear k) (shr-linear k)

-- as `crc_word` computes it
abbrev pub folded_once : ℕ → ℕ
folded_once w = spread 2 4 (w % 2 ^ 8 * 2 ^ 8 % 2 ^ 32) (w / 2 ^ 8)

abbrev pub folded_twice : ℕ → ℕ
folded_twice w = folded_at 16 2 4 (folded_once w)

abbrev word_crc : ℕ → ℕ
word_crc w = bit_xor (crc 0 (folded_twice w / 2 ^ 8 % 2 ^ 8 ∷ [])) (folded_twice w % 2 ^ 8)

once-linear : Linear folded_once
once-linear =
    spread-linear 2 4 (λ (w : ℕ). w % 2 ^ 8 * 2 ^ 8 % 2 ^ 32) (λ (w : ℕ). w / 2 ^ 8)
    (after (λ (w : ℕ). w % 2 ^ 8) (λ (w : ℕ). w * 2 ^ 8 % 2 ^ 32) (low-linear 8) (shl-linear 8))
    (shr-linear 8)

twice-linear : Linear folded_twice
twice-linear = after folded_once (folded_at 16 2 4) once-linear (folded_at-linear 16 2 4)

word_crc-linear : Linear word_crc
word_crc-linear =
    sum (λ (w : ℕ). crc_byte 0 (folded_twice w / 2 ^ 8 % 2 ^ 8)) (λ (w : ℕ). folded_twice w % 2 ^ 8)
    (register (λ (w : ℕ). 0) (λ (w : ℕ). folded_twice w / 2 ^ 8 % 2 ^ 8)
    zero-linear
    (after folded_twice (λ (w : ℕ). w / 2 ^ 8 % 2 ^ 8) twice-linear (byte-linear 8)))
    (after folded_twice (λ (w : ℕ). w % 2 ^ 8) twice-linear (low-linear 8))

word_right : ℕ → Bool
unfolding crc_word crc_byte
word_right j = eqb (word_crc (2 ^ j)) (crc_word (2 ^ j))

pub word-crc : (w : ℕ) → w < 4294967296 → word_crc w ≡ crc_word w
unfolding word_right crc_word crc_byte
word-crc = agree word_crc crc_word word_crc-linear word-linear refl 32 (λ j h. eqb→eq (word_crc (2 ^ j)) (crc_word (2 ^ j)) (below word_right 32 tt j h))

-- k bytes of 0 after a word
abbrev later : ℕ → ℕ → ℕ
later k w = crc (crc_word w) (replicate k 0)

on_right : (ℕ → ℕ) → ℕ → ℕ → Bool
unfolding crc_word crc_byte
on_right F k j = eqb (crc_word (F (2 ^ j))) (later k (2 ^ j))

module _ (F : ℕ → ℕ) (p : Linear F) (k : ℕ) (x : xors (replicate k 0) (replicate k 0) ≡ replicate k 0) where
  later-linear : Linear (later k)
  later-linear a b =
      ap₂ crc (word-linear a b) (sym x) ∙ crc-linear (crc_word a) (crc_word b) (replicate k 0) (replicate k 0) refl

  on : crc_word (F 0) ≡ later k 0 → T (all_below (on_right F k) 32) → (w : ℕ) → w < 4294967296 → crc_word (F w) ≡ later k w
  unfolding on_right
  on z t =
      agree (λ (w : ℕ). crc_word (F w)) (later k) (after F crc_word p word-linear) later-linear z 32
      (λ j h. eqb→eq (crc_word (F (2 ^ j))) (later k (2 ^ j)) (below (on_right F k) 32 t j h))

-- as `four_bytes_on` computes it
abbrev word_folded : ℕ → ℕ
word_folded w = bit_xor (bit_xor w (w / 2 ^ 24)) (w / 2 ^ 28)

abbrev four_on : ℕ → ℕ
four_on w = bit_xor (bit_xor (word_folded w) (word_folded w * 2 ^ 4 % 2 ^ 32)) (word_folded w * 2 ^ 8 % 2 ^ 32)

folded-linear : Linear word_folded
folded-linear =
    sum (λ (w : ℕ). bit_xor w (w / 2 ^ 24)) (λ (w : ℕ). w / 2 ^ 28)
    (sum (λ (w : ℕ). w) (λ (w : ℕ). w / 2 ^ 24) (λ a b. refl) (shr-linear 24))
    (shr-linear 28)

four_on-linear : Linear four_on
four_on-linear =
    sum (λ (w : ℕ). bit_xor (word_folded w) (word_folded w * 2 ^ 4 % 2 ^ 32)) (λ (w : ℕ). word_folded w * 2 ^ 8 % 2 ^ 32)
    (sum word_folded (λ (w : ℕ). word_folded w * 2 ^ 4 % 2 ^ 32) folded-linear (after word_folded (λ (w : ℕ). w * 2 ^ 4 % 2 ^ 32) folded-linear (shl-linear 4)))
    (after word_folded (λ (w : ℕ). w * 2 ^ 8 % 2 ^ 32) folded-linear (shl-linear 8))

pub four-on-step : (w : ℕ) → w < 4294967296 → crc_word (four_on w) ≡ crc (crc_word w) (replicate 4 0)
unfolding on_right crc_word crc_byte
four-on-step = on four_on four_on-linear 4 refl refl tt

-- as `bytes_on` computes it
abbrev bytes_on : ℕ → ℕ → ℕ
bytes_on k w = spread 4 8 (w * 2 ^ (8 * k) % 2 ^ 32) (w / 2 ^ (32 - 8 * k))

bytes_on-linear : (k : ℕ) → Linear (bytes_on k)
bytes_on-linear k = spread-linear 4 8 (λ (w : ℕ). w * 2 ^ (8 * k) % 2 ^ 32) (λ (w : ℕ). w / 2 ^ (32 - 8 * k)) (shl-linear (8 * k)) (shr-linear (32 - 8 * k))

pub on_step : (k w : ℕ) → 1 ≤ k → k ≤ 3 → w < 4294967296 → crc_word (bytes_on k w) ≡ crc (crc_word w) (replicate k 0)
unfolding on_right crc_word crc_byte
on_step zero w a b h = absurd (let z : ⊥ = omega arith in z)
on_step (suc zero) w a b h = on (bytes_on 1) (bytes_on-linear 1) 1 refl refl tt w h
on_step (suc (suc zero)) w a b h = on (bytes_on 2) (bytes_on-linear 2) 2 refl refl tt w h
on_step (suc (suc (suc zero))) w a b h = on (bytes_on 3) (bytes_on-linear 3) 3 refl refl tt w h
on_step (suc (suc (suc (suc k)))) w a b h = absurd (let z : ⊥ = omega arith in z)

pub word_of : (a b c d : ℕ) → a < 256 → b < 256 → c < 256 → d < 256 → crc_word (a * 16777216 + b * 65536 + c * 256 + d) ≡ crc 0 (a ∷ b ∷ c ∷ d ∷ [])
unfolding crc_word
word_of a b c d ha hb hc hd =
    let w = a * 16777216 + b * 65536 + c * 256 + d in
    let ea : w / 16777216 ≡ a = omega arith in
    let eb : w / 65536 % 256 ≡ b = omega arith in
    let ec : w / 256 % 256 ≡ c = omega arith in
    let ed : w % 256 ≡ d = omega arith in
    rw (ea, eb, ec, ed)

-- as `crc_of_six` computes it, of the six bytes as one number: all from x^32 on is folded in, then the rest
abbrev six_once : ℕ → ℕ
six_once m = spread 4 8 (m % 2 ^ 24 * 2 ^ 8) (m / 2 ^ 24)

abbrev six_last : ℕ → ℕ
six_last n = spread 1 2 n (n / 2 ^ 8) % 2 ^ 8

abbrev six_rest : ℕ → ℕ
six_rest n = six_last (folded_at 8 1 2 (folded_at 16 2 4 n))

six_once-linear : Linear six_once
six_once-linear =
    spread-linear 4 8 (λ (m : ℕ). m % 2 ^ 24 * 2 ^ 8) (λ (m : ℕ). m / 2 ^ 24)
    (after (λ (m : ℕ). m % 2 ^ 24) (λ (m : ℕ). m * 2 ^ 8) (low-linear 24) (xor-up 8))
    (shr-linear 24)

six_last-linear : Linear six_last
six_last-linear =
    after (λ (n : ℕ). spread 1 2 n (n / 2 ^ 8)) (λ (n : ℕ). n % 2 ^ 8)
    (spread-linear 1 2 (λ (n : ℕ). n) (λ (n : ℕ). n / 2 ^ 8) (λ a b. refl) (shr-linear 8))
    (low-linear 8)

six_rest-linear : Linear six_rest
six_rest-linear =
    after (λ (n : ℕ). folded_at 8 1 2 (folded_at 16 2 4 n)) six_last
    (after (folded_at 16 2 4) (folded_at 8 1 2) (folded_at-linear 16 2 4) (folded_at-linear 8 1 2))
    six_last-linear

-- the CRC of the number's bytes
abbrev crc_six : ℕ → ℕ
crc_six m = crc_byte (crc_byte (crc_word (m / 2 ^ 16)) (m / 2 ^ 8 % 2 ^ 8)) (m % 2 ^ 8)

crc_six-linear : Linear crc_six
crc_six-linear =
    register (λ (m : ℕ). crc_byte (crc_word (m / 2 ^ 16)) (m / 2 ^ 8 % 2 ^ 8)) (λ (m : ℕ). m % 2 ^ 8)
    (register (λ (m : ℕ). crc_word (m / 2 ^ 16)) (λ (m : ℕ). m / 2 ^ 8 % 2 ^ 8)
    (after (λ (m : ℕ). m / 2 ^ 16) crc_word (shr-linear 16) word-linear)
    (byte-linear 8))
    (low-linear 8)

six_right : ℕ → Bool
unfolding crc_word crc_byte
six_right j = eqb (six_rest (six_once (2 ^ j))) (crc_six (2 ^ j))

six-crc : (m : ℕ) → m < 2 ^ 48 → six_rest (six_once m) ≡ crc_six m
unfolding six_right crc_word crc_byte
six-crc =
    agree (λ (m : ℕ). six_rest (six_once m)) crc_six (after six_once six_rest six_once-linear six_rest-linear) crc_six-linear refl 48
    (λ j h. eqb→eq (six_rest (six_once (2 ^ j))) (crc_six (2 ^ j)) (below six_right 48 tt j h))

six-of : (a b c d e f : ℕ) → a < 256 → b < 256 → c < 256 → d < 256 → e < 256 → f < 256
    → six_rest (spread 4 8 (d * 16777216 + e * 65536 + f * 256) (a * 65536 + b * 256 + c)) ≡ crc 0 (a ∷ b ∷ c ∷ d ∷ e ∷ f ∷ [])
six-of a b c d e f ha hb hc hd he hf =
    let w = a * 16777216 + b * 65536 + c * 256 + d in
    let m = w * 65536 + e * 256 + f in
    let ee : m / 256 % 256 ≡ e = omega arith in
    let ew : m / 65536 ≡ w = omega arith in
    let ef : m % 256 ≡ f = omega arith in
    let top : m / 16777216 ≡ a * 65536 + b * 256 + c = omega arith in
    let low : m % 16777216 * 256 ≡ d * 16777216 + e * 65536 + f * 256 = omega arith in
    ap₂ (λ (l t : ℕ). six_rest (spread 4 8 l t)) (sym low) (sym top)
    ∙ six-crc m (omega arith)
    ∙ ap₂ crc_byte (ap₂ crc_byte (ap crc_word ew ∙ word_of a b c d ha hb hc hd) ee) ef

-- the start is added to the first byte
pub six-from : (s a b c d e f top low : ℕ) → s < 256 → a < 256 → b < 256 → c < 256 → d < 256 → e < 256 → f < 256
    → top ≡ bit_xor s a * 65536 + b * 256 + c
    → low ≡ d * 16777216 + e * 65536 + f * 256
    → six_rest (spread 4 8 low top) ≡ crc s (a ∷ b ∷ c ∷ d ∷ e ∷ f ∷ [])
six-from s a b c d e f top low hs ha hb hc hd he hf t l =
    rw (t, l) (six-of (bit_xor s a) b c d e f (xor_lt 8 s a hs ha) hb hc hd he hf ∙ start-met s a (b ∷ c ∷ d ∷ e ∷ f ∷ []))

-- the CRC goes on over bytes: the word as many bytes on is added to theirs
word_on : (w l v : ℕ) (bs : List ℕ) → crc_word l ≡ crc (crc_word w) (replicate (length bs) 0) → crc_word v ≡ crc 0 bs
    → crc_word (bit_xor l v) ≡ crc (crc_word w) bs
word_on w l v bs p q = word-linear l v ∙ ap₂ bit_xor p q ∙ sym (start-adds (crc_word w) bs)

-- the list from place i on begins with the byte there
next : (s : List ℕ) (i k : ℕ) → i < length s → suc i ≡ k → drop i s ≡ get_or s i 0 ∷ drop k s
next s i k h e = rw (drop-cons s i 0, e)

-- chunks of a list, joined, and what is left after them are the list
pub joined : (n k : ℕ) (s : List ℕ) → concat (first_chunks n k s) ++ drop (k * n) s ≡ s
joined n zero s = rw zero-mul
joined n (suc k) s =
    append_assoc (take n s) (concat (first_chunks n k (drop n s))) (drop (suc k * n) s)
    ∙ ap (λ (l : List ℕ). take n s ++ (concat (first_chunks n k (drop n s)) ++ l)) (ap (λ (m : ℕ). drop m s) (omega arith) ∙ sym (drop-drop (k * n) n s))
    ∙ ap (λ (l : List ℕ). take n s ++ l) (joined n k (drop n s))
    ∙ take-append-drop n s

-- each of the chunks is full
pub full : (n k : ℕ) (s : List ℕ) (i : ℕ) → i < k → k * n ≤ length s → length (get_or (first_chunks n k s) i []) ≡ n
full n zero s i h l = absurd (let z : ⊥ = omega arith in z)
full n (suc k) s zero h l = length-take-le n s (omega arith)
full n (suc k) s (suc i) h l = full n k (drop n s) i (omega arith) (omega (arith, length-drop n s))

-- four bytes more, the first of those that are left
pub four-on : (fours : List (List ℕ)) (i : ℕ) (rest : List ℕ) (w l v : ℕ) → i < length fours → length (get_or fours i []) ≡ 4
    → crc_word l ≡ crc (crc_word w) (replicate 4 0)
    → crc_word v ≡ crc 0 (get_or fours i [])
    → crc (crc_word (bit_xor l v)) (concat (drop (i + 1) fours) ++ rest) ≡ crc (crc_word w) (concat (drop i fours) ++ rest)
four-on fours i rest w l v h n p q =
    let f = get_or fours i [] in
    let after = concat (drop (i + 1) fours) ++ rest in
    ap (λ (r : ℕ). crc r after) (word_on w l v f (rw n p) q)
    ∙ sym (crc-append (crc_word w) f after)
    ∙ ap (crc (crc_word w)) (sym (append_assoc f (concat (drop (i + 1) fours)) rest))
    ∙ ap (λ (l : List (List ℕ)). crc (crc_word w) (concat l ++ rest)) (sym (drop_more fours i [] h))

-- a byte of 0 leaves a register of 0 as it is
unchanged : crc_byte 0 0 ≡ 0
unfolding crc_byte
unchanged = refl

-- the first byte, which the start is added to, taken by itself
pub first_on : (start w b : ℕ) (bs : List ℕ) → crc_word w ≡ crc 0 (0 ∷ 0 ∷ 0 ∷ bit_xor start b ∷ []) → crc (crc_word w) bs ≡ crc start (b ∷ bs)
first_on start w b bs q =
    ap (λ (r : ℕ). crc r bs) (q ∙ rw (unchanged, unchanged, unchanged) (start-met start b []))

module _ (s : List ℕ) (w l v : ℕ) where
  pub rest-one : length s ≡ 1 → crc_word l ≡ crc (crc_word w) (replicate 1 0)
      → crc_word v ≡ crc 0 (0 ∷ 0 ∷ 0 ∷ get_or s 0 0 ∷ []) → crc_word (bit_xor l v) ≡ crc (crc_word w) s
  rest-one h p q =
      let e0 = next s 0 1 (omega arith) refl in
      let e = drop_of_length-le s {i = 1} (omega arith) in
      rw (e0, e) (word_on w l v (get_or s 0 0 ∷ []) p (rw (unchanged, unchanged, unchanged) at q))

  pub rest-two : length s ≡ 2 → crc_word l ≡ crc (crc_word w) (replicate 2 0)
      → crc_word v ≡ crc 0 (0 ∷ 0 ∷ get_or s 0 0 ∷ get_or s 1 0 ∷ []) → crc_word (bit_xor l v) ≡ crc (crc_word w) s
  rest-two h p q =
      let e0 = next s 0 1 (omega arith) refl in
      let e1 = next s 1 2 (omega arith) refl in
      let e = drop_of_length-le s {i = 2} (omega arith) in
      rw (e0, e1, e) (word_on w l v (get_or s 0 0 ∷ get_or s 1 0 ∷ []) p (rw (unchanged, unchanged) at q))

  pub rest-three : length s ≡ 3 → crc_word l ≡ crc (crc_word w) (replicate 3 0)
      → crc_word v ≡ crc 0 (0 ∷ get_or s 0 0 ∷ get_or s 1 0 ∷ get_or s 2 0 ∷ []) → crc_word (bit_xor l v) ≡ crc (crc_word w) s
  rest-three h p q =
      let e0 = next s 0 1 (omega arith) refl in
      let e1 = next s 1 2 (omega arith) refl in
      let e2 = next s 2 3 (omega arith) refl in
      let e = drop_of_length-le s {i = 3} (omega arith) in
      rw (e0, e1, e2, e) (word_on w l v (get_or s 0 0 ∷ get_or s 1 0 ∷ get_or s 2 0 ∷ []) p (rw unchanged at q))
