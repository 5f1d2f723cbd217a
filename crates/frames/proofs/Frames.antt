-- Frames of five words of data are those of the words that a code carries, and have 28 bytes.
-- Assumes nothing.
use Prim.Native.Nat.{ℕ, suc, ◌+◌, ◌<◌}
use mathlib.Core.Path.{◌≡◌, refl, sym, ap, ap₂, subst, ◌∙◌}
use mathlib.Core.List.{List, [], ◌∷◌, ◌++◌}
use native.Mathlib.Omega.{arith}
use lib.ListN.{length, take, get_or, set, replicate, length-append, length-replicate}
use lib.Seq.{length-take-le, take_at, get_or_at, set_at}
use Rattle.std.specs.List.{flat_map}
use Rattle.numbers.specs.Numbers.{digits}
use Rattle.words.specs.Words.{bytes_of}
use Rattle.crc.specs.Crc.{crc, frame_start}
use Rattle.configuration.specs.declared.Settings.{Settings}
use Rattle.frames.specs.Frames.{padded, without_crc, frame_with, words_for}
use Rattle.frames.specs.CodeShape.{before_crc, five_of}
use Rattle.frames.specs.declared.Code.{Code}
use Rattle.frames.specs.declared.Code.TheVariants.{Dacs, Enables, Prescaling, Ping, Rates}
use Rattle.numbers.proofs.Listed.{listed}

-- the bytes of each word, one after the other
pub bytes-each : (w : List ℕ) (r : List (List ℕ)) → length r ≡ length w → ((i : ℕ) → i < length w → get_or r i [] ≡ digits 256 2 (get_or w i 0))
    → flat_map (λ x. x) r ≡ bytes_of w
bytes-each [] [] e h = refl
bytes-each [] (x ∷ r) e h = absurd (let z : ⊥ = omega arith in z)
bytes-each (a ∷ w) [] e h = absurd (let z : ⊥ = omega arith in z)
bytes-each (a ∷ w) (x ∷ r) e h = ap₂ ◌++◌ (h 0 (omega arith)) (bytes-each w r (omega arith) (λ i l. h (suc i) (omega arith)))

module _ (address number : ℕ) where
  -- five words of data, and zeros after them
  pub five-laid : (w : List ℕ) → length w ≡ 5 → (0x40 ∷ address ∷ 192 ∷ 0 ∷ number ∷ bytes_of w) ++ replicate 13 0 ≡ before_crc address number w
  unfolding before_crc
  five-laid w n =
      subst (λ (l : List ℕ). (0x40 ∷ address ∷ 192 ∷ 0 ∷ number ∷ bytes_of l) ++ replicate 13 0 ≡ before_crc address number l) (listed w 5 n) refl

  -- zeros up to five words change nothing
  abbrev FiveWill : List ℕ → Type 0
  FiveWill l = without_crc address number (five_of l) ≡ without_crc address number l

  five-will : (s : Settings) → length s.dacs ≡ 5 → length s.enables ≡ 4 → (code : Code) → FiveWill (words_for code s)
  five-will s hd he Dacs = subst FiveWill (listed s.dacs 5 hd) refl
  five-will s hd he Enables = subst FiveWill (listed s.enables 4 he) refl
  five-will s hd he Prescaling = refl
  five-will s hd he Ping = refl
  five-will s hd he Rates = refl

  module _ (s : Settings) (hd : length s.dacs ≡ 5) (he : length s.enables ≡ 4) (code : Code) where
    pub frame-five : frame_with address number (five_of (words_for code s)) ≡ frame_with address number (words_for code s)
    unfolding frame_with
    frame-five = ap (λ (u : List ℕ). u ++ (crc frame_start u ∷ [])) (five-will s hd he code)

    pub before-five : before_crc address number (five_of (words_for code s)) ≡ before_crc address number (words_for code s)
    unfolding before_crc
    before-five = ap (λ (u : List ℕ). u ++ (0 ∷ [])) (five-will s hd he code)

-- ---- 28 bytes, of which the last is the CRC of the others

length-padded : (n : ℕ) (l : List ℕ) → length (padded n l) ≡ n
length-padded n l = length-take-le n (l ++ replicate n 0) (simp (length-append, length-replicate) (omega arith))

module _ (address number : ℕ) (w : List ℕ) where
  length_without : length (without_crc address number w) ≡ 27
  length_without = let n = length-padded 21 (bytes_of w) in simp length-append (omega arith)

  pub frame-length : length (frame_with address number w) ≡ 28
  unfolding frame_with
  frame-length = length-append (without_crc address number w) _ ∙ ap (λ (n : ℕ). n + 1) length_without

  pub frame-crc : crc frame_start (take 27 (frame_with address number w)) ≡ get_or (frame_with address number w) 27 0
  unfolding frame_with
  frame-crc =
      let u = without_crc address number w in
      ap (crc frame_start) (take_at u (crc frame_start u ∷ []) 27 length_without) ∙ sym (get_or_at u (crc frame_start u) [] 0 27 length_without)

  -- the CRC goes into the place left for it
  before-crc : crc frame_start (take 27 (before_crc address number w)) ≡ crc frame_start (without_crc address number w)
  unfolding before_crc
  before-crc = ap (crc frame_start) (take_at (without_crc address number w) (0 ∷ []) 27 length_without)

  pub crc-stored : (x : ℕ) → x ≡ crc frame_start (take 27 (before_crc address number w)) → set (before_crc address number w) 27 x ≡ frame_with address number w
  unfolding before_crc frame_with
  crc-stored x e =
      let u = without_crc address number w in
      set_at u 0 [] x 27 length_without ∙ ap (λ (n : ℕ). u ++ (n ∷ [])) (e ∙ before-crc)

  -- elsewhere the two have the same bytes
  pub before-is : before_crc address number w ≡ take 27 (frame_with address number w) ++ (0 ∷ [])
  unfolding before_crc frame_with
  before-is =
      let u = without_crc address number w in
      ap (λ (l : List ℕ). l ++ (0 ∷ [])) (sym (take_at u (crc frame_start u ∷ []) 27 length_without))
