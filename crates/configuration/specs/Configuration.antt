-- 01, The configuration: 436 words, 0x000 to 0x1B3.
use Rattle.std.specs.Prelude.{ℕ, ◌+◌, ◌*◌, ◌/◌, ◌%◌, ◌^◌, Bool, List, [], ◌∷◌, eqb, get_or, take, drop}
use Rattle.configuration.specs.declared.Settings.{Settings}

-- "Board b (0 to 9) of crate c is k = 10c + b; a board's ten words begin at 0x020 + 10k"
abbrev pub begin_of : ℕ → ℕ → ℕ
begin_of c b = 0x020 + 10 * (10 * c + b)

-- 01, Slow control: "A board's address is 16c + b". It is one byte, which no crate up to 3 and board up to 9 comes near
abbrev pub address_of : ℕ → ℕ → ℕ
address_of c b = (16 * c + b) % 256

-- the ten words of a board
unfoldable pub board_words : List ℕ → ℕ → ℕ → List ℕ
board_words block c b = take 10 (drop (begin_of c b) block)

-- "enables of patch 0 to 3, DAC A, B, C, D, H, prescaling", in a board's ten words; a word that is not there counts as 0
abbrev pub settings_of : List ℕ → Settings
settings_of w =
    record {
      enables = get_or w 0 0 ∷ get_or w 1 0 ∷ get_or w 2 0 ∷ get_or w 3 0 ∷ [];
      dacs = get_or w 4 0 ∷ get_or w 5 0 ∷ get_or w 6 0 ∷ get_or w 7 0 ∷ get_or w 8 0 ∷ [];
      prescaling = get_or w 9 0;
    }

-- "Word 0x1B0 + c holds crate c's active flags, bit b for board b"
abbrev pub active_word : List ℕ → ℕ → ℕ
active_word block c = get_or block (0x1B0 + c) 0

abbrev pub flag_set : ℕ → ℕ → Bool
flag_set word b = eqb (word / 2 ^ b % 2) 1
