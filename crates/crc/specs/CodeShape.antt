-- What only the code's shape needs: four bytes in one word, the first of them highest.
use Rattle.std.specs.Prelude.{ℕ, ◌/◌, ◌%◌, [], ◌∷◌}
use Rattle.crc.specs.Crc.{crc}

-- the CRC of a word's bytes
unfoldable pub crc_word : ℕ → ℕ
crc_word w = crc 0 (w / 16777216 ∷ w / 65536 % 256 ∷ w / 256 % 256 ∷ w % 256 ∷ [])
