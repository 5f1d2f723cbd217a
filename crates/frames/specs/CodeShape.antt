-- What only the code's shape needs: five words for every code, and a frame before its CRC.
use Rattle.std.specs.Prelude.{ℕ, List, [], ◌∷◌, ◌++◌}
use Rattle.frames.specs.Frames.{padded, without_crc}

-- no code carries more than five words
abbrev pub five_of : List ℕ → List ℕ
five_of w = padded 5 w

-- the 28 bytes before the CRC stands in them: 0 in its place
unfoldable pub before_crc : ℕ → ℕ → List ℕ → List ℕ
before_crc address code w = without_crc address code w ++ (0 ∷ [])
