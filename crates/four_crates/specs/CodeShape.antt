-- What only the code's shape needs: a crate's words put among those of all boards.
use Rattle.std.specs.Prelude.{ℕ, ◌+◌, ◌*◌, ◌≡◌, List, ◌++◌, length, take, drop}

-- the 480 words `all`, with crate c's 120 in their place, are r
pub record PutCrate (c : ℕ) (all words r : List ℕ) : Type 0 where
  pub all-length : length all ≡ 480
  pub own-length : length words ≡ 120
  pub put : r ≡ take (120 * c) all ++ (words ++ drop (120 * c + 120) all)
