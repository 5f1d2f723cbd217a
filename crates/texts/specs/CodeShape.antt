-- What only the code's shape needs.
use Rattle.std.specs.Prelude.{ℕ, List, ◌++◌}
use Rattle.texts.specs.Characters.{ascii}

-- a number's digits with a space in front
abbrev pub after_space : (ℕ → List ℕ) → ℕ → List ℕ
after_space digits n = ascii " " ++ digits n
