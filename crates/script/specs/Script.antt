-- Replay script: what a line is.
use Rattle.std.specs.Prelude.{ℕ, ◌+◌, ◌*◌, ◌-◌, ◌%◌, Bool, true, cond, ◌&&◌, List, [], ◌∷◌, ltb, leb, eqb, length}

abbrev pub is_within : ℕ → ℕ → ℕ → Bool
is_within least most c = leb least c && leb c most

-- the value of a hexadecimal digit of either case; 16 for any other character
unfoldable pub value_of : ℕ → ℕ
value_of c = cond (is_within 48 57 c) (c - 48) (cond (is_within 65 70 c) (c - 55) (cond (is_within 97 102 c) (c - 87) 16))

-- "spaces after the letter are passed over wherever they stand"
abbrev pub values_in : List ℕ → List ℕ
values_in [] = []
values_in (c ∷ cs) = cond (eqb c 32) (values_in cs) (value_of c ∷ values_in cs)

abbrev pub all_digits : List ℕ → Bool
all_digits [] = true
all_digits (v ∷ vs) = ltb v 16 && all_digits vs

-- two digits make a byte
abbrev pub bytes_from : List ℕ → List ℕ
bytes_from [] = []
bytes_from (a ∷ []) = []
bytes_from (a ∷ b ∷ vs) = (a * 16 + b) ∷ bytes_from vs

-- what a line says: nothing; a letter and bytes; or it is in another form. No letter takes an odd number of digits
pub data Line : Type 0 where
  passed_over : Line
  order : ℕ → List ℕ → Line
  malformed : Line

-- "more than 4,096 digits" is another form
abbrev pub is_order : List ℕ → Bool
is_order vs = all_digits vs && leb (length vs) 4096 && eqb (length vs % 2) 0

-- "Empty lines and lines that begin with `#` are passed over"; # is character 35
unfoldable pub line_of : List ℕ → Line
line_of [] = passed_over
line_of (c ∷ cs) = cond (eqb c 35) passed_over (cond (is_order (values_in cs)) (order c (bytes_from (values_in cs))) malformed)
