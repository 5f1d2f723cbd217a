-- Replay script: what a letter takes. A is the type of orders, and the first argument the order that stands for another form.
use Rattle.std.specs.Prelude.{ℕ, ◌%◌, Bool, cond, List, [], ◌∷◌, leb, eqb, length, get_or}
use Rattle.words.specs.Words.{words_in}

-- an order whose bytes are as many as it takes, and as they must be
abbrev pub taking : {A : Type 0} → A → Bool → A → A
taking other t o = cond t o other

-- one byte, and none
abbrev pub one_byte : {A : Type 0} → A → (ℕ → A) → List ℕ → A
one_byte other order b = taking other (eqb (length b) 1) (order (get_or b 0 0))

abbrev pub no_byte : {A : Type 0} → A → A → List ℕ → A
no_byte other order b = taking other (eqb (length b) 0) order

-- words, any number
abbrev pub any_words : {A : Type 0} → A → (List ℕ → A) → List ℕ → A
any_words other order b = taking other (eqb (length b % 2) 0) (order (words_in b))

-- a row of a table: a letter or a byte, and the order that the bytes after it make
pub record Row (A : Type 0) : Type 0 where
  pub key : ℕ
  pub order : List ℕ → A

-- the order by the row that has the key; another key is another form
abbrev pub found : {A : Type 0} → A → List (Row A) → ℕ → List ℕ → A
found other [] key b = other
found other (r ∷ rs) key b = cond (eqb key r.key) (r.order b) (found other rs key b)

-- the key is the first byte; "more than 4,096 digits" is another form
abbrev pub found_by_first : {A : Type 0} → A → List (Row A) → List ℕ → A
found_by_first other rows [] = other
found_by_first other rows (k ∷ b) = taking other (leb (length b) 2047) (found other rows k b)
