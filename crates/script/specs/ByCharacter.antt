-- Replay script: how a line is read, a character at a time (proofs/WholeLine.antt, `whole-line`: what is read is the line of its characters).
use Rattle.std.specs.Prelude.{ℕ, ◌+◌, ◌*◌, ◌/◌, ◌%◌, Bool, cond, not, ◌&&◌, List, [], ◌∷◌, ltb, leb, eqb, set, take}
use Rattle.script.specs.declared.Form.{Form}
use Rattle.script.specs.declared.Form.TheVariants.{Empty, Comment, Order, Malformed}
use Rattle.script.specs.declared.Reading.{Reading}
use Rattle.script.specs.Script.{value_of, Line, passed_over, order, malformed}

abbrev pub line_begun : Reading
line_begun = record { form = Empty; letter = 0; digits = 0; high = 0 }

abbrev pub in_form : Form → Reading → Reading
in_form f r = record { form = f; letter = r.letter; digits = r.digits; high = r.high }

abbrev pub order_begun : ℕ → Reading
order_begun c = record { form = Order; letter = c; digits = 0; high = 0 }

-- whether a character is one more digit of an order
abbrev pub takes_digit : Reading → ℕ → Bool
takes_digit r c = ltb (value_of c) 16 && ltb r.digits 4096

abbrev pub with_digit : Reading → ℕ → Reading
with_digit r v = record { form = Order; letter = r.letter; digits = r.digits + 1; high = v }

unfoldable pub order_on : Reading → ℕ → Reading
order_on r c = cond (eqb c 32) r (cond (takes_digit r c) (with_digit r (value_of c)) (in_form Malformed r))

abbrev pub read_in_form : Form → Reading → ℕ → Reading
read_in_form Empty r c = cond (eqb c 35) (in_form Comment r) (order_begun c)
read_in_form Comment r c = r
read_in_form Order r c = order_on r c
read_in_form Malformed r c = r

-- what is read of a line after one more character
unfoldable pub read_on : Reading → ℕ → Reading
read_on r c = read_in_form r.form r c

-- every second digit makes a byte
abbrev pub makes_byte : Reading → ℕ → Bool
makes_byte r c = not (eqb c 32) && takes_digit r c && eqb (r.digits % 2) 1

abbrev pub with_byte : Reading → ℕ → List ℕ → List ℕ
with_byte r v bytes = set bytes (r.digits / 2) (r.high % 16 * 16 + v)

unfoldable pub order_bytes_on : Reading → ℕ → List ℕ → List ℕ
order_bytes_on r c bytes = cond (makes_byte r c) (with_byte r (value_of c) bytes) bytes

abbrev pub bytes_in_form : Form → Reading → ℕ → List ℕ → List ℕ
bytes_in_form Empty r c bytes = bytes
bytes_in_form Comment r c bytes = bytes
bytes_in_form Order r c bytes = order_bytes_on r c bytes
bytes_in_form Malformed r c bytes = bytes

-- the bytes beside it
unfoldable pub bytes_on : Reading → ℕ → List ℕ → List ℕ
bytes_on r c bytes = bytes_in_form r.form r c bytes

-- all characters of a line, in their order
abbrev pub read_all : Reading → List ℕ → Reading
read_all r [] = r
read_all r (c ∷ cs) = read_all (read_on r c) cs

abbrev pub bytes_all : Reading → List ℕ → List ℕ → List ℕ
bytes_all r [] bytes = bytes
bytes_all r (c ∷ cs) bytes = bytes_all (read_on r c) cs (bytes_on r c bytes)

abbrev pub order_in : Reading → List ℕ → Line
order_in r bytes = cond (leb r.digits 4096 && eqb (r.digits % 2) 0) (order r.letter (take (r.digits / 2) bytes)) malformed

abbrev pub line_in_form : Form → Reading → List ℕ → Line
line_in_form Empty r bytes = passed_over
line_in_form Comment r bytes = passed_over
line_in_form Order r bytes = order_in r bytes
line_in_form Malformed r bytes = malformed

-- the line that is read (proofs/WholeLine.antt, `whole-line`: it is `line_of` of its characters)
unfoldable pub line_in : Reading → List ℕ → Line
line_in r bytes = line_in_form r.form r bytes
