-- What only the code's shape needs: a response that prints this with these bytes, or with these words, beside it. Private functions of the crates
-- above cite it.
use Rattle.std.specs.Prelude.{ℕ, ◌≡◌, List}
use Rattle.texts.specs.declared.Response.{Response}
use Rattle.texts.specs.Texts.{Printed, response_meaning}

abbrev pub PrintsInBytes : Response → List ℕ → Printed → Type 0
PrintsInBytes s bytes r = (words : List ℕ) → response_meaning s bytes words ≡ r

abbrev pub PrintsInWords : Response → List ℕ → Printed → Type 0
PrintsInWords s words r = (bytes : List ℕ) → response_meaning s bytes words ≡ r
