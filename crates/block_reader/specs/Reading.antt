-- 01, Blocks sent out: "A reader is told the kind, gives the header's board ID, firmware ID, trigger counter and timestamp, and hands back the
-- body as a part of the caller's words. It checks length, static and dynamic bounds, board ID and spare."
use Rattle.std.specs.Prelude.{ℕ, ◌+◌, ◌≡◌, not, ◌||◌, List, [], ◌∷◌, ltb, leb, eqb, length, get_or, drop}
use Rattle.std.specs.Borrow.{Bor}
use Rattle.refusals.specs.Tables.{Answer, given, refused, Rule, rule, rule_at, lowest, answer_of}
use Rattle.numbers.specs.Numbers.{number, id_limit}
use Rattle.words.specs.Parts.{PartOf}
use Rattle.bounds.specs.Bounds.{bound_of, measurement_bound, lowest_above}
use Rattle.blocks.specs.declared.Header.{Header}
use Rattle.block_reader.specs.declared.Kind.{Kind}
use Rattle.block_reader.specs.declared.Kind.TheVariants.{Static, Dynamic, FtuList, Failure}
use Rattle.block_reader.specs.declared.ReadBlock.{ReadBlock}

-- "static: 436 words"; dynamic: "on-time in three, then 484 words"; "FTU list, 249 words"; "failure message, 29 words"
abbrev pub body_length : Kind → ℕ
body_length Static = 436
body_length Dynamic = 3 + 484
body_length FtuList = 249
body_length Failure = 29

-- the lowest place in the body whose word is above its bound, and the body's length where there is none; the last two kinds have no bounds
abbrev pub place_above : Kind → List ℕ → ℕ
place_above Static body = lowest_above bound_of 0 body
place_above Dynamic body = 3 + lowest_above measurement_bound 0 (drop 3 body)
place_above FtuList body = length body
place_above Failure body = length body

-- "8: a word above its bound; returns the lowest such place in the body"
abbrev pub body_above : Kind → List ℕ → Rule
body_above kind body = rule_at 8 (ltb (place_above kind body) (body_length kind)) (place_above kind body)

-- the header that words begin with (000, table 4.1)
unfoldable pub header_in : List ℕ → Header
header_in w =
    record {
      board_id = number 65536 (get_or w 0 0 ∷ get_or w 1 0 ∷ get_or w 2 0 ∷ get_or w 3 0 ∷ []);
      firmware_id = get_or w 4 0;
      trigger_counter = number 65536 (get_or w 5 0 ∷ get_or w 6 0 ∷ []);
      timestamp = number 65536 (get_or w 7 0 ∷ get_or w 8 0 ∷ get_or w 9 0 ∷ []);
    }

-- the refusals of a reader: "a read block's length differs from its kind's"; a word above its bound; "board ID at or above 2^57, or spare not
-- zero"
unfoldable pub read_rules : Kind → List ℕ → List Rule
read_rules kind w =
    rule 6 (not (eqb (length w) (11 + body_length kind)))
    ∷ body_above kind (drop 11 w)
    ∷ rule 20 (leb id_limit (header_in w).board_id || not (eqb (get_or w 10 0) 0))
    ∷ []

unfoldable pub block_answer : Kind → List ℕ → Answer Header
block_answer kind w = lowest (read_rules kind w) (header_in w)

-- the body of an accepted block, and nothing of a refused one
abbrev pub body_where : Answer Header → List ℕ → List ℕ
body_where (given h) body = body
body_where (refused n p) body = []

abbrev pub body_of : Kind → List ℕ → List ℕ
body_of kind w = body_where (block_answer kind w) (drop 11 w)

-- what a reader hands back of the words w: the answer, and the body "as a part of the caller's words"
pub record ReadsBlock (kind : Kind) (w : Bor (List ℕ)) (r : ReadBlock) : Type 0 where
  pub answer : answer_of r.answer ≡ block_answer kind w.now
  pub body : PartOf w 11 (body_of kind w.now) r.body
