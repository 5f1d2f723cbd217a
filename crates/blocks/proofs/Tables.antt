-- A block is written, and a header, exactly where no row of the table applies, and refused with the lowest that does.
-- Assumes nothing.
use Prim.Native.Nat.{ℕ}
use mathlib.Core.List.{List, [], ◌++◌}
use lib.Dec.{T}
use lib.ListN.{length}
use Rattle.refusals.specs.Tables.{Rule, rising}
use Rattle.refusals.specs.Writing.{writing_by}
use Rattle.refusals.proofs.Tables.{Exactly}
use Rattle.refusals.proofs.Writing.{writing-exactly}
use Rattle.blocks.specs.Blocks.{header_words, static_rules, dynamic_body, temperature_rules, header_rules, block_rules}
use Rattle.blocks.specs.declared.Header.{Header}

-- the header of a block of n words: 19, 20
pub header-exactly : (h : Header) (n : ℕ) (out : List ℕ)
    → Exactly (header_rules h n out) (length (header_words h)) (writing_by (header_rules h n out) (header_words h))
header-exactly h n out = writing-exactly (header_rules h n out) (header_words h) out tt

-- a block with these rows of its own
abbrev pub BlockExactly : List Rule → Header → List ℕ → List ℕ → Type 0
BlockExactly own h body out =
    Exactly (block_rules own h body out) (length (header_words h ++ body)) (writing_by (block_rules own h body out) (header_words h ++ body))

pub block-exactly : (own : List Rule) (h : Header) (body out : List ℕ) → T (rising (block_rules own h body out)) → BlockExactly own h body out
block-exactly own h body out up = writing-exactly (block_rules own h body out) (header_words h ++ body) out up

module _ (h : Header) where
  -- the static block: 8, 19, 20
  pub static-exactly : (block out : List ℕ) → BlockExactly (static_rules block) h block out
  unfolding block_rules
  static-exactly block out = block-exactly (static_rules block) h block out tt

  -- the dynamic block: 6, 19, 20
  pub dynamic-exactly : (on_time : ℕ) (t rates out : List ℕ) → BlockExactly (temperature_rules t) h (dynamic_body on_time t rates) out
  unfolding block_rules
  dynamic-exactly on_time t rates out = block-exactly (temperature_rules t) h (dynamic_body on_time t rates) out tt

  -- the FTU list and the failure message: 19, 20
  pub unbounded-exactly : (body out : List ℕ) → BlockExactly [] h body out
  unfolding block_rules
  unbounded-exactly body out = block-exactly [] h body out tt
