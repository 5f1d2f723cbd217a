-- What it says that written words read back as a block.
use Rattle.std.specs.Prelude.{ℕ, ◌%◌, ◌^◌, ◌≡◌, List, take, drop}
use Rattle.refusals.specs.Tables.{given}
use Rattle.numbers.specs.Numbers.{number}
use Rattle.blocks.specs.Blocks.{dynamic_body}
use Rattle.blocks.specs.declared.Header.{Header}
use Rattle.block_reader.specs.Reading.{block_answer, body_of}
use Rattle.block_reader.specs.declared.Kind.{Kind}
use Rattle.block_reader.specs.declared.Kind.TheVariants.{Dynamic}

-- a header as a block holds it: "timestamp in three [words]", so its lowest 48 bits
abbrev pub as_sent : Header → Header
as_sent h =
    record {
      board_id = h.board_id;
      firmware_id = h.firmware_id;
      trigger_counter = h.trigger_counter;
      timestamp = h.timestamp % 2 ^ 48;
    }

-- the block reads as h, and hands back b
pub record ReadsBack (kind : Kind) (w : List ℕ) (h : Header) (b : List ℕ) : Type 0 where
  pub header : block_answer kind w ≡ given h
  pub body : body_of kind w ≡ b

-- the dynamic block reads as h, with the on-time t, "in three [words]", so its lowest 48 bits; then "four temperatures", which
-- "are still lent", and the rates, "fetched by the controller" (02, i)
pub record DynamicBack (w : List ℕ) (h : Header) (t : ℕ) (lent fetched : List ℕ) : Type 0 where
  pub block : ReadsBack Dynamic w h (dynamic_body t lent fetched)
  pub on-time : number 65536 (take 3 (body_of Dynamic w)) ≡ t % 2 ^ 48
  pub temperatures : take 4 (drop 3 (body_of Dynamic w)) ≡ lent
  pub rates : drop 7 (body_of Dynamic w) ≡ fetched
