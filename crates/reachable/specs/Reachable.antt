-- What holds in every state that a board reaches from power-up.
use Rattle.std.specs.Prelude.{ℕ, ◌<◌, ◌≤◌, ◌≡◌, Bool, false, not, ◌&&◌, List, length, get_or}
use Rattle.numbers.specs.Numbers.{id_limit}
use Rattle.bounds.specs.Bounds.{bound_of, lowest_above, RatesKept}
use Rattle.configuration.specs.Configuration.{active_word}
use Rattle.run.specs.Run.{is_running}
use Rattle.run.specs.Invariant.{RunInvariant}
use Rattle.crate_pass.specs.Crate.{is_rate_pass}
use Rattle.crate_pass.specs.Invariant.{CrateInvariant}
use Rattle.four_crates.specs.FourCrates.{in_pass}
use Rattle.board.specs.State.{crate_at}
use Rattle.board.specs.declared.Board.{Board}
use Rattle.any_order.specs.AnyOrder.{most_frames}

-- 01, Blocks sent out: "the four active words as stored when the ping began", each then within its bound
pub record FlagsInvariant (words : List ℕ) : Type 0 where
  pub four : length words ≡ 4
  pub within : (c : ℕ) → get_or words c 0 ≤ 0x03FF

-- a reprogramming or a ping is under way
abbrev pub in_other_pass : Board → Bool
in_other_pass β = in_pass β.crates && not (is_rate_pass β.kind)

pub record Reachable (β : Board) : Type 0 where
  -- 01, What we build: "a board ID at or above 2^57 gets 20, and no board"
  pub id : β.identity.board_id < id_limit
  pub firmware : β.identity.firmware_id < 65536
  -- 01, Command words, and Trigger packets: the three counters, and what they are while a run is on and while none is
  pub run : RunInvariant β.run
  -- 01, The configuration: each stored word is within its bound
  pub length-block : length β.block ≡ 436
  pub within : lowest_above bound_of 0 β.block ≡ 436
  pub active : FlagsInvariant β.active
  -- 02, i: the rates of the rate pass before the last one begun; those of this one or the last stand in the crates
  pub length-rates : length β.rates ≡ 480
  pub rates : RatesKept β.rates
  -- 01, Slow control: four crates; "nine per active board", thirty in a ping, and three per active board in a rate pass; places, tries, records and list
  -- entries of the last pass begun
  pub four : length β.crates ≡ 4
  pub number : (c : ℕ) → c < 4 → (crate_at β c).sent ≤ most_frames β.kind (active_word β.block c)
  -- ".. and one more while a frame is outstanding": then one at least
  pub first : (c : ℕ) → c < 4 → (crate_at β c).board < 10 → 1 ≤ (crate_at β c).sent
  pub crates : (c : ℕ) → c < 4 → CrateInvariant β.kind (crate_at β c)
  -- 01, Command words: "The board is idle, running, or in a pass"; 02, i: "a board can now run and be in a rate pass at once", and in no other
  pub apart : (is_running β.run && in_other_pass β) ≡ false
