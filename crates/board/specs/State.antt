-- 01, What we build, and 02, i: the state, and the board that power-up gives.
use Rattle.std.specs.Prelude.{ℕ, ◌≡◌, Bool, not, cond, ◌&&◌, List, [], ◌∷◌, leb, replicate}
use Rattle.refusals.specs.Tables.{Answer, given, refused, Rule, rule, lowest, answer_of}
use Rattle.numbers.specs.Numbers.{id_limit}
use Rattle.configuration.specs.Configuration.{active_word}
use Rattle.run.specs.Run.{is_running, is_fresh, at_power_up}
use Rattle.run.specs.declared.Run.{Run}
use Rattle.crate_pass.specs.Crate.{crate_at_power_up, is_rate_pass}
use Rattle.crate_pass.specs.declared.PassKind.TheVariants.{Reprogramming}
use Rattle.crate_pass.specs.declared.Crate.{Crate}
use Rattle.four_crates.specs.FourCrates.{crate_of, in_pass, rates_of}
use Rattle.acceptance.specs.declared.Status.{Status}
use Rattle.board.specs.declared.Board.{Board}
use Rattle.board.specs.declared.PowerUpResult.{PowerUpResult}

-- ---- parts of the state

abbrev pub crate_at : Board → ℕ → Crate
crate_at β i = crate_of β.crates i

-- the four words of active flags
abbrev pub active_words : List ℕ → List ℕ
active_words block = active_word block 0 ∷ active_word block 1 ∷ active_word block 2 ∷ active_word block 3 ∷ []

-- "The board is idle, running, or in a pass": idle is neither of the others. 02, i: "a board can now run and be in a rate pass at once"
abbrev pub is_idle : Board → Bool
is_idle β = not (is_running β.run) && not (in_pass β.crates)

-- what the state is to a command
abbrev pub status_of : Board → Status
status_of β = record { idle = is_idle β; running = is_running β.run; fresh = is_fresh β.run.freshness }

-- 02, i: "the rates of the last finished rate pass": those of the crates; while a rate pass is under way, which is not finished, those of the one before
unfoldable pub finished_rates : Board → List ℕ
finished_rates β = cond (is_rate_pass β.kind && in_pass β.crates) β.rates (rates_of β.crates)

-- the same board with another run, and with other crates
unfoldable pub with_run : Board → Run → Board
with_run β r =
    record { identity = β.identity; run = r; block = β.block; kind = β.kind; active = β.active; rates = β.rates; crates = β.crates }

unfoldable pub with_crates : Board → List Crate → Board
with_crates β cs =
    record { identity = β.identity; run = β.run; block = β.block; kind = β.kind; active = β.active; rates = β.rates; crates = cs }

-- ---- power-up

-- "idle, all words and counters zero, nothing fresh, an empty list, no failure records"; rates are "zeros before the first" rate pass (02, i). No pass
-- was begun, and its kind is that of none
unfoldable pub fresh_board : ℕ → ℕ → Board
fresh_board id firmware =
    record {
      identity = record { board_id = id; firmware_id = firmware };
      run = at_power_up;
      block = replicate 436 0;
      kind = Reprogramming;
      active = replicate 4 0;
      rates = replicate 480 0;
      crates = replicate 4 crate_at_power_up;
    }

-- "a board ID at or above 2^57 gets 20"
abbrev pub power_up_rules : ℕ → List Rule
power_up_rules id = rule 20 (leb id_limit id) ∷ []

-- ".. and no board": one of ID 0 stands where there is none
abbrev pub board_for : Answer Unit → ℕ → ℕ → Board
board_for (given t) id firmware = fresh_board id firmware
board_for (refused n p) id firmware = fresh_board 0 0

unfoldable pub power_up_answer : ℕ → Answer Unit
power_up_answer id = lowest (power_up_rules id) tt

-- power-up answered r
pub record PowersUp (id firmware : ℕ) (r : PowerUpResult) : Type 0 where
  pub answer : answer_of r.answer ≡ power_up_answer id
  pub board : r.board ≡ board_for (power_up_answer id) id firmware
