-- 01, Slow control, and 02, i: what holds of a crate in every state that a board reaches from power-up (crates/reachable).
use Rattle.std.specs.Prelude.{ℕ, ◌<◌, ◌≤◌, ◌≡◌, ◌⊎◌, length, get_or}
use Rattle.numbers.specs.Numbers.{id_limit}
use Rattle.bounds.specs.Bounds.{RatesKept}
use Rattle.crate_pass.specs.declared.PassKind.{PassKind}
use Rattle.crate_pass.specs.declared.PassKind.TheVariants.{Reprogramming, Ping, Rates}
use Rattle.crate_pass.specs.declared.Crate.{Crate}

-- "with codes 1, 2, 3; in a ping .. with code 4"; 02, i: "a rate pass .. with code 5"
abbrev pub IsCode : PassKind → ℕ → Type 0
IsCode Reprogramming code = (1 ≤ code) × (code ≤ 3)
IsCode Ping code = code ≡ 4
IsCode Rates code = code ≡ 5

-- "calls needed": one of the three sends was answered, or none
abbrev pub CallsKept : ℕ → Type 0
CallsKept calls = calls ≤ 3

-- "eight bytes of DNA, high first, below 2^57"
abbrev pub DnaKept : ℕ → Type 0
DnaKept dna = dna < id_limit

-- "the board gets a failure record": the code of the step that failed, one of this pass, or 0 where none did
abbrev pub FailedIn : PassKind → ℕ → Type 0
FailedIn kind code = (code ≡ 0) ⊎ IsCode kind code

-- of a crate whose last pass is of the kind; where there was none, any kind will do
pub record CrateInvariant (kind : PassKind) (k : Crate) : Type 0 where
  -- "Board b (0 to 9)": each list has a number for each board
  pub length-rates : length k.rates ≡ 120
  pub length-dna : length k.dna ≡ 10
  pub length-calls : length k.calls ≡ 10
  pub length-errors : length k.crc_errors ≡ 10
  pub length-failed : length k.failed ≡ 10
  -- the place is a board, or 10 where nothing is outstanding
  pub board : k.board ≤ 10
  pub code : k.board < 10 → IsCode kind k.code
  -- "after the third send of a step fails, the board gets a failure record": two sends have failed before it
  pub tries : k.tries ≤ 2
  -- what is kept of each board
  pub calls : (b : ℕ) → CallsKept (get_or k.calls b 0)
  -- "High words are at most 0x3FFF"
  pub rates : RatesKept k.rates
  pub dna : (b : ℕ) → DnaKept (get_or k.dna b 0)
  pub failed : (b : ℕ) → FailedIn kind (get_or k.failed b 0)
