-- 01, Slow control, and Blocks sent out; 02, i: what the four crates are together. None of it is stored.
use Rattle.std.specs.Prelude.{ℕ, zero, suc, ◌/◌, ◌%◌, Bool, not, cond, ◌||◌, List, [], ◌∷◌, ◌++◌, eqb, leb, ltb, length, get_or}
use Rattle.refusals.specs.Tables.{Answer, Rule, rule, lowest}
use Rattle.ftu_list.specs.declared.Entry.{Entry}
use Rattle.crate_pass.specs.Crate.{silent, entries_in, is_done, begun_crate, no_such_crate, first_rule}
use Rattle.crate_pass.specs.declared.PassKind.{PassKind}
use Rattle.crate_pass.specs.declared.Crate.{Crate}
use Rattle.four_crates.specs.declared.Failure.{Failure}

-- what stands for a crate above 3, which there is none of
abbrev pub no_crate : Crate
no_crate = record { rates = []; dna = []; calls = []; crc_errors = []; failed = []; sent = 0; board = 0; code = 0; tries = 0 }

abbrev pub crate_of : List Crate → ℕ → Crate
crate_of cs i = get_or cs i no_crate

-- a pass is under way while a frame is outstanding on a crate: "when all are done the board is idle", or runs after a rate pass (02, i)
unfoldable pub in_pass : List Crate → Bool
in_pass cs = not (is_done (crate_of cs 0)) || not (is_done (crate_of cs 1)) || not (is_done (crate_of cs 2)) || not (is_done (crate_of cs 3))

-- a pass begins on each crate, with its word of active flags
unfoldable pub begun_all : PassKind → List ℕ → List Crate → List Crate
begun_all kind words cs =
    begun_crate kind (get_or words 0 0) (crate_of cs 0)
    ∷ begun_crate kind (get_or words 1 0) (crate_of cs 1)
    ∷ begun_crate kind (get_or words 2 0) (crate_of cs 2)
    ∷ begun_crate kind (get_or words 3 0) (crate_of cs 3)
    ∷ []

-- ---- the first frame, and the number of frames

-- the first frame's fetch: 11, then 12 (19 comes with the bytes lent for it)
abbrev pub first_rules : List Crate → ℕ → List Rule
first_rules cs i = no_such_crate i ∷ first_rule (crate_of cs i) ∷ []

unfoldable pub first_answer : List Crate → ℕ → Answer (ℕ × ℕ)
first_answer cs i = lowest (first_rules cs i) ((crate_of cs i).board, (crate_of cs i).code)

unfoldable pub sent_on : List Crate → ℕ → Answer ℕ
sent_on cs i = lowest (no_such_crate i ∷ []) (crate_of cs i).sent

-- ---- the FTU list: "Board b (0 to 9) of crate c is k = 10c + b"

abbrev pub entry_at : List Crate → ℕ → Entry
entry_at cs k = get_or (entries_in (crate_of cs (k / 10))) (k % 10) silent

-- the entries of n boards from k on
abbrev pub entries_from : List Crate → ℕ → ℕ → List Entry
entries_from cs zero k = []
entries_from cs (suc n) k = entry_at cs k ∷ entries_from cs n (suc k)

unfoldable pub entries_of : List Crate → List Entry
entries_of cs = entries_from cs 40 0

-- ---- the rates (02, i)

-- "twelve for each board", in the same order: those of the first n crates
unfoldable pub rates_of_first : ℕ → List Crate → List ℕ
rates_of_first zero cs = []
rates_of_first (suc n) cs = rates_of_first n cs ++ (crate_of cs n).rates

abbrev pub rates_of : List Crate → List ℕ
rates_of cs = rates_of_first 4 cs

-- ---- the failure records: "Records stand in rising k, 40 at most, numbered from 0"

-- the code that failed on board k, 0 where none did
unfoldable pub failed_at : List Crate → ℕ → ℕ
failed_at cs k = cond (ltb k 40) (get_or (crate_of cs (k / 10)).failed (k % 10) 0) 0

abbrev pub failure : ℕ → ℕ → Failure
failure k code = record { k = k; code = code }

-- the records among n boards from k on
abbrev pub records_from : List Crate → ℕ → ℕ → List Failure
records_from cs zero k = []
records_from cs (suc n) k = cond (eqb (failed_at cs k) 0) (records_from cs n (suc k)) (failure k (failed_at cs k) ∷ records_from cs n (suc k))

unfoldable pub records : List Crate → List Failure
records cs = records_from cs 40 0

-- the record of an ordinal, where there is one
abbrev pub record_at : List Crate → ℕ → Failure
record_at cs n = get_or (records cs) n (failure 0 0)

-- "18: no failure record of that ordinal"
abbrev pub no_such_record : List Crate → ℕ → Rule
no_such_record cs n = rule 18 (leb (length (records cs)) n)

unfoldable pub record_answer : List Crate → ℕ → Answer Failure
record_answer cs n = lowest (no_such_record cs n ∷ []) (record_at cs n)
