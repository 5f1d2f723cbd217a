-- 01, Blocks sent out: "FTU list, 249 words". The layout is 01's own, and decides over 000, table 4.11.
use Rattle.std.specs.Prelude.{ℕ, suc, ◌+◌, ◌*◌, ◌/◌, ◌%◌, cond, List, [], ◌∷◌, ◌++◌, eqb, take, drop, get_or, replicate}
use Rattle.numbers.specs.Numbers.{digits}
use Rattle.configuration.specs.Configuration.{address_of}
use Rattle.ftu_list.specs.declared.Entry.{Entry}
use Rattle.ftu_list.specs.declared.FtuList.{FtuList}

-- "six for each board: address + 256 × calls needed, DNA in four, CRC error byte ... A board that failed the ping has six zeros".
-- Board k is board k % 10 of crate k / 10; one with no calls did not answer
unfoldable pub entry_words : ℕ → Entry → List ℕ
entry_words k e =
    cond (eqb e.calls 0)
    (replicate 6 0)
    ((address_of (k / 10) (k % 10) + 256 * e.calls) ∷ digits 65536 4 e.dna ++ (e.crc_errors ∷ []))

-- the words of a list of boards, the first of which is board k
abbrev pub entry_words_from : ℕ → List Entry → List ℕ
entry_words_from k [] = []
entry_words_from k (e ∷ es) = entry_words k e ++ entry_words_from (suc k) es

-- how many of a list of boards answered
abbrev pub answered : List Entry → ℕ
answered [] = 0
answered (e ∷ es) = cond (eqb e.calls 0) 0 1 + answered es

-- the ten boards of crate c
abbrev pub of_crate : ℕ → List Entry → List Entry
of_crate c es = take 10 (drop (10 * c) es)

-- "boards that answered; the same for each crate; the four active words as stored when the ping began"
unfoldable pub list_head : FtuList → List ℕ
list_head l =
    answered (take 40 l.entries)
    ∷ answered (of_crate 0 l.entries)
    ∷ answered (of_crate 1 l.entries)
    ∷ answered (of_crate 2 l.entries)
    ∷ answered (of_crate 3 l.entries)
    ∷ get_or l.active 0 0
    ∷ get_or l.active 1 0
    ∷ get_or l.active 2 0
    ∷ get_or l.active 3 0
    ∷ []

-- the 249 words
abbrev pub list_body : FtuList → List ℕ
list_body l = list_head l ++ entry_words_from 0 l.entries
