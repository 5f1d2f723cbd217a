-- What only the code's shape needs: the table of sixteen (02, e).
use Rattle.std.specs.Prelude.{ℕ, zero, suc, ◌*◌, List, [], ◌∷◌}
use Rattle.crc.specs.Crc.{crc_bits}

-- n entries from k on: entry k is what four single-bit steps make of a register with k in its high half and 0 in its low half
abbrev pub entries_from : ℕ → ℕ → List ℕ
entries_from k zero = []
entries_from k (suc n) = crc_bits 4 (k * 16) ∷ entries_from (suc k) n

abbrev pub table_of_sixteen : List ℕ
table_of_sixteen = entries_from 0 16
