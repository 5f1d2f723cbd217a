-- 01, Slow control, and 02, g and i: when a reply is good for a frame sent, and what a good reply to a ping and one with rates carry.
use Rattle.std.specs.Prelude.{ℕ, zero, suc, ◌+◌, ◌*◌, ◌^◌, Bool, true, cond, ◌&&◌, List, [], ◌∷◌, ◌++◌, ltb, eqb, length, get_or, take, replicate}
use Rattle.numbers.specs.Numbers.{number, digits, id_limit}
use Rattle.crc.specs.Crc.{crc, frame_start}
use Rattle.replies.specs.declared.PingReply.{PingReply}

-- whether the n bytes of a and b from the place i on are equal
abbrev pub same_from : ℕ → ℕ → List ℕ → List ℕ → Bool
same_from zero i a b = true
same_from (suc n) i a b = eqb (get_or b i 0) (get_or a i 0) && same_from n (suc i) a b

-- "eight bytes of DNA, high first", from byte 5 on
abbrev pub dna_in : List ℕ → ℕ
dna_in r =
    number 256
    (get_or r 5 0 ∷ get_or r 6 0 ∷ get_or r 7 0 ∷ get_or r 8 0 ∷ get_or r 9 0 ∷ get_or r 10 0 ∷ get_or r 11 0 ∷ get_or r 12 0 ∷ [])

-- a frame of zeros
abbrev pub zeros : List ℕ
zeros = replicate 28 0

-- "for a ping, eight bytes of DNA, high first, below 2^57, then zeros"
abbrev pub ping_data : List ℕ → Bool
ping_data r = ltb (dna_in r) id_limit && same_from 13 13 zeros r

-- 02, i: "five counts (patch 0 to 3, total) of four bytes, high first", from byte 5 on: that of patch p, and the total for p = 4
abbrev pub count_in : List ℕ → ℕ → ℕ
count_in r p = number 256 (get_or r (5 + 4 * p) 0 ∷ get_or r (6 + 4 * p) 0 ∷ get_or r (7 + 4 * p) 0 ∷ get_or r (8 + 4 * p) 0 ∷ [])

abbrev pub count_limit : ℕ
count_limit = 2 ^ 30

-- whether each of the n counts from the pth on is "below 2^30"
abbrev pub counts_below : ℕ → ℕ → List ℕ → Bool
counts_below zero p r = true
counts_below (suc n) p r = ltb (count_in r p) count_limit && counts_below n (suc p) r

-- "five counts .., each below 2^30, then the overflow byte", byte 25, which is free
abbrev pub rate_data : List ℕ → Bool
rate_data r = counts_below 5 0 r

-- "data equal to those sent"; a ping, code 4, and a reply with rates, code 5, have the rules above
unfoldable pub data_right : List ℕ → List ℕ → Bool
data_right sent r = cond (eqb (get_or sent 4 0) 4) (ping_data r) (cond (eqb (get_or sent 4 0) 5) (rate_data r) (same_from 21 5 sent r))

-- "A reply is good exactly if it has 28 bytes, byte 0, the two addresses exchanged, the same code and a right CRC, and data .."
unfoldable pub conditions : List ℕ → List ℕ → List Bool
conditions sent r =
    eqb (length r) 28
    ∷ eqb (get_or r 0 0) 0x40
    ∷ eqb (get_or r 1 0) (get_or sent 2 0)
    ∷ eqb (get_or r 2 0) (get_or sent 1 0)
    ∷ eqb (get_or r 4 0) (get_or sent 4 0)
    ∷ eqb (crc frame_start (take 27 r)) (get_or r 27 0)
    ∷ data_right sent r
    ∷ []

-- whether each of them holds
abbrev pub all_of : List Bool → Bool
all_of [] = true
all_of (t ∷ ts) = t && all_of ts

unfoldable pub good_reply : List ℕ → List ℕ → Bool
good_reply sent r = all_of (conditions sent r)

-- the DNA, and "CRC error byte (the reply's byte 26)"
abbrev pub carried_in : List ℕ → PingReply
carried_in r = record { dna = dna_in r; crc_errors = get_or r 26 0 }

-- a board's twelve words of a dynamic block: "patch 0 to 3 and total, each 30 bits in two words, overflow, CRC errors"; "The CRC error word is byte 26"
-- (02, i)
unfoldable pub rates_in : List ℕ → List ℕ
rates_in r =
    digits 65536 2 (count_in r 0)
    ++ digits 65536 2 (count_in r 1)
    ++ digits 65536 2 (count_in r 2)
    ++ digits 65536 2 (count_in r 3)
    ++ digits 65536 2 (count_in r 4)
    ++ digits 65536 1 (get_or r 25 0)
    ++ digits 65536 1 (get_or r 26 0)
