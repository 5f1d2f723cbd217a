-- Replay script: the letters' table. What a letter and the bytes after it ask of the board, or of the far end.
use Rattle.std.specs.Prelude.{ℕ, Bool, ◌&&◌, List, [], ◌∷◌, leb, eqb, length, get_or, take}
use Prim.Native.Char.{Char, code}
use Rattle.numbers.specs.Numbers.{number}
use Rattle.words.specs.Words.{words_in}
use Rattle.packets.specs.declared.Fields.{Fields}
use Rattle.script.specs.Forms.{taking, one_byte, no_byte, any_words, Row, found}
use Rattle.far_end.specs.FarEnd.{FarEndOrder, read_packet, command_from, block_from}

pub data Order : Type 0 where
  power_up : ℕ → ℕ → Order
  command : List ℕ → Order
  clock_step : ℕ → Order
  trigger : Fields → Order
  reply : ℕ → List ℕ → Order
  time_up : ℕ → Order
  begin_rates : Order
  first_frame : ℕ → Order
  frames_sent : ℕ → Order
  static : Order
  ftu_list : Order
  failure : ℕ → Order
  dynamic : List ℕ → Order
  explain : List ℕ → Order
  far_end : FarEndOrder → Order
  other_form : Order

-- "the flags 00 or 01"
abbrev pub is_flag : ℕ → Bool
is_flag b = leb b 1

abbrev pub are_flags : ℕ → ℕ → ℕ → Bool
are_flags a b c = is_flag a && is_flag b && is_flag c

-- "n, external 1, external 2, TIM source, pulser setting, pedestal, LP2, LP1"
abbrev pub are_fields : List ℕ → Bool
are_fields b =
    eqb (length b) 8
    && are_flags (get_or b 1 0) (get_or b 2 0) (get_or b 3 0)
    && are_flags (get_or b 5 0) (get_or b 6 0) (get_or b 7 0)

abbrev pub fields_from : List ℕ → Fields
fields_from b =
    record {
      n = get_or b 0 0;
      external1 = eqb (get_or b 1 0) 1;
      external2 = eqb (get_or b 2 0) 1;
      tim_source = eqb (get_or b 3 0) 1;
      pulser_setting = get_or b 4 0;
      pedestal = eqb (get_or b 5 0) 1;
      lp2 = eqb (get_or b 6 0) 1;
      lp1 = eqb (get_or b 7 0) 1;
    }

-- "crate byte, then the reply's bytes, any number, none too"
abbrev pub reply_from : List ℕ → Order
reply_from [] = other_form
reply_from (c ∷ bytes) = reply c bytes

-- `P`: "board ID (16), firmware ID (4)", in digits
abbrev pub power_up_order : List ℕ → Order
power_up_order b = taking other_form (eqb (length b) 10) (power_up (number 65536 (take 4 (words_in b))) (get_or (words_in b) 4 0))

-- `K`: "ticks (8)"
abbrev pub clock_order : List ℕ → Order
clock_order b = taking other_form (eqb (length b) 4) (clock_step (number 65536 (words_in b)))

abbrev pub trigger_order : List ℕ → Order
trigger_order b = taking other_form (are_fields b) (trigger (fields_from b))

abbrev pub row : Char → (List ℕ → Order) → Row Order
row c o = record { key = code c; order = o }

abbrev pub letters : List (Row Order)
letters =
    row "P" power_up_order
    ∷ row "C" (any_words other_form command)
    ∷ row "K" clock_order
    ∷ row "G" trigger_order
    ∷ row "R" reply_from
    ∷ row "T" (one_byte other_form time_up)
    ∷ row "B" (no_byte other_form begin_rates)
    ∷ row "F" (one_byte other_form first_frame)
    ∷ row "N" (one_byte other_form frames_sent)
    ∷ row "S" (no_byte other_form static)
    ∷ row "L" (no_byte other_form ftu_list)
    ∷ row "M" (one_byte other_form failure)
    ∷ row "D" (any_words other_form dynamic)
    ∷ row "E" (any_words other_form explain)
    ∷ row "W" (λ b. far_end (command_from b))
    ∷ row "X" (λ b. far_end (read_packet b))
    ∷ row "Y" (λ b. far_end (block_from b))
    ∷ []

-- a letter's order; another letter is another form
unfoldable pub order_of : ℕ → List ℕ → Order
order_of letter b = found other_form letters letter b
