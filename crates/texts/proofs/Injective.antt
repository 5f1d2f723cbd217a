-- Two different responses never print the same, whatever bytes and words stand beside them.
-- Assumes nothing.
use Prim.Native.Nat.{ℕ, zero, suc, ◌+◌, ◌≤◌}
use mathlib.Core.Path.{◌≡◌, refl, sym, ap, ◌∙◌}
use mathlib.Core.Bool.{Bool, true, false}
use mathlib.Core.List.{List, [], ◌∷◌}
use native.Mathlib.Omega.{arith}
use lib.Dec.{eqb}
use lib.ListN.{length, get_or}
use lib.Seq.{length-take-le}
use Rattle.packets.specs.Packets.{bit_of}
use Rattle.packets.specs.declared.Packet as packet
use Rattle.texts.specs.Texts.{Printed, question, numbers, done, served, in_bytes, in_words, block, explanation, response_meaning}
use Rattle.texts.specs.declared.Response.{Response}
use Rattle.texts.specs.declared.Response.TheVariants.{Question, One, Two, Three, Done, Served, Bytes, Words, Packet, Block}

-- how many bytes or words of those beside it a response prints
abbrev size_of : Response → ℕ
size_of Question = 0
size_of (One a) = 0
size_of (Two a b) = 0
size_of (Three a b c) = 0
size_of (Done used c) = 0
size_of (Served o) = 0
size_of (Bytes n) = n
size_of (Words n) = n
size_of (Packet p) = 0
size_of (Block h n) = n

abbrev is_set : ℕ → Bool
is_set x = eqb x 1

abbrev packet_of : List ℕ → packet.Packet
packet_of l =
    record {
      number = get_or l 0 0;
      fields =
          record {
            n = get_or l 1 0;
            external1 = is_set (get_or l 2 0);
            external2 = is_set (get_or l 3 0);
            tim_source = is_set (get_or l 4 0);
            pulser_setting = get_or l 5 0;
            pedestal = is_set (get_or l 6 0);
            lp2 = is_set (get_or l 7 0);
            lp1 = is_set (get_or l 8 0);
          };
    }

abbrev of_numbers : List ℕ → Response
of_numbers [] = Question
of_numbers (a ∷ []) = One a
of_numbers (a ∷ b ∷ []) = Two a b
of_numbers (a ∷ b ∷ c ∷ []) = Three a b c
of_numbers (a ∷ b ∷ c ∷ d ∷ l) = Packet (packet_of (b ∷ c ∷ d ∷ l))

-- the response that prints it; none prints an explanation
abbrev response_of : Printed → Response
response_of question = Question
response_of (numbers l) = of_numbers l
response_of (done used c) = Done used c
response_of (served o frame) = Served o
response_of (in_bytes l) = Bytes (length l)
response_of (in_words l) = Words (length l)
response_of (block h l) = Block h (length l)
response_of (explanation x) = Question

bit-back : (b : Bool) → is_set (bit_of b) ≡ b
bit-back true = refl
bit-back false = refl

-- with enough bytes and words beside it, what is printed says the response
response-back : (s : Response) (l : List ℕ) → size_of s ≤ length l → response_of (response_meaning s l l) ≡ s
response-back Question l h = refl
response-back (One a) l h = refl
response-back (Two a b) l h = refl
response-back (Three a b c) l h = refl
response-back (Done used c) l h = refl
response-back (Served o) l h = refl
response-back (Bytes n) l h = ap Bytes (length-take-le n l h)
response-back (Words n) l h = ap Words (length-take-le n l h)
response-back (Packet p) l h =
    let f = p.fields in
    rw (bit-back f.external1, bit-back f.external2, bit-back f.tim_source, bit-back f.pedestal, bit-back f.lp2, bit-back f.lp1) refl
response-back (Block h n) l k = ap (Block h) (length-take-le n l k)

abbrev zeros : ℕ → List ℕ
zeros zero = []
zeros (suc n) = 0 ∷ zeros n

length-zeros : (n : ℕ) → length (zeros n) ≡ n
length-zeros zero = refl
length-zeros (suc n) = ap suc (length-zeros n)

pub response-injective : (s t : Response) → ((bytes words : List ℕ) → response_meaning s bytes words ≡ response_meaning t bytes words) → s ≡ t
response-injective s t e =
    let l = zeros (size_of s + size_of t) in
    let n = length-zeros (size_of s + size_of t) in
    sym (response-back s l (omega arith)) ∙ ap response_of (e l l) ∙ response-back t l (omega arith)
