-- The list of answers, one command at a time, and the turns of the loop that lists them.
-- Assumes nothing.
use Prim.Native.Nat.{ℕ, zero, suc, ◌+◌, ◌*◌, ◌-◌, ◌/◌, ◌%◌, ◌<◌, ◌≤◌}
use mathlib.Core.Path.{◌≡◌, refl, sym, ap, ap₂, ◌∙◌}
use mathlib.Core.Bool.{Bool, true, false, cond, ◌&&◌}
use mathlib.Core.List.{List, [], ◌∷◌, ◌++◌}
use mathlib.Core.Logic.{inl, inr}
use native.Mathlib.Omega.{arith}
use native.Mathlib.Numerals.{add-one}
use lib.Dec.{T, ltb}
use lib.ListN.{length, take, drop, set, get_or, replicate, length-drop, length-replicate}
use lib.Seq.{drop-cons, drop-drop, take_all, take_at, drop-nil}
use borrow.Author.Tests.{ltb-false, lt-ltb, le-ltb}
use Rattle.std.specs.Prelude.{Result}
use Rattle.refusals.specs.Tables.{Answer, given, refused, Rule, answer_number, answer_of}
use Rattle.refusals.specs.Writing.{writing_by, writing_rules, writing, output_after, Wrote}
use Rattle.refusals.proofs.Tables.{Applies, refused-applies, refused-more}
use Rattle.words.specs.Words.{words_in}
use Rattle.words.proofs.Laws.{copy_more}
use Rattle.words.proofs.Bytes.{length-words}
use Rattle.commands.specs.declared.Command.{Command}
use Rattle.command_reader.specs.declared.Taken.{Taken}
use Rattle.command_reader.specs.Reading.{read_rules, command_in, command_answer, used_of}
use Rattle.command_reader.proofs.Used.{used-five, used-fits}
use Rattle.acceptance.specs.Acceptance.{state_rules, decided}
use Rattle.acceptance.specs.declared.Status.{Status}
use Rattle.board.specs.State.{status_of, fresh_board, power_up_answer, board_for}
use Rattle.board.specs.Commands.{board_after, Obeys}
use Rattle.board.specs.declared.Board.{Board}
use Rattle.board.specs.declared.CommandResult.{CommandResult}
use Rattle.stream.specs.Stream.{ran_out, stops, number_for, bytes_after, answers_to, answers_on, listing_from, listed}
use Rattle.stream.specs.declared.Listing.{Listing}
use Rattle.refusals.specs.declared.Refusal.{Refusal}

-- ---- a command that does not stop the listing has at least five words

-- each number of a table is one that stops the listing
abbrev all_stop : List Rule → Bool
all_stop [] = true
all_stop (r ∷ rs) = stops r.number && all_stop rs

both_true : (a b : Bool) → T (a && b) → (a ≡ true) × T b
both_true true b t = (refl, t)
both_true false b t = absurd t

applies-stops : (rs : List Rule) (n p : ℕ) → T (all_stop rs) → Applies rs n p → stops n ≡ true
applies-stops [] n p t h = elim h [ ]
applies-stops (r ∷ rs) n p t (inl h) = ap stops (sym h.1) ∙ (both_true (stops r.number) (all_stop rs) t).0
applies-stops (r ∷ rs) n p t (inr h) = applies-stops rs n p (both_true (stops r.number) (all_stop rs) t).1 h

module _ (w : List ℕ) (s : Status) where
  -- a command that its words refuse
  words-stop : (n p : ℕ) → command_answer w ≡ refused n p → stops (answer_number (decided w s)) ≡ true
  unfolding command_answer decided read_rules
  words-stop n p e =
      ap (λ (a : Answer _). stops (answer_number a)) (refused-more (read_rules w) (state_rules (command_in w) s) _ (command_in w) n p e)
      ∙ applies-stops (read_rules w) n p tt (refused-applies (read_rules w) _ n p e)

  pub five-used : stops (answer_number (decided w s)) ≡ false → 5 ≤ used_of (command_answer w)
  five-used h = go (command_answer w) refl
    where
      go : (a : Answer Taken) → command_answer w ≡ a → 5 ≤ used_of a
      go (given t) e = used-five w t e
      go (refused n p) e = absurd (let z : true ≡ false = sym (words-stop n p e) ∙ h in let y : ◌≡◌ {A = ℕ} 0 1 = cc in omega arith)

-- ---- the words left

pub words_left : (k : ℕ) (bs : List ℕ) → words_in (drop (2 * k) bs) ≡ drop k (words_in bs)
words_left zero bs = refl
words_left (suc k) [] = ap words_in (drop-nil (2 * suc k))
words_left (suc k) (h ∷ []) = let e : 2 * suc k ≡ suc (suc (2 * k)) = omega arith in rw e refl
words_left (suc k) (h ∷ l ∷ bs) = let e : 2 * suc k ≡ suc (suc (2 * k)) = omega arith in rw e (words_left k bs)

-- ---- the answers to what is left

answers-first : (m : ℕ) (β : Board) (bs : List ℕ) → 0 < length bs
    → answers_to (suc m) β bs ≡ number_for β bs ∷ cond (stops (number_for β bs)) [] (answers_to m (ran_out (board_after β (words_in bs))) (bytes_after bs))
unfolding answers_to
answers-first m β [] h = absurd (let z : ⊥ = omega arith in z)
answers-first m β (b ∷ bs) h = refl

answers-none : (m : ℕ) (β : Board) (bs : List ℕ) → length bs ≡ 0 → answers_to m β bs ≡ []
unfolding answers_to
answers-none zero β bs h = refl
answers-none (suc m) β [] h = refl
answers-none (suc m) β (b ∷ bs) h = absurd (let z : ⊥ = omega arith in z)

-- a command that does not stop the listing takes ten bytes or more
ten-taken : (β : Board) (bs : List ℕ) → stops (number_for β bs) ≡ false → length (bytes_after bs) + 10 ≤ length bs
ten-taken β bs s =
    let u = five-used (words_in bs) (status_of β) s in
    let f = used-fits (words_in bs) in
    let l = length-words bs in
    let d : length (bytes_after bs) ≡ length bs - 2 * used_of (command_answer (words_in bs)) = length-drop _ bs in
    omega arith

most-first : (t : Bool) (n left size : ℕ) (rest : List ℕ) → 0 < size → (t ≡ false → left + 10 ≤ size) → 10 * length rest ≤ left + 9
    → 10 * length (n ∷ cond t [] rest) ≤ size + 9
most-first true n left size rest p h ih = omega arith
most-first false n left size rest p h ih = let l = h refl in omega arith

-- so 65,536 bytes have 6,554 answers at most
answers-most : (m : ℕ) (β : Board) (bs : List ℕ) → 10 * length (answers_to m β bs) ≤ length bs + 9
unfolding answers_to
answers-most zero β bs = omega arith
answers-most (suc m) β [] = omega arith
answers-most (suc m) β (b ∷ bs) =
    most-first (stops (number_for β (b ∷ bs))) (number_for β (b ∷ bs)) (length (bytes_after (b ∷ bs))) (length (b ∷ bs)) _ (omega arith)
    (ten-taken β (b ∷ bs))
    (answers-most m _ (bytes_after (b ∷ bs)))

-- nor does it matter how many answers are allowed, from as many as there are bytes on
pub answers-any : (m n : ℕ) (β : Board) (bs : List ℕ) → length bs ≤ m → length bs ≤ n → answers_to m β bs ≡ answers_to n β bs
unfolding answers_to
answers-any zero n β bs h g = sym (answers-none n β bs (omega arith))
answers-any (suc m) zero β bs h g = answers-none (suc m) β bs (omega arith)
answers-any (suc m) (suc n) β [] h g = refl
answers-any (suc m) (suc n) β (b ∷ bs) h g =
    go (stops (number_for β (b ∷ bs))) refl (answers-any m n (ran_out (board_after β (words_in (b ∷ bs)))) (bytes_after (b ∷ bs)))
  where
    go : {l k : List ℕ} (t : Bool) → stops (number_for β (b ∷ bs)) ≡ t → (length (bytes_after (b ∷ bs)) ≤ m → length (bytes_after (b ∷ bs)) ≤ n → l ≡ k)
        → number_for β (b ∷ bs) ∷ cond t [] l ≡ number_for β (b ∷ bs) ∷ cond t [] k
    go true s f = refl
    go false s f = let d = ten-taken β (b ∷ bs) s in ap (λ (l : List ℕ). number_for β (b ∷ bs) ∷ l) (f (omega arith) (omega arith))

-- a list whose part from n on is known
module _ (l : List ℕ) (n x : ℕ) (rest : List ℕ) (e : drop n l ≡ x ∷ rest) where
  part-longer : n < length l
  part-longer = let k : length l - n ≡ suc (length rest) = sym (length-drop n l) ∙ ap length e in omega arith

  part-both : get_or l n 0 ∷ drop (suc n) l ≡ x ∷ rest
  part-both = sym (drop-cons l n 0 part-longer) ∙ e

  part-first : get_or l n 0 ≡ x
  part-first = let q = part-both in cc

  part-after : drop (suc n) l ≡ rest
  part-after = let q = part-both in cc

-- the listing of answers over zeros
drop-replicate : (n m : ℕ) → drop {A = ℕ} n (replicate m 0) ≡ replicate (m - n) 0
drop-replicate zero m = ap (λ (k : ℕ). replicate k 0) (let e : m ≡ m - 0 = omega arith in e)
drop-replicate (suc n) zero = ap (λ (k : ℕ). replicate k 0) (let e : 0 ≡ 0 - suc n = omega arith in e)
drop-replicate (suc n) (suc m) = drop-replicate n m ∙ ap (λ (k : ℕ). replicate k 0) (let e : m - n ≡ suc m - suc n = omega arith in e)

stored-padded : (first n : ℕ) (l answers : List ℕ) → length l ≡ n → answers ≡ take n l ++ drop n (replicate 6554 0)
    → record { first = first; count = n; answers = answers } ≡ listing_from first l
unfolding listing_from
stored-padded first n l answers e q =
    let a : answers ≡ l ++ replicate (6554 - length l) 0 =
    q ∙ ap₂ (λ (x y : List ℕ). x ++ y) (take_all n l (omega arith)) (drop-replicate n 6554 ∙ ap (λ (k : ℕ). replicate (6554 - k) 0) (sym e)) in
    let s = sym e in
    λ i. record { first = first; count = s i; answers = a i }

-- ---- the loop

-- so many commands in bytes are answered, and the words `rest` are left
pub record Answered (bytes : List ℕ) (count : ℕ) (β : Board) (answers rest : List ℕ) : Type 0 where
  -- the words behind them
  pub at : ℕ
  pub words : rest ≡ drop at (words_in bytes)
  pub five : 5 * count ≤ at
  pub within : 2 * at ≤ length bytes
  pub there : count ≤ length (answers_on bytes)
  pub left : drop count (answers_on bytes) ≡ answers_to (length bytes - count) β (drop (2 * at) bytes)
  pub stored : answers ≡ take count (answers_on bytes) ++ drop count (replicate 6554 0)

pub answered-none : (bytes : List ℕ) (β : Board) → β ≡ fresh_board 0 0 → (rest : List ℕ) → rest ≡ words_in bytes → Answered bytes 0 β (replicate 6554 0) rest
unfolding answers_on
answered-none bytes β e rest w =
    record {
      at = 0;
      words = w;
      five = omega arith;
      within = omega arith;
      there = omega arith;
      left = ap₂ (λ (m : ℕ) (γ : Board). answers_to m γ bytes) (let q : length bytes ≡ length bytes - 0 = omega arith in q) (sym e);
      stored = refl;
    }

-- the board that power-up gives for the IDs 0
pub fresh_up : board_for (power_up_answer 0) 0 0 ≡ fresh_board 0 0
unfolding power_up_answer
fresh_up = refl

module _ (bytes : List ℕ) (count : ℕ) (β : Board) (answers rest : List ℕ) (g : Answered bytes count β answers rest) where
  pub length_rest : length rest ≡ length bytes / 2 - g.at
  length_rest = ap length g.words ∙ length-drop g.at (words_in bytes) ∙ ap (λ (k : ℕ). k - g.at) (length-words bytes)

  -- no byte is left
  pub answered-end : length rest + length bytes % 2 ≡ 0 → record { first = 1; count = count; answers = answers } ≡ listing_from 1 (answers_on bytes)
  answered-end h =
      let r = length_rest in
      let w = g.within in
      let e : drop count (answers_on bytes) ≡ [] = g.left ∙ answers-none _ β (drop (2 * g.at) bytes) (length-drop (2 * g.at) bytes ∙ omega arith) in
      let n : length (answers_on bytes) - count ≡ 0 = sym (length-drop count (answers_on bytes)) ∙ ap length e in
      let t = g.there in
      stored-padded 1 count (answers_on bytes) answers (omega arith) g.stored

-- a turn: the board obeys the words that are left, as d says, and its answer's number is n
pub record Turn (bytes : List ℕ) (count : ℕ) (β : Board) (answers rest : List ℕ) (d : CommandResult) (n : ℕ) : Type 0 where
  pub short : length bytes ≤ 65536
  pub before : Answered bytes count β answers rest
  pub more : 0 < length rest + length bytes % 2
  pub obeys : Obeys β rest d
  pub number : n ≡ answer_number (answer_of d.answer)

module _ (bytes : List ℕ) (count : ℕ) (β : Board) (answers rest : List ℕ) (d : CommandResult) (n : ℕ) (t : Turn bytes count β answers rest d n) where
  at : ℕ
  at = t.before.at

  part : List ℕ
  part = drop (2 * at) bytes

  byte_left : 2 * at < length bytes
  unfolding at
  byte_left = let r = length_rest bytes count β answers rest t.before in let w = t.before.within in let m = t.more in omega arith

  words-part : rest ≡ words_in part
  unfolding at part
  words-part = t.before.words ∙ sym (words_left t.before.at bytes)

  number-part : n ≡ number_for β part
  number-part = t.number ∙ ap answer_number t.obeys.answer ∙ ap (λ (v : List ℕ). answer_number (decided v (status_of β))) words-part

  after : List ℕ
  after = answers_to (length bytes - suc count) (ran_out (board_after β (words_in part))) (bytes_after part)

  answers-part : drop count (answers_on bytes) ≡ n ∷ cond (stops n) [] after
  unfolding at part after
  answers-part =
      let f = t.before.five in
      let h : 2 * t.before.at < length bytes = byte_left in
      let e : length bytes - count ≡ suc (length bytes - suc count) = omega arith in
      t.before.left
      ∙ ap (λ (m : ℕ). answers_to m β part) e
      ∙ answers-first (length bytes - suc count) β part (rw (length-drop (2 * t.before.at) bytes) (omega arith))
      ∙ ap (λ (x : ℕ). x ∷ cond (stops x) [] after) (sym number-part)

  -- there is room for n, and it is one of the answers
  pub room : count < 6554
  unfolding at
  room = let f = t.before.five in let h : 2 * t.before.at < length bytes = byte_left in let s = t.short in omega arith

  longer : count < length (answers_on bytes)
  longer = part-longer (answers_on bytes) count n _ answers-part

  stored_more : set answers count n ≡ take (suc count) (answers_on bytes) ++ drop (suc count) (replicate 6554 0)
  stored_more =
      ap (λ (l : List ℕ). set l count n) t.before.stored
      ∙ ap (set (take count (answers_on bytes) ++ drop count (replicate 6554 0)) count) (sym (part-first (answers_on bytes) count n _ answers-part))
      ∙ copy_more (answers_on bytes) (replicate 6554 0) count longer (rw (length-replicate {A = ℕ} 6554 0) room)

  -- it is the last
  pub answered-last : stops n ≡ true → record { first = 1; count = count + 1; answers = set answers count n } ≡ listing_from 1 (answers_on bytes)
  answered-last s =
      let e : drop (suc count) (answers_on bytes) ≡ [] = part-after (answers_on bytes) count n _ answers-part ∙ rw s refl in
      let m : length (answers_on bytes) - suc count ≡ 0 = sym (length-drop (suc count) (answers_on bytes)) ∙ ap length e in
      let l = longer in
      rw (add-one count) (stored-padded 1 (suc count) (answers_on bytes) (set answers count n) (omega arith) stored_more)

  -- there may be others: the listing goes on with the words left that the reader hands back
  module _ (s : stops n ≡ false) (left : List ℕ) (el : left ≡ drop d.used rest) where
    used-enough : 5 ≤ d.used
    used-enough =
        rw t.obeys.used
        (five-used rest (status_of β) (ap (λ (a : Answer Command). stops (answer_number a)) (sym t.obeys.answer) ∙ ap stops (sym t.number) ∙ s))

    used-there : d.used ≤ length rest
    used-there = rw t.obeys.used (used-fits rest)

    -- they are fewer
    pub fewer-left : length left < length rest
    fewer-left =
        let u = used-enough in
        let f = used-there in
        let k : length left ≡ length rest - d.used = ap length el ∙ length-drop d.used rest in
        omega arith

    -- the place after the command
    place_after : 2 * at + 2 * used_of (command_answer (words_in part)) ≡ 2 * (at + d.used)
    place_after =
        let u : d.used ≡ used_of (command_answer (words_in part)) = t.obeys.used ∙ ap (λ (v : List ℕ). used_of (command_answer v)) words-part in
        omega arith

    pub answered-more : (γ : Board) → γ ≡ ran_out d.board → Answered bytes (count + 1) γ (set answers count n) left
    unfolding at part after
    answered-more γ e =
        let f = t.before.five in
        let u = used-enough in
        let v = used-there in
        let r = length_rest bytes count β answers rest t.before in
        let l = longer in
        let eβ : ran_out (board_after β (words_in part)) ≡ γ = sym (e ∙ ap ran_out (t.obeys.board ∙ ap (board_after β) words-part)) in
        let ep : bytes_after part ≡ drop (2 * (at + d.used)) bytes =
        drop-drop (2 * used_of (command_answer (words_in part))) (2 * at) bytes ∙ ap (λ (k : ℕ). drop k bytes) place_after in
        rw (add-one count)
        record {
          at = t.before.at + d.used;
          words = el ∙ ap (drop d.used) t.before.words ∙ drop-drop d.used t.before.at (words_in bytes);
          five = omega arith;
          within = omega arith;
          there = omega arith;
          left = part-after (answers_on bytes) count n _ answers-part ∙ rw s (ap₂ (answers_to (length bytes - suc count)) eβ ep);
          stored = stored_more;
        }

-- ---- the listing of bytes

-- 32,768 words have room for those of 65,536 bytes
pub words-written : (bytes out after : List ℕ) (r : Result ℕ Refusal) → length bytes ≤ 65536 → length out ≡ 32768 → Wrote [] (words_in bytes) out r after
    → take (length bytes / 2) after ≡ words_in bytes
unfolding writing_by writing_rules
words-written bytes out after r short size w =
    let n = length-words bytes in
    let e : writing [] (words_in bytes) out ≡ given (length (words_in bytes)) = simp (le-ltb (length out) (length (words_in bytes)) (omega arith)) in
    ap (take (length bytes / 2)) (w.output ∙ ap (λ (a : Answer ℕ). output_after a (words_in bytes) out) e)
    ∙ take_at (words_in bytes) (drop (length (words_in bytes)) out) (length bytes / 2) n

module _ (bytes : List ℕ) where
  pub listed-long : 65536 < length bytes → record { first = 0; count = 1; answers = set (replicate 6554 0) 0 6 } ≡ listed bytes
  unfolding listed listing_from
  listed-long h = rw (lt-ltb 65536 (length bytes) h) refl

  pub listed-short : length bytes ≤ 65536 → listing_from 1 (answers_on bytes) ≡ listed bytes
  unfolding listed
  listed-short h = rw (le-ltb 65536 (length bytes) h) refl

  -- and there is room for its answers
  most-listed : (listed bytes).count ≤ 6554
  unfolding listed listing_from answers_on
  most-listed = go (ltb 65536 (length bytes)) refl
    where
      go : (t : Bool) → ltb 65536 (length bytes) ≡ t → (cond t (listing_from 0 (6 ∷ [])) (listing_from 1 (answers_on bytes))).count ≤ 6554
      go true h = omega arith
      go false h =
          let s : length bytes ≤ 65536 = ltb-false 65536 (length bytes) h in
          let m = answers-most (length bytes) (fresh_board 0 0) bytes in
          let g : length (answers_on bytes) ≤ 6554 = omega arith in
          g

  least-listed : (listed bytes).first ≤ 1
  unfolding listed listing_from
  least-listed = go (ltb 65536 (length bytes))
    where
      go : (t : Bool) → (cond t (listing_from 0 (6 ∷ [])) (listing_from 1 (answers_on bytes))).first ≤ 1
      go true = omega arith
      go false = omega arith

  module _ (l : Listing) (e : l ≡ listed bytes) where
    pub count-listed : l.count ≤ 6554
    count-listed = rw e most-listed

    pub first-listed : l.first ≤ 1
    first-listed = rw e least-listed
