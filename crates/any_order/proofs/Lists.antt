-- The FTU list of four crates, ten entries each, has the counts, the active words and the entries that the steps give (`list-body`).
-- Assumes nothing.
use Prim.Native.Nat.{ℕ, zero, suc, ◌+◌, ◌*◌, ◌/◌, ◌%◌, ◌<◌, ◌≤◌}
use mathlib.Core.Path.{◌≡◌, refl, sym, ap, ap₂, ◌∙◌}
use mathlib.Core.List.{List, [], ◌∷◌, ◌++◌, map, append_assoc}
use mathlib.Core.Bool.{Bool, true, false, cond}
use native.Mathlib.Omega.{arith}
use lib.Dec.{eqb}
use lib.ListN.{length, drop, get_or, set, replicate, length-set, drop_of_length-le}
use lib.Seq.{drop-cons}
use Rattle.numbers.specs.Numbers.{digits}
use Rattle.configuration.specs.Configuration.{address_of}
use Rattle.ftu_list.specs.List.{entry_words, entry_words_from, answered, list_head, list_body}
use Rattle.ftu_list.specs.declared.Entry.{Entry}
use Rattle.ftu_list.specs.declared.FtuList.{FtuList}
use Rattle.steps.specs.declared.Judged.{Judged}
use Rattle.crate_pass.specs.Crate.{silent, entries_in}
use Rattle.crate_pass.specs.declared.Crate.{Crate}
use Rattle.four_crates.specs.FourCrates.{crate_of, entry_at, entries_from, entries_of}
use Rattle.any_order.specs.Steps.{Step, judged, Lending, Found, nothing, found, rated, six_words, words_from, how_many, Pass, Result, found_by, react}
use Rattle.any_order.specs.AnyOrder.{Item, pass_end, of_four}
use Rattle.any_order.proofs.Kept.{found_in}
use Rattle.any_order.proofs.Reacting.{react-any}

-- ---- the entries of the list are those of crate 0, then those of 1, 2 and 3

crate-entries : (cs : List Crate) (c n j : ℕ) → j + n ≡ 10 → length (entries_in (crate_of cs c)) ≡ 10
    → entries_from cs n (10 * c + j) ≡ drop j (entries_in (crate_of cs c))
crate-entries cs c zero j h l = sym (drop_of_length-le (entries_in (crate_of cs c)) {i = j} (omega arith))
crate-entries cs c (suc n) j h l =
    let crate : (10 * c + j) / 10 ≡ c = omega arith in
    let board : (10 * c + j) % 10 ≡ j = omega arith in
    let next : suc (10 * c + j) ≡ 10 * c + suc j = omega arith in
    ap₂ (λ (i : ℕ) (b : ℕ). get_or (entries_in (crate_of cs i)) b silent ∷ entries_from cs n (suc (10 * c + j))) crate board
    ∙ ap (λ (k : ℕ). get_or (entries_in (crate_of cs c)) j silent ∷ entries_from cs n k) next
    ∙ ap (λ (es : List Entry). get_or (entries_in (crate_of cs c)) j silent ∷ es) (crate-entries cs c n (suc j) (omega arith) l)
    ∙ sym (drop-cons (entries_in (crate_of cs c)) j silent (omega arith))

-- ---- the counts

answered-append : (xs ys : List Entry) → answered (xs ++ ys) ≡ answered xs + answered ys
answered-append [] ys = omega arith
answered-append (x ∷ xs) ys = let ih = answered-append xs ys in omega arith

-- the boards that answered are those that something was found of
answered-found : (es : List Entry) → answered es ≡ how_many (map found_in es)
answered-found [] = refl
answered-found (e ∷ es) = go (eqb e.calls 0) (answered-found es)
  where
    go : (t : Bool) → answered es ≡ how_many (map found_in es)
        → cond t 0 1 + answered es ≡ how_many (cond t nothing (found e.calls e.dna e.crc_errors) ∷ map found_in es)
    go true ih = omega arith
    go false ih = omega arith

-- ---- the words of the boards

address_is : (c j : ℕ) → c < 4 → j < 10 → address_of ((10 * c + j) / 10) ((10 * c + j) % 10) ≡ 16 * c + j
address_is c j h l =
    let crate : (10 * c + j) / 10 ≡ c = omega arith in
    let board : (10 * c + j) % 10 ≡ j = omega arith in
    ap₂ address_of crate board ∙ (let q : (16 * c + j) % 256 ≡ 16 * c + j = omega arith in q)

six-words : (c j : ℕ) (e : Entry) → c < 4 → j < 10 → entry_words (10 * c + j) e ≡ six_words c j (found_in e)
unfolding entry_words
six-words c j e h l = go (eqb e.calls 0)
  where
    rest : List ℕ
    rest = digits 65536 4 e.dna ++ (e.crc_errors ∷ [])

    address : ℕ
    address = address_of ((10 * c + j) / 10) ((10 * c + j) % 10)

    go : (t : Bool) → cond t (replicate 6 0) ((address + 256 * e.calls) ∷ rest) ≡ six_words c j (cond t nothing (found e.calls e.dna e.crc_errors))
    go true = refl
    go false = ap (λ (n : ℕ). (n + 256 * e.calls) ∷ rest) (address_is c j h l)

crate-words : (c j : ℕ) (es : List Entry) → c < 4 → j + length es ≤ 10 → entry_words_from (10 * c + j) es ≡ words_from c j (map found_in es)
crate-words c j [] h l = refl
crate-words c j (e ∷ es) h l =
    ap₂ ◌++◌ (six-words c j e h (omega arith))
    (ap (λ (k : ℕ). entry_words_from k es) (let q : suc (10 * c + j) ≡ 10 * c + suc j = omega arith in q) ∙ crate-words c (suc j) es h (omega arith))

words_append : (k : ℕ) (xs ys : List Entry) → entry_words_from k (xs ++ ys) ≡ entry_words_from k xs ++ entry_words_from (k + length xs) ys
words_append k [] ys = ap (λ (i : ℕ). entry_words_from i ys) (let q : k ≡ k + 0 = omega arith in q)
words_append k (x ∷ xs) ys =
    ap (λ (ws : List ℕ). entry_words k x ++ ws)
    (words_append (suc k) xs ys
    ∙ ap (λ (i : ℕ). entry_words_from (suc k) xs ++ entry_words_from i ys) (let q : suc k + length xs ≡ k + suc (length xs) = omega arith in q))
    ∙ sym (append_assoc (entry_words k x) (entry_words_from (suc k) xs) (entry_words_from (k + suc (length xs)) ys))

-- ---- a pass keeps ten boards

length_found : (s : Step) (tries : ℕ) (h : Judged) (boards : List Found) → length (found_by s tries h boards) ≡ length boards
unfolding found_by
length_found s tries h boards = go (eqb s.code 4) (eqb s.code 5)
  where
    pinged : Found
    pinged = found (tries + 1) h.dna h.crc_errors

    go : (t u : Bool) → length (cond t (set boards s.board pinged) (cond u (set boards s.board (rated h.rates)) boards)) ≡ length boards
    go true u = simp length-set
    go false true = simp length-set
    go false false = refl

length-once : (frame : Step → List ℕ) (x : Lending) (p : Pass) → length (react frame x p).1.boards ≡ length p.boards
length-once frame x p =
    react-any frame x.1 p (λ (r : Result × Pass). length r.1.boards ≡ length p.boards)
    (record {
      refused = λ n. refl;
      good = λ e s ss q l. length_found s p.tries (judged (frame s) e) p.boards;
      again = λ s ss q l t. refl;
      failed = λ s ss q l. refl;
      fetched = λ s ss q z l. refl;
    })
    x.0

pub length-end : (frame : Step → List ℕ) (p : Pass) (xs : List Item) → length (pass_end frame p xs).boards ≡ length p.boards
unfolding pass_end
length-end frame p [] = refl
length-end frame p (x ∷ xs) = length-end frame (react frame x.1 p).1 xs ∙ length-once frame x.1 p

-- ---- the list's words

module _ (cs : List Crate) (ten : (c : ℕ) → c < 4 → length (entries_in (crate_of cs c)) ≡ 10) where
  abbrev own : ℕ → List Entry
  own c = entries_in (crate_of cs c)

  own-entries : (c : ℕ) → c < 4 → entries_from cs 10 (10 * c) ≡ own c
  own-entries c h =
      ap (entries_from cs 10) (let q : 10 * c ≡ 10 * c + 0 = omega arith in q) ∙ crate-entries cs c 10 0 refl (ten c h)

  split-entries : (m n k : ℕ) → entries_from cs (m + n) k ≡ entries_from cs m k ++ entries_from cs n (k + m)
  split-entries zero n k = ap₂ (entries_from cs) (let e : 0 + n ≡ n = omega arith in e) (let e : k ≡ k + 0 = omega arith in e)
  split-entries (suc m) n k =
      ap (λ (i : ℕ). entries_from cs i k) (let e : suc m + n ≡ suc (m + n) = omega arith in e)
      ∙ ap (λ (es : List Entry). entry_at cs k ∷ es)
      (split-entries m n (suc k) ∙ ap (λ (i : ℕ). entries_from cs m (suc k) ++ entries_from cs n i) (let e : suc k + m ≡ k + suc m = omega arith in e))

  entries-are : entries_of cs ≡ of_four own
  unfolding entries_of
  entries-are =
      split-entries 10 30 0
      ∙ ap₂ ◌++◌ (own-entries 0 (omega arith))
      (split-entries 10 20 10
      ∙ ap₂ ◌++◌ (own-entries 1 (omega arith)) (split-entries 10 10 20 ∙ ap₂ ◌++◌ (own-entries 2 (omega arith)) (own-entries 3 (omega arith))))

  abbrev boards : ℕ → List Found
  boards c = map found_in (own c)

  own-words : (c : ℕ) → c < 4 → entry_words_from (10 * c) (own c) ≡ words_from c 0 (boards c)
  own-words c h =
      ap (λ (k : ℕ). entry_words_from k (own c)) (let q : 10 * c ≡ 10 * c + 0 = omega arith in q)
      ∙ crate-words c 0 (own c) h (let q = ten c h in omega arith)

  -- the words of the boards from crate c on, where those after it are `later`
  words-on : (c : ℕ) (later : List Entry) → c < 4
      → entry_words_from (10 * c) (own c ++ later) ≡ words_from c 0 (boards c) ++ entry_words_from (10 * c + 10) later
  words-on c later h =
      words_append (10 * c) (own c) later
      ∙ ap₂ (λ (ws : List ℕ) (n : ℕ). ws ++ entry_words_from (10 * c + n) later) (own-words c h) (ten c h)

  words_are : entry_words_from 0 (of_four own) ≡ of_four (λ c. words_from c 0 (boards c))
  words_are =
      words-on 0 (own 1 ++ (own 2 ++ own 3)) (omega arith)
      ∙ ap (λ (ws : List ℕ). words_from 0 0 (boards 0) ++ ws)
      (words-on 1 (own 2 ++ own 3) (omega arith)
      ∙ ap (λ (ws : List ℕ). words_from 1 0 (boards 1) ++ ws)
      (words-on 2 (own 3) (omega arith) ∙ ap (λ (ws : List ℕ). words_from 2 0 (boards 2) ++ ws) (own-words 3 (omega arith))))

  -- ---- and its counts

  count_of : (c : ℕ) → c < 4 → answered (entries_from cs 10 (10 * c)) ≡ how_many (boards c)
  count_of c h = ap answered (own-entries c h) ∙ answered-found (own c)

  abbrev in_list : ℕ → List Entry
  in_list k = entries_from cs 10 k

  abbrev count : ℕ → ℕ
  count c = how_many (boards c)

  all-counted : answered (in_list 0 ++ (in_list 10 ++ (in_list 20 ++ in_list 30))) ≡ count 0 + count 1 + count 2 + count 3
  all-counted =
      omega (
        arith,
        answered-append (in_list 0) (in_list 10 ++ (in_list 20 ++ in_list 30)),
        answered-append (in_list 10) (in_list 20 ++ in_list 30),
        answered-append (in_list 20) (in_list 30),
        count_of 0 (omega arith),
        count_of 1 (omega arith),
        count_of 2 (omega arith),
        count_of 3 (omega arith),
      )

  module _ (w₀ w₁ w₂ w₃ : ℕ) where
    abbrev list_with : FtuList
    list_with = record { active = w₀ ∷ w₁ ∷ w₂ ∷ w₃ ∷ []; entries = entries_of cs }

    head-listed : list_head list_with
        ≡ answered (in_list 0 ++ (in_list 10 ++ (in_list 20 ++ in_list 30)))
        ∷ answered (in_list 0) ∷ answered (in_list 10) ∷ answered (in_list 20) ∷ answered (in_list 30) ∷ w₀ ∷ w₁ ∷ w₂ ∷ w₃ ∷ []
    unfolding list_head entries_of
    head-listed = refl

    head-is : list_head list_with ≡ (count 0 + count 1 + count 2 + count 3) ∷ count 0 ∷ count 1 ∷ count 2 ∷ count 3 ∷ w₀ ∷ w₁ ∷ w₂ ∷ w₃ ∷ []
    head-is =
        head-listed
        ∙ (λ i. all-counted i ∷ count_of 0 (omega arith) i ∷ count_of 1 (omega arith) i ∷ count_of 2 (omega arith) i ∷ count_of 3 (omega arith) i
        ∷ w₀ ∷ w₁ ∷ w₂ ∷ w₃ ∷ [])

    pub list-body : list_body list_with
        ≡ (count 0 + count 1 + count 2 + count 3) ∷ count 0 ∷ count 1 ∷ count 2 ∷ count 3
        ∷ ((w₀ ∷ w₁ ∷ w₂ ∷ w₃ ∷ []) ++ of_four (λ c. words_from c 0 (boards c)))
    list-body = ap₂ ◌++◌ head-is (ap (entry_words_from 0) entries-are ∙ words_are)
