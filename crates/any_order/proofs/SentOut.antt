-- What `failure_message` and `ftu_list` answer after any items is what the steps give (`records-given`, `list-given`).
-- Assumes nothing.
use Prim.Native.Nat.{ℕ, zero, suc, ◌<◌, ◌≤◌}
use mathlib.Core.Path.{◌≡◌, refl, sym, ap, ap₂, ◌∙◌, subst}
use mathlib.Core.List.{List, [], ◌∷◌, ◌++◌, map}
use mathlib.Core.Bool.{Bool, true, false, not, ◌&&◌, ◌||◌}
use native.Mathlib.Omega.{arith}
use lib.Dec.{leb}
use lib.ListN.{length, get_or, length-append, length-map}
use borrow.Author.Tests.{leb-false}
use Rattle.std.specs.Prelude.{Result}
use Rattle.refusals.specs.Tables.{Rule, rule}
use Rattle.refusals.proofs.Tables.{Clear}
use Rattle.blocks.specs.Blocks.{failure_body, WroteBlock}
use Rattle.blocks.proofs.Laws.{block-body}
use Rattle.blocks.specs.declared.Header.{Header}
use Rattle.ftu_list.specs.List.{list_body}
use Rattle.ftu_list.specs.declared.Entry.{Entry}
use Rattle.crate_pass.specs.Crate.{entries_in, is_done, clears_list}
use Rattle.crate_pass.proofs.Entries.{begin-keeps-entries}
use Rattle.crate_pass.specs.declared.Crate.{Crate}
use Rattle.four_crates.specs.FourCrates.{in_pass, entries_of, failure, records, record_at}
use Rattle.four_crates.proofs.Entries.{same-list}
use Rattle.board.specs.State.{crate_at}
use Rattle.board.specs.SentOut.{header_of, list_rules, list_of, failure_rules, failed_frame, failure_body_of, SendsList, SendsFailure}
use Rattle.board.specs.declared.Board.{Board}
use Rattle.cells.specs.Order.{only}
use Rattle.any_order.specs.AnyOrder.{Item, item_crate, Begin, write, ping, rates, Accepted, start_of, kind_of, stored_block, word_of, active_of}
use Rattle.any_order.specs.AnyOrder.{begun_board, final}
use Rattle.any_order.specs.AnyOrder.{pass_end, frame_on, pass_on, end_on, all_done}
use Rattle.any_order.specs.AnyOrder.{failures_on, failures, during_pass, record_rules, ping_list, list_after, list_begun}
use Rattle.any_order.proofs.Kept.{found_in, failed_steps, rising-most}
use Rattle.any_order.proofs.Fetch.{frame_in}
use Rattle.any_order.proofs.Runs.{run-list}
use Rattle.any_order.proofs.Begun.{crate_begun, runs-begun}
use Rattle.any_order.proofs.Records.{record_frame, records-are}
use Rattle.any_order.proofs.Lists.{length-end, list-body}
use Rattle.any_order.proofs.OneCrate.{final-is, crate-is, done-is, failed-is, rising-is, boards-are, block-is}
use Rattle.refusals.specs.declared.Refusal.{Refusal}

-- a frame is outstanding on some crate exactly where not all four are done
some-outstanding : (d₀ d₁ d₂ d₃ : Bool) → (not d₀ || not d₁ || not d₂ || not d₃) ≡ not (d₀ && d₁ && d₂ && d₃)
some-outstanding false d₁ d₂ d₃ = refl
some-outstanding true false d₂ d₃ = refl
some-outstanding true true false d₃ = refl
some-outstanding true true true false = refl
some-outstanding true true true true = refl

-- the header says nothing that a pass changes
header-begun : (β : Board) (g : Begin) (cs : List Crate) → header_of (begun_board β g cs) ≡ header_of β
unfolding begun_board
header-begun β (write w) cs = refl
header-begun β (ping w) cs = refl
header-begun β rates cs = refl

module _ (β : Board) (g : Begin) (a : Accepted β g) (xs : List Item) where
  abbrev last : Board
  last = final (start_of β g) xs

  pub in-pass : in_pass last.crates ≡ not (all_done β g xs)
  unfolding in_pass
  in-pass =
      some-outstanding (is_done (crate_at last 0)) (is_done (crate_at last 1)) (is_done (crate_at last 2)) (is_done (crate_at last 3))
      ∙ rw (done-is β g a xs 0 (omega arith), done-is β g a xs 1 (omega arith), done-is β g a xs 2 (omega arith), done-is β g a xs 3 (omega arith))

  pub header_is : header_of last ≡ header_of β
  header_is = ap header_of (final-is β g a xs) ∙ header-begun β g _

  -- ---- the records

  frames-failed : (c : ℕ) → c < 4 → map (frame_in last.block c) (failed_steps (crate_at last c).failed 10) ≡ failures_on β g c xs
  frames-failed c h = ap₂ (λ block ss. map (frame_in block c) ss) (block-is β g a xs) (failed-is β g a xs c h)

  pub failures-are : map (record_frame last.block last.crates) (records last.crates) ≡ failures β g xs
  unfolding failures
  failures-are =
      records-are last.block last.crates
      ∙ ap₂ ◌++◌ (frames-failed 0 (omega arith))
      (ap₂ ◌++◌ (frames-failed 1 (omega arith)) (ap₂ ◌++◌ (frames-failed 2 (omega arith)) (frames-failed 3 (omega arith))))

  record-rules : (n : ℕ) → failure_rules last n ≡ record_rules β g n xs
  record-rules n =
      ap₂ (λ (t : Bool) (m : ℕ). rule 9 t ∷ rule 18 (leb m n) ∷ []) in-pass
      (sym (length-map (records last.crates) (record_frame last.block last.crates)) ∙ ap length failures-are)

  failed-most : (c : ℕ) → c < 4 → length (failures_on β g c xs) ≤ 10
  failed-most c h =
      omega (arith, length-map (end_on β g c xs).failed (frame_on β g c), rising-most 0 (end_on β g c xs).failed (omega arith) (rising-is β g a xs c h))

  pub records-most : length (failures β g xs) ≤ 40
  unfolding failures
  records-most =
      omega (
        arith,
        length-append (failures_on β g 0 xs) (failures_on β g 1 xs ++ (failures_on β g 2 xs ++ failures_on β g 3 xs)),
        length-append (failures_on β g 1 xs) (failures_on β g 2 xs ++ failures_on β g 3 xs),
        length-append (failures_on β g 2 xs) (failures_on β g 3 xs),
        failed-most 0 (omega arith),
        failed-most 1 (omega arith),
        failed-most 2 (omega arith),
        failed-most 3 (omega arith),
      )

  -- ---- the list

  active-is : last.active ≡ active_of β g
  unfolding begun_board
  active-is = ap (λ (γ : Board). γ.active) (final-is β g a xs)

  ten-boards : (c : ℕ) → length (end_on β g c xs).boards ≡ 10
  ten-boards c = length-end (frame_on β g c) (pass_on β g c) (only item_crate c xs)

-- a pass that is no ping leaves it
list_left : (β : Board) (g : Begin) → clears_list (kind_of g) ≡ false → active_of β g ≡ β.active → (a : Accepted β g) (xs : List Item)
    → list_body (list_of (final (start_of β g) xs)) ≡ list_body (list_of β)
list_left β g e active a xs =
    ap₂ (λ (active : List ℕ) (entries : List Entry). list_body (record { active = active; entries = entries }))
    (active-is β g a xs ∙ active)
    (same-list (final (start_of β g) xs).crates β.crates same)
  where
    same : (c : ℕ) → c < 4 → entries_in (crate_at (final (start_of β g) xs) c) ≡ entries_in (crate_at β c)
    same c h =
        ap entries_in (crate-is β g a xs c h)
        ∙ run-list (kind_of g) e (stored_block β g) c (crate_begun β g c) (only item_crate c xs)
        (runs-begun (kind_of g) (word_of (stored_block β g) c) (crate_at β c)).fit
        ∙ begin-keeps-entries (kind_of g) e (word_of (stored_block β g) c) (crate_at β c)

-- a ping fills it
list-ping : (β : Board) (w : List ℕ) (a : Accepted β (ping w)) (xs : List Item) → list_body (list_of (final (start_of β (ping w)) xs)) ≡ ping_list β (ping w) xs
unfolding ping_list
list-ping β w a xs =
    ap (λ (active : List ℕ). list_body (record { active = active; entries = entries_of (last β (ping w) a xs).crates })) (active-is β (ping w) a xs)
    ∙ list-body (last β (ping w) a xs).crates ten (word 0) (word 1) (word 2) (word 3)
    ∙ rw (boards 0 (omega arith), boards 1 (omega arith), boards 2 (omega arith), boards 3 (omega arith))
  where
    word : ℕ → ℕ
    word c = word_of β.block c

    boards : (c : ℕ) → c < 4 → map found_in (entries_in (crate_at (last β (ping w) a xs) c)) ≡ (end_on β (ping w) c xs).boards
    boards c h = boards-are β (ping w) a xs c h

    ten : (c : ℕ) → c < 4 → length (entries_in (crate_at (last β (ping w) a xs) c)) ≡ 10
    ten c h =
        sym (length-map (entries_in (crate_at (last β (ping w) a xs) c)) found_in) ∙ ap length (boards c h) ∙ ten-boards β (ping w) a xs c

pub list-is : (β : Board) (g : Begin) (a : Accepted β g) (xs : List Item) → list_body (list_of (final (start_of β g) xs)) ≡ list_after β g xs
list-is β (write w) a xs = list_left β (write w) refl refl a xs
list-is β (ping w) a xs = list-ping β w a xs
list-is β rates a xs = list_left β rates refl refl a xs

-- as the pass begins
ping-begun : (β : Board) (w : List ℕ) → ping_list β (ping w) [] ≡ list_begun β (ping w)
unfolding ping_list pass_end only
ping-begun β w = refl

pub list-begun : (β : Board) (g : Begin) → Accepted β g → list_body (list_of (start_of β g)) ≡ list_begun β g
unfolding final
list-begun β (write w) a = list_left β (write w) refl refl a []
list-begun β (ping w) a = list-ping β w a [] ∙ ping-begun β w
list-begun β rates a = list_left β rates refl refl a []

-- ---- as the calls answer it

get_d-mapped : {A : Type 0} (f : A → List ℕ) (l : List A) (n : ℕ) (d : A) → n < length l → f (get_or l n d) ≡ get_or (map f l) n []
get_d-mapped f [] n d h = absurd (omega arith)
get_d-mapped f (x ∷ l) zero d h = refl
get_d-mapped f (x ∷ l) (suc n) d h = get_d-mapped f l n d (omega arith)

module _ (β : Board) (g : Begin) (a : Accepted β g) (xs : List Item) where
  -- the frame of the record with the ordinal n, where there is one
  frame_is : (n : ℕ) → n < length (records (last β g a xs).crates)
      → failed_frame (last β g a xs) (record_at (last β g a xs).crates n) ≡ get_or (failures β g xs) n []
  frame_is n h =
      get_d-mapped (record_frame (last β g a xs).block (last β g a xs).crates) (records (last β g a xs).crates) n (failure 0 0) h
      ∙ ap (λ (fs : List (List ℕ)). get_or fs n []) (failures-are β g a xs)

  body_is : (n : ℕ) → Clear (failure_rules (last β g a xs) n) → failure_body_of (last β g a xs) n ≡ failure_body 3 (get_or (failures β g xs) n [])
  body_is n c = ap (failure_body 3) (frame_is n (leb-false _ _ c.1.0))

  pub records-given : (n : ℕ) (out : List ℕ) (r : Result ℕ Refusal) (after : List ℕ) → SendsFailure (last β g a xs) n out r after
      → WroteBlock (record_rules β g n xs) 29 (header_of β) (failure_body 3 (get_or (failures β g xs) n [])) out r after
  records-given n out r after w =
      let own = failure_rules (last β g a xs) n in
      let body = failure_body 3 (get_or (failures β g xs) n []) in
      let same = block-body own 29 (header_of (last β g a xs)) (failure_body_of (last β g a xs) n) body out r after (body_is n) w in
      subst (λ (rules : List Rule). WroteBlock rules 29 (header_of β) body out r after) (record-rules β g a xs n)
      (subst (λ (h : Header). WroteBlock own 29 h body out r after) (header_is β g a xs) same)

  pub list-given : (out : List ℕ) (r : Result ℕ Refusal) (after : List ℕ) → SendsList (last β g a xs) out r after
      → WroteBlock (during_pass β g xs ∷ []) 249 (header_of β) (list_after β g xs) out r after
  list-given out r after w =
      let own = list_rules (last β g a xs) in
      let same = subst (λ (body : List ℕ). WroteBlock own 249 (header_of (last β g a xs)) body out r after) (list-is β g a xs) w in
      subst (λ (t : Bool). WroteBlock (rule 9 t ∷ []) 249 (header_of β) (list_after β g xs) out r after) (in-pass β g a xs)
      (subst (λ (h : Header). WroteBlock own 249 h (list_after β g xs) out r after) (header_is β g a xs) same)
