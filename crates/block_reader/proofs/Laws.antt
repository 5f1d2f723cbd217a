-- The table of refusals of a block that is read, a law for each way that the reader returns.
-- Assumes nothing.
use Prim.Native.Nat.{ℕ, ◌+◌, ◌<◌, ◌≤◌}
use mathlib.Core.Path.{◌≡◌, sym}
use mathlib.Core.Bool.{false}
use mathlib.Core.List.{List, [], ◌∷◌}
use native.Mathlib.Omega.{arith}
use lib.ListN.{length, get_or, drop, length-drop}
use borrow.Author.Tests.{lt-ltb, le-ltb, le-leb, lt-leb, eq-eqb, ne_eqb}
use Rattle.refusals.specs.Tables.{given, refused, lowest}
use Rattle.numbers.specs.Numbers.{id_limit}
use Rattle.bounds.specs.Bounds.{bound_of, measurement_bound, lowest_above, checked_meaning, bounds_answer}
use Rattle.std.specs.Prelude.{Ok}
use Rattle.bounds.proofs.Checked.{Checked, above, row-above, checked-above, checked-within}
use Rattle.blocks.specs.declared.Header.{Header}
use Rattle.block_reader.specs.Reading.{body_length, body_above, header_in, read_rules, block_answer}
use Rattle.block_reader.specs.declared.Kind.{Kind}
use Rattle.block_reader.specs.declared.Kind.TheVariants.{Static, Dynamic, FtuList, Failure}

-- no body is longer than a dynamic block's
pub body-small : (kind : Kind) → body_length kind ≤ 487
body-small Static = omega arith
body-small Dynamic = omega arith
body-small FtuList = omega arith
body-small Failure = omega arith

-- ---- the check of a body, a law for each way that it returns

module _ (body : List ℕ) where
  -- a static body: 8 of all its words
  pub static-body : length body ≡ 436 → bounds_answer bound_of body ≡ lowest (body_above Static body ∷ []) tt
  unfolding bounds_answer
  static-body l = rw l

  -- a dynamic body: three words of on-time, and the check of the measurements after them found r
  module _ (l : length body ≡ 487) (r : Checked) (e : checked_meaning r ≡ bounds_answer measurement_bound (drop 3 body)) where
    rest : length (drop 3 body) ≡ 484
    rest = rw length-drop (omega arith)

    pub dynamic-above : (p : ℕ) → r ≡ above p → (p < 484) × (checked_meaning (above (3 + p)) ≡ lowest (body_above Dynamic body ∷ []) tt)
    dynamic-above p q =
        let a = checked-above measurement_bound (drop 3 body) r e p q in
        let below : p < 484 = rw rest at a.1 in
        let more : 3 + lowest_above measurement_bound 0 (drop 3 body) < 487 = let f = a.0 in omega arith in
        (below, rw a.0 (simp (lt-ltb _ _ more)))

    pub dynamic-within : r ≡ Ok tt → checked_meaning (Ok tt) ≡ lowest (body_above Dynamic body ∷ []) tt
    dynamic-within q =
        let a = checked-within measurement_bound (drop 3 body) r e q in
        let more : 487 ≤ 3 + lowest_above measurement_bound 0 (drop 3 body) = let f = rest in omega arith in
        simp (le-ltb _ _ more)

  -- the other kinds have no bounds
  pub list-body : length body ≡ 249 → checked_meaning (Ok tt) ≡ lowest (body_above FtuList body ∷ []) tt
  list-body l = rw l

  pub failure-body : length body ≡ 29 → checked_meaning (Ok tt) ≡ lowest (body_above Failure body ∷ []) tt
  failure-body l = rw l

-- ---- the reader

module _ (kind : Kind) (w : List ℕ) where
  pub read-6 : (length w ≡ 11 + body_length kind → ⊥) → refused 6 0 ≡ block_answer kind w
  unfolding block_answer read_rules
  read-6 n = simp (ne_eqb _ _ n)

  module _ (l : length w ≡ 11 + body_length kind) where
    -- the check of the body found a word above its bound
    pub read-8 : (r : Checked) → checked_meaning r ≡ lowest (body_above kind (drop 11 w) ∷ []) tt → (p : ℕ) → r ≡ above p
        → refused 8 p ≡ block_answer kind w
    unfolding block_answer read_rules
    read-8 r e p q = let a = row-above (body_above kind (drop 11 w)) r e p q in rw (sym a.2) (simp (eq-eqb _ _ l, a.0))

    -- there is none
    module _ (free : (body_above kind (drop 11 w)).applies ≡ false) (h : Header) (eh : h ≡ header_in w) where
      pub read-20-board : id_limit ≤ h.board_id → refused 20 0 ≡ block_answer kind w
      unfolding block_answer read_rules
      read-20-board b = simp (eq-eqb _ _ l, free, le-leb _ _ (rw eh at b))

      pub read-20-spare : h.board_id < id_limit → (get_or w 10 0 ≡ 0 → ⊥) → refused 20 0 ≡ block_answer kind w
      unfolding block_answer read_rules
      read-20-spare b n = simp (eq-eqb _ _ l, free, lt-leb _ _ (rw eh at b), ne_eqb _ _ n)

      pub read-header : h.board_id < id_limit → get_or w 10 0 ≡ 0 → given h ≡ block_answer kind w
      unfolding block_answer read_rules
      read-header b z = rw eh (simp (eq-eqb _ _ l, free, lt-leb _ _ (rw eh at b), eq-eqb _ _ z))
