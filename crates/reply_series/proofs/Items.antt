-- A series, item after item. A pass goes by the block, the kind and the crates of a board, and changes the crates alone.
-- Assumes nothing.
use Prim.Native.Nat.{ℕ, suc, ◌+◌, ◌-◌, ◌/◌, ◌<◌, ◌≤◌}
use native.Mathlib.Nat.{add-zero}
use native.Mathlib.Omega.{arith}
use mathlib.Core.Path.{◌≡◌, refl, sym, ap, ap₂, ◌∙◌}
use mathlib.Core.Logic.{inl}
use mathlib.Core.List.{List}
use lib.ListN.{length, get_or, set, take, drop, length-drop}
use Rattle.std.specs.Prelude.{Err}
use Rattle.refusals.specs.declared.Refusal.TheVariants.{NoSuchCrate}
use Rattle.words.proofs.Laws.{part-rest}
use Rattle.configuration.specs.Configuration.{active_word}
use Rattle.steps.specs.declared.Event.{Event}
use Rattle.steps.specs.declared.Event.TheVariants.{Reply, TimeUp}
use Rattle.crate_pass.specs.Crate.{judged_on, Serves}
use Rattle.crate_pass.specs.declared.PassKind.{PassKind}
use Rattle.crate_pass.specs.declared.Crate.{Crate}
use Rattle.crate_pass.specs.declared.CrateResult.{CrateResult}
use Rattle.four_crates.specs.FourCrates.{crate_of}
use Rattle.board.specs.State.{with_crates}
use Rattle.board.specs.SlowControl.{judged_at, Replies}
use Rattle.board.specs.declared.Board.{Board}
use Rattle.board.specs.declared.ReplyResult.{ReplyResult}
use Rattle.board.proofs.Serving.{answer-high, board-high, bytes-refused, judged-at, replies-at}
use Rattle.reply_series.specs.Series.{item_size, good_outcome, counts, SoFar, after_first, after_items, after_all, series_on, Counts, with_pass}
use Rattle.refusals.specs.Tables.{answer_of}

abbrev pub so_far : Board → List ℕ → ℕ → SoFar
so_far β lent number = record { board = β; lent = lent; number = number }

-- one item, and those after it
one_more : (event : Event) (l : List ℕ) → item_size event ≤ length l
    → length l / item_size event ≡ suc (length (drop (item_size event) l) / item_size event)
one_more Reply l h = rw length-drop (omega arith)
one_more TimeUp l h = rw length-drop (omega arith)

-- none is left
none_left : (event : Event) (l : List ℕ) → length l < item_size event → length l / item_size event ≡ 0
none_left Reply l h = omega arith
none_left TimeUp l h = omega arith

-- an item counts once at most, and leaves the rest shorter
pub few-counted : (rest : List ℕ) (size number number' most : ℕ) → 1 ≤ size → size ≤ length rest → number' ≤ number + 1
    → number + length rest ≤ most
    → number' + length (take (length rest - size) (drop size rest)) ≤ most
few-counted rest size number number' most h l o b = rw (part-rest rest size, length-drop) (omega arith)

-- `rest` is left, of items of this size
module _ (event : Event) (size : ℕ) (e : size ≡ item_size event) (rest : List ℕ) where
  -- one more handed in
  next_of : item_size event ≤ length rest → (s : SoFar) → after_all event (after_first event s rest) (drop (item_size event) rest) ≡ after_all event s rest
  unfolding after_all after_items
  next_of l s = sym (ap (λ (n : ℕ). after_items event n s rest) (one_more event rest l))

  -- the next item, on the board β with the bytes `lent`, where `number` counted so far
  module _ (β : Board) (lent : List ℕ) (number : ℕ) (r : ReplyResult) (after : List ℕ)
      (s : Replies β (get_or rest 0 0) (judged_at β (get_or rest 0 0) event (take (size - 1) (drop 1 rest))) lent r after)
      (g : ℕ) (eg : g ≡ counts event (answer_of r.answer)) where
    handed-in : so_far r.board after (number + g) ≡ after_first event (so_far β lent number) rest
    unfolding after_first
    handed-in =
        let t : Replies β (get_or rest 0 0) (judged_at β (get_or rest 0 0) event (take (item_size event - 1) (drop 1 rest))) lent r after = rw e at s in
        let counted = ap (λ (n : ℕ). number + n) (eg ∙ ap (counts event) t.answer) in
        λ i. record { board = t.board i; lent = t.bytes i; number = counted i }

    pub item-turn : size ≤ length rest
        → after_all event (so_far r.board after (number + g)) (take (length rest - size) (drop size rest)) ≡ after_all event (so_far β lent number) rest
    item-turn l =
        ap₂ (after_all event) handed-in (part-rest rest size ∙ ap (λ (n : ℕ). drop n rest) e)
        ∙ next_of (rw e at l) (so_far β lent number)

  -- after the last
  pub items-end : length rest < size → (β : Board) (items lent : List ℕ) (last : SoFar)
      → after_all event last rest ≡ series_on event β items lent → Counts event β items lent last.number last.lent
  unfolding after_items after_all
  items-end l β items lent last inv =
      let all : last ≡ series_on event β items lent = sym (ap (λ (n : ℕ). after_items event n last rest) (none_left event rest (rw e at l))) ∙ inv in
      record { number = ap (λ (s : SoFar). s.number) all; bytes = ap (λ (s : SoFar). s.lent) all }

-- a reply on the crates cs alone, of any board with this block and kind
module _ (block : List ℕ) (kind : PassKind) (cs : List Crate) (rest lent : List ℕ) (number : ℕ) (l : 29 ≤ length rest) where
  abbrev index : ℕ
  index = get_or rest 0 0

  abbrev reply : List ℕ
  reply = take 28 (drop 1 rest)

  -- it leaves these crates, bytes and number
  abbrev GoesOn : List Crate → List ℕ → ℕ → Board → Type 0
  GoesOn cs' lent' number' β =
      after_all Reply (so_far (with_pass β block kind cs') lent' number') (take (length rest - 29) (drop 29 rest))
      ≡ after_all Reply (so_far (with_pass β block kind cs) lent number) rest

  -- there is no such crate
  pub turn-none : 3 < index → (cs' : List Crate) (lent' : List ℕ) (number' : ℕ) → lent' ≡ lent → cs' ≡ cs → number' ≡ number
      → (β : Board) → GoesOn cs' lent' number' β
  turn-none m cs' lent' number' el ec en β =
      let γ = with_pass β block kind cs in
      let h = judged_at γ index Reply reply in
      let e = answer-high γ index h lent m in
      let s : Replies γ index h lent (record { board = γ; answer = Err NoSuchCrate }) lent =
      record { answer = sym e; board = sym (board-high γ index h lent m); bytes = sym (bytes-refused γ index h lent 11 0 e) } in
      rw (el, ec, en ∙ sym (add-zero number)) (item-turn Reply 29 refl rest γ lent number _ lent s 0 refl l)

  pub turn-served : index ≤ 3 → (w : ℕ) → w ≡ active_word block index → (r : CrateResult) (after : List ℕ)
      → Serves kind w block index (crate_of cs index) (judged_on block index (crate_of cs index) Reply reply) lent r after
      → (g : ℕ) → g ≡ good_outcome (answer_of r.answer)
      → (cs' : List Crate) (lent' : List ℕ) (number' : ℕ) → lent' ≡ after → cs' ≡ set cs index r.state → number' ≡ number + g
      → (β : Board) → GoesOn cs' lent' number' β
  unfolding with_pass with_crates
  turn-served m w ew r after s g eg cs' lent' number' el ec en β =
      let γ = with_pass β block kind cs in
      let k = crate_of cs index in
      let t = replies-at γ index (judged_at γ index Reply reply) lent k w (judged_on block index k Reply reply) r after s index (inl refl) m refl
      (judged-at γ index k Reply reply) (λ low. ew) in
      rw (el, ec, en) (item-turn Reply 29 refl rest γ lent number _ after t g eg l)
