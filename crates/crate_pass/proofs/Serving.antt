-- A reply or a time-up served: a law for each way that a crate moves, and one for each way that it is answered.
-- Assumes nothing.
use Prim.Native.Nat.{ℕ, ◌+◌, ◌<◌, ◌≤◌}
use mathlib.Core.Path.{◌≡◌, refl, sym, ap, ◌∙◌}
use mathlib.Core.Bool.{Bool, true, false, cond}
use mathlib.Core.List.{List, [], ◌++◌}
use lib.Dec.{ltb, leb}
use lib.ListN.{set, length, drop}
use borrow.Author.Tests.{lt-ltb, le-ltb, lt-leb, le-leb}
use Rattle.std.specs.Prelude.{Result, Ok, Err}
use Rattle.refusals.specs.Tables.{Answer, given, refused, answer_of}
use Rattle.refusals.specs.Writing.{output_after, Wrote}
use Rattle.refusals.specs.Refusals.{number_of, place_of}
use Rattle.refusals.specs.declared.Refusal.{Refusal}
use Rattle.refusals.specs.declared.Refusal.TheVariants.{NoSuchCrate, NothingOutstanding, OutputTooShort}
use Rattle.refusals.proofs.Writing.{wrote}
use Rattle.steps.specs.Steps.{step_frame}
use Rattle.steps.proofs.Lengths.{step-length}
use Rattle.steps.specs.declared.Judged.{Judged}
use Rattle.crate_pass.specs.declared.PassKind.{PassKind}
use Rattle.crate_pass.specs.declared.Crate.{Crate}
use Rattle.crate_pass.specs.declared.Place.{Place}
use Rattle.crate_pass.specs.declared.Moved.{Moved}
use Rattle.crate_pass.specs.declared.CrateResult.{CrateResult}
use Rattle.crate_pass.specs.declared.Outcome.{Outcome}
use Rattle.crate_pass.specs.declared.Outcome.TheVariants.{Good, Again, BoardFailed}
use Rattle.crate_pass.specs.Crate.{is_done, counted_frame, placed, advanced, stepped, noted, with_record}
use Rattle.crate_pass.specs.Crate.{with_outcome, says_done, after_good_reply, after_failed_send, moved, unless_refused}
use Rattle.crate_pass.specs.Crate.{served_answer, frame_due, Serves}
use Rattle.crate_pass.specs.CodeShape.{next_place, place_after}
use Rattle.crate_pass.proofs.Answered.{crate_answer, crate_after}

module _ (kind : PassKind) (w : ℕ) (k : Crate) (h : Judged) where
  -- ---- where it leads

  -- where the crate goes on
  abbrev onward : Place
  onward = place_after kind w (record { board = k.board; code = k.code; tries = k.tries }) h.good

  -- `to` and `n`: the place where it goes on, and its number of frames there
  module _ (to : Place) (et : to ≡ onward) (n : ℕ) (en : n ≡ counted_frame to.board k.sent) where
    -- the crate there, with what it keeps of its boards as it was
    abbrev there : Crate
    there =
        record {
          rates = k.rates;
          dna = k.dna;
          calls = k.calls;
          crc_errors = k.crc_errors;
          failed = k.failed;
          sent = n;
          board = to.board;
          code = to.code;
          tries = to.tries;
        }

    abbrev moved_with : (Bool → Outcome) → Crate → Moved
    moved_with outcome state = record { state = state; outcome = outcome (leb 10 to.board) }

    -- a good reply
    pub moved-good : (state : Crate) → state ≡ noted k.board k.code k.tries h there → h.good ≡ true
        → moved_with Good state ≡ moved kind w k h
    unfolding place_after next_place after_good_reply stepped noted advanced placed
    moved-good state es g = rw es (go (ltb k.code 3) refl)
      where
        go : (t : Bool) → ltb k.code 3 ≡ t → moved_with Good (noted k.board k.code k.tries h there) ≡ moved kind w k h
        go true l = rw (en, et) (rw (g, l) refl)
        go false l = rw (en, et) (rw (g, l) refl)

    -- a first or second miss, and a third
    pub moved-again : h.good ≡ false → k.tries < 2 → moved_with Again there ≡ moved kind w k h
    unfolding place_after next_place after_failed_send placed
    moved-again g l = rw (en, et) (rw (g, lt-ltb _ _ l) refl)

    pub moved-failed : h.good ≡ false → 2 ≤ k.tries
        → moved_with BoardFailed
        (record {
          rates = k.rates;
          dna = k.dna;
          calls = k.calls;
          crc_errors = k.crc_errors;
          failed = set k.failed k.board k.code;
          sent = n;
          board = to.board;
          code = to.code;
          tries = to.tries;
        })
        ≡ moved kind w k h
    unfolding place_after next_place after_failed_send with_record advanced placed
    moved-failed g l = rw (en, et) (rw (g, le-ltb _ _ l) refl)

  -- the outcome says whether the crate is then done
  pub moved-done : says_done (moved kind w k h).outcome ≡ is_done (moved kind w k h).state
  unfolding after_good_reply after_failed_send
  moved-done = go h.good (ltb k.tries 2)
    where
      again : Moved
      again = with_outcome Again (placed k k.board k.code (k.tries + 1))

      failed : Moved
      failed = with_outcome BoardFailed (advanced kind w (with_record k))

      go : (t u : Bool) → let m = cond {A = Moved} t (after_good_reply kind w k h) (cond {A = Moved} u again failed) in says_done m.outcome ≡ is_done m.state
      go true u = refl
      go false true = refl
      go false false = refl

  -- ---- what it gets, with the lent bytes

  module _ (lent : List ℕ) where
    -- nothing is outstanding; too few bytes are lent; it is served
    pub answer-none : 10 ≤ k.board → crate_answer kind w k h lent ≡ refused 12 0
    unfolding crate_answer
    answer-none d = rw (le-leb _ _ d) refl

    pub answer-short : k.board < 10 → length lent < 28 → crate_answer kind w k h lent ≡ refused 19 0
    unfolding crate_answer
    answer-short d l = rw (lt-leb _ _ d, lt-ltb _ _ l) refl

    pub answer-moved : k.board < 10 → 28 ≤ length lent → crate_answer kind w k h lent ≡ given (moved kind w k h).outcome
    unfolding crate_answer
    answer-moved d l = rw (lt-leb _ _ d, le-ltb _ _ l) refl

    -- so the crate is as it was, or where the reply leads
    pub after-refused : (n p : ℕ) → crate_answer kind w k h lent ≡ refused n p → crate_after kind w k h lent ≡ k
    unfolding crate_after
    after-refused n p e = ap (λ (a : Answer Outcome). unless_refused a (moved kind w k h).state k) e

    pub after-given : (o : Outcome) → crate_answer kind w k h lent ≡ given o → crate_after kind w k h lent ≡ (moved kind w k h).state
    unfolding crate_after
    after-given o e = ap (λ (a : Answer Outcome). unless_refused a (moved kind w k h).state k) e

    -- ---- the crate of the number c

    module _ (c : ℕ) where
      pub served-high : 3 < c → served_answer kind w c k h lent ≡ refused 11 0
      unfolding served_answer
      served-high l = rw (lt-ltb _ _ l)

      pub served-low : c ≤ 3 → served_answer kind w c k h lent ≡ crate_answer kind w k h lent
      unfolding served_answer crate_answer
      served-low l = rw (le-ltb _ _ l)

      module _ (block : List ℕ) where
        abbrev state_after : Answer Outcome → Crate
        state_after a = unless_refused a (moved kind w k h).state k

        abbrev bytes_after : Answer Outcome → List ℕ
        bytes_after a = output_after a (frame_due block c (moved kind w k h).state) lent

        -- refused, the crate and the bytes are as they were
        serves-refused : (r : CrateResult) (refusal : Refusal) → (r.state ≡ k) × (r.answer ≡ Err refusal)
            → served_answer kind w c k h lent ≡ refused (number_of refusal) (place_of refusal) → Serves kind w block c k h lent r lent
        serves-refused r refusal q e =
            record { answer = ap answer_of q.1 ∙ sym e; state = q.0 ∙ sym (ap state_after e); bytes = sym (ap bytes_after e) }

        module _ (r : CrateResult) where
          pub serves-high : (r.state ≡ k) × (r.answer ≡ Err NoSuchCrate) → 3 < c → Serves kind w block c k h lent r lent
          serves-high q l = serves-refused r NoSuchCrate q (served-high l)

          pub serves-none : (r.state ≡ k) × (r.answer ≡ Err NothingOutstanding) → c ≤ 3 → 10 ≤ k.board
              → Serves kind w block c k h lent r lent
          serves-none q l d = serves-refused r NothingOutstanding q (served-low l ∙ answer-none d)

          pub serves-short : (r.state ≡ k) × (r.answer ≡ Err OutputTooShort) → c ≤ 3 → k.board < 10 → length lent < 28
              → Serves kind w block c k h lent r lent
          serves-short q l d m = serves-refused r OutputTooShort q (served-low l ∙ answer-short d m)

        -- `g`: as the code judged it
        serves-moved : (g : Judged) → g ≡ h → (m : Moved) → m ≡ moved kind w k g → c ≤ 3 → k.board < 10 → 28 ≤ length lent
            → (after : List ℕ) → after ≡ frame_due block c m.state ++ drop (length (frame_due block c m.state)) lent
            → Serves kind w block c k h lent (record { state = m.state; answer = Ok m.outcome }) after
        serves-moved g eg m em l d n after b =
            let e = served-low l ∙ answer-moved d n in
            let q : m ≡ moved kind w k h = em ∙ ap (moved kind w k) eg in
            let s : m.state ≡ (moved kind w k h).state = ap (λ (x : Moved). x.state) q in
            record {
              answer = ap (λ (x : Moved). given x.outcome) q ∙ sym e;
              state = s ∙ sym (ap state_after e);
              bytes = b ∙ ap (λ (x : Crate). frame_due block c x ++ drop (length (frame_due block c x)) lent) s ∙ sym (ap bytes_after e);
            }

-- ---- the frame that is due

pub due-here : (block : List ℕ) (c : ℕ) (k : Crate) → k.board < 10 → frame_due block c k ≡ step_frame block c k.board k.code
unfolding frame_due
due-here block c k d = rw (lt-leb _ _ d)

pub due-none : (block : List ℕ) (c : ℕ) (k : Crate) → 10 ≤ k.board → frame_due block c k ≡ []
unfolding frame_due
due-none block c k d = rw (le-leb _ _ d)

-- where it is written, and there is room, the bytes then begin with it; where none is due, they are left
due-written : (block : List ℕ) (c : ℕ) (k : Crate) (lent f after : List ℕ) (r : Result ℕ Refusal) → k.board < 10 → 28 ≤ length lent
    → f ≡ step_frame block c k.board k.code → Wrote [] f lent r after → after ≡ frame_due block c k ++ drop (length (frame_due block c k)) lent
due-written block c k lent f after r d l e w =
    let size : length f ≡ 28 = ap length e ∙ step-length block c k.board k.code in
    let wrote_it = (wrote [] f lent tt 28 size (f ++ drop 28 lent) l refl).answer in
    w.output
    ∙ ap (λ (a : Answer ℕ). output_after a f lent) (sym wrote_it)
    ∙ ap (λ (x : List ℕ). x ++ drop (length x) lent) (e ∙ sym (due-here block c k d))

due-left : (block : List ℕ) (c : ℕ) (k : Crate) (lent : List ℕ) → 10 ≤ k.board
    → lent ≡ frame_due block c k ++ drop (length (frame_due block c k)) lent
due-left block c k lent d = ap (λ (x : List ℕ). x ++ drop (length x) lent) (sym (due-none block c k d))

-- served, with the next frame, and with none
module _ (kind : PassKind) (w : ℕ) (k : Crate) (h : Judged) (lent : List ℕ) (c : ℕ) (block : List ℕ) (g : Judged) (eg : g ≡ h)
    (m : Moved) (em : m ≡ moved kind w k g) (l : c ≤ 3) (d : k.board < 10) (n : 28 ≤ length lent) where
  pub serves-next : (f after : List ℕ) (r : Result ℕ Refusal) → m.state.board < 10 → f ≡ step_frame block c m.state.board m.state.code
      → Wrote [] f lent r after → Serves kind w block c k h lent (record { state = m.state; answer = Ok m.outcome }) after
  serves-next f after r b e u = serves-moved kind w k h lent c block g eg m em l d n after (due-written block c m.state lent f after r b n e u)

  pub serves-done : 10 ≤ m.state.board → Serves kind w block c k h lent (record { state = m.state; answer = Ok m.outcome }) lent
  serves-done b = serves-moved kind w k h lent c block g eg m em l d n lent (due-left block c m.state lent b)
