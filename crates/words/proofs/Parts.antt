-- A part of lent words: a law for each way that it is cut out.
-- Assumes nothing.
use Prim.Native.Nat.{ℕ, ◌+◌, ◌*◌, ◌-◌, ◌<◌, ◌≤◌}
use mathlib.Core.Path.{◌≡◌, refl, sym, ap, ◌∙◌}
use mathlib.Core.List.{List}
use native.Mathlib.Nat.{le_of_lt}
use native.Mathlib.Omega.{arith}
use lib.ListN.{length, take, drop, drop_of_length-le, length-drop}
use lib.Seq.{length-take-le, take_all, take-nil}
use denote.Ref.{Bor}
use borrow.Rule.Slice.Shared.{by_size}
use borrow.Rule.Slice.PartAt.{sl_partˢ}
use Rattle.words.specs.Parts.{words_between, PartOf}
use Rattle.words.proofs.Laws.{part-rest}

module _ (w : Bor (List ℕ)) (start end : ℕ) where
  -- the part from the place a on and before the place e
  cut : (a e : ℕ) → a ≡ length (take start w.now) → take (e - a) (drop a w.now) ≡ words_between start end w.now
      → PartOf w start (words_between start end w.now) (sl_partˢ w (by_size 2 a w.ref_ptr.1) a e)
  cut a e before l =
      record {
        contents = l;
        place =
            let at : by_size 2 a w.ref_ptr.1 ≡ w.ref_ptr.1 + 2 * a = omega arith in
            ap (λ (o : ℕ). (w.ref_ptr.0, o)) (at ∙ ap (λ (k : ℕ). w.ref_ptr.1 + 2 * k) before);
      }

  -- there are no words from the place `start` on
  pub cut-past : length w.now < start
      → PartOf w start (words_between start end w.now) (sl_partˢ w (by_size 2 (length w.now) w.ref_ptr.1) (length w.now) (length w.now))
  cut-past h =
      cut (length w.now) (length w.now) (ap length (sym (take_all start w.now (le_of_lt h))))
      (part-rest w.now (length w.now) ∙ drop_of_length-le w.now {i = length w.now} (omega arith)
      ∙ sym (ap (take (end - start)) (drop_of_length-le w.now {i = start} (le_of_lt h)) ∙ take-nil (end - start)))

  module _ (h : start ≤ length w.now) where
    -- none before the place `end`
    pub cut-none : end < start → PartOf w start (words_between start end w.now) (sl_partˢ w (by_size 2 start w.ref_ptr.1) start start)
    cut-none k =
        let e : start - start ≡ end - start = omega arith in
        cut start start (sym (length-take-le start w.now h)) (ap (λ (n : ℕ). take n (drop start w.now)) e)

    -- all of them are before it
    pub cut-rest : length w.now < end → PartOf w start (words_between start end w.now) (sl_partˢ w (by_size 2 start w.ref_ptr.1) start (length w.now))
    cut-rest k =
        cut start (length w.now) (sym (length-take-le start w.now h))
        (part-rest w.now start ∙ sym (take_all (end - start) (drop start w.now) (rw length-drop (omega arith))))

    -- some are before it and some are not
    pub cut-between : PartOf w start (words_between start end w.now) (sl_partˢ w (by_size 2 start w.ref_ptr.1) start end)
    cut-between = cut start end (sym (length-take-le start w.now h)) refl

-- a part that goes to the end
pub part_to_end : (w : Bor (List ℕ)) (start : ℕ) (part : Bor (List ℕ)) → PartOf w start (words_between start (length w.now) w.now) part
    → PartOf w start (drop start w.now) part
part_to_end w start part p = record { contents = p.contents ∙ part-rest w.now start; place = p.place }
