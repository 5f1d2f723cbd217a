-- The blocks that a board sends: when the FTU list and a failure record are refused.
-- Assumes nothing.
use Prim.Native.Nat.{ℕ}
use mathlib.Core.Path.{◌≡◌, refl, sym, ap, ◌∙◌}
use mathlib.Core.Bool.{true, false}
use mathlib.Core.List.{List, [], ◌∷◌}
use Rattle.std.specs.Prelude.{Result, Err}
use Rattle.refusals.specs.Refusals.{number_of, place_of}
use Rattle.refusals.specs.Tables.{given, refused, lowest, refusal_meaning}
use Rattle.refusals.specs.declared.Refusal.{Refusal}
use Rattle.refusals.proofs.Tables.{Clear, given-clear, given-same, refused-any}
use Rattle.blocks.specs.Blocks.{failure_body, WroteBlock}
use Rattle.blocks.specs.declared.Header.{Header}
use Rattle.blocks.proofs.Laws.{block-own, block-under}
use Rattle.four_crates.specs.FourCrates.{in_pass, record_at, no_such_record, record_answer}
use Rattle.four_crates.specs.declared.Failure.{Failure}
use Rattle.board.specs.SentOut.{header_of, list_rules, failure_rules, failed_frame, failure_body_of, SendsFailure}
use Rattle.board.specs.declared.Board.{Board}

module _ (β : Board) where
  pub list-9 : in_pass β.crates ≡ true → lowest {A = ℕ} (list_rules β) 0 ≡ refused 9 0
  list-9 e = rw e refl

  pub list-clear : in_pass β.crates ≡ false → Clear (list_rules β)
  list-clear e = (e, tt)

  module _ (n : ℕ) where
    pub failure-9 : in_pass β.crates ≡ true → lowest {A = ℕ} (failure_rules β n) 0 ≡ refused 9 0
    failure-9 e = rw e refl

    module _ (e : in_pass β.crates ≡ false) where
      -- there is no such record
      pub failure-refused : (r : Refusal) → refusal_meaning r ≡ record_answer β.crates n → (out : List ℕ) → SendsFailure β n out (Err r) out
      unfolding record_answer
      failure-refused r q out =
          let rows = no_such_record β.crates n ∷ [] in
          block-own (failure_rules β n) 29 (header_of β) (failure_body_of β n) out r (rw e (refused-any rows _ 0 (number_of r) (place_of r) (sym q)))

      -- the message of the record f is written under the rows 9 and 18, neither of which applies
      pub failure-found : (f : Failure) → given f ≡ record_answer β.crates n → (h : Header) → h ≡ header_of β
          → (frame out after : List ℕ) (r : Result ℕ Refusal) → frame ≡ failed_frame β f
          → WroteBlock [] 29 h (failure_body 3 frame) out r after → SendsFailure β n out r after
      unfolding record_answer
      failure-found f q h eh frame out after r ef w =
          let rows = no_such_record β.crates n ∷ [] in
          let same : f ≡ record_at β.crates n = sym (given-same rows _ f (sym q)) in
          block-under (failure_rules β n) 29 (header_of β) (failure_body_of β n) out r after (e, given-clear rows _ f (sym q))
          (rw (eh, ef ∙ ap (failed_frame β) same) at w)
