-- What holds of every entry of the FTU list, and of every failure record, in a state that a board reaches (`list-entry`, `failure-record`).
-- Assumes nothing.
use Prim.Native.Nat.{ℕ, ◌/◌, ◌%◌, ◌<◌}
use mathlib.Core.Path.{◌≡◌, sym, ◌∙◌, subst}
use mathlib.Core.Logic.{⊎_elim}
use native.Mathlib.Omega.{arith}
use lib.ListN.{length, get_or}
use borrow.Author.Tests.{lt-ltb}
use Rattle.ftu_list.specs.declared.Entry.{Entry}
use Rattle.crate_pass.specs.Crate.{silent}
use Rattle.crate_pass.specs.Invariant.{IsCode, CallsKept, DnaKept}
use Rattle.crate_pass.specs.declared.Crate.{Crate}
use Rattle.crate_pass.proofs.Entries.{entry, entry_at}
use Rattle.four_crates.specs.FourCrates.{failed_at, records, record_at}
use Rattle.four_crates.specs.declared.Failure.{Failure}
use Rattle.four_crates.proofs.Entries.{entry_of}
use Rattle.four_crates.proofs.Records.{record-any}
use Rattle.board.specs.State.{crate_at}
use Rattle.board.specs.SentOut.{list_of}
use Rattle.board.specs.declared.Board.{Board}
use Rattle.reachable.specs.Reachable.{Reachable}

module _ (β : Board) (h : Reachable β) where
  -- ---- the FTU list

  module _ (k : ℕ) (l : k < 40) where
    abbrev own : Crate
    own = crate_at β (k / 10)

    entry-is : get_or (list_of β).entries k silent ≡ entry (get_or own.dna (k % 10) 0) (get_or own.calls (k % 10) 0) (get_or own.crc_errors (k % 10) 0)
    entry-is =
        let s = h.crates (k / 10) (omega arith) in
        let d = s.length-dna in
        let n = s.length-calls in
        let e = s.length-errors in
        entry_of β.crates k l ∙ sym (entry_at own.dna own.calls own.crc_errors (k % 10) (omega arith) (omega arith) (omega arith))

    -- the entry of board k
    pub list-entry : CallsKept (get_or (list_of β).entries k silent).calls × DnaKept (get_or (list_of β).entries k silent).dna
    list-entry =
        let s = h.crates (k / 10) (omega arith) in
        subst (λ (e : Entry). CallsKept e.calls × DnaKept e.dna) (sym entry-is) (s.calls (k % 10), s.dna (k % 10))

  -- ---- the failure records

  failed-code : (k : ℕ) → k < 40 → (failed_at β.crates k ≡ 0 → ⊥) → IsCode β.kind (failed_at β.crates k)
  unfolding failed_at
  failed-code k l n =
      ⊎_elim (λ z. absurd (n (rw (lt-ltb _ _ l) z))) (λ c. rw (lt-ltb _ _ l) c) ((h.crates (k / 10) (omega arith)).failed (k % 10))

  -- each is of one of the 40 boards, and of a code of the last pass begun
  pub failure-record : (n : ℕ) → n < length (records β.crates) → ((record_at β.crates n).k < 40) × IsCode β.kind (record_at β.crates n).code
  failure-record n l =
      record-any β.crates (λ (f : Failure). (f.k < 40) × IsCode β.kind f.code) (λ k m e. (m, failed-code k m e)) n l
