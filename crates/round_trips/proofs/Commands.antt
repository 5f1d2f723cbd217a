-- Reading what was written gives the command back, its block, and the words after it.
-- Assumes nothing.
use Prim.Native.Nat.{ℕ, zero, suc, ◌+◌, ◌-◌, ◌≤◌}
use mathlib.Core.Path.{◌≡◌, refl, sym, ap, ◌∙◌}
use mathlib.Core.Bool.{false}
use mathlib.Core.List.{List, [], ◌++◌, append-nil}
use native.Mathlib.Omega.{arith}
use lib.ListN.{length, take, length-append}
use lib.Seq.{take_at, drop_at}
use borrow.Author.Tests.{ltb-false}
use Rattle.std.specs.Prelude.{Ok}
use Rattle.refusals.specs.Tables.{given}
use Rattle.refusals.specs.Writing.{writing_rules}
use Rattle.refusals.proofs.Tables.{Clear}
use Rattle.refusals.proofs.Writing.{wrote-front, wrote-clear}
use Rattle.bounds.specs.Bounds.{bound_of}
use Rattle.bounds.proofs.Lent.{lent_length, lent-within}
use Rattle.commands.specs.Commands.{block_length, no_events, is_write, listed_as}
use Rattle.command_reader.specs.Reading.{named_in, spare_set, taken, command_answer, used_of, rest_of, block_of}
use Rattle.command_reader.specs.CodeShape.{FirstWordsRead}
use Rattle.commands.specs.declared.BlockKind.TheVariants.{Static, Dynamic}
use Rattle.commands.specs.declared.RunLength.TheVariants.{Endless, Counted}
use Rattle.commands.specs.declared.Command.{Command}
use Rattle.commands.specs.declared.Command.TheVariants.{Read, Write, Start, Stop, Ping, CrateReset}
use Rattle.command_reader.proofs.Reading.{read-write, read-other}
use Rattle.round_trips.specs.Commands.{ReadsBack}
use Rattle.round_trips.proofs.Fields.{count-back}
use Rattle.command_writer.specs.Writing.{block_for, command_words, write_rules, CountFits, WroteCommand}

module _ (b rest : List ℕ) where
  -- the words of c, with others after them
  abbrev written : Command → List ℕ
  written c = command_words c b ++ rest

  reset-named : (n : ℕ) → n ≤ 3 → named_in (written (CrateReset n)) ≡ given (CrateReset n)
  unfolding listed_as
  reset-named zero h = refl
  reset-named (suc zero) h = refl
  reset-named (suc (suc zero)) h = refl
  reset-named (suc (suc (suc zero))) h = refl
  reset-named (suc (suc (suc (suc n)))) h = absurd (let k : ⊥ = omega arith in k)

  named : (c : Command) → Clear (write_rules c b) → CountFits c → named_in (written c) ≡ given c
  unfolding listed_as
  named (Read Static) k f = refl
  named (Read Dynamic) k f = refl
  named Write k f = refl
  named (Start Endless) k f = refl
  named (Start (Counted x)) k f = ap (λ (y : ℕ). given (Start (Counted y))) (count-back x f)
  named Stop k f = refl
  named Ping k f = refl
  named (CrateReset n) k f = reset-named n (ltb-false _ _ k.0)

  block-long : (c : Command) → Clear (write_rules c b) → length (block_for c b) ≡ block_length c
  block-long (Read kind) k = refl
  block-long Write k = lent_length bound_of 436 b k
  block-long (Start Endless) k = refl
  block-long (Start (Counted x)) k = refl
  block-long Stop k = refl
  block-long Ping k = refl
  block-long (CrateReset n) k = refl

  first-words-read : (c : Command) → Clear (write_rules c b) → CountFits c → FirstWordsRead (written c) (given c)
  first-words-read c k f = record { five = omega arith; first_word = refl; named = named c k f }

  long : (c : Command) → Clear (write_rules c b) → 5 + block_length c ≤ length (written c)
  long c k = let e = block-long c k in rw length-append (omega arith)

  -- a command other than a write
  other : (c : Command) → Clear (write_rules c b) → CountFits c → no_events c ≡ false → is_write c ≡ false
      → given (taken c (5 + block_length c)) ≡ command_answer (written c)
  unfolding spare_set
  other c k f n v = read-other (written c) c (first-words-read c k f) refl (long c k) n (5 + block_length c) refl v

  pub read-written : (c : Command) → Clear (write_rules c b) → CountFits c → given (taken c (5 + block_length c)) ≡ command_answer (written c)
  unfolding spare_set
  read-written (Read kind) k f = other (Read kind) k f refl refl
  read-written Write k f =
      read-write (written Write) Write (first-words-read Write k f) refl (long Write k) refl 441 refl refl
      (rw (take_at b rest 436 (lent_length bound_of 436 b k)) (lent-within bound_of 436 b k))
  read-written (Start Endless) k f = other (Start Endless) k f refl refl
  read-written (Start (Counted x)) k f = other (Start (Counted x)) k f k.0 refl
  read-written Stop k f = other Stop k f refl refl
  read-written Ping k f = other Ping k f refl refl
  read-written (CrateReset n) k f = other (CrateReset n) k f refl refl

  -- ---- its block, and the words after it

  module _ (c : Command) (k : Clear (write_rules c b)) (f : CountFits c) where
    used-back : used_of (command_answer (written c)) ≡ 5 + block_length c
    used-back = sym (ap used_of (read-written c k f))

    pub block_back : block_of (written c) ≡ block_for c b
    block_back =
        rw used-back
        (let e : 5 + block_length c - 5 ≡ block_length c = omega arith in rw e (take_at (block_for c b) rest (block_length c) (block-long c k)))

    pub rest_back : rest_of (written c) ≡ rest
    rest_back = rw used-back (drop_at (command_words c b) rest (5 + block_length c) (let e = block-long c k in omega arith))

-- what the writer wrote to the lent output, as it says how much
pub written_back : (c : Command) (b out after : List ℕ) (n : ℕ) → WroteCommand c b out (Ok n) after → ReadsBack (take n after) c b
written_back c b out after n w =
    let f = w.fits in
    let k = wrote-clear (write_rules c b) (command_words c b) out n after w.wrote in
    let front = wrote-front (writing_rules (write_rules c b) (command_words c b) out) (command_words c b) out n after w.wrote in
    let e : take n after ≡ command_words c b ++ [] = front ∙ sym (append-nil (command_words c b)) in
    let l : length (command_words c b ++ []) ≡ 5 + block_length c = ap length (append-nil (command_words c b)) ∙ (let q = block-long b [] c k in omega arith) in
    rw e
    (record {
      command = sym (read-written b [] c k f) ∙ ap (λ (m : ℕ). given (taken c m)) (sym l);
      block = block_back b [] c k f;
      rest = rest_back b [] c k f;
    })
