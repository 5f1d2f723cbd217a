-- `blocks::put_header` meets its contract. Assumes nothing.
use mathlib.Core.Path.{ap, ◌∙◌}
use mathlib.Core.List.{List}
use Prim.Native.Nat.{ℕ, ◌+◌, ◌≤◌}
use lib.ListN.{length}
use Rattle.refusals.specs.declared.Refusal.TheVariants.{OutputTooShort, WrongHeader}
use Rattle.refusals.proofs.Writing.{refused-by, wrote_by}
use Rattle.words.specs.Words.{copied}
use Rattle.words.proofs.Laws.{copied-front}
use Rattle.blocks.specs.Blocks.{header_words}
use Rattle.blocks.proofs.Laws.{length-header, header-19, header-20, header-clear}
use native.Mathlib.Omega.{arith}
use Rattle.blocks.proofs.put_header.Goals as goal

pub returns-then-out-lt11 : goal.returns-then-out-lt11
returns-then-out-lt11 c =
    let a = c.args in
    refused-by _ _ _ OutputTooShort (header-19 a.h (11 + a.body) a.out.now (omega arith))

pub returns-then-out-body : goal.returns-then-out-body
returns-then-out-body c =
    let a = c.args in
    refused-by _ _ _ OutputTooShort (header-19 a.h (11 + a.body) a.out.now (omega arith))

pub returns-then-h-ge-ID_LIMIT : goal.returns-then-h-ge-ID_LIMIT
returns-then-h-ge-ID_LIMIT c =
    let a = c.args in
    refused-by _ _ _ WrongHeader (header-20 a.h (11 + a.body) a.out.now (omega arith) (omega arith))

pub returns : goal.returns
returns c =
    let a = c.args in
    let room : 11 + a.body ≤ length a.out.now = omega arith in
    wrote_by _ (header_words a.h) a.out.now (header-clear a.h (11 + a.body) a.out.now room (omega arith)) 11 (length-header a.h) _
    (copied-front (header_words a.h) a.out.now 11 (length-header a.h) (omega arith)
    (c.copy_words.ensures ∙ ap (λ (l : List ℕ). copied l a.out.now) c.header_words-header.ensures))
