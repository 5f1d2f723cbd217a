-- What an obeyed command does to a board.
-- Assumes nothing.
use Prim.Native.Nat.{ℕ}
use mathlib.Core.Path.{◌≡◌, refl, sym, ap, ap₂, ◌∙◌}
use mathlib.Core.Bool.{Bool, true, false, cond}
use mathlib.Core.List.{List, [], ◌∷◌, ◌++◌, append-nil}
use native.Mathlib.Omega.{arith}
use lib.ListN.{length, take, drop, replicate}
use lib.Seq.{take_all}
use types.Run.{OneOf, miss}
use denote.Enum.Declared.{tag_of}
use Rattle.std.specs.Prelude.{Result, Ok, Err}
use Rattle.refusals.specs.Tables.{given, answer_of}
use Rattle.words.specs.Words.{copied}
use Rattle.words.proofs.Laws.{copied-whole}
use Rattle.commands.specs.declared.Command.{Command}
use Rattle.commands.specs.declared.Command.TheVariants.{Read, Write, Start, Stop, CrateReset}
use Rattle.commands.specs.Commands.{is_write}
use Rattle.commands.specs.contracts.Command.{the_type}
use Rattle.commands.proofs.Each.{is-a-write}
use Rattle.refusals.specs.declared.Refusal.{Refusal}
use Rattle.run.specs.Run.{refreshed}
use Rattle.run.specs.declared.Run.{Run}
use Rattle.crate_pass.specs.declared.PassKind.{PassKind}
use Rattle.crate_pass.specs.declared.PassKind.TheVariants.{Reprogramming}
use Rattle.crate_pass.specs.declared.Crate.{Crate}
use Rattle.four_crates.specs.FourCrates.{begun_all}
use Rattle.acceptance.proofs.Deciding.{obeyed-read}
use Rattle.command_reader.specs.Reading.{command_answer, used_of, block_before, block_of}
use Rattle.command_reader.proofs.Used.{length-block}
use Rattle.board.specs.State.{status_of, active_words}
use Rattle.board.specs.Commands.{board_answer, written, pinged, carried_out, after_command, board_after}
use Rattle.board.specs.declared.Board.{Board}

-- a block of 436 words, all of them copied over 436 zeros
pub block-copied : (b : List ℕ) → length b ≡ 436 → copied (take 436 b) (replicate 436 0) ≡ b
block-copied b n =
    ap (λ (l : List ℕ). copied l (replicate 436 0)) (take_all 436 b (omega arith))
    ∙ copied-whole b (replicate 436 0) (omega arith)
    ∙ ap (λ (k : ℕ). b ++ drop k (replicate 436 0)) n
    ∙ append-nil b

-- a command that begins a pass: a write or a ping, by their order
abbrev pub BeginsPass : Command → Type 0
BeginsPass c = OneOf (1 ∷ 4 ∷ []) (tag_of the_type c)

pass-begun : (β : Board) (block : List ℕ) (c : Command) → BeginsPass c → cond (is_write c) (written β block) (pinged β) ≡ carried_out β block c
pass-begun β block (Read kind) o = absurd (miss (1 ∷ 4 ∷ []) 0 tt o)
pass-begun β block Write o = refl
pass-begun β block (Start run) o = absurd (miss (1 ∷ 4 ∷ []) 2 tt o)
pass-begun β block Stop o = absurd (miss (1 ∷ 4 ∷ []) 3 tt o)
pass-begun β block Command.Ping o = refl
pass-begun β block (CrateReset c) o = absurd (miss (1 ∷ 4 ∷ []) 5 tt o)

-- the board β after the answer a to a command whose block is b: a refusal, or the command c
module _ (β : Board) (b : List ℕ) (a : Result Command Refusal) where
  pub after-refusal : (r : Refusal) → a ≡ Err r → β ≡ after_command β b (answer_of a)
  after-refusal r q = ap (λ (x : Result Command Refusal). after_command β b (answer_of x)) (sym q)

  pub after-obeyed : (c d : Command) → a ≡ Ok c → c ≡ d → (after : Board) → after ≡ carried_out β b d → after ≡ after_command β b (answer_of a)
  after-obeyed c d q k after f = f ∙ ap (λ (x : Result Command Refusal). after_command β b (answer_of x)) (sym (q ∙ ap Ok k))

  -- where it begins a pass, t telling which
  pub after-pass : (c : Command) → a ≡ Ok c → BeginsPass c → (t : Bool) → t ≡ is_write c → (after : Board) → after ≡ cond t (written β b) (pinged β)
      → after ≡ after_command β b (answer_of a)
  after-pass c q o t k after f =
      after-obeyed c c q refl after (f ∙ ap (λ (s : Bool). cond s (written β b) (pinged β)) k ∙ pass-begun β b c o)

  -- a write has its block
  pub write-whole : (answer_of a ≡ given Write → length b ≡ 436) → (c : Command) → a ≡ Ok c → (t : Bool) → t ≡ is_write c → t ≡ true → length b ≡ 436
  write-whole h c q t f k = h (ap answer_of q ∙ ap given (is-a-write c (sym f ∙ k)))

-- the answer a to the first command of the words w, which used n of them, and the block b that the reader hands back
module _ (β : Board) (w : List ℕ) (a : Result Command Refusal) (e : answer_of a ≡ board_answer β w) (n : ℕ) (u : n ≡ used_of (command_answer w))
    (b : List ℕ) (p : b ≡ block_before n w) where
  block-is : b ≡ block_of w
  block-is = p ∙ ap (λ (k : ℕ). block_before k w) u

  pub block-whole : answer_of a ≡ given Write → length b ≡ 436
  block-whole q = ap length block-is ∙ length-block w _ (obeyed-read w (status_of β) Write (sym e ∙ q))

  pub after-command : (after : Board) → after ≡ after_command β b (answer_of a) → after ≡ board_after β w
  after-command after f = f ∙ ap₂ (after_command β) block-is e

-- the parts of a board on which a write or a ping began a pass
pub begun-as : (β : Board) (b block words active : List ℕ) (run : Run) (kind : PassKind) (crates : List Crate) (t : Bool)
    → kind ≡ cond t Reprogramming PassKind.Ping → run ≡ cond t (refreshed β.run) β.run → block ≡ cond t b β.block
    → words ≡ active_words block → active ≡ cond t β.active words → crates ≡ begun_all kind words β.crates
    → record { identity = β.identity; run = run; block = block; kind = kind; active = active; rates = β.rates; crates = crates }
    ≡ cond t (written β b) (pinged β)
unfolding written pinged
begun-as β b block words active run kind crates true ek er eb ew ea ec =
    let cs = ec ∙ ap₂ (λ (k : PassKind) (l : List ℕ). begun_all k l β.crates) ek (ew ∙ ap active_words eb) in
    λ i. record { identity = β.identity; run = er i; block = eb i; kind = ek i; active = ea i; rates = β.rates; crates = cs i }
begun-as β b block words active run kind crates false ek er eb ew ea ec =
    let flags = ew ∙ ap active_words eb in
    let cs = ec ∙ ap₂ (λ (k : PassKind) (l : List ℕ). begun_all k l β.crates) ek flags in
    let actives = ea ∙ flags in
    λ i. record { identity = β.identity; run = er i; block = eb i; kind = ek i; active = actives i; rates = β.rates; crates = cs i }
