-- A command's answer: by its words, or by the state; and that it is exactly what the table says.
-- Assumes nothing.
use Prim.Native.Nat.{ℕ, ◌+◌, ◌≤◌}
use mathlib.Core.Path.{◌≡◌, sym, ap, ◌∙◌}
use mathlib.Core.Bool.{false}
use mathlib.Core.List.{List}
use lib.ListN.{length}
use Rattle.std.specs.Prelude.{Result, Err}
use Rattle.refusals.specs.Refusals.{number_of, place_of}
use Rattle.refusals.specs.Tables.{given, lowest, refusal_meaning, answer_of}
use Rattle.refusals.specs.declared.Refusal.{Refusal}
use Rattle.refusals.proofs.Tables.{Clear, Exactly, exactly, clear-more, clear-front, clear-back, given-clear, given-same, clear-given, refused-more}
use Rattle.commands.specs.Commands.{block_length}
use Rattle.commands.specs.declared.Command.{Command}
use Rattle.command_reader.specs.declared.Taken.{Taken}
use Rattle.command_reader.specs.Reading.{taken, read_rules, command_in, command_answer, used_of}
use Rattle.command_reader.proofs.Used.{used-fits}
use Rattle.acceptance.specs.Acceptance.{not_now, state_rules, command_rules, decided, Decides}
use Rattle.acceptance.specs.declared.Status.{Status}

module _ (w : List ℕ) (s : Status) where
  -- 1 to 10, each exactly when its row applies
  pub command-exactly : Exactly (command_rules w s) (command_in w) (decided w s)
  unfolding decided read_rules
  command-exactly = exactly (command_rules w s) (command_in w) tt

  -- the words refuse the command
  pub decides-refused : (r : Refusal) → refusal_meaning r ≡ command_answer w → Decides w s (record { answer = Err r; used = 0 })
  unfolding decided command_answer
  decides-refused r e =
      record {
        answer = sym (refused-more (read_rules w) (state_rules (command_in w) s) _ (command_in w) (number_of r) (place_of r) (sym e));
        used = ap used_of e;
      }

  -- the words name the command c: what is left is the state
  module _ (c : Command) (n : ℕ) (e : command_answer w ≡ given (taken c n)) where
    named : command_in w ≡ c
    unfolding command_answer
    named = ap (λ (t : Taken). t.command) (given-same (read_rules w) _ (taken c n) e)

    pub by_state : decided w s ≡ lowest (state_rules c s) c
    unfolding decided command_answer
    by_state =
        clear-more (read_rules w) (state_rules (command_in w) s) (command_in w) (given-clear (read_rules w) _ (taken c n) e)
        ∙ ap (λ (d : Command). lowest (state_rules d s) d) named

    pub decides-state : (a : Result Command Refusal) → answer_of a ≡ lowest (state_rules c s) c → Decides w s (record { answer = a; used = n })
    decides-state a q = record { answer = q ∙ sym by_state; used = sym (ap used_of e) }

  -- a command that is obeyed is the one that the words name, and no row applies
  module _ (c : Command) (e : decided w s ≡ given c) where
    pub obeyed-named : command_in w ≡ c
    unfolding decided
    obeyed-named = given-same (command_rules w s) (command_in w) c e

    obeyed-clear : Clear (command_rules w s)
    unfolding decided
    obeyed-clear = given-clear (command_rules w s) (command_in w) c e

    pub obeyed-words : Clear (read_rules w)
    obeyed-words = clear-front (read_rules w) (state_rules (command_in w) s) obeyed-clear

    pub obeyed-now : not_now c s ≡ false
    obeyed-now = ap (λ (d : Command). not_now d s) (sym obeyed-named) ∙ (clear-back (read_rules w) (state_rules (command_in w) s) obeyed-clear).0

    -- so it is what reading the words gives
    pub obeyed-read : command_answer w ≡ given (taken c (5 + block_length c))
    unfolding command_answer
    obeyed-read = clear-given (read_rules w) _ obeyed-words ∙ ap (λ (d : Command). given (taken d (5 + block_length d))) obeyed-named

    -- all of its words are there
    pub obeyed-fits : 5 + block_length c ≤ length w
    obeyed-fits = rw obeyed-read at (used-fits w)
