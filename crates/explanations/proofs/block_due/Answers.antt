-- `explanations::block_due` meets its contract. Assumes nothing.
use mathlib.Core.Path.{sym, ap, ◌∙◌}
use Rattle.std.specs.Prelude.{Result}
use Rattle.commands.specs.Commands.{block_length}
use Rattle.command_reader.specs.Reading.{command_of}
use Rattle.explanations.proofs.Saying.{block-due}
use Rattle.explanations.proofs.block_due.Goals as goal
use Rattle.refusals.specs.Tables.{answer_of}
use Rattle.refusals.specs.declared.Refusal.{Refusal}
use Rattle.commands.specs.declared.Command.{Command}

pub returns-in-Ok : goal.returns-in-Ok
returns-in-Ok c =
    c.block_length.ensures
    ∙ ap (λ (l : Result Command Refusal). block_length (command_of (answer_of l))) (sym c.in-Ok.is)
    ∙ block-due c.args.words.now _ _ c.word_at.ensures c.word_at-2.ensures
    _ c.listed_as-found.ensures

pub returns-in-Err : goal.returns-in-Err
returns-in-Err c =
    ap (λ (l : Result Command Refusal). block_length (command_of (answer_of l))) (sym c.in-Err.is)
    ∙ block-due c.args.words.now _ _ c.word_at.ensures c.word_at-2.ensures
    _ c.listed_as-found.ensures
