-- `exports::ftm_read_command` meets its contract. Assumes nothing.
use mathlib.Core.Path.{ap, ◌∙◌}
use Rattle.refusals.specs.Tables.{answer_number}
use Rattle.exports.specs.Exports.{command_given}
use Rattle.exports.proofs.ftm_read_command.Goals as goal

pub returns : goal.returns
unfolding command_given
returns c = c.number_given.ensures ∙ ap answer_number c.read_command.ensures
