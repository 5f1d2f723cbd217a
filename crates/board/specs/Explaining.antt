-- 02, c: the explanation of a command on a board.
use Rattle.std.specs.Prelude.{ℕ, List}
use Rattle.run.specs.Run.{is_running}
use Rattle.four_crates.specs.FourCrates.{in_pass}
use Rattle.explanations.specs.Explaining.{activity_of, Explained, explained}
use Rattle.explanations.specs.declared.Present.{Present}
use Rattle.board.specs.declared.Board.{Board}

-- "the present state, with the kind of pass", and what became of the last accepted write, "which the state now keeps"
abbrev pub present_of : Board → Present
present_of β = record { activity = activity_of (is_running β.run) (in_pass β.crates) β.kind; freshness = β.run.freshness }

-- "For a command stream and a state, .. an explanation of its first command"
abbrev pub explained_on : Board → List ℕ → Explained
explained_on β w = explained w (present_of β)
