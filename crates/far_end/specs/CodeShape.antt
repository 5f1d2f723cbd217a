-- What only the code's shape needs: the command and the kind that are asked for, before the words after them are looked at.
use Rattle.std.specs.Prelude.{ℕ, ◌≡◌, List, [], Option, Some, None}
use Rattle.commands.specs.declared.Command.{Command}
use Rattle.commands.specs.declared.Command.TheVariants.{Read, Write, Start, Stop, Ping, CrateReset}
use Rattle.script.specs.Forms.{any_words, found}
use Rattle.far_end.specs.FarEnd.{FarEndOrder, write_command, read_block, other_form, kinds}
use Rattle.block_reader.specs.declared.Kind.{Kind}

-- the words that are a command's block: those of a write
abbrev pub block_taken : Command → List ℕ → List ℕ
block_taken (Read kind) w = []
block_taken Write w = w
block_taken (Start run) w = []
block_taken Stop w = []
block_taken Ping w = []
block_taken (CrateReset c) w = []

-- the order of a command that is asked for, with these words after it
abbrev pub command_order : Option Command → List ℕ → FarEndOrder
command_order (Some c) w = write_command c (block_taken c w)
command_order None w = other_form

-- the order of a kind that is asked for, with these bytes after it
abbrev pub kind_order : Option Kind → List ℕ → FarEndOrder
kind_order (Some k) b = any_words other_form (read_block k) b
kind_order None b = other_form

-- the kind that a byte asks for
abbrev pub AsksKind : ℕ → Option Kind → Type 0
AsksKind k r = (b : List ℕ) → kind_order r b ≡ found other_form kinds k b
