-- What only the code's shape needs: where a crate goes on, over plain numbers. `moved` of Crate.antt, whose place this is, cites the paper.
use Rattle.std.specs.Prelude.{ℕ, ◌+◌, Bool, cond, ltb}
use Rattle.crate_pass.specs.declared.PassKind.{PassKind}
use Rattle.crate_pass.specs.declared.Place.{Place}
use Rattle.crate_pass.specs.Crate.{next_board, first_code}

-- the first step of the next board
unfoldable pub next_place : PassKind → ℕ → ℕ → Place
next_place kind w b = record { board = next_board kind w (b + 1); code = first_code kind; tries = 0 }

-- after a good reply the next step; after another or none the same again, or the next board
unfoldable pub place_after : PassKind → ℕ → Place → Bool → Place
place_after kind w p good =
    cond good
    (cond (ltb p.code 3) (record { board = p.board; code = p.code + 1; tries = 0 }) (next_place kind w p.board))
    (cond (ltb p.tries 2) (record { board = p.board; code = p.code; tries = p.tries + 1 }) (next_place kind w p.board))
