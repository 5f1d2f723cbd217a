-- `four_crates::entry_of` meets its contract. Assumes nothing.
use mathlib.Core.Path.{◌≡◌}
use native.Mathlib.Omega.{arith}
use lib.ListN.{length}
use borrow.Author.Rules.{rules}
use Rattle.crate_pass.proofs.Entries.{entry_at}
use Rattle.four_crates.proofs.entry_of.Goals as goal

pub returns : goal.returns
returns c =
    let a = c.args in
    let d : length a.own.dna ≡ 10 = search rules in
    let n : length a.own.calls ≡ 10 = search rules in
    let e : length a.own.crc_errors ≡ 10 = search rules in
    entry_at a.own.dna a.own.calls a.own.crc_errors a.board (omega arith) (omega arith) (omega arith)
