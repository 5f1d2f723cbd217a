-- `four_crates::put_crate` meets its contract. Assumes nothing.
use mathlib.Core.Path.{◌≡◌}
use lib.ListN.{length}
use Rattle.four_crates.proofs.Rates.{put-here}
use borrow.Author.Rules.{rules}
use Rattle.four_crates.proofs.put_crate.Goals as goal

pub returns : goal.returns
returns c =
    let a = c.args in
    let all : length a.all ≡ 480 = search rules in
    let own : length a.words ≡ 120 = search rules in
    put-here a.c a.all a.words (search rules) all own c.copy_words.new.dst c.copy_words.ensures
