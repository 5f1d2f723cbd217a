-- `crate_pass::put_twelve` meets its contract. Assumes nothing.
use mathlib.Core.Path.{◌≡◌}
use lib.ListN.{length}
use borrow.Author.Rules.{rules}
use Rattle.crate_pass.proofs.BoardRates.{put-twelve-here}
use Rattle.crate_pass.proofs.put_twelve.Goals as goal

pub returns : goal.returns
returns c =
    let a = c.args in
    let all : length a.words ≡ 120 = search rules in
    let own : length a.twelve ≡ 12 = search rules in
    put-twelve-here a.board a.words a.twelve (search rules) all own c.copy_words.new.dst c.copy_words.ensures
