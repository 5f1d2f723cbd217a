-- `four_crates::rates_of` meets its contract. Assumes nothing.
use Rattle.four_crates.proofs.Rates.{rates-put}
use Rattle.four_crates.proofs.rates_of.Goals as goal

pub returns : goal.returns
returns c =
    rates-put c.args.crates _ _ _ _
    c.put_crate-one.ensures c.put_crate-two.ensures c.put_crate-three.ensures c.put_crate.ensures
