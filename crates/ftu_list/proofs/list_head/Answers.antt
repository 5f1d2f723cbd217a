-- `ftu_list::list_head` meets its contract. Assumes nothing.
use mathlib.Core.List.{[], ◌∷◌}
use lib.ListN.{get_or}
use Rattle.ftu_list.specs.List.{list_head}
use Rattle.ftu_list.proofs.list_head.Goals as goal

pub returns : goal.returns
unfolding list_head
returns c =
    let active = c.args.list.active in
    λ i. c.answered_in.ensures i
    ∷ c.answered_in-2.ensures i
    ∷ c.answered_in-3.ensures i
    ∷ c.answered_in-4.ensures i
    ∷ c.answered_in-5.ensures i
    ∷ get_or active 0 0
    ∷ get_or active 1 0
    ∷ get_or active 2 0
    ∷ get_or active 3 0
    ∷ []
