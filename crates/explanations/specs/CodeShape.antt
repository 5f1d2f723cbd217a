-- What only the code's shape needs: a list of numbers as the code hands it on.
use Rattle.std.specs.Prelude.{ℕ, ◌≡◌, List, length}
use Rattle.explanations.specs.Explaining.{in_eight}
use Rattle.explanations.specs.declared.NumberList.{NumberList}

pub record Lists (ns : List ℕ) (l : NumberList) : Type 0 where
  pub count : l.count ≡ length ns
  pub listed : l.listed ≡ in_eight ns
