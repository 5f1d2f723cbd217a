-- 02, i: "Add a rate pass over the active boards with code 5". How it begins; its replies and time-ups are those of every pass.
use Rattle.std.specs.Prelude.{◌≡◌, List, [], ◌∷◌}
use Rattle.refusals.specs.Tables.{Answer, given, refused, Rule, rule, lowest, answer_of}
use Rattle.crate_pass.specs.declared.PassKind.TheVariants.{Rates}
use Rattle.four_crates.specs.FourCrates.{in_pass, begun_all}
use Rattle.board.specs.State.{active_words, finished_rates}
use Rattle.board.specs.declared.Board.{Board}
use Rattle.board.specs.declared.BeginResult.{BeginResult}

-- "It may begin while idle or running"; "beginning a pass during another gets 9"
abbrev pub begin_rules : Board → List Rule
begin_rules β = rule 9 (in_pass β.crates) ∷ []

-- the board as a rate pass begins: the rates until then are kept, since a dynamic block has them until this pass is finished
unfoldable pub rates_begun : Board → Board
rates_begun β =
    record {
      identity = β.identity;
      run = β.run;
      block = β.block;
      kind = Rates;
      active = β.active;
      rates = finished_rates β;
      crates = begun_all Rates (active_words β.block) β.crates;
    }

unfoldable pub begin_answer : Board → Answer Unit
begin_answer β = lowest (begin_rules β) tt

-- the board after a begin that got the answer: "No refusal changes the state"
abbrev pub after_begin : Board → Answer Unit → Board
after_begin β (given t) = rates_begun β
after_begin β (refused n p) = β

abbrev pub board_begun : Board → Board
board_begun β = after_begin β (begin_answer β)

-- the board answered r to the begin of a rate pass
pub record Begins (β : Board) (r : BeginResult) : Type 0 where
  pub answer : answer_of r.answer ≡ begin_answer β
  pub board : r.board ≡ board_begun β
