-- Cycles one after another. A refused cycle is a cycle like any other: it leaves the unit, and the run goes on.
use Rattle.std.specs.Prelude.{List, [], ◌∷◌}
use Rattle.rules.specs.Step.{stepped}
use Rattle.rules.specs.declared.Answer.{Answer}
use Rattle.rules.specs.declared.Cycle.{Cycle}
use Rattle.rules.specs.declared.Unit.{Unit}

-- the answers
unfoldable pub answers : Unit → List Cycle → List Answer
answers u [] = []
answers u (c ∷ cs) = (stepped u c).answer ∷ answers (stepped u c).unit cs

-- the unit after all of them
unfoldable pub final : Unit → List Cycle → Unit
final u [] = u
final u (c ∷ cs) = final (stepped u c).unit cs

-- the unit after each of them
unfoldable pub units : Unit → List Cycle → List Unit
units u [] = []
units u (c ∷ cs) = (stepped u c).unit ∷ units (stepped u c).unit cs
