-- One induction over the cycles of a run, for every claim about a single run.
-- Assumes nothing.
use mathlib.Core.Path.{◌≡◌, refl}
use mathlib.Core.Bool.{true}
use mathlib.Core.List.{List, [], ◌∷◌}
use Rattle.rules.specs.Runs.{answers, final, units}
use Rattle.rules.specs.Step.{stepped}
use Rattle.rules.specs.declared.Answer.{Answer}
use Rattle.rules.specs.declared.Cycle.{Cycle}
use Rattle.rules.specs.declared.Unit.{Unit}
use Rattle.theorems_runs.specs.Sequences.{Every, Along}

-- where each cycle is a Q, and each such step keeps P and answers an A, a run does
pub kept : (Q : Unit → Cycle → Type 0) (P : Unit → Type 0) (A : Answer → Type 0)
    → ((u : Unit) (c : Cycle) → Q u c → P u → A (stepped u c).answer × P (stepped u c).unit)
    → (cs : List Cycle) (u : Unit) → Along Q u cs → P u → Every A (answers u cs) × P (final u cs)
unfolding answers final Along
kept Q P A step [] u q p = (refl, p)
kept Q P A step (c ∷ cs) u q p =
    let now : A (stepped u c).answer × P (stepped u c).unit = step u c q.0 p in
    let later : Every A (answers (stepped u c).unit cs) × P (final (stepped u c).unit cs) = kept Q P A step cs _ q.1 now.1 in
    ((now.0, later.0), later.1)

-- what every step keeps, every run keeps
pub always : (P : Unit → Type 0) → ((u : Unit) (c : Cycle) → P u → P (stepped u c).unit) → (u : Unit) (cs : List Cycle) → P u → P (final u cs)
unfolding Along
always P step u cs p =
    (kept (λ u c. true ≡ true) P (λ x. true ≡ true) (λ u c q p. (refl, step u c p)) cs u (along cs u) p).1
  where
    along : (cs : List Cycle) (u : Unit) → Along (λ u c. true ≡ true) u cs
    along [] u = refl
    along (c ∷ cs) u = (refl, along cs (stepped u c).unit)

-- and it holds after each cycle on the way
pub throughout : (P : Unit → Type 0) → ((u : Unit) (c : Cycle) → P u → P (stepped u c).unit) → (u : Unit) (cs : List Cycle) → P u
    → Every P (units u cs)
unfolding units
throughout P step u [] p = refl
throughout P step u (c ∷ cs) p = (step u c p, throughout P step (stepped u c).unit cs (step u c p))
