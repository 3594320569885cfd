-- What the trap answer shows, and that a trap line stands until one of three cycles takes it back.
-- Assumes nothing.
use mathlib.Core.Path.{◌≡◌, refl, sym, ◌∙◌}
use mathlib.Core.Bool.{Bool, true, false, true≢false}
use Rattle.rules.specs.Memory.{begun}
use Rattle.rules.specs.Step.{after, stepped}
use Rattle.rules.specs.declared.Cycle.{Cycle}
use Rattle.rules.specs.declared.Registers.{Registers}
use Rattle.rules.specs.declared.Unit.{Unit}
use Rattle.theorems_runs.specs.Trap.{TrapShows, takes_back, TrapStands, EachTakesBack}
use Rattle.theorems_runs.proofs.Computed.{computed}
use Rattle.theorems_runs.proofs.Runs.{kept}
use Rattle.theorems_runs.proofs.Ways.{Became, stayed, controls, empties, clears, restarts, quiets, resumes, begins}
use Rattle.theorems_runs.proofs.Ways.{records, by_row, made}

pub trap_shows : TrapShows
unfolding after
trap_shows u c = (made u c).shown

-- the trap line stands
abbrev Requests : Registers → Type 0
Requests r = r.notes.request ≡ true

became_requests : {back wiped : Bool} {c : Cycle} {r s : Registers} → Became back wiped c r s → back ≡ false → Requests r → Requests s
unfolding computed
became_requests stayed e h = h
became_requests (controls k f) e h = h
became_requests (empties w) e h = h
became_requests (clears flag f) e h = h
became_requests (restarts mr f w) e h = absurd (true≢false (sym f ∙ e))
became_requests (quiets f) e h = absurd (true≢false (sym f ∙ e))
became_requests resumes e h = h
became_requests (begins starts) e h = h
became_requests {c} {r} (records starts event small stores holds w) e h =
    by_row Requests (begun r starts) c event h (λ n p. refl) (λ p. h) (λ flag p. rw h)

request_stands : (u : Unit) (c : Cycle) → takes_back u c ≡ false → Requests u.registers → Requests (stepped u c).unit.registers
unfolding after
request_stands u c = became_requests (made u c).became

pub trap_stands : TrapStands
trap_stands u cs h q =
    (kept (λ u c. takes_back u c ≡ false) (λ u. Requests u.registers) (λ x. x.trap ≡ true)
    (λ u c e h. (trap_shows u c ∙ request_stands u c e h, request_stands u c e h)) cs u q h).0

pub each_takes_back : EachTakesBack
unfolding computed
each_takes_back = ((refl, refl), ((refl, refl), ((refl, refl), refl)))
