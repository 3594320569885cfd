-- own implies await, and await implies request, in every run from power-on.
-- Assumes nothing.
use mathlib.Core.Path.{refl}
use mathlib.Core.Bool.{Bool, false≢true}
use Prim.Native.Nat.{ℕ}
use Rattle.rules.specs.Flags.{lacks}
use Rattle.rules.specs.Masks.{FATL}
use Rattle.rules.specs.PowerOn.{quiet, power_on}
use Rattle.rules.specs.Status.{quieted}
use Rattle.rules.specs.Recording.{first_entry, added, raised, recorded}
use Rattle.rules.specs.Memory.{begun, noted, resumed}
use Rattle.rules.specs.Commands.{restarted}
use Rattle.rules.specs.Step.{after}
use Rattle.rules.specs.declared.Cycle.{Cycle}
use Rattle.rules.specs.declared.Registers.{Registers}
use Rattle.theorems_runs.specs.Notes.{Ordered, NotesOrdered}
use Rattle.theorems_runs.proofs.Runs.{always}
use Rattle.theorems_runs.proofs.Tests.{and_l, or-⇒}
use Rattle.theorems_runs.proofs.Ways.{Became, stayed, controls, empties, clears, restarts, quiets, resumes, begins}
use Rattle.theorems_runs.proofs.Ways.{records, by_row, made}

-- all notes false
quiet_ordered : Ordered quiet
quiet_ordered = record { own = λ z. z; awaits = λ z. z }

recorded_ordered : (r : Registers) (c : Cycle) (event : ℕ) → Ordered r.notes → Ordered (recorded r c event).notes
unfolding first_entry added raised
recorded_ordered r c event h =
    let asks : Bool = lacks r.faults.vtr FATL in
    by_row (λ s. Ordered s.notes) r c event h (λ n p. record { own = λ z. refl; awaits = λ z. refl }) (λ p. h)
    (λ flag p.
    record {
      own = λ z. rw (h.own z);
      awaits = or-⇒ r.notes.awaits r.notes.request asks asks h.awaits (λ z. z);
    })

began_ordered : (r : Registers) (starts : Bool) → Ordered r.notes → Ordered (begun r starts).notes
unfolding begun
began_ordered r starts h = record { own = λ z. h.own (and_l r.notes.own _ z); awaits = h.awaits }

became_ordered : {back wiped : Bool} {c : Cycle} {r s : Registers} → Became back wiped c r s → Ordered r.notes → Ordered s.notes
unfolding restarted quieted resumed noted
became_ordered stayed h = h
became_ordered (controls k f) h = h
became_ordered (empties w) h = h
became_ordered (clears flag f) h = h
became_ordered (restarts mr f w) h = quiet_ordered
became_ordered (quiets f) h = quiet_ordered
became_ordered resumes h = record { own = λ z. z; awaits = λ z. absurd (false≢true z) }
became_ordered {r} (begins starts) h = began_ordered r starts h
became_ordered {c} {r} (records starts event small stores holds w) h =
    let k : Ordered (recorded (begun r starts) c event).notes = recorded_ordered (begun r starts) c event (began_ordered r starts h) in
    record { own = k.own; awaits = k.awaits }

pub notes_ordered : NotesOrdered
unfolding after
notes_ordered cs = always (λ u. Ordered u.registers.notes) (λ u c. became_ordered (made u c).became) power_on cs quiet_ordered
