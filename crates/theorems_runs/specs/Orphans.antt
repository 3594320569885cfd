-- Ticket 11: an orphan is "SWW or FATL or both standing without a primary flag". No machine gets there; a record made by hand may.
-- Assumes nothing.
use Rattle.std.specs.Prelude.{◌≡◌, true, false, List, [], ◌∷◌, ℕ, ◌≤◌, eqb}
use Rattle.rules.specs.Flags.{lacks}
use Rattle.rules.specs.Masks.{PRIMARY}
use Rattle.rules.specs.PowerOn.{power_on}
use Rattle.rules.specs.Refusals.{orphan}
use Rattle.rules.specs.Runs.{answers, final}
use Rattle.rules.specs.Step.{stepped}
use Rattle.rules.specs.declared.Answer.{Answer}
use Rattle.rules.specs.declared.Cycle.{Cycle}
use Rattle.rules.specs.declared.Kind.TheVariants.{Refused}
use Rattle.rules.specs.declared.Stepped.{Stepped}
use Rattle.rules.specs.declared.Unit.{Unit}

-- a unit's VTR
abbrev pub vtr_of : Unit → ℕ
vtr_of u = u.registers.faults.vtr

-- CLAIM: "from power-on no sequence of cycles does, refused ones included".
abbrev pub NoOrphan : Type 0
NoOrphan = (cs : List Cycle) → orphan (vtr_of (final power_on cs)) ≡ false

-- CLAIM: "2 gains this condition and stays first": every cycle, one with the reset line on and one out of its numbers too.
abbrev pub OrphanRefused : Type 0
OrphanRefused = (u : Unit) (c : Cycle) → orphan (vtr_of u) ≡ true → (stepped u c).answer.kind ≡ Refused 2

-- CLAIM: of a byte that is no orphan, "No primary flag in VTR" and "VTR is zero" say the same.
abbrev pub ZeroExactly : Type 0
ZeroExactly = (vtr : ℕ) → vtr ≤ 255 → orphan vtr ≡ false → lacks vtr PRIMARY ≡ eqb vtr 0

-- the answers of a run whose cycles are stepped by other rules
abbrev pub answers_by : (Unit → Cycle → Stepped) → Unit → List Cycle → List Answer
answers_by other u [] = []
answers_by other u (c ∷ cs) = (other u c).answer ∷ answers_by other (other u c).unit cs

-- CLAIM: "take the row out": what rules say of orphans is seen in no run that begins without one, so in none from power-on.
abbrev pub OrphansUnseen : Type 0
OrphansUnseen =
    (other : Unit → Cycle → Stepped)
    -- the other rules may say what they like of an orphan; of all else they say what ours do
    → ((u : Unit) (c : Cycle) → orphan (vtr_of u) ≡ false → other u c ≡ stepped u c)
    → (u : Unit) (cs : List Cycle)
    -- the unit may be damaged otherwise
    → orphan (vtr_of u) ≡ false
    → answers_by other u cs ≡ answers u cs
