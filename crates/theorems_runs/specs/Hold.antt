-- Hold: what sets it, what ends it, and how long SUP lasts after a violation.
-- Assumes nothing.
use Rattle.std.specs.Prelude.{◌≡◌, Bool, true, false, not, ◌&&◌, ◌||◌, List, [], ◌∷◌, ◌++◌, ◌↔◌}
use Rattle.rules.specs.Bus.{cpu}
use Rattle.rules.specs.PowerOn.{power_on}
use Rattle.rules.specs.Seen.{segment, translating, cycle}
use Rattle.rules.specs.Runs.{final}
use Rattle.rules.specs.Step.{stepped}
use Rattle.rules.specs.declared.Cycle.{Cycle}
use Rattle.rules.specs.declared.Unit.{Unit}
use Rattle.theorems_runs.specs.Answers.{violation}
use Rattle.theorems_runs.specs.Cycles.{acknowledge, memory_cycle, fetches, software_reset, written}
use Rattle.theorems_runs.specs.Refusal.{admitted}
use Rattle.theorems_runs.specs.Sequences.{◌⇒◌, Every, Along}

-- hold stands
abbrev pub holds : Unit → Bool
holds u = u.registers.notes.hold

-- "Every CPU violation also sets hold."
abbrev pub cpu_violation : Unit → Cycle → Bool
cpu_violation u c = violation u c && cpu c

-- the four that end it, unrefused: "all notes cleared" (reset), "all four notes are cleared" (acknowledge), "own and hold are cleared" (fetch,
-- aborted or not), "Software reset clears [..] the notes"
abbrev pub ends_hold : Unit → Cycle → Bool
ends_hold u c = admitted u c && (c.reset || acknowledge c || fetches c || software_reset c)

-- CLAIM: hold stands after a cycle exactly if the cycle is a CPU violation, or hold stood and the cycle is none of the four. A fetch that
-- violates ends the old hold and sets its own.
abbrev pub HoldExactly : Type 0
HoldExactly = (u : Unit) (c : Cycle) → holds (stepped u c).unit ≡ (cpu_violation u c || not (ends_hold u c) && holds u)

-- a CPU violation came in a run, and nothing that ends hold after it
pub record ViolatedSince (ends : Unit → Cycle → Bool) (u : Unit) (cs : List Cycle) : Type 0 where
  pub earlier : List Cycle
  pub cycle : Cycle
  pub since : List Cycle
  pub run : cs ≡ earlier ++ (cycle ∷ since)
  pub violates : cpu_violation (final u earlier) cycle ≡ true
  pub goes_on : Along (λ v c. ends v c ≡ false) (stepped (final u earlier) cycle).unit since

abbrev pub HistoryUntil : (ends : Unit → Cycle → Bool) → Type 0
HistoryUntil ends = (cs : List Cycle) → (holds (final power_on cs) ≡ true) ↔ ViolatedSince ends power_on cs

-- CLAIM: from power-on hold stands exactly if a CPU violation came since the last of the four.
abbrev pub HoldByHistory : Type 0
HoldByHistory = HistoryUntil ends_hold

-- CLAIM: not exactly if one ever came: hold ends.
abbrev pub HistoryEnds : Type 0
HistoryEnds = HistoryUntil (λ u c. false) → ⊥

-- why SUP is on in a cycle, after others from power-on: this cycle violates, or it is an unrefused CPU memory cycle, no fetch, and a CPU
-- violation came since the last of the four
pub data Why (cs : List Cycle) (c : Cycle) : Type 0 where
  violates_now : violation (final power_on cs) c ≡ true → Why cs c
  violated_before : (admitted (final power_on cs) c && memory_cycle c && cpu c && not (fetches c)) ≡ true
      → ViolatedSince ends_hold power_on cs → Why cs c

-- CLAIM: for every row of a capture, SUP is on exactly for one of these two causes.
abbrev pub SupByHistory : Type 0
SupByHistory = (cs : List Cycle) (c : Cycle) → ((stepped (final power_on cs) c).answer.sup ≡ true) ↔ Why cs c

-- after a fault every unrefused CPU memory cycle is suppressed, until the first of the four; which faults is left open
abbrev pub LastsAfter : (fault : Unit → Cycle → Bool) → Type 0
LastsAfter fault =
    (u : Unit) (c : Cycle) (cs : List Cycle)
    → fault u c ≡ true
    -- none of the four comes unrefused; all else may, and the four where they are refused
    → Along (λ v d. ends_hold v d ≡ false) (stepped u c).unit cs
    → Along (λ v d. (admitted v d && memory_cycle d && cpu d) ⇒ (stepped v d).answer.sup) (stepped u c).unit cs

-- CLAIM: so it is after a CPU violation.
abbrev pub SupLasts : Type 0
SupLasts = LastsAfter cpu_violation

-- CLAIM: not after a violation of DMA: "A DMA violation only turns SUP on for that cycle".
abbrev pub DmaLastsNot : Type 0
DmaLastsNot = LastsAfter violation → ⊥

-- a unit with a read-only segment 0, and a CPU write to it
abbrev pub guarded : Unit
guarded = translating (segment 0 0xFF 0x01)

abbrev pub fault : Cycle
fault = cycle false false false 8 0 0

-- the SUP of a data read of segment 0
abbrev pub suppresses : Unit → Bool
suppresses u = (stepped u (cycle false true false 8 0 0)).answer.sup

-- CLAIM: each of the four does end it: after a CPU violation a read that breaks nothing is suppressed, and no longer after an acknowledge, a
-- reset, a software reset or a fetch. So none of them can be left out above.
abbrev pub EachEndsHold : Type 0
EachEndsHold =
    let held : Unit = (stepped guarded fault).unit in
    (cpu_violation guarded fault ≡ true) × (suppresses held ≡ true)
    × Every (λ c. (ends_hold held c ≡ true) × (suppresses (stepped held c).unit ≡ false))
    (written 4 0x00 0 false ∷ written 0 0x00 0 true ∷ written 3 0x10 0 false ∷ cycle false true false 13 0 0 ∷ [])
