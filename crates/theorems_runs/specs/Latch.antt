-- Ticket 8: "a board can latch it". A latch on the board, of one unit: it sees the bus and this unit's trap line, before the lines of several are
-- joined, and neither VTR nor VOFF; and when it has the low byte that the unit keeps.
-- Assumes nothing.
use Rattle.std.specs.Prelude.{◌≡◌, Bool, true, false, cond, not, ◌&&◌, List, [], ◌∷◌, ℕ}
use Rattle.rules.specs.PowerOn.{power_on}
use Rattle.rules.specs.Runs.{final}
use Rattle.rules.specs.Step.{stepped}
use Rattle.rules.specs.declared.Cycle.{Cycle}
use Rattle.rules.specs.declared.Unit.{Unit}
use Rattle.theorems_runs.specs.FirstFault.{clear_vtr, wipes}
use Rattle.theorems_runs.specs.Refusal.{admitted}
use Rattle.theorems_runs.specs.Sequences.{Along}

-- whether it is shut, and the low byte that it has
pub record Latch : Type 0 where
  pub shut : Bool
  pub byte : ℕ

-- The trap line goes on in a cycle: an open latch takes the low byte, and is shut from then on. A cycle that empties the VTR opens it: which that
-- is can be seen on the bus, since from power-on no unit is damaged.
abbrev pub latched_by : (rises wiped : Bool) → (low : ℕ) → Latch → Latch
latched_by true wiped low l = record { shut = true; byte = cond l.shut l.byte low }
latched_by false true low l = record { shut = false; byte = l.byte }
latched_by false false low l = l

abbrev pub rises : Unit → Cycle → Bool
rises u c = not u.registers.notes.request && (stepped u c).answer.trap

-- a latch after a run, by what each cycle does to it
unfoldable pub latch_after : (by : (rises wiped : Bool) → (low : ℕ) → Latch → Latch) → Latch → Unit → List Cycle → Latch
latch_after by l u [] = l
latch_after by l u (c ∷ cs) = latch_after by (by (rises u c) (wipes u c) c.low l) (stepped u c).unit cs

-- such a latch, open at power-on, has the unit's low byte after every run in which the cycles are as said
abbrev pub LatchHas : (by : (rises wiped : Bool) → (low : ℕ) → Latch → Latch) → (May : Unit → Cycle → Type 0) → Type 0
LatchHas by May =
    (cs : List Cycle) → Along May power_on cs
    → (latch_after by (record { shut = false; byte = 0 }) power_on cs).byte ≡ (final power_on cs).registers.low

-- clear VTR comes when the trap line is off: the handler's acknowledge was before it
abbrev pub ClearsLate : Unit → Cycle → Type 0
ClearsLate u c = (admitted u c && clear_vtr c && u.registers.notes.request) ≡ false

-- CLAIM: so a board can keep it, in every run from power-on in which clear VTR comes when the trap line is off.
abbrev pub LatchExact : Type 0
LatchExact = LatchHas latched_by ClearsLate

-- CLAIM: not where clear VTR comes while the line is on: the next fault stores VOFF, and the line, being on, does not go on.
abbrev pub ClearsLateNeeded : Type 0
ClearsLateNeeded = LatchHas latched_by (λ u c. true ≡ true) → ⊥

-- CLAIM: nor by a latch that is never shut: FATL and SWW turn the line on, and VOFF stays.
abbrev pub ShutNeeded : Type 0
ShutNeeded = LatchHas (λ on wiped low l. record { shut = false; byte = cond on low l.byte }) ClearsLate → ⊥
