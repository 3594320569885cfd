-- The notes in runs from power-on.
-- Assumes nothing.
use Rattle.std.specs.Prelude.{List}
use Rattle.rules.specs.PowerOn.{power_on}
use Rattle.rules.specs.Runs.{final}
use Rattle.rules.specs.declared.Cycle.{Cycle}
use Rattle.rules.specs.declared.Notes.{Notes}
use Rattle.theorems_runs.specs.Sequences.{◌⇒◌}

-- own implies await, and await implies request
pub record Ordered (n : Notes) : Type 0 where
  pub own : n.own ⇒ n.awaits
  pub awaits : n.awaits ⇒ n.request

-- CLAIM: in every run from power-on the notes are in that order.
abbrev pub NotesOrdered : Type 0
NotesOrdered = (cs : List Cycle) → Ordered (final power_on cs).registers.notes
