-- The registers with some of them as said: the others stay.
use Rattle.std.specs.Prelude.{ℕ}
use Rattle.rules.specs.PowerOn.{faults_of}
use Rattle.rules.specs.declared.Control.{Control}
use Rattle.rules.specs.declared.Notes.{Notes}
use Rattle.rules.specs.declared.Registers.{Registers}

-- MR, SAR and DSCR; "Other commands leave notes alone."
abbrev pub with_control : Registers → Control → Registers
with_control r k = record { control = k; faults = r.faults; fetched = r.fetched; notes = r.notes; low = r.low }

-- the VTR; "addresses stay", the low byte with them
abbrev pub with_vtr : Registers → (vtr : ℕ) → Registers
with_vtr r vtr = record {
  control = r.control;
  faults = faults_of vtr r.faults.vsn r.faults.voff r.faults.bcsr;
  fetched = r.fetched;
  notes = r.notes;
  low = r.low;
}

-- the notes
abbrev pub with_notes : Registers → Notes → Registers
with_notes r n = record { control = r.control; faults = r.faults; fetched = r.fetched; notes = n; low = r.low }

-- ticket 8's low byte
abbrev pub with_low : Registers → (low : ℕ) → Registers
with_low r low = record { control = r.control; faults = r.faults; fetched = r.fetched; notes = r.notes; low = low }
