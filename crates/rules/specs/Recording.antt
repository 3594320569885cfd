-- Document 01, "Recording". What there is to record is one byte, the event: a violation's flags, or PWW for a warning, or 0 for neither.
-- No violation has the flag PWW, so the event tells which of the two it was.
use Rattle.std.specs.Prelude.{Bool, true, false, not, ◌&&◌, ◌||◌, ℕ, ◌%◌, eqb}
use Rattle.rules.specs.Flags.{has, lacks, with, flag_if}
use Rattle.rules.specs.Masks.{SLV, PWW, SWW, FATL, PRIMARY, READ, NORMAL}
use Rattle.rules.specs.Bus.{seven_bits}
use Rattle.rules.specs.Checks.{Findings}
use Rattle.rules.specs.PowerOn.{faults_of, notes_of}
use Rattle.rules.specs.Registers.{with_vtr, with_notes}
use Rattle.rules.specs.declared.Cycle.{Cycle}
use Rattle.rules.specs.declared.Notes.{Notes}
use Rattle.rules.specs.declared.Registers.{Registers}

-- "Recording, CPU only": "its violation flags, or PWW". "A DMA violation [..] never touches VTR or the notes."
abbrev pub event_by : (dma violation warning : Bool) → (flags : ℕ) → ℕ
event_by true violation warning flags = 0
event_by false true warning flags = flags
event_by false false true flags = PWW
event_by false false false flags = 0

unfoldable pub event_of : (dma : Bool) → Findings → ℕ
event_of dma f = event_by dma f.violation f.warning (with f.rights (flag_if f.long SLV))

-- "bits 0 to 3 status, bit 4 set for read, bit 5 set for normal mode, the rest 0"
unfoldable pub bus_status : Cycle → ℕ
bus_status c = with (with (c.status % 16) (flag_if c.read READ)) (flag_if c.normal NORMAL)

-- "its violation flags, or PWW, are added; VSN [..], VOFF and BCSR are stored; own is set; request and await are set."; ticket 2: VSN is the
-- segment's seven bits; ticket 8: "Our cycle is to carry [the low byte] and the unit record is to keep it when VOFF is stored, under the same
-- rows."
unfoldable pub first_entry : Registers → Cycle → (event : ℕ) → Registers
first_entry r c event = record {
  control = r.control;
  faults = faults_of (with r.faults.vtr event) (seven_bits c) c.offset (bus_status c);
  fetched = r.fetched;
  notes = notes_of true true true r.notes.hold;
  low = c.low;
}

-- "flags are added, nothing else; addresses stay"
unfoldable pub added : Registers → (event : ℕ) → Registers
added r event = with_vtr r (with r.faults.vtr event)

-- request and await set where `asks` holds, else as they were
abbrev pub asked : Notes → (asks : Bool) → Notes
asked n asks = notes_of (n.request || asks) (n.awaits || asks) n.own n.hold

-- "FATL is set; request and await only if FATL was clear"; the same of SWW, "with request and await only while FATL is clear"
unfoldable pub raised : Registers → (flag : ℕ) → Registers
raised r flag = with_notes (added r flag) (asked r.notes (lacks r.faults.vtr FATL))

-- "warning in system mode at status %9"
abbrev pub stack_warning : Cycle → (event : ℕ) → Bool
stack_warning c event = eqb event PWW && not c.normal && eqb c.status 9

-- the rows: nothing to record; "No primary flag in VTR"; "A primary flag, and own set"; "A primary flag, own clear, warning in system
-- mode at status %9: if SWW is clear it is set [..]. If SWW stands, nothing."; "A primary flag, own clear, violation" and "The same,
-- any other warning: as for a violation, FATL."
abbrev pub row_of : (nothing first own stack standing : Bool) → Registers → Cycle → (event : ℕ) → Registers
row_of true first own stack standing r c event = r
row_of false true own stack standing r c event = first_entry r c event
row_of false false true stack standing r c event = added r event
row_of false false false true true r c event = r
row_of false false false true false r c event = raised r SWW
row_of false false false false standing r c event = raised r FATL

unfoldable pub recorded : Registers → Cycle → (event : ℕ) → Registers
recorded r c event =
    row_of (eqb event 0) (lacks r.faults.vtr PRIMARY) r.notes.own (stack_warning c event) (has r.faults.vtr SWW)
    r c event
