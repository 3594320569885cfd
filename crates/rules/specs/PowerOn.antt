-- Document 01, "What the unit is given, what it keeps": a unit by what it keeps, and the unit at power-on. The types are those of src/lib.rt.
use Rattle.std.specs.Prelude.{Bool, false, List, ℕ, replicate}
use Rattle.rules.specs.declared.Descriptor.{Descriptor}
use Rattle.rules.specs.declared.Faults.{Faults}
use Rattle.rules.specs.declared.Notes.{Notes}
use Rattle.rules.specs.declared.Unit.{Unit}

abbrev pub faults_of : (vtr vsn voff bcsr : ℕ) → Faults
faults_of vtr vsn voff bcsr = record { vtr = vtr; vsn = vsn; voff = voff; bcsr = bcsr }

abbrev pub notes_of : (request awaits own hold : Bool) → Notes
notes_of request awaits own hold = record { request = request; awaits = awaits; own = own; hold = hold }

-- the faults, and ticket 8's low byte, which is stored with them
pub record Stored : Type 0 where
  pub faults : Faults
  pub low : ℕ

abbrev pub stored_of : (vtr vsn voff bcsr low : ℕ) → Stored
stored_of vtr vsn voff bcsr low = record { faults = faults_of vtr vsn voff bcsr; low = low }

-- a unit by its descriptors and all its registers, in document 01's order
abbrev pub unit_of : List Descriptor → (mr sar dscr : ℕ) → Stored → (isn ioff : ℕ) → Notes → Unit
unit_of t mr sar dscr s isn ioff n = record {
  table = t;
  registers = record {
    control = record { mr = mr; sar = sar; dscr = dscr };
    faults = s.faults;
    fetched = record { isn = isn; ioff = ioff };
    notes = n;
    low = s.low;
  };
}

-- a descriptor of zeros
abbrev pub blank : Descriptor
blank = record { base = 0; limit = 0; attributes = 0 }

-- the four notes, all false
abbrev pub quiet : Notes
quiet = notes_of false false false false

-- "At power-on all are zero and false."; ticket 8: "Power-on makes it 0"
abbrev pub power_on : Unit
power_on = unit_of (replicate 64 blank) 0 0 0 (stored_of 0 0 0 0 0) 0 0 quiet
