-- Ticket 10: a set or clear command and another command that may not change places, each pair with its counterexample.
-- Assumes nothing.
use Rattle.std.specs.Prelude.{◌≡◌, Bool, true, false, not, cond, ◌&&◌, List, [], ◌∷◌, ℕ, ◌+◌, ◌*◌, eqb, get_or}
use Rattle.rules.specs.PowerOn.{stored_of, notes_of, unit_of, blank, power_on}
use Rattle.rules.specs.Runs.{final}
use Rattle.rules.specs.declared.Cycle.{Cycle}
use Rattle.rules.specs.declared.Unit.{Unit}
use Rattle.theorems_runs.specs.Cycles.{written}
use Rattle.theorems_runs.specs.Sequences.{all}

-- every set and clear command has something to do here: MR %C0, DSCR 3, VTR %E0, the trap line stands; all else as at power-on
abbrev pub standing : Unit
standing = unit_of power_on.table 0xC0 0 3 (stored_of 0xE0 0 0 0 0) 0 0 (notes_of true false false false)

-- a command that writes %01
abbrev pub put : (code : ℕ) → Cycle
put code = written 3 code 0x01 false

-- what is looked at, two hexadecimal digits each: MR, DSCR, VTR, the attributes of segment 0
abbrev pub seen : Unit → ℕ
seen u =
    u.registers.control.mr * 0x1000000 + u.registers.control.dscr * 0x10000 + u.registers.faults.vtr * 0x100
    + (get_or u.table 0 blank).attributes

-- a set or clear command, another command, what is seen after the two in this order, and what after them the other way round
pub record Row : Type 0 where
  pub acts : ℕ
  pub other : ℕ
  pub thus : ℕ
  pub turned : ℕ

abbrev row : (acts other thus turned : ℕ) → Row
row acts other thus turned = record { acts = acts; other = other; thus = thus; turned = turned }

abbrev pub rows : List Row
rows =
    -- software reset, and MR and DSCR, which it clears
    row 0x10 0x00 0x01000000 0x00000000 ∷
    row 0x10 0x20 0x00010000 0x00000000 ∷
    -- and %08, %0B, %0C, %0F, which go by DSCR
    row 0x10 0x08 0x00010000 0x00000001 ∷
    row 0x10 0x0B 0x00010000 0x00000001 ∷
    row 0x10 0x0C 0x00010000 0x00000001 ∷
    row 0x10 0x0F 0x00010000 0x00000001 ∷
    -- set all CPUI, and %0A and %0E, which write attributes
    row 0x15 0x0A 0xC000E001 0xC000E005 ∷
    row 0x15 0x0E 0xC000E001 0xC000E005 ∷
    -- and %08, %0B, %0C, %0F, which do where DSCR is 3
    row 0x15 0x08 0xC000E001 0xC000E005 ∷
    row 0x15 0x0B 0xC000E001 0xC000E005 ∷
    row 0x15 0x0C 0xC000E001 0xC000E005 ∷
    row 0x15 0x0F 0xC000E001 0xC000E005 ∷
    -- set all DMAI likewise
    row 0x16 0x0A 0xC000E001 0xC000E011 ∷
    row 0x16 0x0E 0xC000E001 0xC000E011 ∷
    row 0x16 0x08 0xC000E001 0xC000E011 ∷
    row 0x16 0x0B 0xC000E001 0xC000E011 ∷
    row 0x16 0x0C 0xC000E001 0xC000E011 ∷
    row 0x16 0x0F 0xC000E001 0xC000E011 ∷
    []

-- the row is right, and its two orders differ
abbrev pub differs : Row → Bool
differs r =
    eqb (seen (final standing (put r.acts ∷ put r.other ∷ []))) r.thus
    && eqb (seen (final standing (put r.other ∷ put r.acts ∷ []))) r.turned
    && not (eqb r.thus r.turned)

-- CLAIM: each row is a counterexample.
abbrev pub EachApart : Type 0
EachApart = all differs rows ≡ true

-- the codes that the rows have beside x
abbrev pub beside : (x : ℕ) → List Row → List ℕ
beside x [] = []
beside x (r ∷ rs) = cond (eqb x r.acts) (r.other ∷ beside x rs) (beside x rs)

abbrev pub apart : (x : ℕ) → List ℕ
apart x = beside x rows
