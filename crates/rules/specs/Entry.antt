-- Document 01, "Commands": %08 to %0F, which move one byte of the descriptor at SAR.
use Rattle.std.specs.Prelude.{Bool, true, false, cond, ◌&&◌, ℕ, ◌+◌, ◌*◌, ◌/◌, ◌%◌, eqb}
use Rattle.rules.specs.Codes.{steps}
use Rattle.rules.specs.declared.Change.{Change}
use Rattle.rules.specs.declared.Control.{Control}
use Rattle.rules.specs.declared.Cycle.{Cycle}
use Rattle.rules.specs.declared.Descriptor.{Descriptor}
use Rattle.rules.specs.declared.Part.{Part}
use Rattle.rules.specs.declared.Part.TheVariants.{Base, Limit, Attributes, Whole}
use Rattle.rules.specs.declared.Change.TheVariants as change

-- "bytes 0 and 1 the base (high first), 2 the limit, 3 the attributes"
unfoldable pub byte_of : Descriptor → (index : ℕ) → ℕ
byte_of d i = cond (eqb i 0) (d.base / 256) (cond (eqb i 1) (d.base % 256) (cond (eqb i 2) d.limit d.attributes))

-- the same byte replaced
unfoldable pub replaced : Descriptor → (index byte : ℕ) → Descriptor
replaced d i b =
    cond (eqb i 0) (record { base = b * 256 + d.base % 256; limit = d.limit; attributes = d.attributes })
    (cond (eqb i 1) (record { base = d.base / 256 * 256 + b; limit = d.limit; attributes = d.attributes })
    (cond (eqb i 2) (record { base = d.base; limit = b; attributes = d.attributes })
    (record { base = d.base; limit = d.limit; attributes = b })))

-- "%09, %0A, %0D, %0E use byte 2 or 3"; "%08 and %0C use byte DSCR"; "%0B and %0F use byte DSCR"
unfoldable pub index_of : Part → (dscr : ℕ) → ℕ
index_of Base dscr = dscr
index_of Limit dscr = 2
index_of Attributes dscr = 3
index_of Whole dscr = dscr

-- "%09, %0A, %0D, %0E [..] leave DSCR 0. %08 and %0C [..]; DSCR goes from 0 to 1, from any other value to 0. %0B and %0F [..], and DSCR
-- goes up modulo 4."
unfoldable pub next_counter : Part → (dscr : ℕ) → ℕ
next_counter Base dscr = cond (eqb dscr 0) 1 0
next_counter Limit dscr = 0
next_counter Attributes dscr = 0
next_counter Whole dscr = (dscr % 4 + 1) % 4

-- "add 1 to SAR modulo 64"
unfoldable pub next_segment : (sar : ℕ) → (on : Bool) → ℕ
next_segment sar on = cond on ((sar % 64 + 1) % 64) sar

-- "The stepping forms add 1 to SAR modulo 64 exactly when DSCR is 0 after the byte."
unfoldable pub moved : Control → Part → Cycle → Control
moved k p c = record {
  mr = k.mr;
  sar = next_segment k.sar (steps c.offset && eqb (next_counter p k.dscr) 0);
  dscr = next_counter p k.dscr;
}

-- "a write takes the cycle's data byte"
unfoldable pub written_by : (read : Bool) → Descriptor → (index byte : ℕ) → Change
written_by true d i b = change.Keep
written_by false d i b = change.Put (replaced d i b)
