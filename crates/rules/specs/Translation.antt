-- Document 01, "Translation".
use Rattle.std.specs.Prelude.{Bool, true, false, ℕ, ◌+◌, ◌*◌, ◌%◌}
use Rattle.std.specs.Bool.{beq}
use Rattle.rules.specs.Flags.{has, lacks}
use Rattle.rules.specs.Masks.{NMS, MST, URS, TRNS, MSEN, UPPER}
use Rattle.rules.specs.Replies.{off}
use Rattle.rules.specs.declared.Cycle.{Cycle}
use Rattle.rules.specs.declared.Address.{Address}
use Rattle.rules.specs.declared.Way.{Way}
use Rattle.rules.specs.declared.Way.TheVariants.{Silent, Passed, Translated}

-- "MSEN clear: not driven. TRNS clear: [passed], unchecked. Then URS must equal segment bit 6, and if MST is set, NMS must equal
-- the mode (1 for normal); else not driven."
abbrev pub way_by : (disabled passing half either mode : Bool) → Way
way_by true passing half either mode = Silent
way_by false true half either mode = Passed
way_by false false false either mode = Silent
way_by false false true true mode = Translated
way_by false false true false true = Translated
way_by false false true false false = Silent

unfoldable pub way_of : (mr : ℕ) → Cycle → Way
way_of mr c =
    way_by (lacks mr MSEN) (lacks mr TRNS) (beq (has mr URS) (has c.segment UPPER)) (lacks mr MST)
    (beq (has mr NMS) c.normal)

-- "base + offset byte, modulo 65,536": the physical block number
unfoldable pub block_of : (base offset : ℕ) → ℕ
block_of base offset = (base + offset) % 65536

-- "TRNS clear: address lines A23 to A8 are segment x 256 + offset byte, unchecked"; "Translated: base + offset byte, [..] driven in
-- a violation as well"
unfoldable pub address_of : Way → (base : ℕ) → Cycle → Address
address_of Silent base c = off
address_of Passed base c = record { driven = true; block = c.segment * 256 + c.offset }
address_of Translated base c = record { driven = true; block = block_of base c.offset }
