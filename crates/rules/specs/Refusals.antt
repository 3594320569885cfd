-- Document 01, "Numbers that say no": 2 and 1. 3 and 4 are met in `Commands`; what a refusal gives back is in `Replies`.
use Rattle.std.specs.Prelude.{Bool, ◌&&◌, ◌||◌, ℕ, ltb}
use Rattle.rules.specs.Flags.{has, lacks}
use Rattle.rules.specs.Masks.{SWW, FATL, PRIMARY}
use Rattle.rules.specs.declared.Cycle.{Cycle}
use Rattle.rules.specs.declared.Registers.{Registers}

-- ticket 11: "SWW or FATL or both standing without a primary flag"
abbrev pub orphan : (vtr : ℕ) → Bool
orphan v = lacks v PRIMARY && (has v SWW || has v FATL)

-- "2: SAR, [..] or BCSR above 63, or DSCR above 3"; ticket 2: "2 now bounds VSN and ISN by 127"; ticket 11: "2 gains this condition". "A unit
-- that doesn't meet 2 is called undamaged."
unfoldable pub damaged : Registers → Bool
damaged r =
    ltb 63 r.control.sar || ltb 127 r.faults.vsn || ltb 127 r.fetched.isn || ltb 63 r.faults.bcsr
    || ltb 3 r.control.dscr || orphan r.faults.vtr

-- "1: status above 15 or segment above 127"
unfoldable pub out_of_range : Cycle → Bool
out_of_range c = ltb 15 c.status || ltb 127 c.segment
