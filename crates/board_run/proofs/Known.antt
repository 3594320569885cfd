-- What stands where in a record: one whose bytes all differ, computed. No answer of a run shows the low byte, so that nothing else would notice
-- it taken from another place.
-- Assumes nothing.
use mathlib.Core.Bool.{true, false}
use mathlib.Core.List.{List, [], ◌∷◌}
use mathlib.Core.Path.{◌≡◌, refl}
use Prim.Native.Nat.{ℕ}
use Rattle.rules.specs.Seen.{cycle_with}
use Rattle.trace_records.specs.Trace.{cycle_of}
use Rattle.unit_stores.specs.Word.{word_at}
use Rattle.board_run.specs.BoardRun.{board_cycle_at}

-- a byte that is no part of it, and then: a CPU read at %D in system mode with the version 1 select, segment 5, offset byte %15, data byte %77,
-- low byte %A7, select bits %1234
abbrev bytes : List ℕ
bytes = 0xEE ∷ 0x9D ∷ 0x05 ∷ 0x15 ∷ 0x77 ∷ 0xA7 ∷ 0x12 ∷ 0x34 ∷ []

pub record_known : board_cycle_at bytes 1 ≡ record { cycle = cycle_with 0xD true false false true 5 0x15 0xA7 0x77 false; selects = 0x1234 }
unfolding board_cycle_at cycle_of word_at
record_known = refl
