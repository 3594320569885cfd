-- Document 01, "Numbers that say no" and "Which cycle is what", a second time and in another form: both sides of each bound, the order of the
-- refusals, the sixteen status codes, reset and acknowledge, the letters of the kinds. `Lists` (proofs/) shows that all of it holds of the rules.
use Rattle.std.specs.Prelude.{Bool, true, false, ◌&&◌, List, [], ◌∷◌, ◌++◌, ℕ, eqb}
use Rattle.rules.specs.Kinds.{letter_of}
use Rattle.rules.specs.PowerOn.{stored_of, notes_of}
use Rattle.rules.specs.Seen.{Row, row, segment, no_note, every_note, unit_holding, unit_with, cycle, selected, reset_at}
use Rattle.rules.specs.Seen.{acknowledge, drives_byte, drives_nothing, translated, refusal}
use Rattle.rules.specs.declared.Cycle.{Cycle}
use Rattle.rules.specs.declared.Notes.{Notes}
use Rattle.rules.specs.declared.Unit.{Unit}
use Rattle.rules.specs.declared.Kind.TheVariants as kind

-- Bounds

-- a unit by the registers that have bounds, with a request
abbrev pub numbered : (sar dscr vsn bcsr isn : ℕ) → Unit
numbered sar dscr vsn bcsr isn = unit_holding 0xE0 sar dscr (stored_of 0x04 vsn 0 bcsr 255) isn 0 (notes_of true false false false) 63 (segment 0x2300 0xFF 0)

-- a unit at its bounds, and with segment 127 marked by a read
abbrev pub full : Unit
full = numbered 63 3 127 63 127

abbrev pub full_marked : Unit
full_marked = unit_holding 0xE0 63 3 (stored_of 0x04 127 0 63 255) 127 0 (notes_of true false false false) 63 (segment 0x2300 0xFF 0x80)

-- a cycle that is ignored, at a status
abbrev pub idle : (status : ℕ) → Cycle
idle status = cycle false true true status 0 0

-- "1: status above 15 or segment above 127"; "2: SAR, [..] or BCSR above 63, or DSCR above 3"; ticket 2: "2 now bounds VSN and ISN by 127"
abbrev pub bounds : List Row
bounds =
    row full (idle 15) (drives_nothing kind.Ignored false true) full ∷
    row full (cycle false true true 8 127 0x15) (translated 0x2315 false true 0xEA) full_marked ∷
    refusal 1 full (idle 16) ∷
    refusal 1 full (cycle false true true 8 128 0x15) ∷
    refusal 2 (numbered 64 3 127 63 127) (idle 15) ∷
    refusal 2 (numbered 63 4 127 63 127) (idle 15) ∷
    refusal 2 (numbered 63 3 128 63 127) (idle 15) ∷
    refusal 2 (numbered 63 3 127 64 127) (idle 15) ∷
    refusal 2 (numbered 63 3 127 63 128) (idle 15) ∷
    []

-- a selected command with a code not listed, of a segment
abbrev pub unlisted_at : (number : ℕ) → Cycle
unlisted_at number = selected false 3 number 0xFF

-- "the earliest in the order 2, 1, 3, 4 [..] wins. [..] A reset cycle can meet only 2 and 1."
abbrev pub order : List Row
order =
    refusal 2 (numbered 64 0 0 0 0) (idle 16) ∷
    refusal 2 (numbered 64 0 0 0 0) (unlisted_at 0) ∷
    refusal 2 (numbered 64 0 0 0 0) (reset_at 0 false) ∷
    refusal 1 (numbered 0 0 0 0 0) (unlisted_at 128) ∷
    refusal 1 (numbered 0 0 0 0 0) (reset_at 16 false) ∷
    refusal 3 (numbered 0 0 0 0 0) (unlisted_at 127) ∷
    []

-- The status codes

-- a selected read of a status, by a unit that translates: as a command its code is %00, as a memory cycle it stands at block 0
abbrev pub asks : (dma : Bool) → (status : ℕ) → Cycle
asks dma status = selected dma status 0 0

abbrev pub ignores : Cycle → Row
ignores c = row (unit_with 0xC0 0 (segment 0 0 0)) c (drives_nothing kind.Ignored false false) (unit_with 0xC0 0 (segment 0 0 0))

abbrev pub translates : Cycle → Row
translates c = row (unit_with 0xC0 0 (segment 0 0 0)) c (translated 0 false false 0) (unit_with 0xC0 0 (segment 0 0 0x80))

-- "2. Status 4, CPU: acknowledge." "3. Status 3, CPU, select on: command. 4. Status %8 to %D: memory cycle, CPU or DMA. 5. All else is
-- ignored: nothing driven, nothing changed."
abbrev pub statuses : List Row
statuses =
    ignores (asks false 0x0) ∷
    ignores (asks false 0x1) ∷
    ignores (asks false 0x2) ∷
    row (unit_with 0xC0 0 (segment 0 0 0)) (asks false 0x3) (drives_byte kind.Command 0xC0 false) (unit_with 0xC0 0 (segment 0 0 0)) ∷
    row (unit_with 0xC0 0 (segment 0 0 0)) (asks false 0x4) (drives_byte kind.Acknowledge 0 false) (unit_with 0xC0 0 (segment 0 0 0)) ∷
    ignores (asks false 0x5) ∷
    ignores (asks false 0x6) ∷
    ignores (asks false 0x7) ∷
    translates (asks false 0x8) ∷
    translates (asks false 0x9) ∷
    translates (asks false 0xA) ∷
    translates (asks false 0xB) ∷
    translates (asks false 0xC) ∷
    translates (asks false 0xD) ∷
    ignores (asks false 0xE) ∷
    ignores (asks false 0xF) ∷
    ignores (idle 0x3) ∷
    ignores (asks true 0x3) ∷
    ignores (asks true 0x4) ∷
    ignores (asks true 0x7) ∷
    translates (asks true 0x8) ∷
    translates (asks true 0xD) ∷
    ignores (asks true 0xE) ∷
    []

-- Reset and acknowledge, of a unit in which every register has a value of its own

abbrev pub busy : (mr dscr vtr : ℕ) → Notes → Unit
busy mr dscr vtr n = unit_holding mr 0x15 dscr (stored_of vtr 0x6A 0x9C 0x38 0xE2) 0x53 0x71 n 5 (segment 0x1234 0x56 0x68)

-- "1. Reset line on: VTR, DSCR and all notes cleared; MR becomes %80 if select is on, else 0. The rest stays."
abbrev pub restarts : List Row
restarts =
    row (busy 0x5A 1 0xE5 every_note) (reset_at 0 false) (drives_nothing kind.Reset false false) (busy 0 0 0 no_note) ∷
    row (busy 0x5A 1 0xE5 every_note) (reset_at 3 true) (drives_nothing kind.Reset false false) (busy 0x80 0 0 no_note) ∷
    []

-- an acknowledge by a unit with MR while the request stands
abbrev pub line : (mr byte : ℕ) → Row
line mr b = row (busy mr 1 0xE5 every_note) acknowledge (drives_byte kind.Acknowledge b false) (busy mr 1 0xE5 no_note)

-- "If MSEN is set, the unit drives line 8 + ID: high if request stands, else low. The data byte is 2^ID or 0. Then all four notes are
-- cleared, with MSEN set or not."
abbrev pub acknowledges : List Row
acknowledges =
    line 0x80 0x01 ∷
    line 0x81 0x02 ∷
    line 0x82 0x04 ∷
    line 0x83 0x08 ∷
    line 0x84 0x10 ∷
    line 0x85 0x20 ∷
    line 0x86 0x40 ∷
    line 0xFF 0x80 ∷
    row (busy 0x82 1 0xE5 (notes_of false true true true)) acknowledge (drives_byte kind.Acknowledge 0 false) (busy 0x82 1 0xE5 no_note) ∷
    row (busy 0x7A 1 0xE5 every_note) acknowledge (drives_nothing kind.Acknowledge false false) (busy 0x7A 1 0xE5 no_note) ∷
    []

abbrev pub cycle_rows : List Row
cycle_rows = bounds ++ (order ++ (statuses ++ (restarts ++ acknowledges)))

-- "R reset, A acknowledge, C command, F aborted fetch, T translated, P passed with TRNS clear, I anything else, X [..] if refused", in ASCII
abbrev pub letters : Bool
letters =
    eqb (letter_of kind.Reset) 0x52 && eqb (letter_of kind.Acknowledge) 0x41 && eqb (letter_of kind.Command) 0x43
    && eqb (letter_of kind.Aborted) 0x46 && eqb (letter_of kind.Translated) 0x54 && eqb (letter_of kind.Passed) 0x50
    && eqb (letter_of kind.Ignored) 0x49 && eqb (letter_of (kind.Refused 1)) 0x58
