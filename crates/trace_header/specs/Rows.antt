-- The edges of a trace's header: one table of rows. Each row is a trace and the number of "Numbers that say no" that refuses it, or 0 where
-- it is taken.
-- `Rows` (proofs/) shows that all of them hold of the definitions.
use Rattle.std.specs.Prelude.{Bool, true, ◌&&◌, List, [], ◌∷◌, ◌++◌, ℕ, eqb, replicate}
use Rattle.trace_header.specs.Header.{refusal_of}

pub record HeaderRow : Type 0 where
  pub trace : List ℕ
  pub number : ℕ

-- the row holds of the definitions
abbrev pub header_row_holds : HeaderRow → Bool
header_row_holds r = eqb (refusal_of r.trace) r.number

abbrev pub header_rows_hold : List HeaderRow → Bool
header_rows_hold [] = true
header_rows_hold (r ∷ rs) = header_row_holds r && header_rows_hold rs

-- What rows are made of.

-- the bytes of a mark, a version and a count, and how many bytes follow them
abbrev pub header_row : (mark version count : List ℕ) → (rest number : ℕ) → HeaderRow
header_row m v c r n = record { trace = m ++ (v ++ (c ++ replicate r 0)); number = n }

-- a trace of fewer than 7 bytes
abbrev pub cut : List ℕ → HeaderRow
cut t = record { trace = t; number = 5 }

-- marks, versions and counts as they stand in a trace; 16,000 is 62 x 256 + 128
abbrev pub mbt : List ℕ
mbt = 77 ∷ 66 ∷ 84 ∷ []

abbrev pub unmarked : List ℕ
unmarked = 109 ∷ 66 ∷ 84 ∷ []

abbrev pub version1 : List ℕ
version1 = 0 ∷ 1 ∷ []

abbrev pub version2 : List ℕ
version2 = 0 ∷ 2 ∷ []

abbrev pub count0 : List ℕ
count0 = 0 ∷ 0 ∷ []

abbrev pub count1 : List ℕ
count1 = 0 ∷ 1 ∷ []

abbrev pub count256 : List ℕ
count256 = 1 ∷ 0 ∷ []

abbrev pub count16000 : List ℕ
count16000 = 62 ∷ 128 ∷ []

abbrev pub count16001 : List ℕ
count16001 = 62 ∷ 129 ∷ []

-- The rows.

-- "5: trace shorter than 7 bytes": 0 to 6 bytes of a good header are refused, its 7 bytes are taken, and with an eighth its length is wrong
abbrev pub short_rows : List HeaderRow
short_rows =
    cut [] ∷
    cut (77 ∷ []) ∷
    cut (77 ∷ 66 ∷ []) ∷
    cut mbt ∷
    cut (77 ∷ 66 ∷ 84 ∷ 0 ∷ []) ∷
    cut (77 ∷ 66 ∷ 84 ∷ 0 ∷ 1 ∷ []) ∷
    cut (77 ∷ 66 ∷ 84 ∷ 0 ∷ 1 ∷ 0 ∷ []) ∷
    header_row mbt version1 count0 0 0 ∷
    header_row mbt version1 count0 1 8 ∷
    []

-- "or mark not "MBT"": one letter small, and two letters exchanged
abbrev pub mark_rows : List HeaderRow
mark_rows =
    header_row unmarked version1 count1 4 5 ∷
    header_row (77 ∷ 98 ∷ 84 ∷ []) version1 count1 4 5 ∷
    header_row (77 ∷ 66 ∷ 116 ∷ []) version1 count1 4 5 ∷
    header_row (66 ∷ 77 ∷ 84 ∷ []) version1 count1 4 5 ∷
    header_row (84 ∷ 66 ∷ 77 ∷ []) version1 count1 4 5 ∷
    header_row (77 ∷ 84 ∷ 66 ∷ []) version1 count1 4 5 ∷
    []

-- "6: trace version not 1": 0, 2, 257, and 256, which is 1 with its low byte first
abbrev pub version_rows : List HeaderRow
version_rows =
    header_row mbt (0 ∷ 0 ∷ []) count1 4 6 ∷
    header_row mbt version2 count1 4 6 ∷
    header_row mbt (1 ∷ 1 ∷ []) count1 4 6 ∷
    header_row mbt (1 ∷ 0 ∷ []) count1 4 6 ∷
    []

-- "8: trace length not 7 + 4 x count": a byte less, as many, a byte more, and a record more, for 0, 1 and 256 records,
-- and 16,000 records with none of them there
abbrev pub length_rows : List HeaderRow
length_rows =
    header_row mbt version1 count0 4 8 ∷
    header_row mbt version1 count1 0 8 ∷
    header_row mbt version1 count1 3 8 ∷
    header_row mbt version1 count1 4 0 ∷
    header_row mbt version1 count1 5 8 ∷
    header_row mbt version1 count1 8 8 ∷
    header_row mbt version1 count256 1023 8 ∷
    header_row mbt version1 count256 1024 0 ∷
    header_row mbt version1 count256 1025 8 ∷
    header_row mbt version1 count256 1028 8 ∷
    header_row mbt version1 count16000 0 8 ∷
    []

-- "the earliest in the order [..] 5, 6, 7, 8, 9 wins": a trace of 6 bytes that meets all four, and traces that meet two or more
abbrev pub order_rows : List HeaderRow
order_rows =
    cut (77 ∷ 66 ∷ 84 ∷ 0 ∷ 2 ∷ 63 ∷ []) ∷
    header_row unmarked version2 count16001 0 5 ∷
    header_row unmarked version2 count1 4 5 ∷
    header_row unmarked version1 count1 5 5 ∷
    header_row mbt version2 count16001 0 6 ∷
    header_row mbt version2 count1 5 6 ∷
    header_row mbt version1 count16001 0 7 ∷
    []

-- "7: record count above 16,000": 15,999, 16,000, 16,001, 16,128 and 65,535 with the bytes that they ask for, 16,000 with a byte less and a
-- byte more, and 16,001 behind another mark and another version
abbrev pub count_rows : List HeaderRow
count_rows =
    header_row mbt version1 (62 ∷ 127 ∷ []) 63996 0 ∷
    header_row mbt version1 count16000 64000 0 ∷
    header_row mbt version1 count16000 63999 8 ∷
    header_row mbt version1 count16000 64001 8 ∷
    header_row mbt version1 count16001 64004 7 ∷
    header_row mbt version1 (63 ∷ 0 ∷ []) 64512 7 ∷
    header_row mbt version1 (255 ∷ 255 ∷ []) 262140 7 ∷
    header_row unmarked version1 count16001 64004 5 ∷
    header_row mbt version2 count16001 64004 6 ∷
    []

-- the counts last: their traces are long, and a wrong row before them is told at once
abbrev pub header_rows : List HeaderRow
header_rows = short_rows ++ (mark_rows ++ (version_rows ++ (length_rows ++ (order_rows ++ count_rows))))
