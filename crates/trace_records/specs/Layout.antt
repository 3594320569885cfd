-- Document 01, "The trace": the bytes of a record, and their bits beside READ and NORMAL, which are those of BCSR. `Rows` has rows of them.
use Rattle.std.specs.Prelude.{ℕ}

-- "Byte 0: [..] BCSR", "Byte 1: segment", "Byte 2: address-phase byte", "Byte 3: data"
abbrev pub status_at : ℕ
status_at = 0

abbrev pub segment_at : ℕ
segment_at = 1

abbrev pub offset_at : ℕ
offset_at = 2

abbrev pub data_at : ℕ
data_at = 3

-- "Byte 0: bits 0 to 5 as BCSR", which has "bits 0 to 3 status": how many statuses there are
abbrev pub STATUSES : ℕ
STATUSES = 16

-- "bit 6 DMA, bit 7 select"
abbrev pub DMA : ℕ
DMA = 64

abbrev pub SELECT : ℕ
SELECT = 128

-- "Byte 1: segment, bit 7 reset line": how many segment numbers there are, and the line
abbrev pub NUMBERS : ℕ
NUMBERS = 128

abbrev pub RESET : ℕ
RESET = 128
