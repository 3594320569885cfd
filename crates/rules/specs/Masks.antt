-- Document 01, "Flags, from bit 0 up": each flag as the mask of its bit.
use Rattle.std.specs.Prelude.{ℕ}

-- "attributes: RD, SYS, CPUI, EXC, DMAI, DIRW, CHG, REF"
abbrev pub RD : ℕ
RD = 1

abbrev pub SYS : ℕ
SYS = 2

abbrev pub CPUI : ℕ
CPUI = 4

abbrev pub EXC : ℕ
EXC = 8

abbrev pub DMAI : ℕ
DMAI = 16

abbrev pub DIRW : ℕ
DIRW = 32

abbrev pub CHG : ℕ
CHG = 64

abbrev pub REF : ℕ
REF = 128

-- "VTR: RDV, SYSV, SLV, CPUIV, EXCV, PWW, SWW, FATL"
abbrev pub RDV : ℕ
RDV = 1

abbrev pub SYSV : ℕ
SYSV = 2

abbrev pub SLV : ℕ
SLV = 4

abbrev pub CPUIV : ℕ
CPUIV = 8

abbrev pub EXCV : ℕ
EXCV = 16

abbrev pub PWW : ℕ
PWW = 32

abbrev pub SWW : ℕ
SWW = 64

abbrev pub FATL : ℕ
FATL = 128

-- "The first six VTR flags are primary."
abbrev pub PRIMARY : ℕ
PRIMARY = 63

-- a violation of DMAI, which has no flag in the VTR: bit 7 of the rights byte (Checks)
abbrev pub DMAIV : ℕ
DMAIV = 128

-- "MR: bits 0 to 2 ID, then NMS, MST, URS, TRNS, MSEN"
abbrev pub NMS : ℕ
NMS = 8

abbrev pub MST : ℕ
MST = 16

abbrev pub URS : ℕ
URS = 32

abbrev pub TRNS : ℕ
TRNS = 64

abbrev pub MSEN : ℕ
MSEN = 128

-- "BCSR: bits 0 to 3 status, bit 4 set for read, bit 5 set for normal mode, the rest 0"
abbrev pub READ : ℕ
READ = 16

abbrev pub NORMAL : ℕ
NORMAL = 32

-- "segment bit 6"
abbrev pub UPPER : ℕ
UPPER = 64
