-- A unit record as 267 bytes: MR, SAR, DSCR, VTR, VSN, VOFF, BCSR, ISN, IOFF and the notes; then four bytes for each descriptor; then the low
-- byte.
use Rattle.std.specs.Prelude.{List, [], ◌∷◌, ◌++◌, ℕ, zero, suc, ◌+◌, ◌*◌, get_or}
use Rattle.rules.specs.Flags.{has, with, flag_if}
use Rattle.rules.specs.PowerOn.{faults_of, notes_of}
use Rattle.rules.specs.declared.Descriptor.{Descriptor}
use Rattle.rules.specs.declared.Notes.{Notes}
use Rattle.rules.specs.declared.Registers.{Registers}
use Rattle.rules.specs.declared.Unit.{Unit}
use Rattle.unit_stores.specs.Word.{word_at, high_of, low_of}

-- ---- the layout: where each register stands, the notes, and the first descriptor

abbrev pub mr_at : ℕ
mr_at = 0

abbrev pub sar_at : ℕ
sar_at = 1

abbrev pub dscr_at : ℕ
dscr_at = 2

abbrev pub vtr_at : ℕ
vtr_at = 3

abbrev pub vsn_at : ℕ
vsn_at = 4

abbrev pub voff_at : ℕ
voff_at = 5

abbrev pub bcsr_at : ℕ
bcsr_at = 6

abbrev pub isn_at : ℕ
isn_at = 7

abbrev pub ioff_at : ℕ
ioff_at = 8

abbrev pub notes_at : ℕ
notes_at = 9

abbrev pub table_at : ℕ
table_at = 10

-- a descriptor's bytes: base (high byte first), limit, attributes, and how many they are
abbrev pub limit_at : ℕ
limit_at = 2

abbrev pub attributes_at : ℕ
attributes_at = 3

abbrev pub descriptor_size : ℕ
descriptor_size = 4

-- how many descriptors there are, and where one stands
abbrev pub segments : ℕ
segments = 64

abbrev pub descriptor_at : (n : ℕ) → ℕ
descriptor_at n = table_at + descriptor_size * n

-- ticket 8: the low byte stands last, so every other place is as it was; and the bytes of a unit
abbrev pub low_at : ℕ
low_at = descriptor_at segments

abbrev pub unit_size : ℕ
unit_size = low_at + 1

-- the notes' bits, and the largest byte that is made of them
abbrev pub REQUEST : ℕ
REQUEST = 1

abbrev pub AWAIT : ℕ
AWAIT = 2

abbrev pub OWN : ℕ
OWN = 4

abbrev pub HOLD : ℕ
HOLD = 8

abbrev pub LAST_NOTES : ℕ
LAST_NOTES = with (with (with REQUEST AWAIT) OWN) HOLD

-- ---- a unit from bytes

-- the descriptor of the bytes from an index on
unfoldable pub descriptor_in : List ℕ → (at : ℕ) → Descriptor
descriptor_in l at = record {
  base = word_at l at;
  limit = get_or l (at + limit_at) 0;
  attributes = get_or l (at + attributes_at) 0;
}

-- the first n descriptors
unfoldable pub table_in : List ℕ → (n : ℕ) → List Descriptor
table_in l zero = []
table_in l (suc n) = table_in l n ++ (descriptor_in l (descriptor_at n) ∷ [])

-- the notes of their byte; its other bits are not looked at
unfoldable pub notes_in : (byte : ℕ) → Notes
notes_in b = notes_of (has b REQUEST) (has b AWAIT) (has b OWN) (has b HOLD)

unfoldable pub registers_in : List ℕ → Registers
registers_in l = record {
  control = record { mr = get_or l mr_at 0; sar = get_or l sar_at 0; dscr = get_or l dscr_at 0 };
  faults = faults_of (get_or l vtr_at 0) (get_or l vsn_at 0) (get_or l voff_at 0) (get_or l bcsr_at 0);
  fetched = record { isn = get_or l isn_at 0; ioff = get_or l ioff_at 0 };
  notes = notes_in (get_or l notes_at 0);
  low = get_or l low_at 0;
}

unfoldable pub unit_in : List ℕ → Unit
unit_in l = record { table = table_in l segments; registers = registers_in l }

-- ---- the bytes of a unit

unfoldable pub descriptor_bytes : Descriptor → List ℕ
descriptor_bytes d = high_of d.base ∷ low_of d.base ∷ d.limit ∷ d.attributes ∷ []

unfoldable pub table_bytes : List Descriptor → List ℕ
table_bytes [] = []
table_bytes (d ∷ rest) = descriptor_bytes d ++ table_bytes rest

unfoldable pub notes_byte : Notes → ℕ
notes_byte n =
    with (with (with
    (flag_if n.request REQUEST)
    (flag_if n.awaits AWAIT))
    (flag_if n.own OWN))
    (flag_if n.hold HOLD)

-- of the registers, all but the low byte
unfoldable pub register_bytes : Registers → List ℕ
register_bytes r =
    r.control.mr ∷ r.control.sar ∷ r.control.dscr
    ∷ r.faults.vtr ∷ r.faults.vsn ∷ r.faults.voff ∷ r.faults.bcsr
    ∷ r.fetched.isn ∷ r.fetched.ioff
    ∷ notes_byte r.notes ∷ []

unfoldable pub unit_bytes : Unit → List ℕ
unit_bytes u = register_bytes u.registers ++ table_bytes u.table ++ (u.registers.low ∷ [])
