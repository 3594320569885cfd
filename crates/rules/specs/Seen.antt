-- What the rows of `Rows`, `FlagRows`, `CycleRows`, `MemoryRows` and `CodeRows` are made of. A row is a unit, the cycles before, the cycle
-- that is looked at, its whole answer and the whole unit that is left. Answers and cycles are written out here by their values, with nothing
-- from the rules that they are held to. Units are made as power-on is; the rows of commands and of later cycles tell its registers apart.
use Rattle.std.specs.Prelude.{Bool, true, false, ◌&&◌, List, [], ◌∷◌, ℕ, zero, suc, eqb, set}
use Rattle.rules.specs.Kinds.{letter_of, number_of}
use Rattle.rules.specs.PowerOn.{Stored, stored_of, notes_of, unit_of, quiet, power_on}
use Rattle.rules.specs.Step.{stepped}
use Rattle.rules.specs.Runs.{final}
use Rattle.rules.specs.declared.Answer.{Answer}
use Rattle.rules.specs.declared.Cycle.{Cycle}
use Rattle.rules.specs.declared.Descriptor.{Descriptor}
use Rattle.rules.specs.declared.Kind.{Kind}
use Rattle.rules.specs.declared.Notes.{Notes}
use Rattle.rules.specs.declared.Registers.{Registers}
use Rattle.rules.specs.declared.Stepped.{Stepped}
use Rattle.rules.specs.declared.Unit.{Unit}
use Rattle.rules.specs.declared.Kind.TheVariants as kind

pub record Row : Type 0 where
  pub unit : Unit
  pub before : List Cycle
  pub cycle : Cycle
  pub answer : Answer
  pub left : Unit

abbrev pub row : Unit → Cycle → Answer → (left : Unit) → Row
row u c a l = record { unit = u; before = []; cycle = c; answer = a; left = l }

abbrev pub row_after : Unit → List Cycle → Cycle → Answer → (left : Unit) → Row
row_after u cs c a l = record { unit = u; before = cs; cycle = c; answer = a; left = l }

-- When a row holds: every value of the answer and of the unit is as the row says.

abbrev pub same_bit : Bool → Bool → Bool
same_bit true b = b
same_bit false true = false
same_bit false false = true

abbrev pub same_answer : Answer → Answer → Bool
same_answer a b =
    eqb (letter_of a.kind) (letter_of b.kind) && eqb (number_of a.kind) (number_of b.kind)
    && same_bit a.address.driven b.address.driven && eqb a.address.block b.address.block
    && same_bit a.sup b.sup && same_bit a.trap b.trap
    && same_bit a.drives b.drives && eqb a.byte b.byte && eqb a.distance b.distance

abbrev pub same_table : List Descriptor → List Descriptor → Bool
same_table [] [] = true
same_table [] (e ∷ es) = false
same_table (d ∷ ds) [] = false
same_table (d ∷ ds) (e ∷ es) =
    eqb d.base e.base && eqb d.limit e.limit && eqb d.attributes e.attributes && same_table ds es

abbrev pub same_notes : Notes → Notes → Bool
same_notes n m =
    same_bit n.request m.request && same_bit n.awaits m.awaits && same_bit n.own m.own && same_bit n.hold m.hold

abbrev pub same_registers : Registers → Registers → Bool
same_registers r q =
    eqb r.control.mr q.control.mr && eqb r.control.sar q.control.sar && eqb r.control.dscr q.control.dscr
    && eqb r.faults.vtr q.faults.vtr && eqb r.faults.vsn q.faults.vsn
    && eqb r.faults.voff q.faults.voff && eqb r.faults.bcsr q.faults.bcsr && eqb r.low q.low
    && eqb r.fetched.isn q.fetched.isn && eqb r.fetched.ioff q.fetched.ioff
    && same_notes r.notes q.notes

abbrev pub agrees : Stepped → Answer → (left : Unit) → Bool
agrees s a l = same_answer s.answer a && same_registers s.unit.registers l.registers && same_table s.unit.table l.table

-- the row holds of the rules
abbrev pub holds : Row → Bool
holds r = agrees (stepped (final r.unit r.before) r.cycle) r.answer r.left

abbrev pub all_hold : List Row → Bool
all_hold [] = true
all_hold (r ∷ rs) = holds r && all_hold rs

-- the rows f 0 to f (n - 1)
abbrev pub below : ℕ → (ℕ → Row) → List Row
below zero f = []
below (suc n) f = f n ∷ below n f

-- Units

abbrev pub segment : (base limit attributes : ℕ) → Descriptor
segment base limit attributes = record { base = base; limit = limit; attributes = attributes }

abbrev pub no_note : Notes
no_note = quiet

-- request, await and own of a first entry, and with hold
abbrev pub warned : Notes
warned = notes_of true true true false

abbrev pub every_note : Notes
every_note = notes_of true true true true

-- a unit by all its registers, in document 01's order, and one descriptor
abbrev pub unit_holding : (mr sar dscr : ℕ) → Stored → (isn ioff : ℕ) → Notes → (number : ℕ) → Descriptor → Unit
unit_holding mr sar dscr s isn ioff n number d = unit_of (set power_on.table number d) mr sar dscr s isn ioff n

-- a unit with MR and one descriptor, else as at power-on
abbrev pub unit_with : (mr number : ℕ) → Descriptor → Unit
unit_with mr n d = unit_holding mr 0 0 (stored_of 0 0 0 0 0) 0 0 no_note n d

-- MSEN and TRNS, what is stored, the notes, and segment 0
abbrev pub standing : Stored → Notes → Descriptor → Unit
standing s n d = unit_holding 0xC0 0 0 s 0 0 n 0 d

abbrev pub translating : Descriptor → Unit
translating d = unit_with 0xC0 0 d

-- Cycles

abbrev pub cycle_with : (status : ℕ) → (read normal dma select : Bool) → (number offset low byte : ℕ) → (reset : Bool) → Cycle
cycle_with status read normal dma select number offset low b reset = record {
  status = status;
  read = read;
  normal = normal;
  dma = dma;
  select = select;
  segment = number;
  offset = offset;
  low = low;
  byte = b;
  reset = reset;
}

-- Ticket 8: the low byte of the cycles below. No row's unit has it at the start, so a row whose first cycle keeps it shows that, and one whose
-- cycle doesn't too.
abbrev pub LOW : ℕ
LOW = 0xA7

-- a cycle of the CPU or of DMA, not selected
abbrev pub cycle : (dma read normal : Bool) → (status number offset : ℕ) → Cycle
cycle dma read normal status number offset = cycle_with status read normal dma false number offset LOW 0 false

-- normal data read and write at an offset byte of segment 0
abbrev pub reads : (offset : ℕ) → Cycle
reads offset = cycle false true true 8 0 offset

abbrev pub writes : (offset : ℕ) → Cycle
writes offset = cycle false false true 8 0 offset

-- a write to the system stack, segment 0
abbrev pub pushes : (offset : ℕ) → Cycle
pushes offset = cycle false false false 9 0 offset

abbrev pub acknowledge : Cycle
acknowledge = cycle false true false 4 0 0

-- a selected command of the CPU
abbrev pub command : (read : Bool) → (code byte : ℕ) → Cycle
command read code b = cycle_with 3 read false false true 0 code LOW b false

-- a selected read of the CPU or of DMA
abbrev pub selected : (dma : Bool) → (status number offset : ℕ) → Cycle
selected dma status number offset = cycle_with status true true dma true number offset LOW 0 false

-- the reset line on, with a status and select
abbrev pub reset_at : (status : ℕ) → (select : Bool) → Cycle
reset_at status select = cycle_with status true false false select 0 0 LOW 0 true

abbrev pub resets : Cycle
resets = reset_at 0 false

-- Answers

abbrev pub answer_with : Kind → (driven : Bool) → (block : ℕ) → (sup trap drives : Bool) → (byte distance : ℕ) → Answer
answer_with k driven block sup trap drives b n = record {
  kind = k;
  address = record { driven = driven; block = block };
  sup = sup;
  trap = trap;
  drives = drives;
  byte = b;
  distance = n;
}

-- the address driven, and no data byte; ticket 5: no distance, since nothing was checked
abbrev pub drives_block : Kind → (block : ℕ) → (sup trap : Bool) → Answer
drives_block k block sup trap = answer_with k true block sup trap false 0 0

-- the data byte driven, and no address
abbrev pub drives_byte : Kind → (byte : ℕ) → (trap : Bool) → Answer
drives_byte k b trap = answer_with k false 0 false trap true b 0

-- "not driven, [..] marked so and has the value 0"
abbrev pub drives_nothing : Kind → (sup trap : Bool) → Answer
drives_nothing k sup trap = answer_with k false 0 sup trap false 0 0

-- a cycle that was checked: the address driven, and how many blocks remain to the edge of its segment
abbrev pub translated : (block : ℕ) → (sup trap : Bool) → (distance : ℕ) → Answer
translated block sup trap n = answer_with kind.Translated true block sup trap false 0 n

-- "address and data not driven, SUP off, trap line as the request stood; unit unchanged"
abbrev pub refusal : (number : ℕ) → Unit → Cycle → Row
refusal number u c = row u c (drives_nothing (kind.Refused number) false u.registers.notes.request) u
