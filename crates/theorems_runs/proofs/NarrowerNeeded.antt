-- Why the weaker start needs what it says, and not all writes may come: short runs that antt computes in two units.
-- Assumes nothing.
use mathlib.Core.Path.{refl, ap}
use mathlib.Core.Bool.{Bool, true, false, true≢false, false≢true}
use mathlib.Core.List.{List, [], ◌∷◌}
use Prim.Native.Nat.{ℕ}
use native.Mathlib.Omega.{arith}
use lib.Dec.{eqb, lit≤, lit<}
use Rattle.rules.specs.Masks.{DIRW}
use Rattle.rules.specs.PowerOn.{blank, power_on}
use Rattle.rules.specs.Seen.{segment, cycle, command}
use Rattle.rules.specs.declared.Cycle.{Cycle}
use Rattle.rules.specs.declared.Descriptor.{Descriptor}
use Rattle.rules.specs.declared.Address.{Address}
use Rattle.rules.specs.declared.Unit.{Unit}
use Rattle.theorems_runs.specs.Narrower.{Narrower, AlongBoth, HoldNeeded, MrNeeded, SarNeeded, DscrNeeded, TurnsExcluded}
use Rattle.theorems_runs.specs.Narrower.{RelationStops, UndamagedNeeded, TablesNeeded}
use Rattle.theorems_runs.specs.Tighter.{Wider, before}
use Rattle.theorems_runs.specs.Undamaged.{Undamaged}
use Rattle.theorems_runs.specs.Unstopped.{CoversBut, InstructionExcepted, NarrowedNeeds, PutBackNeeded}
use Rattle.theorems_runs.proofs.Computed.{computed}
use Rattle.theorems_runs.proofs.Examples.{unit_of_three, unit, unit_undamaged, wider_entries, read_only, writable, closed, writable_wider}
use Rattle.theorems_runs.proofs.Tighter.{narrower_kept}
use Rattle.theorems_runs.proofs.Wider.{wider_refl}

-- a system data write at segment 0, offset 0: record 08000000
data_write : Cycle
data_write = cycle false false false 8 0 0

-- MR and hold, all else as at power-on
held : (mr : ℕ) → (hold : Bool) → Unit
held mr hold = unit_of_three mr 0 0 hold blank blank blank

held_undamaged : (mr : ℕ) (hold : Bool) → Undamaged (held mr hold)
unfolding held computed
held_undamaged mr hold = record { size = refl; sound = refl }

-- MR %00: hold in the second unit alone suppresses it there
pub hold_needed : HoldNeeded
unfolding data_write held before AlongBoth computed
hold_needed claim =
    false≢true
    ((claim (held 0x00 false) (held 0x00 true) (data_write ∷ []) (held_undamaged _ _, held_undamaged _ _, λ i s. wider_refl _, refl)
    (refl, refl)).0.sup refl)

-- MR %00 and %80: MSEN in the second unit alone drives an address there
pub mr_needed : MrNeeded
unfolding data_write held before AlongBoth computed
mr_needed claim =
    false≢true
    (ap (λ (l : Address). l.driven)
    (claim (held 0x00 false) (held 0x80 false) (data_write ∷ []) (held_undamaged _ _, held_undamaged _ _, λ i s. wider_refl _, λ z. z)
    (refl, refl)).0.address)

-- MR %80: SAR 64 makes the one unit or the other refuse it, and no address is driven there
broken : Unit
broken = unit_of_three 0x80 64 0 false blank blank blank

pub undamaged_needed : UndamagedNeeded
unfolding data_write held broken before AlongBoth computed
undamaged_needed = (
  λ claim.
      false≢true
      (ap (λ (l : Address). l.driven)
      (claim broken (held 0x80 false) (data_write ∷ []) (held_undamaged _ _, λ i s. wider_refl _, refl, λ z. z) (refl, refl)).0.address),
  λ claim.
      true≢false
      (ap (λ (l : Address). l.driven)
      (claim (held 0x80 false) broken (data_write ∷ []) (held_undamaged _ _, λ i s. wider_refl _, refl, λ z. z) (refl, refl)).0.address),
)

-- MR %C0: segment 0 is read-only in the second unit alone
pub tables_needed : TablesNeeded
unfolding data_write before AlongBoth computed
tables_needed claim =
    false≢true
    ((claim (unit writable blank blank) (unit read_only blank blank) (data_write ∷ []) (unit_undamaged _ _ _, unit_undamaged _ _ _, refl, λ z. z)
    (refl, refl)).0.sup refl)

-- SAR 0 and 2, MR %E0, segment 2 at %FFF0 in both: %0C writes %00 to the base at SAR, which is segment 2's in the second unit alone. Records
-- 83000C00 08420000
high : Descriptor
high = segment 0xFFF0 0x00 0

at_sar : (sar : ℕ) → Unit
at_sar sar = unit_of_three 0xE0 sar 0 false blank blank high

pub sar_needed : SarNeeded
unfolding high at_sar before AlongBoth computed
sar_needed claim =
    false≢true
    (ap (λ (l : Address). eqb l.block 0x00F0)
    (claim (at_sar 0) (at_sar 2) (command false 0x0C 0x00 ∷ cycle false false false 8 66 0 ∷ []) (
      record {
        first = record { size = refl; sound = refl };
        second = record { size = refl; sound = refl };
        table = λ i s. wider_refl _;
        mr = refl;
        hold = λ z. z;
      },
      refl,
    )
    (λ e. refl, (λ e. refl, refl))).1.0.address)

-- DSCR 0 and 3, MR %C0: %0B writes %01 to the base in the first unit and to the attributes in the second. Records 83000B01 18000000
at_byte : (dscr : ℕ) → Unit
at_byte dscr = unit_of_three 0xC0 0 dscr false blank blank blank

pub dscr_needed : DscrNeeded
unfolding at_byte before AlongBoth computed
dscr_needed claim =
    true≢false
    (ap (λ (l : Address). eqb l.block 0x0100)
    (claim (at_byte 0) (at_byte 3) (command false 0x0B 0x01 ∷ cycle false true false 8 0 0 ∷ []) (
      record {
        first = record { size = refl; sound = refl };
        second = record { size = refl; sound = refl };
        table = λ i s. wider_refl _;
        mr = refl;
        hold = λ z. z;
      },
      refl,
    )
    (λ e. refl, (λ e. refl, refl))).1.0.address)

-- SAR 2, DSCR 3, MR %C0: segment 2 ends at %00 in the first unit and at %01 in the second. Once %0F has put DIRW into both, it begins there:
-- block %00 is inside the first's and outside the second's. Records 83000F20 08020000
ending : (limit : ℕ) → Descriptor
ending limit = segment 0 limit 0

turning : (limit : ℕ) → Unit
turning limit = unit_of_three 0xC0 2 3 false blank blank (ending limit)

one_wider : Wider (ending 0x00) (ending 0x01)
unfolding ending
one_wider =
    record {
      base = refl;
      direction = refl;
      rights = (λ e. e, (λ e. e, (λ e. e, (λ e. e, (λ e. e, refl)))));
      up = λ e. lit≤ tt;
      down = λ e. absurd (false≢true e);
    }

pub turns_excluded : TurnsExcluded
unfolding ending turning before AlongBoth computed
turns_excluded claim =
    false≢true
    ((claim (turning 0x00) (turning 0x01) (command false 0x0F DIRW ∷ cycle false false false 8 2 0 ∷ [])
    (record {
      narrower =
          record {
            first = record { size = refl; sound = refl };
            second = record { size = refl; sound = refl };
            table = wider_entries (wider_refl _) (wider_refl _) one_wider;
            mr = refl;
            hold = λ z. z;
          };
      sar = refl;
      dscr = refl;
    })
    (refl, (refl, refl))).1.0.sup refl)

-- With no stop. Segment 1 is read-only in the first unit alone, segment 2 is closed to the CPU in both. After a write to segment 1 the fetch is
-- aborted in the first unit and suppressed in the second, and so is the read after it, of a segment that is open in both. MR %C0; records
-- 08010000 1D020000 18000000
fenced : Descriptor → Unit
fenced d = unit_of_three 0xC0 0 0 false blank d closed

fenced_narrower : Narrower (fenced read_only) (fenced writable)
unfolding fenced computed
fenced_narrower =
    record {
      first = record { size = refl; sound = refl };
      second = record { size = refl; sound = refl };
      table = wider_entries (wider_refl _) writable_wider (wider_refl _);
      mr = refl;
      hold = λ z. z;
    }

fault_fetch_read : List Cycle
fault_fetch_read = cycle false false false 8 1 0 ∷ cycle false true false 13 2 0 ∷ cycle false true false 8 0 0 ∷ []

pub instruction_excepted : InstructionExcepted
unfolding fenced fault_fetch_read CoversBut AlongBoth computed
instruction_excepted = (
  λ claim. false≢true ((claim (fenced read_only) (fenced writable) fault_fetch_read fenced_narrower (refl, (refl, (refl, refl)))).2.1 refl refl),
  λ claim. false≢true ((claim (fenced read_only) (fenced writable) fault_fetch_read fenced_narrower (refl, (refl, (refl, refl)))).2.2.1 refl refl),
)

-- and the fetch leaves hold in the second unit alone
pub relation_stops : RelationStops
unfolding fenced computed
relation_stops claim =
    false≢true
    ((claim _ _ (cycle false true false 13 2 0)
    (narrower_kept (fenced read_only) (fenced writable) (cycle false false false 8 1 0) fenced_narrower refl refl) refl refl).hold refl)

-- In a running system: a write of %00 changes MR; a write of %09 widens descriptor 0, and the unit as it was is then the tighter
pub narrowed_needs : NarrowedNeeds
unfolding computed
narrowed_needs = (
  λ claim.
      false≢true
      (ap (λ (n : ℕ). eqb n 0)
      (claim power_on (command false 0x00 0x80 ∷ []) (record { size = refl; sound = refl }) (refl, refl) (λ i s. wider_refl _)).mr),
  λ claim.
      absurd
      (omega (
        arith,
        ((claim power_on (command false 0x09 0x01 ∷ []) (record { size = refl; sound = refl }) (refl, refl) refl).table 0 (lit< tt)).up refl,
      )),
)

-- the units of `sar_needed` and `dscr_needed`: here the second is the unit as it was, and a write of %01 or %20 has made the first of it
pub put_back_needed : PutBackNeeded
unfolding high at_sar at_byte AlongBoth CoversBut computed
put_back_needed = (
  λ claim.
      true≢false
      (ap (λ (l : Address). eqb l.block 0x00F0)
      (claim (at_sar 0) (command false 0x01 0x02 ∷ []) (record { size = refl; sound = refl }) (refl, refl) (λ i s. wider_refl _, refl)
      (command false 0x0C 0x00 ∷ cycle false false false 8 66 0 ∷ []) (λ e. refl, (λ e. refl, refl))).2.0),
  λ claim.
      true≢false
      (ap (λ (l : Address). eqb l.block 0x0100)
      (claim (at_byte 3) (command false 0x20 0x00 ∷ []) (record { size = refl; sound = refl }) (refl, refl) (λ i s. wider_refl _, refl)
      (command false 0x0B 0x01 ∷ cycle false true false 8 0 0 ∷ []) (λ e. refl, (λ e. refl, refl))).2.0),
)
