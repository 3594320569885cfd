-- What is read off the registers before any unit is touched, and the flags that are set in the table of one unit.
use Rattle.std.specs.Prelude.{Option as Optional}
use Rattle.std.specs.Prelude.{Some, None, ◌≡◌, Bool, true, false, cond, ◌||◌, ◌≢◌, List, [], ◌∷◌, map, ℕ, zero, suc, ◌*◌, ◌/◌, ◌%◌, eqb, length, get_or, take, drop}
use Rattle.rules.specs.PowerOn.{power_on}
use Rattle.rules.specs.Refusals.{damaged, out_of_range}
use Rattle.rules.specs.Step.{with_flags}
use Rattle.rules.specs.declared.Cycle.{Cycle}
use Rattle.rules.specs.declared.Descriptor.{Descriptor}
use Rattle.rules.specs.declared.Registers.{Registers}
use Rattle.rules.specs.declared.Unit.{Unit}
use Rattle.theorems_runs.specs.Sequences.{Every}
use Rattle.board_rules.specs.Board.{Seat, seated, some_of, two_of, requests}
use Rattle.theorems_boards.specs.Numbers.{seat_drives}
use Rattle.board_refusals.specs.Judged.{asking, concerns, own_verdict}
use Rattle.board_refusals.specs.declared.Verdict.{Verdict}
use Rattle.board_refusals.specs.declared.Judged.{Judged}
use Rattle.board_refusals.proofs.Laws.{Known}
use Rattle.board_run.specs.declared.Drivers.{Drivers}

-- Units in flat arrays: unit k has registers k, and the 64 descriptors from 64 x k on

abbrev pub table_of : List Descriptor → (k : ℕ) → List Descriptor
table_of ts k = take 64 (drop (64 * k) ts)

abbrev pub unit_of : List Registers → List Descriptor → (k : ℕ) → Unit
unit_of rs ts k = record { table = table_of ts k; registers = get_or rs k power_on.registers }

-- the n units from unit k on
unfoldable pub units_from : List Registers → List Descriptor → (k n : ℕ) → List Unit
units_from rs ts k zero = []
units_from rs ts k (suc n) = unit_of rs ts k ∷ units_from rs ts (suc k) n

abbrev pub units_of : List Registers → List Descriptor → (n : ℕ) → List Unit
units_of rs ts n = units_from rs ts 0 n

-- the table of unit i is now t, and the tables of the others are as they were
pub record Changed (i : ℕ) (t before after : List Descriptor) : Type 0 where
  pub size : length after ≡ length before
  pub here : table_of after i ≡ t
  pub there : (j : ℕ) → j ≢ i → table_of after j ≡ table_of before j

-- flags set in every descriptor of unit i
abbrev pub RaisedIn : (mask i : ℕ) → (before after : List Descriptor) → Type 0
RaisedIn mask i before after = Changed i (map (with_flags mask) (table_of before i)) before after

-- The select bits of n units

unfoldable pub any_on : (n left : ℕ) → Bool
any_on zero left = false
any_on (suc n) left = eqb (left % 2) 1 || any_on n (left / 2)

unfoldable pub several_on : (n left : ℕ) → Bool
several_on zero left = false
several_on (suc n) left = cond (eqb (left % 2) 1) (any_on n (left / 2)) (several_on n (left / 2))

-- the first that is on, the first of the list being unit i; where none is, the number behind the last
unfoldable pub first_on : (i n left : ℕ) → ℕ
first_on i zero left = i
first_on i (suc n) left = cond (eqb (left % 2) 1) i (first_on (suc i) n (left / 2))

-- Plans

-- a unit whose bit is off is none that the cycle concerns
unfoldable pub Off : Cycle → (mask : ℕ) → List Seat → Type 0
Off c mask [] = true ≡ true
Off c mask (s ∷ ss) =
    (eqb (mask % 2) 1 ≡ false → concerns s.unit.registers s.select c (asking c) ≡ false) × Off c (mask / 2) ss

-- what a memory cycle finds in the units from k on, whatever their tables and selects
pub record DrivingFrom (rs : List Registers) (k n : ℕ) (c : Cycle) (mask : ℕ) (drives clash : Bool) : Type 0 where
  pub one : (ts : List Descriptor) (left : ℕ) → drives ≡ some_of (seat_drives c) (seated (units_from rs ts k n) left)
  pub two : (ts : List Descriptor) (left : ℕ) → clash ≡ two_of (seat_drives c) (seated (units_from rs ts k n) left)
  pub off : (ts : List Descriptor) (left : ℕ) → (asking c).memory ≡ true → Off c mask (seated (units_from rs ts k n) left)

abbrev pub DrivingIs : List Registers → (count : ℕ) → Cycle → Drivers → Type 0
DrivingIs rs count c d = DrivingFrom rs 0 count c d.mask d.drives d.clash

-- a request stands in one of the n units from unit k on
unfoldable pub asks_from : List Registers → (k n : ℕ) → Bool
asks_from rs k zero = false
asks_from rs k (suc n) = (get_or rs k power_on.registers).notes.request || asks_from rs (suc k) n

abbrev pub any_asks : List Registers → (count : ℕ) → Bool
any_asks rs count = asks_from rs 0 count

-- what is judged where no unit takes a command
abbrev pub uncommanded : (clash : Bool) → Judged
uncommanded clash = record { own = None; drives = false; clash = clash; command = false; several = false; stood = false }

-- a command's refusal, by the first unit that is selected
abbrev pub first_verdict : (first : Optional ℕ) → (number : Optional ℕ) → Optional Verdict
first_verdict None o = None
first_verdict (Some i) o = own_verdict i o

-- what was judged, with the requests that stand
abbrev pub judged_with : Judged → (stood : Bool) → Judged
judged_with j stood = record {
  own = j.own;
  drives = j.drives;
  clash = j.clash;
  command = j.command;
  several = j.several;
  stood = stood;
}

-- a plan for undamaged units and a cycle in range, whatever the tables
pub record Planned (mask : ℕ) (j : Judged) (c : Cycle) (ss : List Seat) : Type 0 where
  pub off : Off c mask ss
  pub known : Known (judged_with j (some_of requests ss)) c ss

abbrev pub Healthy : Seat → Type 0
Healthy s = damaged s.unit.registers ≡ false

unfoldable pub PlanIs : List Registers → (count : ℕ) → Cycle → (selects mask : ℕ) → Judged → Type 0
PlanIs rs count c selects mask j =
    (ts : List Descriptor) → out_of_range c ≡ false → Every Healthy (seated (units_of rs ts count) selects)
    → Planned mask j c (seated (units_of rs ts count) selects)
