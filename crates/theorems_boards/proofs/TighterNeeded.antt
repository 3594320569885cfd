-- Why demand 3 for boards needs its stop, in any unit, and leaves out writes to descriptors: runs of two units that antt computes. Unit 0 is as
-- at power-on, and unit 1 goes as in the single unit's counterexamples.
-- Assumes nothing.
use mathlib.Core.Path.{◌≡◌, refl, ◌∙◌, ap, subst}
use mathlib.Core.Bool.{Bool, true, false, not, ◌&&◌, false≢true, and-false}
use mathlib.Core.List.{List, [], ◌∷◌}
use Prim.Native.Nat.{ℕ}
use native.Mathlib.Omega.{arith}
use lib.Dec.{lit≤}
use Rattle.rules.specs.Bus.{write}
use Rattle.rules.specs.Masks.{DIRW}
use Rattle.rules.specs.Refusals.{out_of_range}
use Rattle.rules.specs.PowerOn.{blank, power_on}
use Rattle.rules.specs.Seen.{segment, cycle, command, acknowledge, resets}
use Rattle.rules.specs.declared.Cycle.{Cycle}
use Rattle.rules.specs.declared.Descriptor.{Descriptor}
use Rattle.rules.specs.declared.Unit.{Unit}
use Rattle.theorems_runs.specs.Cycles.{selected_command, on_descriptor}
use Rattle.theorems_runs.specs.Sequences.{Every, Both}
use Rattle.theorems_runs.specs.Tighter.{Wider}
use Rattle.theorems_runs.proofs.Examples.{unit, unit_undamaged, unit_loosened, read_only, writable, closed, writable_wider}
use Rattle.theorems_runs.proofs.Wider.{wider_refl}
use Rattle.board_rules.specs.Board.{board_answer, board_after, board_answers}
use Rattle.board_rules.specs.declared.Board.{Board}
use Rattle.board_rules.specs.declared.BoardAnswer.{BoardAnswer}
use Rattle.board_rules.specs.declared.BoardCycle.{BoardCycle}
use Rattle.theorems_boards.specs.Seats.{cycle_at}
use Rattle.theorems_boards.specs.BoardTighter.{BoardCovers, BoardNearer, BoardTighterBy, Tightened, NoWriteTo, AnyCycle, on_either, on_none, board_before}
use Rattle.theorems_boards.specs.BoardTighter.{FewerStop, BoardStopNeeded, AnyUnitStops, BoardWritesExcluded}
use Rattle.theorems_boards.proofs.Computed.{computed}
use Rattle.theorems_boards.proofs.Tighter.{board_demand_3}

-- a unit beside one at power-on
abbrev beside : Unit → Board
beside u = record { units = power_on ∷ u ∷ []; count = 2 }

power_on_tightened : Tightened power_on power_on
unfolding computed
power_on_tightened =
    record {
      first = record { size = refl; sound = refl };
      second = record { size = refl; sound = refl };
      loosened = record { registers = refl; table = λ i s. wider_refl _ };
    }

tightened : {x y x' y' z : Descriptor} → Wider x x' → Wider y y' → Tightened (unit x y z) (unit x' y' z)
tightened w v = record { first = unit_undamaged _ _ _; second = unit_undamaged _ _ _; loosened = unit_loosened w v }

-- a cycle that selects unit 1
abbrev seen : Cycle → BoardCycle
seen c = record { cycle = c; selects = 2 }

-- The stop. Segment 1 is read-only in the first board alone, segment 2 is closed to the CPU in both. A write to segment 1 is a violation in the
-- first, whose next fetch is therefore an aborted one, SUP off; the second board suppresses that fetch.

abbrev fault_then_fetch : List BoardCycle
fault_then_fetch = seen (cycle false false false 8 1 0) ∷ seen (cycle false true false 13 2 0) ∷ []

abbrev first : Board
first = beside (unit blank read_only closed)

abbrev second : Board
second = beside (unit blank writable closed)

-- by any stop that leaves both cycles
refuted : (stop : Board → Board → BoardCycle → Bool) → BoardTighterBy BoardCovers Tightened NoWriteTo stop
    → board_before stop first second fault_then_fetch ≡ fault_then_fetch → ⊥
unfolding computed
refuted stop claim both =
    false≢true
    ((subst (λ (cs : List BoardCycle). Both BoardCovers (board_answers first cs) (board_answers second cs)) both
    (claim first second fault_then_fetch refl (power_on_tightened, (tightened (wider_refl _) writable_wider, refl))
    (λ i s. refl, (λ i s. refl, refl)))).1.0.sup refl)

pub board_stop_needed : BoardStopNeeded
unfolding computed board_before
board_stop_needed claim = refuted on_none claim refl

pub any_unit_stops : AnyUnitStops
unfolding computed board_before
any_unit_stops claim = refuted _ claim refl

pub fewer_stop : FewerStop
unfolding computed
fewer_stop = (refl, refl, refl, refl)

-- But commands, an acknowledge, DMA, a refused cycle, the violation itself, a reset, and the fetch after it may come: none of them stops.

abbrev mixed : List BoardCycle
mixed =
    seen (command false 0x01 0x3F)
    ∷ seen acknowledge
    ∷ seen (cycle true true false 8 2 0)
    ∷ seen (command false 0xFF 0)
    ∷ seen (command false 0x16 0)
    ∷ seen (cycle false false false 8 1 0)
    ∷ seen (cycle false true false 8 2 0)
    ∷ seen resets
    ∷ seen (cycle false true false 13 2 0)
    ∷ []

other_code : (code byte : ℕ) → on_descriptor code ≡ false → NoWriteTo 2 (seen (command false code byte))
unfolding computed
other_code code byte e i s =
    let d : Cycle = cycle_at i (seen (command false code byte)) in
    let k : Bool = not (out_of_range d) && selected_command d && write d in
    ap (λ (t : Bool). k && t) e ∙ and-false k

none_written : Every (NoWriteTo 2) mixed
unfolding computed
none_written = (
  other_code 0x01 0x3F refl,
  (
    λ i s. refl,
    (
      λ i s. refl,
      (
        other_code 0xFF 0 refl,
        (
          other_code 0x16 0 refl,
          (λ i s. refl, (λ i s. refl, (λ i s. refl, (λ i s. refl, refl)))),
        ),
      ),
    ),
  ),
)

shown : Both BoardCovers (board_answers first mixed) (board_answers second mixed)
    × Both BoardNearer (board_answers first mixed) (board_answers second mixed)
unfolding computed board_before
shown = (
  board_demand_3.0 first second mixed refl (power_on_tightened, (tightened (wider_refl _) writable_wider, refl)) none_written,
  board_demand_3.1 first second mixed refl (power_on_tightened, (tightened (wider_refl _) writable_wider, refl)) none_written,
)

-- Writes to descriptors. Segment 0 ends at %10 in the first board and at %20 in the second. Once DIRW is written to both, it begins there: the
-- block %18 is then inside the first's and outside the second's, and %30 is %20 blocks from the first's edge and %10 from the second's.

abbrev short : Descriptor
short = segment 0 0x10 0

abbrev long : Descriptor
long = segment 0 0x20 0

long_wider : Wider short long
long_wider =
    record {
      base = refl;
      direction = refl;
      rights = (λ e. e, (λ e. e, (λ e. e, (λ e. e, (λ e. e, refl)))));
      up = λ e. lit≤ tt;
      down = λ e. absurd (false≢true e);
    }

abbrev turn : BoardCycle
turn = seen (command false 0x0A DIRW)

abbrev reading : (offset : ℕ) → BoardCycle
reading offset = seen (cycle false true false 8 0 offset)

pub board_writes_excluded : BoardWritesExcluded
unfolding computed board_before
board_writes_excluded = (λ claim. false≢true ((told claim 0x18).sup refl), λ claim. absurd (omega (arith, told claim 0x30 refl refl)))
  where
    told : {Line : BoardAnswer → BoardAnswer → Type 0} → BoardTighterBy Line Tightened AnyCycle on_either → (offset : ℕ)
        → Line (board_answer (board_after (beside (unit short blank blank)) turn) (reading offset))
        (board_answer (board_after (beside (unit long blank blank)) turn) (reading offset))
    told claim offset =
        (claim (beside (unit short blank blank)) (beside (unit long blank blank)) (turn ∷ reading offset ∷ []) refl
        (power_on_tightened, (tightened long_wider (wider_refl _), refl)) (refl, (refl, refl))).1.0
