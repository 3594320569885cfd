-- Claims that no other proof uses, put to use on boards of two units, and readings that lie near them, refuted. What a claim says of such a
-- board is computed from its conditions; a weaker wording would leave it open.
-- Assumes nothing.
use mathlib.Core.Path.{◌≡◌, refl, ap}
use mathlib.Core.Bool.{true, false, true≢false}
use mathlib.Core.List.{List, [], ◌∷◌, map}
use mathlib.Core.Option.{none, some}
use Prim.Native.Nat.{ℕ, zero, suc, ◌<◌}
use native.Mathlib.Omega.{arith}
use lib.Dec.{eqb, lit<}
use lib.ListN.{length, get_or, drop, length-take}
use Rattle.std.specs.Prelude.{Some, None}
use Rattle.rules.specs.Flags.{has}
use Rattle.rules.specs.Kinds.{letter_of}
use Rattle.rules.specs.PowerOn.{stored_of, notes_of, quiet, power_on}
use Rattle.rules.specs.Replies.{off}
use Rattle.rules.specs.Seen.{segment, unit_holding, cycle, command, resets}
use Rattle.rules.specs.Seen.{acknowledge as acknowledges}
use Rattle.rules.specs.declared.Answer.{Answer}
use Rattle.rules.specs.declared.Cycle.{Cycle}
use Rattle.rules.specs.declared.Kind.{Kind}
use Rattle.rules.specs.declared.Kind.TheVariants.{Reset, Acknowledge, Command, Aborted, Translated, Passed, Ignored, Refused}
use Rattle.rules.specs.declared.Notes.{Notes}
use Rattle.rules.specs.declared.Unit.{Unit}
use Rattle.theorems_runs.specs.Answers.{driven}
use Rattle.theorems_runs.specs.Sequences.{Every}
use Rattle.theorems_runs.specs.Undamaged.{Undamaged}
use Rattle.theorems_runs.specs.Notes.{Ordered}
use Rattle.theorems_runs.proofs.Notes.{notes_ordered}
use Rattle.theorems_runs.proofs.Trap.{trap_shows}
use Rattle.board_rules.specs.Board.{board_answer, board_after, board_stepped, board_answers, board_final}
use Rattle.board_rules.specs.declared.Board.{Board}
use Rattle.board_rules.specs.declared.BoardCycle.{BoardCycle}
use Rattle.theorems_boards.specs.Seats.{select_of, live, unit_at, alone_at, refusal_of}
use Rattle.theorems_boards.specs.Numbers.{asks, BoardAsItStood}
use Rattle.theorems_boards.specs.Alone.{board_on, PastStay, board_of_one}
use Rattle.theorems_boards.specs.Said.{Joined, board_kind_of}
use Rattle.theorems_boards.proofs.Computed.{conditions, computed}
use Rattle.theorems_boards.proofs.Exactly.{driver_address, board_kind_exactly, board_sup_exactly, board_trap_shows}
use Rattle.theorems_boards.proofs.Numbers.{board_numbers_exactly, named_exactly, twelve_exactly}
use Rattle.theorems_boards.proofs.One.{one_is_the_unit}
use Rattle.theorems_boards.proofs.Said.{driver-named, lines_joined}
use Rattle.theorems_boards.proofs.Unseen.{past_unseen, selects_unseen}
use Rattle.theorems_boards.proofs.Units.{each_alone, holds_of_each, past_the_count, board_from_power_on, board_refusal_leaves}

-- Units, boards and cycles

-- MR, notes, and segment 0 at base %1000 with every right and limit %FF, all else as at power-on
abbrev unit : (mr : ℕ) → Notes → Unit
unit mr n = unit_holding mr 0 0 (stored_of 0 0 0 0 0) 0 0 n 0 (segment 0x1000 0xFF 0)

abbrev request : Notes
request = notes_of true false false false

abbrev await : Notes
await = notes_of false true false false

abbrev hold : Notes
hold = notes_of false false false true

-- SAR 64: it refuses every cycle with 2
abbrev damaged-unit : Unit
damaged-unit = unit_holding 0 64 0 (stored_of 0 0 0 0 0) 0 0 quiet 0 (segment 0 0 0)

abbrev two : Unit → Unit → Board
two u v = record { units = u ∷ v ∷ []; count = 2 }

abbrev selecting : (selects : ℕ) → Cycle → BoardCycle
selecting k c = record { cycle = c; selects = k }

-- a CPU read of segment 0, offset 2: a fetch, and a read of data
abbrev fetching : BoardCycle
fetching = selecting 0 (cycle false true false 13 0 2)

abbrev reading : BoardCycle
reading = selecting 0 (cycle false true false 8 0 2)

-- Kind: each of its rows

pub kinds_computed :
    ((board_answer (two (unit 0x00 await) (unit 0xC0 quiet)) fetching).answer.kind ≡ Translated)
    × ((board_answer (two (unit 0x80 await) (unit 0x00 quiet)) fetching).answer.kind ≡ Aborted)
    × ((board_answer (two (unit 0x00 quiet) (unit 0x80 quiet)) fetching).answer.kind ≡ Passed)
    × ((board_answer (two (unit 0x00 quiet) (unit 0x00 await)) fetching).answer.kind ≡ Aborted)
    × ((board_answer (two (unit 0x00 quiet) (unit 0x00 await)) reading).answer.kind ≡ Ignored)
    × ((board_answer (two (unit 0xC0 quiet) (unit 0xC0 quiet)) (selecting 3 resets)).answer.kind ≡ Reset)
    × ((board_answer (two (unit 0x00 quiet) (unit 0x00 quiet)) (selecting 0 acknowledges)).answer.kind ≡ Acknowledge)
    × ((board_answer (two (unit 0x00 quiet) (unit 0x00 quiet)) (selecting 2 (command false 0x00 0xC0))).answer.kind ≡ Command)
    × ((board_answer (two (unit 0x00 quiet) (unit 0x00 quiet)) (selecting 4 (command true 0x12 0))).answer.kind ≡ Ignored)
    × ((board_answer (two (unit 0xC0 quiet) (unit 0x80 quiet)) reading).answer.kind ≡ Refused 12)
unfolding conditions
kinds_computed = (
  board_kind_exactly _ _ (lit< tt),
  board_kind_exactly _ _ (lit< tt),
  board_kind_exactly _ _ (lit< tt),
  board_kind_exactly _ _ (lit< tt),
  board_kind_exactly _ _ (lit< tt),
  board_kind_exactly _ _ (lit< tt),
  board_kind_exactly _ _ (lit< tt),
  board_kind_exactly _ _ (lit< tt),
  board_kind_exactly _ _ (lit< tt),
  board_kind_exactly _ _ (lit< tt),
)

-- a board of no unit at all, which the code's type excludes, takes a reset for nothing
pub unit_needed : ((b : Board) (c : BoardCycle) → (board_answer b c).answer.kind ≡ board_kind_of b c) → ⊥
unfolding computed
unit_needed claim =
    true≢false (ap (λ (k : Kind). eqb (letter_of k) 73) (claim (record { units = []; count = 1 }) (selecting 0 resets)))

-- Who is named, and whose address it is

-- unit 0 awaits the fetch and drives nothing; unit 1 translates it
abbrev apart : Board
apart = two (unit 0x00 await) (unit 0xC0 quiet)

apart_unrefused : refusal_of apart fetching ≡ none
unfolding conditions
apart_unrefused = board_numbers_exactly apart fetching

pub apart-driven :
    ((board_answer apart fetching).named ≡ Some 1) × ((board_answer apart fetching).answer.address ≡ driven 0x1002)
    × ((board_answer apart fetching).answer.distance ≡ 0xFD) × ((board_answer apart fetching).answer.kind ≡ Translated)
unfolding computed
apart-driven =
    let named : (board_answer apart fetching).named ≡ Some 1 = ((driver-named apart fetching apart_unrefused).unit 1).1 (lit< tt, refl) in (
      named,
      ((driver_address apart fetching apart_unrefused).driven 1 named).address,
      ((driver_address apart fetching apart_unrefused).driven 1 named).distance,
      ((driver_address apart fetching apart_unrefused).driven 1 named).kind,
    )

-- and its await has ended in unit 0 all the same
pub apart_ended : (unit_at 0 (board_after apart fetching)).registers.notes.awaits ≡ false
unfolding computed
apart_ended = ap (λ (u : Unit). u.registers.notes.awaits) (each_alone apart fetching 0 apart_unrefused (lit< tt))

-- nobody drives: no address, no distance
abbrev asleep : Board
asleep = two (unit 0x00 quiet) (unit 0x00 await)

asleep_unrefused : refusal_of asleep fetching ≡ none
unfolding conditions
asleep_unrefused = board_numbers_exactly asleep fetching

pub asleep_undriven : ((board_answer asleep fetching).answer.address ≡ off) × ((board_answer asleep fetching).answer.distance ≡ 0)
unfolding conditions
asleep_undriven =
    (driver_address asleep fetching asleep_unrefused).undriven ((driver-named asleep fetching asleep_unrefused).nobody.1 refl)

-- Joined lines

-- unit 0 is held back, and unit 1 translates without a violation: SUP is on, though it is off in the unit that drives
abbrev held : Board
held = two (unit 0x00 hold) (unit 0xC0 quiet)

held_unrefused : refusal_of held reading ≡ none
unfolding conditions
held_unrefused = board_numbers_exactly held reading

pub held-suppressed : ((board_answer held reading).answer.sup ≡ true) × ((alone_at 1 held reading).answer.sup ≡ false)
unfolding computed
held-suppressed = ((lines_joined held reading held_unrefused).sup.on 0 (lit< tt) refl, refl)

pub sup_computed : (board_answer held reading).answer.sup ≡ true
unfolding conditions
sup_computed = board_sup_exactly held reading

-- requests of units with ID 1 and 3 stand: an acknowledge shows both, and no other line
abbrev calling : Board
calling = two (unit 0x81 request) (unit 0x83 request)

calling_unrefused : refusal_of calling (selecting 0 acknowledges) ≡ none
unfolding conditions
calling_unrefused = board_numbers_exactly calling (selecting 0 acknowledges)

pub calling_answered :
    (has (board_answer calling (selecting 0 acknowledges)).answer.byte 2 ≡ true)
    × (has (board_answer calling (selecting 0 acknowledges)).answer.byte 8 ≡ true)
    × (has (board_answer calling (selecting 0 acknowledges)).answer.byte 4 ≡ false)
    × ((board_answer calling (selecting 0 acknowledges)).answer.drives ≡ true)
    × ((board_answer calling (selecting 0 acknowledges)).answer.trap ≡ false)
unfolding computed
calling_answered =
    let j : Joined calling (selecting 0 acknowledges) = lines_joined calling (selecting 0 acknowledges) calling_unrefused in (
      (j.byte 1).on 0 (lit< tt) refl,
      (j.byte 3).on 1 (lit< tt) refl,
      (j.byte 2).off (of_two (λ x. has x.byte 4 ≡ false) refl refl),
      j.drives.on 1 (lit< tt) refl,
      j.trap.off (of_two (λ x. x.trap ≡ false) refl refl),
    )
  where
    of_two : (P : Answer → Type 0) → P (alone_at 0 calling (selecting 0 acknowledges)).answer
        → P (alone_at 1 calling (selecting 0 acknowledges)).answer
        → (i : ℕ) → i < 2 → P (alone_at i calling (selecting 0 acknowledges)).answer
    of_two P p q zero h = p
    of_two P p q (suc zero) h = q
    of_two P p q (suc (suc i)) h = absurd (omega arith)

-- the trap line of unit 0, while unit 1 has none; and no trap line of a board whose count is 0
abbrev warning : Board
warning = two (unit 0x00 request) (unit 0xC0 quiet)

abbrev uncounted : Board
uncounted = record { units = unit 0x00 request ∷ []; count = 0 }

pub trap_computed : ((board_answer warning reading).answer.trap ≡ true) × ((board_answer uncounted reading).answer.trap ≡ false)
unfolding computed
trap_computed = (board_trap_shows warning reading, board_trap_shows uncounted reading)

-- Refusals

-- unit 1 refuses with 2: unit 0, that would have translated, is left, and the request in it shows
abbrev stopped : Board
stopped = two (unit 0xC0 request) damaged-unit

pub stopped_named : (refusal_of stopped reading ≡ some 2) × ((board_answer stopped reading).named ≡ Some 1)
unfolding conditions
stopped_named = (board_numbers_exactly stopped reading, named_exactly stopped reading (record { number = 2; named = Some 1 }) refl)

pub stopped-left :
    ((board_answer stopped reading).answer.address ≡ off) × ((board_answer stopped reading).answer.sup ≡ false)
    × ((board_answer stopped reading).answer.trap ≡ true) × (board_after stopped reading ≡ stopped)
unfolding conditions
stopped-left =
    let left : BoardAsItStood stopped (board_stepped stopped reading) = board_refusal_leaves stopped reading 2 stopped_named.0 in
    (left.address, left.sup, left.trap, left.board)

-- where the board refuses, a unit is not the single unit after the cycle
pub unrefused_needed : ((b : Board) (c : BoardCycle) (i : ℕ) → i < length (live b) → unit_at i (board_after b c) ≡ (alone_at i b c).unit) → ⊥
unfolding computed
unrefused_needed claim =
    true≢false (ap (λ (u : Unit). eqb u.registers.control.mr 0xC0)
    (claim (two (unit 0xC0 quiet) damaged-unit) (selecting 1 (command false 0x00 0x00)) 0 (lit< tt)))

-- 12 is given to two units that may drive, though one passes and the other translates
pub twelve_given : refusal_of (two (unit 0xC0 quiet) (unit 0x80 quiet)) reading ≡ some 12
unfolding conditions
twelve_given = (twelve_exactly (two (unit 0xC0 quiet) (unit 0x80 quiet)) reading).1 (refl, refl, refl)

-- a command read of unit 0: a select bit past the count does not make it one of several units, and one within it does
abbrev reads_mr : (selects : ℕ) → BoardCycle
reads_mr k = selecting k (command true 0x00 0)

pub third_unseen :
    (board_stepped apart (reads_mr 5) ≡ board_stepped apart (reads_mr 1)) × (refusal_of apart (reads_mr 1) ≡ none)
    × (refusal_of apart (reads_mr 3) ≡ some 13)
unfolding conditions
third_unseen = (
  selects_unseen apart (reads_mr 5) (reads_mr 1) (record { cycle = refl; selects = same }),
  board_numbers_exactly apart (reads_mr 1),
  board_numbers_exactly apart (reads_mr 3),
)
  where
    same : (i : ℕ) → i < 2 → select_of i 5 ≡ select_of i 1
    same zero h = refl
    same (suc zero) h = refl
    same (suc (suc i)) h = absurd (omega arith)

-- Over every list of cycles

-- the trap line of each unit alone shows its request after the cycle
pub each_shows : (b : Board) (c : BoardCycle) (i : ℕ) → refusal_of b c ≡ none → i < length (live b)
    → (alone_at i b c).answer.trap ≡ asks (unit_at i (board_after b c))
each_shows = holds_of_each.1 (λ u c s. s.answer.trap ≡ asks s.unit) trap_shows

-- the last of sixteen units from power-on: its notes are in order
pub last_ordered : (cs : List BoardCycle) → Ordered (unit_at 15 (board_final (board_on 16 16) cs)).registers.notes
last_ordered = holds_of_each.2 (λ u. Ordered u.registers.notes) (board_on 16 16) 15 (lit< tt) notes_ordered

-- a unit behind a board of one stays, damaged or not
pub behind_stays : (u : Unit) (cs : List BoardCycle) → drop 1 (board_final (board_of_one u (damaged-unit ∷ [])) cs).units ≡ damaged-unit ∷ []
behind_stays u cs = (past_the_count (board_of_one u (damaged-unit ∷ [])) cs).past

-- and has no part in the answers
pub behind_unseen : (u v : Unit) (cs : List BoardCycle) → board_answers (board_of_one u (v ∷ [])) cs ≡ board_answers (board_of_one u []) cs
behind_unseen u v cs = (past_unseen (board_of_one u (v ∷ [])) (board_of_one u []) cs (record { count = refl; units = refl })).0

-- two units from power-on, whatever came: the second is undamaged
pub second_undamaged : (cs : List BoardCycle) → Undamaged (unit_at 1 (board_final (board_on 2 2) cs))
second_undamaged cs =
    let l : PastStay (board_on 2 2) (board_final (board_on 2 2) cs) = past_the_count (board_on 2 2) cs in
    go (live (board_final (board_on 2 2) cs)) (simp (length-take, l.count, l.size)) (board_from_power_on 2 2 cs)
  where
    go : (us : List Unit) → length us ≡ 2 → Every Undamaged us → Undamaged (get_or us 1 power_on)
    go [] e h = absurd (omega arith)
    go (u ∷ []) e h = absurd (omega arith)
    go (u ∷ v ∷ us) e h = h.1.0

-- a board of one: a read drives, a write of VTR is refused, MR is cleared, a read does not drive: unit 0 is named twice, and nobody else
abbrev four : List BoardCycle
four = reading ∷ selecting 1 (command false 0x02 0) ∷ selecting 1 (command false 0x00 0) ∷ reading ∷ []

pub one-named : (us : List Unit)
    → map (λ x. x.named) (board_answers (board_of_one (unit 0xC0 quiet) us) four) ≡ Some 0 ∷ Some 0 ∷ None ∷ None ∷ []
unfolding computed
one-named us = ap (map (λ x. x.named)) (one_is_the_unit (unit 0xC0 quiet) us four).0

-- and the unit is left with MR 0, those behind it as they were
pub one_left : (us : List Unit)
    → board_final (board_of_one (unit 0xC0 quiet) us) (selecting 1 (command false 0x00 0) ∷ []) ≡ board_of_one (unit 0x00 quiet) us
unfolding computed
one_left us = (one_is_the_unit (unit 0xC0 quiet) us (selecting 1 (command false 0x00 0) ∷ [])).1
