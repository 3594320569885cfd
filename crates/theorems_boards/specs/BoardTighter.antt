-- Demand 3 for boards: two boards whose units are pairs tightened as stated, over the same cycles; with ticket 5's line.
-- Assumes nothing.
use Rattle.std.specs.Prelude.{◌≡◌, Bool, true, false, not, cond, ◌&&◌, ◌||◌, List, [], ◌∷◌, ℕ, ◌≤◌, ◌<◌, replicate, Some}
use Rattle.rules.specs.Kinds.{number_in}
use Rattle.rules.specs.PowerOn.{stored_of, notes_of, unit_of, blank, quiet}
use Rattle.rules.specs.Seen.{cycle_with}
use Rattle.rules.specs.declared.Kind.TheVariants.{Translated}
use Rattle.rules.specs.declared.Unit.{Unit}
use Rattle.theorems_runs.specs.Answers.{aborted_fetch}
use Rattle.theorems_runs.specs.Cycles.{descriptor_write, translation_conditions}
use Rattle.theorems_runs.specs.Narrower.{Level, Narrower}
use Rattle.theorems_runs.specs.Sequences.{◌⇒◌, Every, Both}
use Rattle.theorems_runs.specs.Tighter.{Loosened}
use Rattle.theorems_runs.specs.Undamaged.{Undamaged}
use Rattle.board_rules.specs.Board.{seats_of, seen_by, some_of, board_answer, board_after, board_answers}
use Rattle.board_rules.specs.declared.Board.{Board}
use Rattle.board_rules.specs.declared.BoardAnswer.{BoardAnswer}
use Rattle.board_rules.specs.declared.BoardCycle.{BoardCycle}
use Rattle.theorems_boards.specs.Seats.{live, unit_at, cycle_at, refusal_of, given}
use Rattle.theorems_boards.specs.Settings.{mr_of}

-- The lines

-- both answers drive the same address, name the same unit, and refuse with the same number or not at all
pub record BoardSame (x y : BoardAnswer) : Type 0 where
  pub address : x.answer.address ≡ y.answer.address
  pub number : number_in x.answer.kind ≡ number_in y.answer.kind
  pub named : x.named ≡ y.named

-- the same, and the answer x suppresses wherever y does
pub record BoardCovers (x y : BoardAnswer) : Type 0 where
  pub address : x.answer.address ≡ y.answer.address
  pub sup : y.answer.sup ⇒ x.answer.sup
  pub number : number_in x.answer.kind ≡ number_in y.answer.kind
  pub named : x.named ≡ y.named

-- ticket 5: where both translate the cycle, the second is at least as far from the edge as the first
abbrev pub BoardNearer : BoardAnswer → BoardAnswer → Type 0
BoardNearer x y = x.answer.kind ≡ Translated → y.answer.kind ≡ Translated → x.answer.distance ≤ y.answer.distance

abbrev pub EachBoardLine : (Claim : (Line : BoardAnswer → BoardAnswer → Type 0) → Type 0) → Type 0
EachBoardLine Claim = Claim BoardCovers × Claim BoardNearer

-- Where to stop

-- a cycle that the board does not refuse, and that is an aborted fetch in one of its units or more
abbrev pub aborted_on : Board → BoardCycle → Bool
aborted_on b c =
    not (given (refusal_of b c)) && some_of (λ s. aborted_fetch s.unit (seen_by s.select c.cycle)) (seats_of b c.selects)

-- at one of either board; of the first; nowhere
abbrev pub on_either : Board → Board → BoardCycle → Bool
on_either a b c = aborted_on a c || aborted_on b c

abbrev pub on_first : Board → Board → BoardCycle → Bool
on_first a b c = aborted_on a c

abbrev pub on_none : Board → Board → BoardCycle → Bool
on_none a b c = false

-- the cycles before the first at which two boards stop
unfoldable pub board_before : (stop : Board → Board → BoardCycle → Bool) → Board → Board → List BoardCycle → List BoardCycle
board_before stop a b [] = []
board_before stop a b (c ∷ cs) = cond (stop a b c) [] (c ∷ board_before stop (board_after a c) (board_after b c) cs)

-- Which cycles may come, for a board of n units

-- no selected CPU write of %08 to %0F to any unit
abbrev pub NoWriteTo : (n : ℕ) → BoardCycle → Type 0
NoWriteTo n c = (i : ℕ) → i < n → descriptor_write (cycle_at i c) ≡ false

abbrev pub AnyCycle : (n : ℕ) → BoardCycle → Type 0
AnyCycle n c = true ≡ true

-- demand 3, with its line, how the units of a pair start, the cycles that may come and the stop left open. Units past the count, and whether
-- the count is good, are not looked at.
abbrev pub BoardTighterBy : (Line : BoardAnswer → BoardAnswer → Type 0) → (Start : Unit → Unit → Type 0) → (May : ℕ → BoardCycle → Type 0)
    → (stop : Board → Board → BoardCycle → Bool) → Type 0
BoardTighterBy Line Start May stop =
    (a b : Board) (cs : List BoardCycle)
    → a.count ≡ b.count
    -- "when each pair is tightened as stated"
    → Both Start (live a) (live b)
    -- "the same cycles", each of them one that may come
    → Every (May a.count) cs
    -- at each cycle the answers stand in the line's relation
    → Both Line (board_answers a (board_before stop a b cs)) (board_answers b (board_before stop a b cs))

-- a pair as demand 3 has it: both undamaged, and alike in all but their descriptors, the second's wider
pub record Tightened (a b : Unit) : Type 0 where
  pub first : Undamaged a
  pub second : Undamaged b
  pub loosened : Loosened a b

-- CLAIM, demand 3 for boards, "stops before the first aborted fetch in any unit": both boards drive the same addresses at the same cycles, by
-- the same unit, and refuse the same cycles with the same numbers, and what the second suppresses the first suppresses too; and the second's
-- distance is at least the first's.
abbrev pub BoardDemand3 : Type 0
BoardDemand3 = EachBoardLine λ Line. BoardTighterBy Line Tightened NoWriteTo on_either

-- CLAIM: an aborted fetch in units of the second board alone does no harm, so the stop at the first's is enough.
abbrev pub BoardStopInFirst : Type 0
BoardStopInFirst = EachBoardLine λ Line. BoardTighterBy Line Tightened NoWriteTo on_first

-- CLAIM: from a weaker start: in each pair both undamaged, the tables tightened, MR equal and hold ordered, all else as it likes.
abbrev pub BoardNarrowerCovers : Type 0
BoardNarrowerCovers = EachBoardLine λ Line. BoardTighterBy Line Narrower NoWriteTo on_first

-- at an aborted fetch of the first board that meets the translation conditions in the unit whose it is
abbrev pub on_translating : Board → Board → BoardCycle → Bool
on_translating a b c =
    not (given (refusal_of a c))
    && some_of (λ s. aborted_fetch s.unit (seen_by s.select c.cycle) && translation_conditions (mr_of s.unit) c.cycle)
    (seats_of a c.selects)

-- CLAIM: and fewer of them need stop: an aborted fetch that its unit would not translate does no harm, such as one that another unit translates.
abbrev pub BoardStopWhereTranslated : Type 0
BoardStopWhereTranslated = EachBoardLine λ Line. BoardTighterBy Line Narrower NoWriteTo on_translating

-- unit 0 awaits its aborted fetch and has segments 0 to 63, unit 1 has segments 64 to 127
abbrev pub shared : Board
shared = record {
  units =
      unit_of (replicate 64 blank) 0xC0 0 0 (stored_of 0 0 0 0 0) 0 0 (notes_of false true false false)
      ∷ unit_of (replicate 64 blank) 0xE0 0 0 (stored_of 0 0 0 0 0) 0 0 quiet
      ∷ [];
  count = 2;
}

-- a system fetch at segment 64, offset 0: record 1D400000
abbrev pub fetch_above : BoardCycle
fetch_above = record { cycle = cycle_with 13 true false false false 64 0 0 0 false; selects = 0 }

-- CLAIM: such a one: the aborted fetch in unit 0, and translated by unit 1, whose answer the board's is.
abbrev pub FewerStop : Type 0
FewerStop =
    (on_first shared shared fetch_above ≡ true) × (on_translating shared shared fetch_above ≡ false)
    × ((board_answer shared fetch_above).answer.kind ≡ Translated) × ((board_answer shared fetch_above).named ≡ Some 1)

-- CLAIM: all lines but that on SUP need no stop, and no note either: the address, the number, the unit that is named; and the distance.
abbrev pub BoardUnstopped : Type 0
BoardUnstopped = BoardTighterBy BoardSame Level NoWriteTo on_none × BoardTighterBy BoardNearer Level NoWriteTo on_none

-- the same of one cycle, line by line, with SUP's left open
abbrev pub OnceBy : (Start : Unit → Unit → Type 0) → (stop : Board → Board → BoardCycle → Bool) → (Sup : BoardAnswer → BoardAnswer → Type 0) → Type 0
OnceBy Start stop Sup =
    (a b : Board) (c : BoardCycle) → a.count ≡ b.count → Both Start (live a) (live b) → NoWriteTo a.count c → stop a b c ≡ false
    → ((board_answer a c).answer.address ≡ (board_answer b c).answer.address)
    × Sup (board_answer a c) (board_answer b c)
    × (refusal_of a c ≡ refusal_of b c)
    × ((board_answer a c).named ≡ (board_answer b c).named)
    × ((board_answer a c).answer.kind ≡ Translated → (board_answer b c).answer.kind ≡ Translated
    → (board_answer a c).answer.distance ≤ (board_answer b c).answer.distance)

abbrev pub SupToo : BoardAnswer → BoardAnswer → Type 0
SupToo x y = y.answer.sup ⇒ x.answer.sup

-- CLAIM: each of the five says that much of one cycle, the last with nothing of SUP.
abbrev pub BoardOnce : Type 0
BoardOnce =
    OnceBy Tightened on_either SupToo × OnceBy Tightened on_first SupToo × OnceBy Narrower on_first SupToo × OnceBy Narrower on_translating SupToo
    × OnceBy Level on_none (λ x y. true ≡ true)

-- What can't be left out

-- CLAIM: with no stop it is false. The tighter unit's fault makes the next fetch an aborted one, which is never suppressed.
abbrev pub BoardStopNeeded : Type 0
BoardStopNeeded = BoardTighterBy BoardCovers Tightened NoWriteTo on_none → ⊥

-- at an aborted fetch in one unit of the first board
abbrev pub on_unit : (i : ℕ) → Board → Board → BoardCycle → Bool
on_unit i a b c = not (given (refusal_of a c)) && aborted_fetch (unit_at i a) (cycle_at i c)

-- CLAIM: and so it is where an aborted fetch in one unit alone stops: "in any unit".
abbrev pub AnyUnitStops : Type 0
AnyUnitStops = BoardTighterBy BoardCovers Tightened NoWriteTo (on_unit 0) → ⊥

-- CLAIM: with writes to descriptors it is false, each line. One that turns a segment's direction makes the wider range the tighter.
abbrev pub BoardWritesExcluded : Type 0
BoardWritesExcluded = EachBoardLine λ Line. BoardTighterBy Line Tightened AnyCycle on_either → ⊥
