-- Ticket 3, what a board answers: who is named, whose address it is, what is joined; and its kind, SUP and the trap line as one equation each.
-- Assumes nothing.
use Rattle.std.specs.Prelude.{◌≡◌, ◌↔◌, Bool, true, false, not, cond, ◌&&◌, ◌||◌, List, [], ◌∷◌, ℕ, ◌<◌, ◌^◌, length, Some, None}
use Rattle.std.proofs.Math.Option.{Option, none, some}
use Rattle.rules.specs.Flags.{has}
use Rattle.rules.specs.Replies.{off}
use Rattle.rules.specs.declared.Answer.{Answer}
use Rattle.rules.specs.declared.Cycle.{Cycle}
use Rattle.rules.specs.declared.Kind.{Kind}
use Rattle.rules.specs.declared.Kind.TheVariants.{Reset, Acknowledge, Command, Aborted, Translated, Passed, Ignored, Refused}
use Rattle.rules.specs.declared.Unit.{Unit}
use Rattle.theorems_runs.specs.Answers.{awaited, violation, held_back}
use Rattle.theorems_runs.specs.Cycles.{memory_cycle, acknowledge, translation_conditions}
use Rattle.board_rules.specs.Board.{seats_of, some_of, Refusal, wrong_count, board_answer, board_after}
use Rattle.board_rules.specs.declared.Board.{Board}
use Rattle.board_rules.specs.declared.BoardCycle.{BoardCycle}
use Rattle.theorems_boards.specs.Seats.{live, unit_at, alone_at, refusal_of}
use Rattle.theorems_boards.specs.Numbers.{asks, may_drive, seat_commanded, expected}

-- Who is named, where the board does not refuse

-- a unit's MR lets it drive the address of a memory cycle
abbrev pub ready : Cycle → Unit → Bool
ready c u = may_drive u.registers.control.mr c

pub record NamesDriver (b : Board) (c : BoardCycle) : Type 0 where
  -- unit i exactly if it is within the count, the cycle is a memory cycle and the unit may drive
  pub unit : (i : ℕ)
      → ((board_answer b c).named ≡ Some i) ↔ ((i < length (live b)) × ((memory_cycle c.cycle && ready c.cycle (unit_at i b)) ≡ true))
  -- nobody exactly if it is no memory cycle or no unit within the count may drive
  pub nobody : ((board_answer b c).named ≡ None) ↔ ((memory_cycle c.cycle && some_of (ready c.cycle) (live b)) ≡ false)

-- CLAIM: where the board does not refuse, the answer names the unit that drives the address, and nobody where none drives.
abbrev pub DriverNamed : Type 0
DriverNamed = (b : Board) (c : BoardCycle) → refusal_of b c ≡ none → NamesDriver b c

-- Whose address it is

-- the board's answer shows the address, the distance and the kind of this one
pub record Shows (x y : Answer) : Type 0 where
  pub kind : y.kind ≡ x.kind
  pub address : y.address ≡ x.address
  pub distance : y.distance ≡ x.distance

pub record ShowsDriver (b : Board) (c : BoardCycle) : Type 0 where
  pub driven : (i : ℕ) → (board_answer b c).named ≡ Some i → Shows (alone_at i b c).answer (board_answer b c).answer
  pub undriven : (board_answer b c).named ≡ None → ((board_answer b c).answer.address ≡ off) × ((board_answer b c).answer.distance ≡ 0)

-- CLAIM: where the board does not refuse, address, distance and kind are those that the driving unit would give alone; where nobody drives,
-- no address and no distance.
abbrev pub DriverAddress : Type 0
DriverAddress = (b : Board) (c : BoardCycle) → refusal_of b c ≡ none → ShowsDriver b c

-- What is joined

-- a line of the board is on exactly if it is on in some unit alone
pub record AnyOf (line : Answer → Bool) (b : Board) (c : BoardCycle) : Type 0 where
  pub on : (i : ℕ) → i < length (live b) → line (alone_at i b c).answer ≡ true → line (board_answer b c).answer ≡ true
  pub off : ((i : ℕ) → i < length (live b) → line (alone_at i b c).answer ≡ false) → line (board_answer b c).answer ≡ false

-- SUP, the trap line, whether the byte is driven, and each bit of the byte
pub record Joined (b : Board) (c : BoardCycle) : Type 0 where
  pub sup : AnyOf (λ x. x.sup) b c
  pub trap : AnyOf (λ x. x.trap) b c
  pub drives : AnyOf (λ x. x.drives) b c
  pub byte : (k : ℕ) → AnyOf (λ x. has x.byte (2 ^ k)) b c

-- CLAIM: where the board does not refuse, "SUP and the trap line are on if any unit's is; acknowledge lines are joined: a line is high if any
-- unit drives it so", and off if none is.
abbrev pub LinesJoined : Type 0
LinesJoined = (b : Board) (c : BoardCycle) → refusal_of b c ≡ none → Joined b c

-- Kind

-- the first element of a list of which a test holds
unfoldable pub first : {A : Type 0} → (A → Bool) → List A → Option A
first p [] = none
first p (x ∷ l) = cond (p x) (some x) (first p l)

-- the unit that drives the address of a memory cycle: where 12 is not given, no other may
abbrev pub driver_of : Cycle → List Unit → Option Unit
driver_of c us = first (ready c) us

-- the kind of a memory cycle in the unit that drives: F if it is the aborted fetch there, else T if it meets the translation conditions, else P
abbrev pub kind_in : Cycle → Unit → Kind
kind_in c u = cond (awaited u c) Aborted (cond (translation_conditions u.registers.control.mr c) Translated Passed)

-- "if none drives, F where it is the aborted fetch in any unit, else I"
abbrev pub memory_kind : (driver : Option Unit) → Cycle → List Unit → Kind
memory_kind (some u) c us = kind_in c u
memory_kind none c us = cond (some_of (λ u. awaited u c) us) Aborted Ignored

-- "X with its number if refused; else R, A; C where at least one unit takes it as a selected command"; else that of a memory cycle; else I
abbrev pub board_kind_by : (refusal : Option Refusal) → (reset acknowledge command memory : Bool) → (accessed : Kind) → Kind
board_kind_by (some r) reset a k m x = Refused r.number
board_kind_by none true a k m x = Reset
board_kind_by none false true k m x = Acknowledge
board_kind_by none false false true m x = Command
board_kind_by none false false false true x = x
board_kind_by none false false false false x = Ignored

abbrev pub board_kind_of : Board → BoardCycle → Kind
board_kind_of b c =
    board_kind_by (expected b c) c.cycle.reset (acknowledge c.cycle) (some_of (seat_commanded c.cycle) (seats_of b c.selects))
    (memory_cycle c.cycle) (memory_kind (driver_of c.cycle (live b)) c.cycle (live b))

-- CLAIM: the kind of every board and every cycle, refused or not, by its registers and the cycle alone.
abbrev pub BoardKindExactly : Type 0
BoardKindExactly =
    (b : Board) (c : BoardCycle)
    -- the code's type says 16 units of every board; a list of antt may have none
    → 0 < length b.units
    → (board_answer b c).answer.kind ≡ board_kind_of b c

-- SUP and the trap line

abbrev pub unless_refused : Option Refusal → Bool → Bool
unless_refused (some r) t = false
unless_refused none t = t

-- CLAIM: SUP is on exactly where the board does not refuse and some unit within the count violates or is held back, driving or not.
abbrev pub BoardSupExactly : Type 0
BoardSupExactly =
    (b : Board) (c : BoardCycle)
    → (board_answer b c).answer.sup
    ≡ unless_refused (expected b c) (some_of (λ u. violation u c.cycle || held_back u c.cycle) (live b))

-- CLAIM: the trap line shows whether a request stands after the cycle in some unit within the count, refused or not; "11 shows the trap line
-- off".
abbrev pub BoardTrapShows : Type 0
BoardTrapShows =
    (b : Board) (c : BoardCycle) → (board_answer b c).answer.trap ≡ (not (wrong_count b.count) && some_of asks (live (board_after b c)))
