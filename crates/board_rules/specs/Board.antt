-- Ticket 3, the sixteen-unit board: what a board of any number of units answers, and the board after a cycle.
-- All is said of a list of seats, a seat being a unit with its select bit. Every unit is decided with its own select, the board's refusals are
-- judged on these answers, and only where it refuses none is any unit stepped.
use Rattle.std.specs.Prelude.{Bool, true, false, cond, ◌&&◌, ◌||◌, List, [], ◌∷◌, ◌++◌, map, ℕ, suc, ◌/◌, ◌%◌, eqb, ltb, take, drop, Some, None}
use Rattle.std.specs.Prelude.{Option as Optional}
use Rattle.std.proofs.Math.Option.{Option, none, some}
use Rattle.std.specs.Int.Bits.{bit_or}
use Rattle.rules.specs.Kinds.{letter_of, number_in}
use Rattle.rules.specs.Replies.{spoken}
use Rattle.rules.specs.Step.{stepped}
use Rattle.rules.specs.declared.Answer.{Answer}
use Rattle.rules.specs.declared.Cycle.{Cycle}
use Rattle.rules.specs.declared.Kind.{Kind}
use Rattle.rules.specs.declared.Kind.TheVariants.{Reset, Acknowledge, Command, Aborted, Ignored, Refused}
use Rattle.rules.specs.declared.Stepped.{Stepped}
use Rattle.rules.specs.declared.Unit.{Unit}
use Rattle.board_rules.specs.declared.Board.{Board}
use Rattle.board_rules.specs.declared.BoardAnswer.{BoardAnswer}
use Rattle.board_rules.specs.declared.BoardCycle.{BoardCycle}
use Rattle.board_rules.specs.declared.BoardStepped.{BoardStepped}

-- Seats: "A cycle carries a select bit for each unit [..] and goes to all."

pub record Seat : Type 0 where
  pub unit : Unit
  pub select : Bool

-- the units of a list with their select bits: the first unit's is bit 0
unfoldable pub seated : List Unit → (selects : ℕ) → List Seat
seated [] selects = []
seated (u ∷ us) selects = record { unit = u; select = eqb (selects % 2) 1 } ∷ seated us (selects / 2)

-- the cycle as a unit sees it, with its own select
unfoldable pub seen_by : (select : Bool) → Cycle → Cycle
seen_by select c = record {
  status = c.status;
  read = c.read;
  normal = c.normal;
  dma = c.dma;
  select = select;
  segment = c.segment;
  offset = c.offset;
  low = c.low;
  byte = c.byte;
  reset = c.reset;
}

-- what the single unit would do: its answer, and the unit after it
abbrev pub alone : Cycle → Seat → Stepped
alone c s = stepped s.unit (seen_by s.select c)

abbrev pub answer_of : Cycle → Seat → Answer
answer_of c s = (alone c s).answer

abbrev pub afterwards : Cycle → Seat → Unit
afterwards c s = (alone c s).unit

abbrev pub unit_of : Seat → Unit
unit_of s = s.unit

-- Words about lists

-- a test holds of some element of a list
unfoldable pub some_of : {A : Type 0} → (A → Bool) → List A → Bool
some_of p [] = false
some_of p (x ∷ l) = p x || some_of p l

-- a test holds of at least two elements
unfoldable pub two_of : {A : Type 0} → (A → Bool) → List A → Bool
two_of p [] = false
two_of p (x ∷ l) = cond (p x) (some_of p l) (two_of p l)

-- Refusals

-- the number of a unit, where there is one to name
abbrev pub Named : Type 0
Named = Optional ℕ

-- a refusal: its number, and the unit that it names
pub record Refusal : Type 0 where
  pub number : ℕ
  pub named : Named

abbrev pub nobodys : (number : ℕ) → Refusal
nobodys n = record { number = n; named = None }

-- "11, unit count not 1 to 16"
abbrev pub wrong_count : (count : ℕ) → Bool
wrong_count n = eqb n 0 || ltb 16 n

-- "any unit's own refusal, lowest unit first": i is the number of the first unit of the list
abbrev pub own_by : Option ℕ → (i : ℕ) → (later : Option Refusal) → Option Refusal
own_by (some n) i later = some (record { number = n; named = Some i })
own_by none i later = later

unfoldable pub own_from : (i : ℕ) → List Answer → Option Refusal
own_from i [] = none
own_from i (x ∷ xs) = own_by (number_in x.kind) i (own_from (suc i) xs)

-- a unit drives the address: translated, passed, or in an aborted fetch
abbrev pub on_lines : Answer → Bool
on_lines x = x.address.driven

-- "12, two units would drive the address"
abbrev pub clash : List Answer → Bool
clash xs = two_of on_lines xs

-- an answer is of a kind; refusals are told apart by their numbers, and not here
abbrev pub is_kind : Kind → Answer → Bool
is_kind k x = eqb (letter_of x.kind) (letter_of k)

-- "13, a command read selects more than one unit"
abbrev pub several_read : Cycle → List Answer → Bool
several_read c xs = c.read && two_of (is_kind Command) xs

-- "Refusals: 11 [..] comes first; then any unit's own refusal [..]; then 12 [..]; then 13"
abbrev pub verdict_by : (own : Option Refusal) → (clash several : Bool) → Option Refusal
verdict_by (some r) clash several = some r
verdict_by none true several = some (nobodys 12)
verdict_by none false true = some (nobodys 13)
verdict_by none false false = none

-- what the seats of a board refuse, its count being good
unfoldable pub verdict : Cycle → List Seat → Option Refusal
verdict c ss = verdict_by (own_from 0 (map (answer_of c) ss)) (clash (map (answer_of c) ss)) (several_read c (map (answer_of c) ss))

-- Answers

-- nothing driven, SUP off
abbrev pub silent : Kind → (trap : Bool) → Answer
silent k trap = spoken k trap false 0

-- a unit's request stands
abbrev pub requests : Seat → Bool
requests s = s.unit.registers.notes.request

-- a refusal's answer; the trap line is on if any unit's request stood
abbrev pub refusing : Refusal → (trap : Bool) → BoardAnswer
refusing r trap = record { answer = silent (Refused r.number) trap; named = r.named }

-- the answer of the unit that drives the address, and x where none does
unfoldable pub driver : (x : Answer) → List Answer → Answer
driver x [] = x
driver x (y ∷ ys) = cond (on_lines y) y (driver x ys)

-- which unit drove the address: i is the number of the first unit of the list
unfoldable pub driver_from : (i : ℕ) → List Answer → Named
driver_from i [] = None
driver_from i (y ∷ ys) = cond (on_lines y) (Some i) (driver_from (suc i) ys)

-- "acknowledge lines are joined: a line is high if any unit drives it so"
unfoldable pub joined_byte : List Answer → ℕ
joined_byte [] = 0
joined_byte (x ∷ xs) = bit_or x.byte (joined_byte xs)

-- the kind: reset, acknowledge, command where at least one unit takes it as one; else the kind of the unit that drives the address; if none
-- drives, F where it is the aborted fetch in any unit, else I
abbrev pub kind_by : (reset acknowledge command : Bool) → (driver : Kind) → Kind
kind_by true acknowledge command k = Reset
kind_by false true command k = Acknowledge
kind_by false false true k = Command
kind_by false false false k = k

abbrev pub nobody_drives : List Answer → Kind
nobody_drives xs = cond (some_of (is_kind Aborted) xs) Aborted Ignored

unfoldable pub kind_of : List Answer → Kind
kind_of xs =
    kind_by (some_of (is_kind Reset) xs) (some_of (is_kind Acknowledge) xs) (some_of (is_kind Command) xs)
    (driver (silent (nobody_drives xs) false) xs).kind

-- "SUP and the trap line are on if any unit's is"; the address is that of the one unit that drives; ticket 5: "a board carries its translating
-- unit's" distance, which is 0 of one that passes or aborts
unfoldable pub joined : List Answer → BoardAnswer
joined xs = record {
  answer = record {
    kind = kind_of xs;
    address = (driver (silent Ignored false) xs).address;
    sup = some_of (λ x. x.sup) xs;
    trap = some_of (λ x. x.trap) xs;
    drives = some_of (λ x. x.drives) xs;
    byte = joined_byte xs;
    distance = (driver (silent Ignored false) xs).distance;
  };
  named = driver_from 0 xs;
}

-- The seats of a board, its count being good

abbrev pub answer_by : Option Refusal → Cycle → List Seat → BoardAnswer
answer_by (some r) c ss = refusing r (some_of requests ss)
answer_by none c ss = joined (map (answer_of c) ss)

-- "The board stays as it was"
abbrev pub units_by : Option Refusal → Cycle → List Seat → List Unit
units_by (some r) c ss = map unit_of ss
units_by none c ss = map (afterwards c) ss

unfoldable pub seats_answer : Cycle → List Seat → BoardAnswer
seats_answer c ss = answer_by (verdict c ss) c ss

unfoldable pub seats_after : Cycle → List Seat → List Unit
seats_after c ss = units_by (verdict c ss) c ss

-- The board

-- the units that the count takes in, with their select bits: "bits past the count are ignored"
abbrev pub seats_of : Board → (selects : ℕ) → List Seat
seats_of b selects = seated (take b.count b.units) selects

-- "11 shows the trap line off"
abbrev pub board_answer_by : (wrong : Bool) → Board → BoardCycle → BoardAnswer
board_answer_by true b c = refusing (nobodys 11) false
board_answer_by false b c = seats_answer c.cycle (seats_of b c.selects)

abbrev pub board_units_by : (wrong : Bool) → Board → BoardCycle → List Unit
board_units_by true b c = b.units
board_units_by false b c = seats_after c.cycle (seats_of b c.selects) ++ drop b.count b.units

unfoldable pub board_answer : Board → BoardCycle → BoardAnswer
board_answer b c = board_answer_by (wrong_count b.count) b c

unfoldable pub board_after : Board → BoardCycle → Board
board_after b c = record { units = board_units_by (wrong_count b.count) b c; count = b.count }

-- one cycle of a board
abbrev pub board_stepped : Board → BoardCycle → BoardStepped
board_stepped b c = record { board = board_after b c; answer = board_answer b c }

-- cycles one after another: the answers, and the board after all of them
unfoldable pub board_answers : Board → List BoardCycle → List BoardAnswer
board_answers b [] = []
board_answers b (c ∷ cs) = board_answer b c ∷ board_answers (board_after b c) cs

unfoldable pub board_final : Board → List BoardCycle → Board
board_final b [] = b
board_final b (c ∷ cs) = board_final (board_after b c) cs
