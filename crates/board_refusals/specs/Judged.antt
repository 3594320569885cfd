-- What is known of a board's units while they are judged one after another, and what it comes to.
use Rattle.std.specs.Prelude.{Bool, false, not, cond, ◌&&◌, ◌||◌, List, map, ℕ, eqb, Some, None, is_some, unwrap_or, option_map}
use Rattle.std.specs.Prelude.{Option as Optional}
use Rattle.std.specs.Option.{option_or}
use Rattle.std.proofs.Math.Option.{Option, none, some}
use Rattle.rules.specs.Bus.{cpu}
use Rattle.rules.specs.Codes.{command_of}
use Rattle.rules.specs.Numbers.{refusal_number}
use Rattle.rules.specs.Refusals.{damaged, out_of_range}
use Rattle.rules.specs.declared.Command.{Command}
use Rattle.rules.specs.declared.Command.TheVariants.{Mr, Sar, Dscr, Show, Entry, Act, Unlisted}
use Rattle.rules.specs.declared.Cycle.{Cycle}
use Rattle.rules.specs.declared.Registers.{Registers}
use Rattle.rules.specs.declared.refusal.Refusal.{Refusal as Reason}
use Rattle.rules.specs.declared.refusal.Refusal.TheVariants as reason
use Rattle.board_rules.specs.Board.{Seat, Refusal, nobodys, some_of, two_of, requests}
use Rattle.theorems_runs.specs.Cycles.{acknowledge, memory_cycle}
use Rattle.theorems_boards.specs.Numbers.{may_drive, seat_number, lowest_from, seat_drives, seat_commanded}
use Rattle.board_refusals.specs.declared.Asked.{Asked}
use Rattle.board_refusals.specs.declared.Judged.{Judged}
use Rattle.board_refusals.specs.declared.Verdict.{Verdict}

-- the number of a reason, and 0 for none
abbrev pub number_given : Optional Reason → ℕ
number_given None = 0
number_given (Some e) = refusal_number e

-- the number that says no to a command: 3 not listed, 4 the wrong way
abbrev pub read_number : Command → ℕ
read_number Mr = 0
read_number Sar = 0
read_number Dscr = 0
read_number (Show g) = 0
read_number (Entry p) = 0
read_number (Act a) = 4
read_number Unlisted = 3

abbrev pub write_number : Command → ℕ
write_number Mr = 0
write_number Sar = 0
write_number Dscr = 0
write_number (Show g) = 4
write_number (Entry p) = 0
write_number (Act a) = 0
write_number Unlisted = 3

abbrev pub code_number : Command → (read : Bool) → ℕ
code_number m read = cond read (read_number m) (write_number m)

-- the same by its reason
abbrev pub code_refusal : Command → (read : Bool) → Optional Reason
code_refusal Mr read = None
code_refusal Sar read = None
code_refusal Dscr read = None
code_refusal (Show g) read = cond read None (Some reason.WrongWay)
code_refusal (Entry p) read = None
code_refusal (Act a) read = cond read (Some reason.WrongWay) None
code_refusal Unlisted read = Some reason.Unlisted

abbrev pub asking : Cycle → Asked
asking c = record {
  outside = out_of_range c;
  memory = memory_cycle c;
  command = not c.reset && eqb c.status 3 && cpu c;
  number = option_map refusal_number (code_refusal (command_of c.offset) c.read);
}

-- the cycle concerns a unit: a reset, an acknowledge, a command that it is selected for, or a memory cycle that it drives or that finds await,
-- own or hold
abbrev pub concerns : Registers → (select : Bool) → Cycle → Asked → Bool
concerns r select c q =
    (c.reset || acknowledge c)
    || ((q.command && select)
    || (q.memory && ((r.notes.awaits || (r.notes.own || r.notes.hold)) || may_drive r.control.mr c)))

-- a unit's own number, and 0 for none: 2, 1, then that of the command
abbrev pub own_number_of : Registers → (select : Bool) → Asked → ℕ
own_number_of r select q = cond (damaged r) 2 (cond q.outside 1 (cond (q.command && select) (unwrap_or q.number 0) 0))

-- the same where there is one, each by its reason
abbrev pub own_refusal_of : Registers → (select : Bool) → Asked → Optional ℕ
own_refusal_of r select q =
    cond (damaged r) (Some (refusal_number reason.Damaged))
    (cond q.outside (Some (refusal_number reason.OutOfRange)) (cond (q.command && select) q.number None))

-- that of unit i
abbrev pub own_verdict : (i : ℕ) → Optional ℕ → Optional Verdict
own_verdict i o = option_map (λ n. record { number = n; named = Some i }) o

-- a verdict as the rules have it
abbrev pub by_number : Verdict → Refusal
by_number v = record { number = v.number; named = v.named }

abbrev pub given_or : Optional Verdict → (later : Option Refusal) → Option Refusal
given_or None later = later
given_or (Some v) later = some (by_number v)

abbrev pub given : Optional Verdict → Option Refusal
given o = given_or o none

-- no unit was judged yet
abbrev pub unjudged : Judged
unjudged = record { own = None; drives = false; clash = false; command = false; several = false; stood = false }

-- one unit more, unit i
unfoldable pub judging : Judged → (i : ℕ) → Registers → (select : Bool) → Cycle → Asked → Judged
judging j i r select c q = record {
  own = option_or j.own (own_verdict i (own_refusal_of r select q));
  drives = j.drives || (q.memory && may_drive r.control.mr c);
  clash = j.clash || (j.drives && (q.memory && may_drive r.control.mr c));
  command = j.command || (q.command && select);
  several = j.several || (j.command && (q.command && select));
  stood = j.stood || r.notes.request;
}

-- what it comes to
abbrev pub refuses : Judged → (read : Bool) → Bool
refuses j read = is_some j.own || (j.clash || (read && j.several))

abbrev pub refusal_by : Optional Verdict → (clash : Bool) → Refusal
refusal_by None clash = cond clash (nobodys 12) (nobodys 13)
refusal_by (Some v) clash = by_number v

abbrev pub refusal_in : Judged → Refusal
refusal_in j = refusal_by j.own j.clash

-- All units of a board

pub record Judgement : Type 0 where
  pub own : Option Refusal
  pub clash : Bool
  pub command : Bool
  pub several : Bool
  pub stood : Bool

abbrev pub two_ahead : (p : Seat → Bool) → (one two : Bool) → List Seat → Bool
two_ahead p one two ss = two || cond one (some_of p ss) (two_of p ss)

-- what is known and the seats that are still to come will come to; the first of them is unit i
unfoldable pub ahead : Judged → (i : ℕ) → Cycle → List Seat → Judgement
ahead j i c ss = record {
  own = given_or j.own (lowest_from i (map (seat_number c) ss));
  clash = two_ahead (λ s. memory_cycle c && seat_drives c s) j.drives j.clash ss;
  command = j.command || some_of (seat_commanded c) ss;
  several = two_ahead (seat_commanded c) j.command j.several ss;
  stood = j.stood || some_of requests ss;
}
