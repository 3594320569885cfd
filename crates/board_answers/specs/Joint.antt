-- What is kept of the answers of a board's units while they are joined one after another, and what the answers of all come to.
use Rattle.std.specs.Prelude.{Bool, false, cond, ◌||◌, List, [], ◌∷◌, ℕ, suc, Some, None, option_map}
use Rattle.std.specs.Prelude.{Option as Optional}
use Rattle.std.specs.Option.{option_or}
use Rattle.std.specs.Int.Bits.{bit_or}
use Rattle.rules.specs.declared.Address.{Address}
use Rattle.rules.specs.declared.Answer.{Answer}
use Rattle.rules.specs.declared.Cycle.{Cycle}
use Rattle.rules.specs.declared.Kind.{Kind}
use Rattle.rules.specs.declared.Kind.TheVariants.{Aborted, Ignored}
use Rattle.theorems_runs.specs.Answers.{is_aborted}
use Rattle.theorems_runs.specs.Cycles.{acknowledge}
use Rattle.board_rules.specs.Board.{is_kind, some_of, on_lines, joined_byte, kind_by, Named}
use Rattle.board_rules.specs.declared.BoardAnswer.{BoardAnswer}
use Rattle.board_answers.specs.declared.Driver.{Driver}
use Rattle.board_answers.specs.declared.Joint.{Joint}

-- no answer yet
abbrev pub nothing : Joint
nothing = record { driver = None; block = 0; distance = 0; aborted = false; sup = false; trap = false; drives = false; byte = 0 }

-- unit i by its answer, where it drives the address
abbrev pub driving : (i : ℕ) → Answer → Optional Driver
driving i x = cond (on_lines x) (Some (record { unit = i; kind = x.kind; address = x.address; distance = x.distance })) None

-- one answer more, of unit i
unfoldable pub joining : Joint → (i : ℕ) → Answer → Joint
joining t i x = record {
  driver = option_or t.driver (driving i x);
  block = t.block;
  distance = t.distance;
  aborted = t.aborted || is_aborted x.kind;
  sup = t.sup || x.sup;
  trap = t.trap || x.trap;
  drives = t.drives || x.drives;
  byte = bit_or t.byte x.byte;
}

-- one unit more that shows its request and nothing else
abbrev pub quietly : Joint → (request : Bool) → Joint
quietly t request = record {
  driver = t.driver;
  block = t.block;
  distance = t.distance;
  aborted = t.aborted;
  sup = t.sup;
  trap = t.trap || request;
  drives = t.drives;
  byte = t.byte;
}

-- What it comes to

abbrev pub nobody_in : (aborted : Bool) → Kind
nobody_in aborted = cond aborted Aborted Ignored

abbrev pub kind_in : Optional Driver → (nobody : Kind) → Kind
kind_in None nobody = nobody
kind_in (Some d) nobody = d.kind

abbrev pub address_in : Optional Driver → (block : ℕ) → Address
address_in None block = record { driven = false; block = block }
address_in (Some d) block = d.address

abbrev pub distance_in : Optional Driver → (undriven : ℕ) → ℕ
distance_in None undriven = undriven
distance_in (Some d) undriven = d.distance

abbrev pub named_in : Optional Driver → Named
named_in o = option_map (λ d. d.unit) o

abbrev pub told : Joint → Cycle → (command : Bool) → BoardAnswer
told t c command = record {
  answer = record {
    kind = kind_by c.reset (acknowledge c) command (kind_in t.driver (nobody_in t.aborted));
    address = address_in t.driver t.block;
    sup = t.sup;
    trap = t.trap;
    drives = t.drives;
    byte = t.byte;
    distance = distance_in t.driver t.distance;
  };
  named = named_in t.driver;
}

-- All answers of a board

-- the first of them that drives the address: i is the number of the first unit of the list
unfoldable pub driver_in : (i : ℕ) → List Answer → Optional Driver
driver_in i [] = None
driver_in i (x ∷ xs) = option_or (driving i x) (driver_in (suc i) xs)

-- what is kept and the answers that are still to come will come to; the first of them is unit i's
unfoldable pub ahead : Joint → (i : ℕ) → List Answer → Joint
ahead t i xs = record {
  driver = option_or t.driver (driver_in i xs);
  block = t.block;
  distance = t.distance;
  aborted = t.aborted || some_of (is_kind Aborted) xs;
  sup = t.sup || some_of (λ x. x.sup) xs;
  trap = t.trap || some_of (λ x. x.trap) xs;
  drives = t.drives || some_of (λ x. x.drives) xs;
  byte = bit_or t.byte (joined_byte xs);
}
