-- `plan`, by the class of the cycle. Assumes nothing.
use mathlib.Core.Path.{refl, ap, ◌∙◌}
use mathlib.Core.Bool.{false}
use Rattle.std.proofs.Common.{List, arith}
use Rattle.rules.specs.declared.Unit.{Unit}
use Rattle.board_rules.specs.Board.{Seat, seated, some_of, requests}
use Rattle.theorems_boards.proofs.Lists.{seats_length}
use Rattle.board_refusals.specs.declared.Asked.{Asked}
use Rattle.board_run.specs.Plan.{units_of, uncommanded, first_verdict, PlanIs}
use Rattle.board_run.proofs.Flat.{units-length}
use Rattle.board_run.proofs.Classes.{Class, all_class, memory_class, command_class}
use Rattle.board_run.proofs.Plans.{all-off, command-off, other-off, uncommanded_known, clash_none, clash_is, command_known}
use Rattle.board_run.proofs.plan.Goals as goal

pub returns-then-memory : goal.returns-then-memory
unfolding PlanIs
returns-then-memory c = λ ts in_range healthy.
    let start = c.args in
    let ss : List Seat = seated (units_of start.registers ts start.count) start.b.selects in
    let k = memory_class start.b.cycle c.if-memory.true in
    record {
      off = c.driving-d.ensures.off ts start.b.selects c.if-memory.true;
      known =
          rw c.uncommanded.ensures
          (uncommanded_known start.b.cycle in_range k.command_is (uncommanded c.driving-d.result.clash) (some_of requests ss) ss healthy refl refl refl
          (c.driving-d.ensures.two ts start.b.selects ∙ clash_is start.b.cycle in_range c.if-memory.true ss) refl);
    }

pub returns-then-command : goal.returns-then-command
unfolding PlanIs
returns-then-command c = λ ts in_range healthy.
    let start = c.args in
    let us : List Unit = units_of start.registers ts start.count in
    let k = command_class start.b.cycle c.if-command.true in
    let s = c.selected-s.result in
    let found = c.selected-s.ensures in
    record {
      off = rw c.from.ensures (command-off start.b.cycle k us start.b.selects);
      known =
          rw c.is_some.ensures
          (command_known start.b.cycle in_range c.if-command.true us start.b.selects start.count (units-length start.registers ts start.count)
          healthy s.first s.several c.first_verdict.result (some_of requests (seated us start.b.selects))
          found.0 found.1 found.2
          (c.first_verdict.ensures ∙ ap (λ (q : Asked). first_verdict s.first q.number) c.ask-q.ensures) refl k.memory_is);
    }

-- a cycle that is no command and no memory cycle refuses nothing
pub returns-then-all : goal.returns-then-all
unfolding PlanIs
returns-then-all c = λ ts in_range healthy.
    let start = c.args in
    let us : List Unit = units_of start.registers ts start.count in
    let ss : List Seat = seated us start.b.selects in
    let k = all_class start.b.cycle c.if-all.true in
    record {
      off = all-off start.b.cycle 16 ss (omega (arith, seats_length us start.b.selects ∙ units-length start.registers ts start.count));
      known = rw c.uncommanded-judged.ensures
          (uncommanded_known start.b.cycle in_range k.command_is (uncommanded false) (some_of requests ss) ss healthy refl refl refl
          (clash_none start.b.cycle in_range k.memory_is ss) refl);
    }

pub returns : goal.returns
unfolding PlanIs
returns c = λ ts in_range healthy.
    let start = c.args in
    let ss : List Seat = seated (units_of start.registers ts start.count) start.b.selects in
    let k : Class start.b.cycle false false false = record {
      all_is = c.if-all.false;
      command_is = c.if-command.false;
      memory_is = c.if-memory.false;
    } in
    record {
      off = other-off start.b.cycle k 0 ss;
      known = rw c.uncommanded-judged.ensures
          (uncommanded_known start.b.cycle in_range k.command_is (uncommanded false) (some_of requests ss) ss healthy refl refl refl
          (clash_none start.b.cycle in_range k.memory_is ss) refl);
    }
