-- The loop of `judge_all`: after a unit, and at its end. Assumes nothing.
use mathlib.Core.Path.{sym, ap, ◌∙◌}
use Rattle.std.proofs.Common.{◌+◌, ◌/◌, ◌%◌, ◌^◌, List, [], arith}
use lib.Dec.{eqb}
use lib.ListN.{get_or}
use Rattle.rules.specs.PowerOn.{power_on}
use Rattle.rules.specs.declared.Unit.{Unit}
use Rattle.board_rules.specs.Board.{Seat, seated}
use Rattle.board_refusals.specs.Judged.{ahead, judging}
use Rattle.board_refusals.specs.declared.Asked.{Asked}
use Rattle.board_refusals.specs.declared.Judged.{Judged}
use Rattle.board_refusals.proofs.Laws.{known}
use Rattle.board_step.proofs.Turns.{rest, rest_none, judge_turn}
use Rattle.board_step.proofs.judge_all.Goals as goal

-- the value past the end of a list of units
abbrev nobody : Unit
nobody = record { table = []; registers = power_on.registers }

pub loop-i-preserved : goal.loop-i-preserved
loop-i-preserved c =
    let start = c.args in
    let l = c.loop-i in
    ap (λ (k : Judged). ahead k (l.i + 1) start.c.cycle (rest start.units.now (l.i + 1) start.c.selects))
    (c.judge-j.ensures ∙ ap (λ (q : Asked). judging l.j l.i (get_or start.units.now l.i nobody).registers (eqb (start.c.selects / 2 ^ l.i % 2) 1) start.c.cycle q) c.ask-q.ensures)
    ∙ judge_turn start.units.now l.i start.c.selects nobody start.c.cycle (omega arith) l.j
    ∙ l.invariant

pub returns : goal.returns
returns c =
    let start = c.args in
    let l = c.loop-i in
    known l.j l.i start.c.cycle (seated start.units.now start.c.selects)
    (ap (λ (ss : List Seat). ahead l.j l.i start.c.cycle ss) (sym (rest_none start.units.now l.i start.c.selects (omega arith))) ∙ l.invariant)
