-- The loop of `judge_all`: after a unit, and at its end. Assumes nothing.
use mathlib.Core.Path.{◌≡◌, ◌∙◌}
use Rattle.std.proofs.Common.{ℕ, ◌/◌, ◌%◌, ◌^◌, length, arith, rules}
use lib.Dec.{eqb}
use Rattle.unit_bytes.specs.Snapshot.{unit_size}
use Rattle.board_rules.proofs.Ahead.{select_next}
use Rattle.board_refusals.specs.Judged.{asking, judging}
use Rattle.board_refusals.proofs.Laws.{known}
use Rattle.board_bytes.specs.Boarded.{held_registers, seats_in}
use Rattle.board_bytes.proofs.Turns.{enough_left, judge_turn, judged_all}
use Rattle.board_bytes.proofs.judge_all.Goals as goal

pub loop-i-preserved : goal.loop-i-preserved
loop-i-preserved c =
    let start = c.args in
    let l = c.loop-i in
    let before = l.invariant in
    let taken = c.in-Some.ensures.steps in
    let counted = taken.0 in
    let cut = counted.0 in
    let size : length c.in-Some.unit.now ≡ unit_size = search rules in
    let i : ℕ = l.i-iterator.iter.count in
    let left : ℕ = start.c.selects / 2 ^ i in
    let one : c.judge-j.result ≡ judging l.j i (held_registers c.in-Some.unit.now) (eqb (left % 2) 1) start.c.cycle (asking start.c.cycle) =
    rw (← counted.1, ← c.ask-q.ensures, ← c.held_registers-r.ensures) c.judge-j.ensures in (
      cut.0 ∙ before.0,
      omega (arith, before.1, counted.2, taken.1),
      enough_left l.i-iterator.n _ _ _ _ taken.1 cut.1.0 size before.2,
      rw (counted.2, ← select_next i start.c.selects, one)
          (judge_turn l.i-iterator.n _ _ _ _ taken.1 cut.1.0 size l.j i left start.c.cycle) ∙ before.3,
    )

pub returns : goal.returns
returns c =
    let l = c.loop-i in
    let start = c.args in
    let rest = l.i-iterator in
    known l.j rest.iter.count start.c.cycle (seats_in start.units.now start.count start.c.selects)
    (judged_all rest.n rest.iter.iter.rest.now l.j rest.iter.count (start.c.selects / 2 ^ rest.iter.count) start.c.cycle l.invariant.2
    (λ more. omega (arith, l.invariant.0, (c.in-None.ensures.steps more).0.1.0))
    ∙ l.invariant.3)
