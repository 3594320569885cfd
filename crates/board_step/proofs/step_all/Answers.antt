-- The loop of `step_all`: after a unit, and at its end. Assumes nothing.
use mathlib.Core.Path.{◌≡◌, refl, sym, ap, ◌∙◌}
use mathlib.Core.List.{append-nil}
use Rattle.std.proofs.Common.{ℕ, ◌+◌, ◌/◌, ◌%◌, ◌^◌, ◌++◌, List, [], map, length, take, arith}
use lib.Dec.{eqb}
use lib.ListN.{get_or, length-set}
use lib.Seq.{take_all}
use Rattle.rules.specs.PowerOn.{power_on}
use Rattle.rules.specs.Step.{stepped}
use Rattle.rules.specs.declared.Cycle.{Cycle}
use Rattle.rules.specs.declared.Stepped.{Stepped}
use Rattle.rules.specs.declared.Unit.{Unit}
use Rattle.board_rules.specs.Board.{Seat, alone, answer_of, afterwards}
use Rattle.board_rules.proofs.Ahead.{mapped_turn, agree_at, agree_turn}
use Rattle.board_answers.specs.Joint.{joining, ahead}
use Rattle.board_answers.specs.declared.Joint.{Joint}
use Rattle.board_step.proofs.Turns.{rest, rest_all, rest_none, rest_next, join_turn}
use Rattle.board_step.proofs.step_all.Goals as goal

-- the value past the end of a list of units
abbrev nobody : Unit
nobody = record { table = []; registers = power_on.registers }

pub loop-i-init : goal.loop-i-init
loop-i-init c = (
  refl,
  rw (rest_all c.args.units.now c.args.c.selects, c.nothing-joint.ensures) refl,
  ap (λ (ss : List Seat). map (afterwards c.args.c.cycle) ss) (rest_all c.args.units.now c.args.c.selects),
  refl,
)

pub loop-i-preserved : goal.loop-i-preserved
loop-i-preserved c =
    let start = c.args in
    let l = c.loop-i in
    let us : List Unit = start.units.now in
    let selects : ℕ = start.c.selects in
    let now : Stepped = c.step-s.result in
    let here : Seat = record { unit = get_or us l.i nobody; select = eqb (selects / 2 ^ l.i % 2) 1 } in
    -- the step of this turn, said of the unit as it was at the start
    let alike : ◌≡◌ {A = Stepped} now (alone start.c.cycle here) =
    c.step-s.ensures
    ∙ ap (λ (u : Unit). stepped u c.seen_by.result) (agree_at l.units us l.i nobody l.invariant.3)
    ∙ ap (λ (x : Cycle). stepped (get_or us l.i nobody) x) c.seen_by.ensures in (
      simp length-set l.invariant.0,
      ap (λ (t : Joint). ahead t (l.i + 1) (map (answer_of start.c.cycle) (rest us (l.i + 1) selects)))
          (c.join-joint.ensures ∙ ap (λ (s : Stepped). joining l.joint l.i s.answer) alike)
          ∙ join_turn us l.i selects nobody start.c.cycle (omega arith) l.joint
          ∙ l.invariant.1,
      mapped_turn (afterwards start.c.cycle) l.units l.i now.unit here (rest us l.i selects) (rest us (l.i + 1) selects) (omega arith)
          (ap (λ (s : Stepped). s.unit) alike) (rest_next us l.i selects nobody start.c.cycle (omega arith))
          ∙ l.invariant.2,
      agree_turn l.units us l.i now.unit l.invariant.3,
    )

pub returns : goal.returns
returns c =
    let start = c.args in
    let l = c.loop-i in
    let us : List Unit = start.units.now in
    let all : l.i ≡ length us = omega arith in
    let none : rest us l.i start.c.selects ≡ [] = rest_none us l.i start.c.selects all in (
      sym (take_all l.i l.units (omega arith))
          ∙ sym (append-nil (take l.i l.units))
          ∙ ap (λ (ss : List Seat). take l.i l.units ++ map (afterwards start.c.cycle) ss) (sym none)
          ∙ l.invariant.2,
      ap (λ (k : ℕ). ahead l.joint k []) (sym all)
          ∙ ap (λ (ss : List Seat). ahead l.joint l.i (map (answer_of start.c.cycle) ss)) (sym none)
          ∙ l.invariant.1,
    )
