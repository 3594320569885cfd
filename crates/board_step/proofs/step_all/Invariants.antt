-- The first i units are stepped and joined, and the others are as they were.
use Rattle.std.proofs.Common.{◌≡◌, ◌++◌, map, drop, take, length}
use Rattle.board_rules.specs.Board.{seated, answer_of, afterwards}
use Rattle.board_answers.specs.Joint.{nothing, ahead}
use Rattle.board_step.proofs.Turns.{rest}
use Rattle.board_step.proofs.step_all.Given as goal

abbrev pub invariant-loop-i : goal.invariant-loop-i
invariant-loop-i l =
    (length l.units ≡ length l.initial.units)
    × (ahead l.joint l.i (map (answer_of l.c.cycle) (rest l.initial.units l.i l.c.selects))
    ≡ ahead nothing 0 (map (answer_of l.c.cycle) (seated l.initial.units l.c.selects)))
    × (take l.i l.units ++ map (afterwards l.c.cycle) (rest l.initial.units l.i l.c.selects)
    ≡ map (afterwards l.c.cycle) (seated l.initial.units l.c.selects))
    × (drop l.i l.units ≡ drop l.i l.initial.units)
