-- The first i units are stepped and joined, and the others' bytes are as they were.
use Rattle.std.proofs.Common.{◌≡◌, ◌/◌, ◌^◌, map}
use Rattle.unit_bytes.specs.Snapshot.{unit_in}
use Rattle.board_rules.specs.Board.{seated, answer_of}
use Rattle.board_answers.specs.Joint.{nothing, ahead}
use Rattle.board_bytes.specs.Boarded.{parts_in, stepped_in}
use Rattle.board_bytes.proofs.Turns.{rest, nearly}
use Rattle.board_bytes.proofs.step_all.Given as goal

abbrev pub invariant-loop-i : goal.invariant-loop-i
invariant-loop-i l =
    (ahead l.joint l.i (map (answer_of l.c.cycle) (seated (map unit_in (rest l.units l.count l.i)) (l.c.selects / 2 ^ l.i)))
    ≡ ahead nothing 0 (map (answer_of l.c.cycle) (seated (map unit_in (parts_in l.initial.units l.count)) l.c.selects)))
    × (nearly l.c.cycle l.count l.i (l.c.selects / 2 ^ l.i) l.units ≡ stepped_in l.c.cycle l.count l.c.selects l.initial.units)
