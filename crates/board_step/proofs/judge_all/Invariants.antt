-- What is known of the first i units and the others' seats come to the whole.
use Rattle.std.proofs.Common.{◌≡◌}
use Rattle.board_rules.specs.Board.{seated}
use Rattle.board_refusals.specs.Judged.{unjudged, ahead}
use Rattle.board_step.proofs.Turns.{rest}
use Rattle.board_step.proofs.judge_all.Given as goal

abbrev pub invariant-loop-i : goal.invariant-loop-i
invariant-loop-i l = ahead l.j l.i l.c.cycle (rest l.units l.i l.c.selects) ≡ ahead unjudged 0 l.c.cycle (seated l.units l.c.selects)
