-- What is known of the units before this one and the others' seats come to the whole.
use Rattle.std.proofs.Common.{◌≡◌, ◌+◌, ◌*◌, ◌/◌, ◌^◌, ◌≤◌, map, length}
use Rattle.unit_bytes.specs.Snapshot.{unit_size}
use Rattle.board_rules.specs.Board.{seated}
use Rattle.board_refusals.specs.Judged.{unjudged, ahead}
use Rattle.board_bytes.specs.Boarded.{parts_in, held_in, seats_in}
use Rattle.board_bytes.proofs.judge_all.Given as goal

abbrev pub invariant-loop-i : goal.invariant-loop-i
invariant-loop-i l =
    (l.i-iterator.iter.iter.size ≡ unit_size)
    × (l.i-iterator.iter.count + l.i-iterator.n ≡ l.count)
    × (unit_size * l.i-iterator.n ≤ length l.i-iterator.iter.iter.rest.now)
    × (ahead l.j l.i-iterator.iter.count l.c.cycle
    (seated (map held_in (parts_in l.i-iterator.iter.iter.rest.now l.i-iterator.n)) (l.c.selects / 2 ^ l.i-iterator.iter.count))
    ≡ ahead unjudged 0 l.c.cycle (seats_in l.units l.count l.c.selects))
