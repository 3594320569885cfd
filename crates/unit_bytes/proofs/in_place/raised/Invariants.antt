-- After i turns the flags are set in the first i descriptors.
use Rattle.std.proofs.Common.{◌≡◌}
use Rattle.unit_bytes.specs.InPlace.{raised_in}
use Rattle.unit_bytes.proofs.in_place.raised.Given as goal

abbrev pub invariant-loop-i : goal.invariant-loop-i
invariant-loop-i l = l.unit ≡ raised_in l.fn.mask l.i l.fn.unit
