-- The result is what the calls ensure, and the check computes that.
use Rattle.std.proofs.Common.{◌≡◌, [], ◌∷◌, refl}
use Rattle.rules.specs.Computed.{computed}
use Rattle.rules.specs.PowerOn.{power_on}
use Rattle.rules.specs.Step.{stepped}
use Rattle.trace_records.specs.Trace.{cycle_of}
use Rattle.example_unit.proofs.passed.Goals as goal

row : (stepped (stepped power_on (cycle_of (0x83 ∷ 0 ∷ 0 ∷ 0x80 ∷ []))).unit (cycle_of (0x18 ∷ 5 ∷ 0x15 ∷ 0 ∷ []))).answer.address.block ≡ 0x0515
unfolding computed cycle_of
row = refl

pub returns : goal.returns
returns c = simp (c.step-read.ensures, c.decode-2.ensures, c.step-written.ensures, c.decode.ensures, c.power_on.ensures) row
