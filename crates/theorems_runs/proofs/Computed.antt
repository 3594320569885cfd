-- Every rule that stays shut, and `descriptor_write` of the claims, under one name: `unfolding computed` opens them all, for a test that antt
-- computes.
-- Assumes nothing.
use Prim.Native.Nat.{ℕ}
use Rattle.rules.specs.Computed.{computed as rules}
use Rattle.theorems_runs.specs.Cycles.{descriptor_write}

unfoldable pub computed : ℕ
unfolding rules descriptor_write
computed = 0
