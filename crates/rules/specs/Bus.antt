-- What a cycle is on the bus.
use Rattle.std.specs.Prelude.{Bool, not, ◌&&◌, ◌||◌, ℕ, ◌%◌, eqb}
use Rattle.rules.specs.declared.Cycle.{Cycle}

abbrev pub cpu : Cycle → Bool
cpu c = not c.dma

abbrev pub write : Cycle → Bool
write c = not c.read

-- "status %C or %D"
abbrev pub program : Cycle → Bool
program c = eqb c.status 12 || eqb c.status 13

-- "A CPU read with status %D starts an instruction"; "A write with status %D starts nothing"
abbrev pub fetch : Cycle → Bool
fetch c = cpu c && c.read && eqb c.status 13

-- ticket 2: "VSN and ISN keep all seven bits", "the number that the program used"
abbrev pub seven_bits : Cycle → ℕ
seven_bits c = c.segment % 128
