-- Document 01, "Checks", "on translated cycles only, with descriptor segment modulo 64".
use Rattle.std.specs.Prelude.{Bool, true, false, not, ◌&&◌, ◌||◌, ℕ, ◌-◌, eqb, ltb}
use Rattle.rules.specs.Flags.{has, with, flag_if}
use Rattle.rules.specs.Masks.{RD, SYS, CPUI, EXC, DMAI, DIRW, RDV, SYSV, CPUIV, EXCV, DMAIV}
use Rattle.rules.specs.Bus.{cpu, write, program}
use Rattle.rules.specs.declared.Cycle.{Cycle}
use Rattle.rules.specs.declared.Descriptor.{Descriptor}

-- "RD and a write; SYS and normal mode; EXC and status neither %C nor %D"; "CPUI for the CPU; DMAI for DMA":
-- the four rights flags of the VTR in their places, and bit 7 for DMAI
unfoldable pub rights_of : (attributes : ℕ) → Cycle → ℕ
rights_of a c =
    with (with (with (with
    (flag_if (has a RD && write c) RDV)
    (flag_if (has a SYS && c.normal) SYSV))
    (flag_if (has a CPUI && cpu c) CPUIV))
    (flag_if (has a EXC && not (program c)) EXCV))
    (flag_if (has a DMAI && c.dma) DMAIV)

-- "length: offset byte above limit with DIRW clear, below limit with DIRW set"
abbrev pub beyond : (down : Bool) → (limit offset : ℕ) → Bool
beyond false limit offset = ltb limit offset
beyond true limit offset = ltb offset limit

unfoldable pub out_of_length : Descriptor → Cycle → Bool
out_of_length d c = beyond (has d.attributes DIRW) d.limit c.offset

-- Ticket 5: "The length check is to say how many whole blocks remain between the accessed block and the last permitted one in the segment's
-- direction: limit less offset byte, or offset byte less limit with DIRW, and 0 in a length violation."
abbrev pub remaining : (long down : Bool) → (limit offset : ℕ) → ℕ
remaining true down limit offset = 0
remaining false false limit offset = limit - offset
remaining false true limit offset = offset - limit

unfoldable pub distance_of : Descriptor → Cycle → ℕ
distance_of d c = remaining (out_of_length d c) (has d.attributes DIRW) d.limit c.offset

-- a violation of either kind
abbrev pub violates : (rights : ℕ) → (long : Bool) → Bool
violates rights long = not (eqb rights 0) || long

-- "A warning is a CPU write without violation, DIRW set, offset byte equal to limit."
abbrev pub warns_by : (dma read violation down edge : Bool) → Bool
warns_by true read violation down edge = false
warns_by false true violation down edge = false
warns_by false false true down edge = false
warns_by false false false false edge = false
warns_by false false false true edge = edge

unfoldable pub warns : Descriptor → Cycle → (violation : Bool) → Bool
warns d c violation = warns_by c.dma c.read violation (has d.attributes DIRW) (eqb c.offset d.limit)

-- What the checks of a translated cycle find: the rights and the length that it violates, whether it violates at all, and whether it warns.
pub record Findings : Type 0 where
  pub rights : ℕ
  pub long : Bool
  pub violation : Bool
  pub warning : Bool

abbrev pub found : Descriptor → Cycle → Findings
found d c =
    let rights : ℕ = rights_of d.attributes c in
    let long : Bool = out_of_length d c in
    let violation : Bool = violates rights long in
    record { rights = rights; long = long; violation = violation; warning = warns d c violation }
