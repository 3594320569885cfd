-- One cycle as a whole: what is decided from the registers and one descriptor, and the unit after it.
use Rattle.std.specs.Prelude.{Bool, true, false, cond, List, map, ℕ, ◌%◌, eqb, get_or, set}
use Rattle.rules.specs.Flags.{with}
use Rattle.rules.specs.PowerOn.{blank}
use Rattle.rules.specs.Refusals.{damaged, out_of_range}
use Rattle.rules.specs.Replies.{refused}
use Rattle.rules.specs.Status.{reset_by, by_status}
use Rattle.rules.specs.declared.Change.{Change}
use Rattle.rules.specs.declared.Change.TheVariants.{Keep, Put, Raise}
use Rattle.rules.specs.declared.Cycle.{Cycle}
use Rattle.rules.specs.declared.Decision.{Decision}
use Rattle.rules.specs.declared.Descriptor.{Descriptor}
use Rattle.rules.specs.declared.Registers.{Registers}
use Rattle.rules.specs.declared.Stepped.{Stepped}
use Rattle.rules.specs.declared.Unit.{Unit}

-- "the earliest in the order 2, 1, 3, 4 [..] wins"; "A reset cycle can meet only 2 and 1."
abbrev pub decided_by : (broken outside reset : Bool) → Registers → Descriptor → Cycle → Decision
decided_by true outside reset r d c = refused 2 r
decided_by false true reset r d c = refused 1 r
decided_by false false true r d c = reset_by c.select r
decided_by false false false r d c = by_status r d c

-- one cycle, from the registers and the descriptor at its place
unfoldable pub decided : Registers → Descriptor → Cycle → Decision
decided r d c = decided_by (damaged r) (out_of_range c) c.reset r d c

-- whose descriptor a cycle looks at: "the descriptor at SAR" in a command, else "descriptor segment modulo 64"
unfoldable pub place_of : Registers → Cycle → ℕ
place_of r c = cond (eqb c.status 3) r.control.sar c.segment

abbrev pub place : Unit → Cycle → ℕ
place u c = place_of u.registers c % 64

-- flags set in a descriptor
abbrev pub with_flags : (mask : ℕ) → Descriptor → Descriptor
with_flags mask d = record { base = d.base; limit = d.limit; attributes = with d.attributes mask }

-- the table after a change at a place: one descriptor put there, or "set all CPUI, set all DMAI"
unfoldable pub changed : Change → (place : ℕ) → List Descriptor → List Descriptor
changed Keep i t = t
changed (Put d) i t = set t i d
changed (Raise mask) i t = map (with_flags mask) t

unfoldable pub decision : Unit → Cycle → Decision
decision u c = decided u.registers (get_or u.table (place u c) blank) c

-- the unit after a cycle
unfoldable pub after : Unit → Cycle → Unit
after u c = record { table = changed (decision u c).change (place u c) u.table; registers = (decision u c).registers }

-- one cycle: the unit after it, and its answer
abbrev pub stepped : Unit → Cycle → Stepped
stepped u c = record { unit = after u c; answer = (decision u c).answer }
