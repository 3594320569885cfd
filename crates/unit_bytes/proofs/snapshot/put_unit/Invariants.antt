-- After i turns the bytes of the registers and of the first i descriptors are stored.
use Rattle.std.proofs.Common.{◌≡◌, take}
use Rattle.std.proofs.lemmas.List.Edits.{sets}
use Rattle.unit_bytes.specs.Snapshot.{table_at, register_bytes, table_bytes}
use Rattle.unit_bytes.proofs.snapshot.put_unit.Given as goal

abbrev pub invariant-loop-i : goal.invariant-loop-i
invariant-loop-i l = l.out ≡ sets (sets l.fn.out 0 (register_bytes l.fn.u.registers)) table_at (table_bytes (take l.i l.fn.u.table))
