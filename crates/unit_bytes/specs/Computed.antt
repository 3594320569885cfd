-- Every definition of a unit in bytes that stays shut, under one name: `unfolding bytes_computed` opens them all, for a row that is
-- computed.
use Rattle.std.specs.Prelude.{ℕ}
use Rattle.unit_stores.specs.Word.{word_at}
use Rattle.unit_bytes.specs.InPlace.{looked_at, decided_in, put_registers, raised_in, put_change, in_place}
use Rattle.unit_bytes.specs.Snapshot.{descriptor_in, table_in, notes_in, registers_in, unit_in}
use Rattle.unit_bytes.specs.Snapshot.{descriptor_bytes, table_bytes, notes_byte, register_bytes, unit_bytes}

unfoldable pub bytes_read : ℕ
unfolding word_at descriptor_in table_in notes_in registers_in unit_in
bytes_read = 0

unfoldable pub bytes_made : ℕ
unfolding descriptor_bytes table_bytes notes_byte register_bytes unit_bytes
bytes_made = 0

unfoldable pub bytes_in_place : ℕ
unfolding looked_at decided_in put_registers raised_in put_change in_place
bytes_in_place = 0

unfoldable pub bytes_computed : ℕ
unfolding bytes_read bytes_made bytes_in_place
bytes_computed = 0
