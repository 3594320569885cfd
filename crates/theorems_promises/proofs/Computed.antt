-- Every definition that stays shut, under one name: `unfolding all_computed` opens them all, for a row that the checker computes.
use Prim.Native.Nat.{ℕ}
use Rattle.rules.specs.Computed.{computed}
use Rattle.board_bytes.specs.Boarded.{parts_in, held_registers, held_in, stepped_in}
use Rattle.board_packed.specs.BoardPacked.{board_packed}
use Rattle.board_rules.specs.Computed.{board_computed}
use Rattle.text.specs.Computed.{text_computed}
use Rattle.trace_reader.specs.Reading.{given_at, after_of}
use Rattle.trace_records.specs.Computed.{trace_computed}
use Rattle.trace_writer.specs.Computed.{writer_computed}
use Rattle.unit_bytes.specs.Computed.{bytes_computed}
use Rattle.unit_packed.specs.Packed.{flags_of, packed, packed_all}

unfoldable pub boards_computed : ℕ
unfolding board_computed board_packed parts_in held_registers held_in stepped_in
boards_computed = 0

unfoldable pub all_computed : ℕ
unfolding computed boards_computed bytes_computed trace_computed writer_computed text_computed flags_of packed packed_all given_at after_of
all_computed = 0
