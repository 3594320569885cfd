-- What is left to put at each turn, the lines of the answers that are left, put, gives what was promised at the start.
use Rattle.std.proofs.Common.{◌≡◌, ◌+◌, ◌*◌, ◌≤◌, length}
use Rattle.std.proofs.lemmas.List.Edits.{sets}
use Rattle.unit_packed.specs.Packed.{width}
use Rattle.unit_stores.specs.Put.{Put}
use Rattle.text.specs.Lines.{line_room, lines_of}
use Rattle.text.proofs.numbers.Line.put_lines.Given as goal

abbrev pub invariant-loop-n : goal.invariant-loop-n
invariant-loop-n l =
    (l.n-iterator.iter.iter.size ≡ width)
    × (l.n-iterator.iter.count + l.n-iterator.n ≡ l.count)
    × (width * l.n-iterator.n ≤ length l.n-iterator.iter.iter.rest.now)
    × (l.self.at + line_room * l.n-iterator.n ≤ l.fn.self.at + line_room * l.count)
    × (length l.self.out.now ≡ length l.fn.self.out.now)
    × (l.self.out.ghost_name ≡ l.fn.self.out.ghost_name)
    × Put l.self.out.now l.self.at (lines_of l.n-iterator.iter.count l.n-iterator.n l.n-iterator.iter.iter.rest.now)
    (sets l.fn.self.out.now l.fn.self.at (lines_of 0 l.count l.packed))
    (l.fn.self.at + length (lines_of 0 l.count l.packed))
