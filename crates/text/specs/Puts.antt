-- What a function asks for that puts bytes into a line, and what it promises.
use Rattle.std.specs.Prelude.{List, ◌≡◌, ℕ, ◌+◌, ◌≤◌, length}
use Rattle.unit_stores.specs.Put.{Put}
use Rattle.text.specs.declared.numbers.Line.{Line}

-- the line has room for so many bytes more
abbrev pub HasRoom : Line → (room : ℕ) → Type 0
HasRoom l room = l.at + room ≤ length l.out.now

-- The bytes `vs`, at most `room` of them, were put into the line `l`: it is now `m`, in the same buffer.
pub record Puts (l : Line) (room : ℕ) (vs : List ℕ) (m : Line) : Type 0 where
  pub put : Put l.out.now l.at vs m.out.now m.at
  pub within : m.at ≤ l.at + room
  pub long : length m.out.now ≡ length l.out.now
  pub same : m.out.ghost_name ≡ l.out.ghost_name
