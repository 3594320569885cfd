-- What a function promises that puts bytes into a lent buffer, and the number of one that finds no room there.
use Rattle.std.specs.Prelude.{List, ◌≡◌, ℕ, ◌+◌, length}
use Rattle.std.proofs.lemmas.List.Edits.{sets}

-- the number that says that a lent buffer has no room: that of the refusal `NoRoom`, which no cycle is answered with
abbrev pub NO_ROOM : ℕ
NO_ROOM = 255

-- The bytes `vs` were put into the buffer `l` at index `at`: it is now `m`, and `next` is the index after them.
pub record Put (l : List ℕ) (at : ℕ) (vs m : List ℕ) (next : ℕ) : Type 0 where
  pub stored : m ≡ sets l at vs
  pub ends : next ≡ at + length vs
