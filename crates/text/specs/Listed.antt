-- What `list` promises of the buffer it is lent, and of its answer.
use Rattle.std.specs.Prelude.{Bool, true, false, List, ◌≡◌, ℕ, ◌+◌, ◌*◌, ◌≤◌, ltb, length, take}
use Rattle.std.proofs.lemmas.List.Edits.{sets}
use Rattle.trace_header.specs.Header.{format1}
use Rattle.text.specs.Lines.{head_room, line_room}
use Rattle.text.specs.Text.{printed}

-- the bytes that any text has room in: a first line, and a line for each record of the longest trace, 496,012
abbrev pub text_room : ℕ
text_room = head_room + line_room * format1.most

-- the buffer afterwards, and the answer: the text at its start, and the text's length. A buffer shorter than `text_room` is left as it
-- was, and the answer is 0
abbrev pub filled : (short : Bool) → (t l : List ℕ) → List ℕ
filled true t l = l
filled false t l = sets l 0 (printed t)

abbrev pub length_of : (short : Bool) → (t : List ℕ) → ℕ
length_of true t = 0
length_of false t = length (printed t)

pub record Listed (t l m : List ℕ) (r : ℕ) : Type 0 where
  pub text : m ≡ filled (ltb (length l) text_room) t l
  pub count : r ≡ length_of (ltb (length l) text_room) t

-- r counts bytes at the start of m. It follows from `Listed`, and is stated, as the kit's `io` does, so that whoever takes the part
-- `&out[..r]` needs no proof of its own
abbrev pub Counts : ℕ → List ℕ → Type 0
Counts r m = (r ≤ length m) × (r ≡ length (take r m))
