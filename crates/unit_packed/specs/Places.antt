-- What stands in each byte of a packed answer: one table, with the numbers and letters of include/distantarm.h. `Places` (proofs/)
-- shows that all rows hold.
use Rattle.std.specs.Prelude.{Bool, true, false, List, [], ◌∷◌, map, ◌≡◌, ℕ}
use Rattle.rules.specs.Seen.{answer_with}
use Rattle.rules.specs.declared.Answer.{Answer}
use Rattle.rules.specs.declared.Kind.{Kind}
use Rattle.rules.specs.declared.Kind.TheVariants.{Reset, Acknowledge, Command, Aborted, Translated, Passed, Ignored, Refused}
use Rattle.unit_packed.specs.Packed.{packed}

-- an answer, and its bytes
pub record PackedRow : Type 0 where
  pub answer : Answer
  pub bytes : List ℕ

abbrev packed_row : Answer → (letter number high low flags byte distance : ℕ) → PackedRow
packed_row a letter number high low flags byte distance =
    record { answer = a; bytes = letter ∷ number ∷ high ∷ low ∷ flags ∷ byte ∷ distance ∷ [] }

-- an answer of one kind with the address lines %2326, the data byte %57 and the distance %9C
abbrev said : Kind → (driven sup trap drives : Bool) → Answer
said kind driven sup trap drives = answer_with kind driven 0x2326 sup trap drives 0x57 0x9C

-- and of that kind alone
abbrev kind_alone : Kind → Answer
kind_alone kind = said kind false false false false

-- the letters are R 82, A 65, C 67, F 70, T 84, P 80, I 73, X 88; the flags 1 the address is driven, 2 SUP, 4 the trap line, 8 the data byte
-- is driven
abbrev pub packed_rows : List PackedRow
packed_rows =
    packed_row (kind_alone (Refused 3)) 88 3 0x23 0x26 0 0x57 0x9C
    ∷ packed_row (said (Refused 4) true false false false) 88 4 0x23 0x26 1 0x57 0x9C
    ∷ packed_row (said (Refused 4) false true false false) 88 4 0x23 0x26 2 0x57 0x9C
    ∷ packed_row (said (Refused 4) false false true false) 88 4 0x23 0x26 4 0x57 0x9C
    ∷ packed_row (said (Refused 4) false false false true) 88 4 0x23 0x26 8 0x57 0x9C
    ∷ packed_row (said (Refused 4) true true true true) 88 4 0x23 0x26 15 0x57 0x9C
    ∷ packed_row (kind_alone Reset) 82 0 0x23 0x26 0 0x57 0x9C
    ∷ packed_row (kind_alone Acknowledge) 65 0 0x23 0x26 0 0x57 0x9C
    ∷ packed_row (kind_alone Command) 67 0 0x23 0x26 0 0x57 0x9C
    ∷ packed_row (kind_alone Aborted) 70 0 0x23 0x26 0 0x57 0x9C
    ∷ packed_row (kind_alone Translated) 84 0 0x23 0x26 0 0x57 0x9C
    ∷ packed_row (kind_alone Passed) 80 0 0x23 0x26 0 0x57 0x9C
    ∷ packed_row (kind_alone Ignored) 73 0 0x23 0x26 0 0x57 0x9C
    ∷ []

abbrev pub PackedRowsHold : Type 0
PackedRowsHold = map (λ r. packed r.answer) packed_rows ≡ map (λ r. r.bytes) packed_rows
