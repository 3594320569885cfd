-- A cycle of the unit in the bytes: the answer, the number and every byte that it leaves.
use Rattle.std.specs.Prelude.{Bool, true, false, List, ◌≡◌, ℕ, ltb, get_or}
use Rattle.std.proofs.lemmas.List.Edits.{sets}
use Rattle.unit_packed.specs.Packed.{packed}
use Rattle.unit_stores.specs.Put.{NO_ROOM}
use Rattle.rules.specs.Kinds.{number_of}
use Rattle.rules.specs.Replies.{refused}
use Rattle.rules.specs.Step.{stepped}
use Rattle.rules.specs.declared.Answer.{Answer}
use Rattle.rules.specs.declared.Cycle.{Cycle}
use Rattle.unit_bytes.specs.Snapshot.{notes_at, LAST_NOTES, registers_in, unit_in, unit_bytes}

-- a notes byte with any bit above the four: no unit has it
abbrev pub strange : List ℕ → Bool
strange unit = ltb LAST_NOTES (get_or unit notes_at 0)

-- the answer; where the notes are strange it is that of a damaged unit
abbrev pub answer_by : (strange : Bool) → List ℕ → Cycle → Answer
answer_by true unit c = (refused 2 (registers_in unit)).answer
answer_by false unit c = (stepped (unit_in unit) c).answer

abbrev pub answer_of : List ℕ → Cycle → Answer
answer_of unit c = answer_by (strange unit) unit c

-- the unit's bytes after the cycle; where the notes are strange they stay
abbrev pub bytes_by : (strange : Bool) → List ℕ → Cycle → List ℕ
bytes_by true unit c = unit
bytes_by false unit c = sets unit 0 (unit_bytes (stepped (unit_in unit) c).unit)

abbrev pub bytes_after : List ℕ → Cycle → List ℕ
bytes_after unit c = bytes_by (strange unit) unit c

-- 0 or the number of the refusal; where a buffer has no room both are left as they were
abbrev pub cycle_number : (short : Bool) → List ℕ → Cycle → ℕ
cycle_number true unit c = NO_ROOM
cycle_number false unit c = number_of (answer_of unit c).kind

abbrev pub cycle_answer : (short : Bool) → (unit answer : List ℕ) → Cycle → List ℕ
cycle_answer true unit answer c = answer
cycle_answer false unit answer c = sets answer 0 (packed (answer_of unit c))

abbrev pub cycle_bytes : (short : Bool) → List ℕ → Cycle → List ℕ
cycle_bytes true unit c = unit
cycle_bytes false unit c = bytes_after unit c

-- what a cycle promises of its number and of both buffers, whole
pub record Cycled (short : Bool) (c : Cycle) (unit answer unit' answer' : List ℕ) (number : ℕ) : Type 0 where
  pub says : number ≡ cycle_number short unit c
  pub shows : answer' ≡ cycle_answer short unit answer c
  pub leaves : unit' ≡ cycle_bytes short unit c
