-- Document 01, "The trace": what `mmurun` prints, byte for byte.
use Rattle.std.specs.Prelude.{Bool, true, false, List, [], ◌∷◌, ◌++◌, ℕ, ◌+◌, eqb}
use Rattle.trace_header.specs.Header.{count_of, refusal_of}
use Rattle.text.specs.Fields.{space, opening, address_text, signals, ending, head_text, refusal_text}
use Rattle.rules.specs.Kinds.{letter_of, number_of}
use Rattle.rules.specs.PowerOn.{power_on}
use Rattle.rules.specs.Runs.{answers}
use Rattle.rules.specs.declared.Answer.{Answer}
use Rattle.trace_records.specs.Trace.{cycles_of}
use Rattle.unit_stores.specs.Word.{high_of, low_of}

-- "Then each record, its fields parted by one space: number in decimal from 0; kind [..]; address lines [..]; SUP [..]; request
-- after the cycle [..]; data byte the unit drives"; ticket 5: the distance
unfoldable pub answer_line : ℕ → Answer → List ℕ
answer_line n a =
    opening n (letter_of a.kind) (number_of a.kind)
    ++ (address_text a.address.driven (high_of a.address.block) (low_of a.address.block)
    ++ (space ∷ signals a.sup a.trap a.drives a.byte ++ ending a.distance))

-- the lines of answers, numbered from n
abbrev pub answer_lines : ℕ → List Answer → List ℕ
answer_lines n [] = []
answer_lines n (a ∷ rest) = answer_line n a ++ answer_lines (n + 1) rest

abbrev pub text_by : (taken : Bool) → List ℕ → List ℕ
text_by true t = head_text (count_of t) ++ answer_lines 0 (answers power_on (cycles_of t))
text_by false t = refusal_text (refusal_of t)

-- "`mmurun` reads a trace from standard input and starts at power-on": the text of a trace
unfoldable pub printed : List ℕ → List ℕ
printed t = text_by (eqb (refusal_of t) 0) t
