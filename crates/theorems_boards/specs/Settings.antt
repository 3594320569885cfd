-- Ticket 3, settings that never collide: the MRs with which no memory cycle is refused 12, and the cycles that keep them so.
-- Assumes nothing.
use Rattle.std.specs.Prelude.{◌≡◌, ◌↔◌, Bool, true, false, not, ◌&&◌, ◌||◌, List, [], ◌∷◌, map, ℕ, replicate}
use Rattle.std.specs.Bool.{beq}
use Rattle.std.proofs.Math.Option.{none, some}
use Rattle.rules.specs.Flags.{has}
use Rattle.rules.specs.Masks.{NMS, MST, URS, TRNS, MSEN}
use Rattle.rules.specs.PowerOn.{power_on}
use Rattle.rules.specs.Refusals.{damaged}
use Rattle.rules.specs.Seen.{cycle_with}
use Rattle.rules.specs.declared.Unit.{Unit}
use Rattle.theorems_runs.specs.Cycles.{writes, written}
use Rattle.theorems_runs.specs.Sequences.{Every, all}
use Rattle.board_rules.specs.Board.{seats_of, seen_by, some_of, two_of, wrong_count, board_after, board_answers, board_final}
use Rattle.board_rules.specs.declared.Board.{Board}
use Rattle.board_rules.specs.declared.BoardAnswer.{BoardAnswer}
use Rattle.board_rules.specs.declared.BoardCycle.{BoardCycle}
use Rattle.rules.specs.Kinds.{number_in}
use Rattle.theorems_boards.specs.Seats.{live, refusal_of, given}

-- Settings

abbrev pub mr_of : Unit → ℕ
mr_of u = u.registers.control.mr

-- the MRs of the units that the count takes in
abbrev pub settings : Board → List ℕ
settings b = map mr_of (live b)

-- two MRs differ in a flag
abbrev pub differ_in : (flag m n : ℕ) → Bool
differ_in flag m n = not (beq (has m flag) (has n flag))

-- two units with these MRs: where both have MSEN set, "both have TRNS set, and their URS differ or both have MST set and their NMS differ"
abbrev pub apart : (m n : ℕ) → Bool
apart m n =
    not (has m MSEN && has n MSEN)
    || has m TRNS && has n TRNS && (differ_in URS m n || has m MST && has n MST && differ_in NMS m n)

-- a test holds of every two elements of a list
unfoldable pub pairwise : {A : Type 0} → (A → A → Bool) → List A → Bool
pairwise p [] = true
pairwise p (x ∷ l) = all (p x) l && pairwise p l

abbrev pub never_collide : List ℕ → Bool
never_collide ms = pairwise apart ms

-- no cycle whatever is refused 12
abbrev pub NeverTwelve : Board → Type 0
NeverTwelve b = (c : BoardCycle) → refusal_of b c ≡ some 12 → ⊥

-- CLAIM: with such settings no cycle is refused 12, on any board, its units damaged or not.
abbrev pub ApartNeverTwelve : Type 0
ApartNeverTwelve = (b : Board) → never_collide (settings b) ≡ true → NeverTwelve b

-- a unit does not meet 2, whatever the length of its table
abbrev pub Sound : Unit → Type 0
Sound u = damaged u.registers ≡ false

-- the settings by which no cycle is refused 12, with what is said of the count and of the units left open
abbrev pub ExactlyBy : (Count : Board → Type 0) → (Units : Board → Type 0) → Type 0
ExactlyBy Count Units = (b : Board) → Count b → Units b → (never_collide (settings b) ≡ true) ↔ NeverTwelve b

abbrev pub GoodCount : Board → Type 0
GoodCount b = wrong_count b.count ≡ false

abbrev pub AllSound : Board → Type 0
AllSound b = Every Sound (live b)

-- CLAIM: and with no others: of a board with a good count whose units do not meet 2, no cycle is refused 12 exactly if for every two units with
-- MSEN set both have TRNS set, and their URS differ or both have MST set and their NMS differ.
abbrev pub SettingsExactly : Type 0
SettingsExactly = ExactlyBy GoodCount AllSound

-- CLAIM: neither can be left out: 11 comes before 12, and so does 2, which a damaged unit gives to every cycle.
abbrev pub SettingsNeed : Type 0
SettingsNeed = (ExactlyBy (λ b. true ≡ true) AllSound → ⊥) × (ExactlyBy GoodCount (λ b. true ≡ true) → ⊥)

-- What keeps them

-- a selected write of %00 to any unit, unrefused
abbrev pub sets_mr : Board → BoardCycle → Bool
sets_mr b c = not (given (refusal_of b c)) && some_of (λ s. writes 0x00 (seen_by s.select c.cycle)) (seats_of b c.selects)

-- a reset that selects two units or more of those that the count takes in
abbrev pub resets_two : Board → BoardCycle → Bool
resets_two b c = c.cycle.reset && two_of (λ s. s.select) (seats_of b c.selects)

-- a cycle keeps them, with the cycles that may come left open
abbrev pub KeptBy : (May : Board → BoardCycle → Type 0) → Type 0
KeptBy May =
    (b : Board) (c : BoardCycle) → May b c → never_collide (settings b) ≡ true → never_collide (settings (board_after b c)) ≡ true

-- neither of the two
abbrev pub SetsNone : Board → BoardCycle → Type 0
SetsNone b c = (sets_mr b c || resets_two b c) ≡ false

-- CLAIM: every cycle keeps such settings but an unrefused selected write of %00 and a reset that selects two units or more.
abbrev pub SettingsKept : Type 0
SettingsKept = KeptBy SetsNone

-- CLAIM: neither of the two keeps them always.
abbrev pub BothExcepted : Type 0
BothExcepted = (KeptBy (λ b c. resets_two b c ≡ false) → ⊥) × (KeptBy (λ b c. sets_mr b c ≡ false) → ⊥)

-- CLAIM: an unrefused reset that selects two units or more never does: the settings that it leaves collide, whatever they were.
abbrev pub ResetsTwoCollide : Type 0
ResetsTwoCollide =
    (b : Board) (c : BoardCycle) → refusal_of b c ≡ none → resets_two b c ≡ true → never_collide (settings (board_after b c)) ≡ false

-- each cycle of a run is as said of it and of the board that it meets
unfoldable pub AlongBoard : (May : Board → BoardCycle → Type 0) → Board → List BoardCycle → Type 0
AlongBoard May b [] = true ≡ true
AlongBoard May b (c ∷ cs) = May b c × AlongBoard May (board_after b c) cs

-- CLAIM: so a run without these two, from such settings, is never refused 12.
abbrev pub NeverTwelveThroughout : Type 0
NeverTwelveThroughout =
    (b : Board) (cs : List BoardCycle) → never_collide (settings b) ≡ true → AlongBoard SetsNone b cs
    → Every (λ (x : BoardAnswer). number_in x.answer.kind ≡ some 12 → ⊥) (board_answers b cs)

-- CLAIM: in particular from power-on, with any number of units.
abbrev pub NeverTwelveFromPowerOn : Type 0
NeverTwelveFromPowerOn =
    (size count : ℕ) (cs : List BoardCycle) → AlongBoard SetsNone (record { units = replicate size power_on; count = count }) cs
    → Every (λ (x : BoardAnswer). number_in x.answer.kind ≡ some 12 → ⊥)
    (board_answers (record { units = replicate size power_on; count = count }) cs)

-- Two units at power-on

abbrev pub two : Board
two = record { units = replicate 2 power_on; count = 2 }

-- the reset line on, with these select bits: record 00800000
abbrev pub resetting : (selects : ℕ) → BoardCycle
resetting selects = record { cycle = cycle_with 0 false false false false 0 0 0 0 true; selects = selects }

-- a system data write of the CPU at segment 0, offset 0: record 08000000
abbrev pub data_write : BoardCycle
data_write = record { cycle = cycle_with 8 false false false false 0 0 0 0 false; selects = 0 }

-- CLAIM: at power-on they never collide; once a reset selected both, which is not refused, a memory cycle is refused 12; once it selected one,
-- not.
abbrev pub ResetCollides : Type 0
ResetCollides =
    (refusal_of two data_write ≡ none) × (refusal_of two (resetting 3) ≡ none) × (refusal_of (board_after two (resetting 3)) data_write ≡ some 12)
    × (refusal_of (board_after two (resetting 2)) data_write ≡ none)

-- a write to both of them, by its code
abbrev pub writing_both : (code byte : ℕ) → BoardCycle
writing_both code byte = record { cycle = written 3 code byte false; selects = 3 }

-- CLAIM: so once a reset selected one of them no cycle whatever is refused 12, nor after a write of SAR, or of the read-only %02, to both then;
-- and once it selected both this is not so.
abbrev pub ResetSettings : Type 0
ResetSettings =
    NeverTwelve (board_after two (resetting 2))
    × NeverTwelve (board_final two (resetting 2 ∷ writing_both 0x01 0x80 ∷ writing_both 0x02 0x80 ∷ []))
    × (NeverTwelve (board_after two (resetting 3)) → ⊥)
