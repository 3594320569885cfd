-- Ticket 10: set and clear commands with nothing between them, which of them may change places, and which do nothing beside another.
-- Assumes nothing.
use Rattle.std.specs.Prelude.{◌≡◌, Bool, true, false, ◌&&◌, ◌||◌, List, [], ◌∷◌, ◌↔◌, ℕ, eqb}
use Rattle.rules.specs.Runs.{answers, final}
use Rattle.rules.specs.declared.Cycle.{Cycle}
use Rattle.rules.specs.declared.Unit.{Unit}
use Rattle.theorems_runs.specs.Apart.{apart}
use Rattle.theorems_runs.specs.Cycles.{set_or_clear, writes}
use Rattle.theorems_runs.specs.Sequences.{among}
use Rattle.theorems_runs.specs.Undamaged.{Undamaged}

-- What is said of two codes

-- a write of x, then one of y, give what the cycles `other` give; `gives` is the unit left (`final`) or the answers
abbrev pub OfWrites : {A : Type 0} → (gives : Unit → List Cycle → A) → (x y : ℕ) → (other : Cycle → Cycle → List Cycle) → Type 0
OfWrites gives x y other =
    (u : Unit) (c d : Cycle)
    -- "on undamaged units": a damaged one refuses both
    → Undamaged u
    -- "as writes with nothing between them", of any data byte, mode and segment; the two may differ in these
    → writes x c ≡ true
    → writes y d ≡ true
    → gives u (c ∷ d ∷ []) ≡ gives u (other c d)

-- "the same unit in either order"
abbrev pub Exchange : (x y : ℕ) → Type 0
Exchange x y = OfWrites final x y (λ c d. d ∷ c ∷ [])

-- the first alone leaves the same unit
abbrev pub FirstAlone : (x y : ℕ) → Type 0
FirstAlone x y = OfWrites final x y (λ c d. c ∷ [])

-- the second alone leaves the same unit
abbrev pub SecondAlone : (x y : ℕ) → Type 0
SecondAlone x y = OfWrites final x y (λ c d. d ∷ [])

-- the same answers in either order, one after the other
abbrev pub SameAnswers : (x y : ℕ) → Type 0
SameAnswers x y = OfWrites answers x y (λ c d. d ∷ c ∷ [])

-- The ticket's laws: software reset %10, clear VTR %11, clear SWW %13, clear FATL %14, set all CPUI %15, set all DMAI %16

-- CLAIM: "setting all CPUI twice is the same as once".
abbrev pub CpuiTwice : Type 0
CpuiTwice = FirstAlone 0x15 0x15

-- CLAIM: "likewise DMAI".
abbrev pub DmaiTwice : Type 0
DmaiTwice = FirstAlone 0x16 0x16

-- CLAIM: "these two give the same unit in either order".
abbrev pub CpuiDmai : Type 0
CpuiDmai = Exchange 0x15 0x16

-- CLAIM: "so do clearing SWW and clearing FATL".
abbrev pub SwwFatl : Type 0
SwwFatl = Exchange 0x13 0x14

-- CLAIM: "clearing VTR just before [..] a software reset is the same as the reset alone".
abbrev pub VtrBeforeReset : Type 0
VtrBeforeReset = SecondAlone 0x11 0x10

-- CLAIM: "or just after".
abbrev pub VtrAfterReset : Type 0
VtrAfterReset = FirstAlone 0x10 0x11

-- The manual's tables, for every pair

-- CLAIM: a set or clear command may change places with a write of every code but those of the rows, and with those it may not. So any two
-- set or clear commands may; and a code that is refused may, since it leaves the unit.
abbrev pub ExchangesExactly : Type 0
ExchangesExactly = (x y : ℕ) → set_or_clear x ≡ true → Exchange x y ↔ (among y (apart x) ≡ false)

-- what y does is part of what x does: each is part of itself, "Software reset clears [..] VTR", and SWW and FATL are flags of VTR
abbrev pub part : (y x : ℕ) → Bool
part y x = eqb y x || eqb x 0x10 && among y (0x11 ∷ 0x13 ∷ 0x14 ∷ []) || eqb x 0x11 && among y (0x13 ∷ 0x14 ∷ [])

-- CLAIM: of two set or clear commands one may be left out where it is part of the other, and nowhere else.
abbrev pub AloneExactly : Type 0
AloneExactly =
    (x y : ℕ) → set_or_clear x ≡ true → set_or_clear y ≡ true
    → (FirstAlone x y ↔ (part y x ≡ true)) × (SecondAlone x y ↔ (part x y ≡ true))

-- of the set and clear commands software reset takes the trap line back
abbrev pub clears_trap : (code : ℕ) → Bool
clears_trap n = eqb n 0x10

-- CLAIM: the answers to two set or clear commands are the same in either order where both or neither take the trap line back, and nowhere
-- else: the other's answer shows whether it came before or after.
abbrev pub AnswersExactly : Type 0
AnswersExactly = (x y : ℕ) → set_or_clear x ≡ true → set_or_clear y ≡ true → SameAnswers x y ↔ (clears_trap x ≡ clears_trap y)
