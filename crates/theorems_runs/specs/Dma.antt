-- DMA is no one's instruction: it leaves every register and every note, and asks for little.
-- Assumes nothing.
use Rattle.std.specs.Prelude.{◌≡◌, true, false}
use Rattle.rules.specs.Refusals.{damaged}
use Rattle.rules.specs.Step.{stepped}
use Rattle.rules.specs.declared.Answer.{Answer}
use Rattle.rules.specs.declared.Cycle.{Cycle}
use Rattle.rules.specs.declared.Unit.{Unit}
use Rattle.theorems_runs.specs.Answers.{segment_of, SameMr}
use Rattle.theorems_runs.specs.Descriptors.{Has, Anywhere, let_through, MarksWhere}

abbrev pub ByDma : Cycle → Type 0
ByDma c = c.dma ≡ true

abbrev pub NoReset : Cycle → Type 0
NoReset c = c.reset ≡ false

-- the registers and the notes stay, with the cycles that may come left open
abbrev pub RegistersStay : (May : Cycle → Type 0) → Type 0
RegistersStay May = (u : Unit) (c : Cycle) → May c → (stepped u c).unit.registers ≡ u.registers

-- CLAIM: a DMA cycle without reset leaves every register and note, in every unit, damaged or not, and whether it is refused or not. "A DMA
-- violation only turns SUP on for that cycle; it never touches VTR or the notes."
abbrev pub DmaLeaves : Type 0
DmaLeaves = RegistersStay (λ c. ByDma c × NoReset c)

-- CLAIM: a reset clears them whoever is master, and a CPU cycle may write them.
abbrev pub DmaLeavesNeeds : Type 0
DmaLeavesNeeds = (RegistersStay ByDma → ⊥) × (RegistersStay NoReset → ⊥)

-- CLAIM: of the descriptors at most that of its own segment changes, where it is let through: REF is set, and CHG if it writes.
abbrev pub DmaMarks : Type 0
DmaMarks = MarksWhere let_through (λ u c i. c.dma) Has

-- CLAIM: a descriptor that is not there is not changed.
abbrev pub DmaMarksNeeds : Type 0
DmaMarksNeeds = MarksWhere let_through (λ u c i. c.dma) Anywhere → ⊥

-- the trap line is as the request stood
abbrev pub TrapStays : (May : Cycle → Type 0) → Type 0
TrapStays May = (u : Unit) (c : Cycle) → May c → (stepped u c).answer.trap ≡ u.registers.notes.request

-- CLAIM: in a DMA cycle without reset the trap line shows the request as it stood.
abbrev pub DmaTrap : Type 0
DmaTrap = TrapStays (λ c. ByDma c × NoReset c)

-- CLAIM: a reset takes it back whoever is master, and an acknowledge does.
abbrev pub DmaTrapNeeds : Type 0
DmaTrapNeeds = (TrapStays ByDma → ⊥) × (TrapStays NoReset → ⊥)

-- two answers are the same but for the trap line and the distance
pub record SameSignals (x y : Answer) : Type 0 where
  pub kind : x.kind ≡ y.kind
  pub address : x.address ≡ y.address
  pub sup : x.sup ≡ y.sup
  pub drives : x.drives ≡ y.drives
  pub byte : x.byte ≡ y.byte

-- and but for the trap line
pub record SameButTrap (x y : Answer) : Type 0 where
  pub signals : SameSignals x y
  pub distance : x.distance ≡ y.distance

abbrev pub Sound : Unit → Type 0
Sound u = damaged u.registers ≡ false

abbrev pub SameSegment : Unit → Unit → Cycle → Type 0
SameSegment a b c = segment_of a c ≡ segment_of b c

-- two units that are alike for a cycle, as said, answer it as said
abbrev pub AnswersAlike : (Same : Answer → Answer → Type 0) → (Alike : Unit → Unit → Cycle → Type 0) → Type 0
AnswersAlike Same Alike = (a b : Unit) (c : Cycle) → Alike a b c → Same (stepped a c).answer (stepped b c).answer

-- CLAIM: what a DMA cycle that 2 does not refuse is answered depends on MR, its segment's descriptor and the cycle alone, but for the trap line.
abbrev pub DmaAnswers : Type 0
DmaAnswers = AnswersAlike SameButTrap (λ a b c. Sound a × Sound b × ByDma c × SameMr a b × SameSegment a b c)

-- CLAIM: none of these can be left out, even with the distance left open: that both units are undamaged, that it is DMA, that MR and the descriptor are the same.
abbrev pub DmaAnswersNeed : Type 0
DmaAnswersNeed =
    (AnswersAlike SameSignals (λ a b c. Sound b × ByDma c × SameMr a b × SameSegment a b c) → ⊥)
    × (AnswersAlike SameSignals (λ a b c. Sound a × ByDma c × SameMr a b × SameSegment a b c) → ⊥)
    × (AnswersAlike SameSignals (λ a b c. Sound a × Sound b × SameMr a b × SameSegment a b c) → ⊥)
    × (AnswersAlike SameSignals (λ a b c. Sound a × Sound b × ByDma c × SameSegment a b c) → ⊥)
    × (AnswersAlike SameSignals (λ a b c. Sound a × Sound b × ByDma c × SameMr a b) → ⊥)
