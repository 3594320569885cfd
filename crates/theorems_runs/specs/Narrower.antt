-- Demand 3 from a weaker start, and where writes come too: the relation between the two units that every cycle keeps up to the stop.
-- Assumes nothing.
use Rattle.std.specs.Prelude.{◌≡◌, Bool, true, false, ◌||◌, List, [], ◌∷◌, ℕ, ◌<◌, eqb}
use Rattle.std.specs.Bool.{beq}
use Rattle.rules.specs.Flags.{has}
use Rattle.rules.specs.Masks.{DIRW}
use Rattle.rules.specs.Runs.{answers}
use Rattle.rules.specs.Step.{stepped}
use Rattle.rules.specs.declared.Answer.{Answer}
use Rattle.rules.specs.declared.Cycle.{Cycle}
use Rattle.rules.specs.declared.Unit.{Unit}
use Rattle.theorems_runs.specs.Answers.{SameMr}
use Rattle.theorems_runs.specs.Cycles.{descriptor_write}
use Rattle.theorems_runs.specs.Descriptors.{descriptor}
use Rattle.theorems_runs.specs.Hold.{holds}
use Rattle.theorems_runs.specs.Sequences.{◌⇒◌, Both}
use Rattle.theorems_runs.specs.Tighter.{Wider, Covers, EachLine, in_first, nowhere, before, NoDescriptorWrite}
use Rattle.theorems_runs.specs.Undamaged.{Undamaged}

-- each descriptor of b is as wide as a's or wider
abbrev pub WiderTable : Unit → Unit → Type 0
WiderTable a b = (i : ℕ) → i < 64 → Wider (descriptor a i) (descriptor b i)

-- hold of the second implies hold of the first
abbrev pub HoldsFirst : Unit → Unit → Type 0
HoldsFirst a b = holds b ⇒ holds a

-- both undamaged, the tables tightened, MR equal
pub record Level (a b : Unit) : Type 0 where
  pub first : Undamaged a
  pub second : Undamaged b
  pub table : WiderTable a b
  pub mr : SameMr a b

-- the same, and hold ordered; SAR, DSCR, VTR, request, await, own and all else as they like
pub record Narrower (a b : Unit) : Type 0 where
  pub first : Undamaged a
  pub second : Undamaged b
  pub table : WiderTable a b
  pub mr : SameMr a b
  pub hold : HoldsFirst a b

abbrev pub SameSar : Unit → Unit → Type 0
SameSar a b = a.registers.control.sar ≡ b.registers.control.sar

abbrev pub SameDscr : Unit → Unit → Type 0
SameDscr a b = a.registers.control.dscr ≡ b.registers.control.dscr

-- and SAR and DSCR are equal too
pub record NarrowerInStep (a b : Unit) : Type 0 where
  pub narrower : Narrower a b
  pub sar : SameSar a b
  pub dscr : SameDscr a b

-- a cycle turns no descriptor whose limits differ: where it is a selected CPU write of %08 to %0F, DIRW of the descriptor at SAR stays, or its
-- limits are the same in the two units
abbrev pub TurnsNone : Unit → Unit → Cycle → Type 0
TurnsNone a b c =
    let s : ℕ = a.registers.control.sar in
    descriptor_write c ≡ true
    → (beq (has (descriptor (stepped a c).unit s).attributes DIRW) (has (descriptor a s).attributes DIRW)
    || eqb (descriptor a s).limit (descriptor b s).limit) ≡ true

-- no selected CPU write of %08 to %0F at all
abbrev pub WritesNone : Unit → Unit → Cycle → Type 0
WritesNone a b c = NoDescriptorWrite c

-- each cycle of a run is as said of it and of the two units that it meets
unfoldable pub AlongBoth : (May : Unit → Unit → Cycle → Type 0) → Unit → Unit → List Cycle → Type 0
AlongBoth May a b [] = true ≡ true
AlongBoth May a b (c ∷ cs) = May a b c × AlongBoth May (stepped a c).unit (stepped b c).unit cs

-- a relation is kept by every cycle up to a stop, with the stop and the cycles that may come left open
abbrev pub KeptUpTo : (stop : Unit → Unit → Cycle → Bool) → (May : Unit → Unit → Cycle → Type 0) → (Related : Unit → Unit → Type 0) → Type 0
KeptUpTo stop May Related =
    (a b : Unit) (c : Cycle) → Related a b → May a b c → stop a b c ≡ false → Related (stepped a c).unit (stepped b c).unit

-- demand 3's conclusion up to the stop, with its line, the cycles that may come and the start left open
abbrev pub FromBy : (Line : Answer → Answer → Type 0) → (May : Unit → Unit → Cycle → Type 0) → (Start : Unit → Unit → Type 0) → Type 0
FromBy Line May Start =
    (a b : Unit) (cs : List Cycle)
    → Start a b
    → AlongBoth May a b cs
    → Both Line (answers a (before in_first a b cs)) (answers b (before in_first a b cs))

-- the addresses and SUP
abbrev pub CoversFrom : (May : Unit → Unit → Cycle → Type 0) → (Start : Unit → Unit → Type 0) → Type 0
CoversFrom May Start = FromBy Covers May Start

-- CLAIM: without writes to descriptors every cycle up to the stop, an aborted fetch of the first unit, keeps the relation, SAR and DSCR free.
abbrev pub NarrowerKept : Type 0
NarrowerKept = KeptUpTo in_first WritesNone Narrower

-- CLAIM: with writes that turn no descriptor whose limits differ, it is kept where SAR and DSCR are equal, and these stay equal.
abbrev pub InStepKept : Type 0
InStepKept = KeptUpTo in_first TurnsNone NarrowerInStep

-- CLAIM: so the tables tightened, MR equal and hold ordered are enough for demand 3's conclusion, both its lines.
abbrev pub NarrowerCovers : Type 0
NarrowerCovers = EachLine λ Line. FromBy Line WritesNone Narrower

-- CLAIM: and where writes come too, SAR and DSCR equal beside them.
abbrev pub WritesCover : Type 0
WritesCover = EachLine λ Line. FromBy Line TurnsNone NarrowerInStep

-- What can't be left out

-- CLAIM: the stop: the aborted fetch clears hold in the first unit alone.
abbrev pub RelationStops : Type 0
RelationStops = KeptUpTo nowhere WritesNone Narrower → ⊥

-- CLAIM: each part of `Narrower`: two undamaged units, the tables tightened, equal MRs, hold's order.
abbrev pub UndamagedNeeded : Type 0
UndamagedNeeded =
    (CoversFrom WritesNone (λ a b. Undamaged b × WiderTable a b × SameMr a b × HoldsFirst a b) → ⊥)
    × (CoversFrom WritesNone (λ a b. Undamaged a × WiderTable a b × SameMr a b × HoldsFirst a b) → ⊥)

abbrev pub TablesNeeded : Type 0
TablesNeeded = CoversFrom WritesNone (λ a b. Undamaged a × Undamaged b × SameMr a b × HoldsFirst a b) → ⊥

abbrev pub MrNeeded : Type 0
MrNeeded = CoversFrom WritesNone (λ a b. Undamaged a × Undamaged b × WiderTable a b × HoldsFirst a b) → ⊥

abbrev pub HoldNeeded : Type 0
HoldNeeded = CoversFrom WritesNone (λ a b. Undamaged a × Undamaged b × WiderTable a b × SameMr a b) → ⊥

-- CLAIM: where writes come, equal SARs, and equal DSCRs, each.
abbrev pub SarNeeded : Type 0
SarNeeded = CoversFrom TurnsNone (λ a b. Narrower a b × SameDscr a b) → ⊥

abbrev pub DscrNeeded : Type 0
DscrNeeded = CoversFrom TurnsNone (λ a b. Narrower a b × SameSar a b) → ⊥

-- CLAIM: not all writes may come: one that turns a segment's direction makes the wider range the tighter.
abbrev pub TurnsExcluded : Type 0
TurnsExcluded = CoversFrom (λ a b c. true ≡ true) NarrowerInStep → ⊥
