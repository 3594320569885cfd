-- Demand 3 with no stop at all, and in a running system.
-- Assumes nothing.
use Rattle.std.specs.Prelude.{◌≡◌, Bool, true, false, cond, not, ◌&&◌, ◌||◌, List, [], ◌∷◌, ℕ, eqb}
use Rattle.rules.specs.Bus.{write}
use Rattle.rules.specs.Refusals.{out_of_range}
use Rattle.rules.specs.Runs.{answers, final}
use Rattle.rules.specs.Step.{stepped}
use Rattle.rules.specs.declared.Cycle.{Cycle}
use Rattle.rules.specs.declared.Unit.{Unit}
use Rattle.theorems_runs.specs.Answers.{aborted_fetch}
use Rattle.theorems_runs.specs.Cycles.{selected_command, software_reset, on_descriptor}
use Rattle.theorems_runs.specs.Hold.{ends_hold}
use Rattle.theorems_runs.specs.Narrower.{WiderTable, Level, Narrower, SameSar, SameDscr, NarrowerInStep, TurnsNone, WritesNone, AlongBoth}
use Rattle.theorems_runs.specs.Refusal.{admitted}
use Rattle.theorems_runs.specs.Sequences.{◌⇒◌, Every, Both}
use Rattle.theorems_runs.specs.Tighter.{Nearer}
use Rattle.theorems_runs.specs.Undamaged.{Undamaged}

-- MR after a cycle: "MR becomes %80 if select is on, else 0" (reset), "Software reset clears MR", and a write of %00 sets it, each unrefused
abbrev pub mr_after : Unit → Cycle → ℕ
mr_after u c =
    cond (admitted u c && c.reset) (cond c.select 0x80 0)
    (cond (admitted u c && software_reset c) 0
    (cond (admitted u c && (selected_command c && write c && eqb c.offset 0x00)) c.byte
    u.registers.control.mr))

-- CLAIM: exactly so, in every unit and every cycle.
abbrev pub MrExactly : Type 0
MrExactly = (u : Unit) (c : Cycle) → (stepped u c).unit.registers.control.mr ≡ mr_after u c

-- a cycle of an instruction whose fetch the first unit aborted: that fetch, and then all up to the next fetch, acknowledge, reset or software
-- reset; `so` says that the cycle before was one
abbrev pub of_aborted : (so : Bool) → Unit → Cycle → Bool
of_aborted so a c = aborted_fetch a c || so && not (ends_hold a c)

-- at each cycle both units drive the same address, and, but for the cycles that are excepted, what the second suppresses the first does too
unfoldable pub CoversBut : (excepted : Bool → Unit → Cycle → Bool) → (so : Bool) → Unit → Unit → List Cycle → Type 0
CoversBut excepted so a b [] = true ≡ true
CoversBut excepted so a b (c ∷ cs) =
    ((stepped a c).answer.address ≡ (stepped b c).answer.address)
    × (excepted so a c ≡ false → (stepped b c).answer.sup ⇒ (stepped a c).answer.sup)
    × CoversBut excepted (excepted so a c) (stepped a c).unit (stepped b c).unit cs

abbrev pub UnstoppedBut : (excepted : Bool → Unit → Cycle → Bool) → Type 0
UnstoppedBut excepted = (a b : Unit) (cs : List Cycle) → Narrower a b → AlongBoth WritesNone a b cs → CoversBut excepted false a b cs

-- CLAIM: of every run without selected CPU writes of %08 to %0F, with no stop: the addresses are always the same, and the line on SUP holds at
-- every cycle but those of an instruction whose fetch the first unit aborted.
abbrev pub CoversUnstopped : Type 0
CoversUnstopped = UnstoppedBut of_aborted

-- CLAIM: the aborted fetch is to be excepted, and it is not enough: the cycles after it, of the same instruction, are too.
abbrev pub InstructionExcepted : Type 0
InstructionExcepted = (UnstoppedBut (λ so a c. false) → ⊥) × (UnstoppedBut (λ so a c. aborted_fetch a c) → ⊥)

-- CLAIM: and with such writes, but for those that turn a descriptor whose limits differ; SAR and DSCR equal at the start.
abbrev pub CoversWithWrites : Type 0
CoversWithWrites = (a b : Unit) (cs : List Cycle) → NarrowerInStep a b → AlongBoth TurnsNone a b cs → CoversBut of_aborted false a b cs

-- ticket 5's line at every cycle, with no stop and none excepted, whatever cycles come of those that may
abbrev pub NearerThroughout : (May : Unit → Unit → Cycle → Type 0) → Unit → Unit → Type 0
NearerThroughout May a b = (cs : List Cycle) → AlongBoth May a b cs → Both Nearer (answers a cs) (answers b cs)

-- CLAIM: the line on the distance needs neither the stop nor an exception, and no note: with no writes of %08 to %0F; and, SAR and DSCR equal,
-- with those that turn no descriptor whose limits differ.
abbrev pub NearerUnstopped : Type 0
NearerUnstopped =
    ((a b : Unit) → Level a b → NearerThroughout WritesNone a b)
    × ((a b : Unit) → Level a b → SameSar a b → SameDscr a b → NearerThroughout TurnsNone a b)

-- In a running system

-- an unrefused selected CPU write that programs the table: SAR %01, %08 to %0F, DSCR %20
abbrev pub table_write : Cycle → Bool
table_write c =
    not (out_of_range c) && selected_command c && write c && (eqb c.offset 0x01 || on_descriptor c.offset || eqb c.offset 0x20)

-- a unit after writes, and as it was before them, with the writes that may come and what they leave left open
abbrev pub AfterWrites : (May : Cycle → Type 0) → (Leave : Unit → Unit → Type 0) → (Related : Unit → Unit → Type 0) → Type 0
AfterWrites May Leave Related =
    (u : Unit) (ws : List Cycle) → Undamaged u → Every May ws → Leave (final u ws) u → Related (final u ws) u

abbrev pub TableWrite : Cycle → Type 0
TableWrite c = table_write c ≡ true

-- CLAIM: a unit whose descriptors such writes left as they were or tighter stands in the relation to the unit as it was.
abbrev pub NarrowedInPlace : Type 0
NarrowedInPlace = AfterWrites TableWrite WiderTable Narrower

-- CLAIM: with SAR and DSCR put back, they are in step.
abbrev pub NarrowedAndPutBack : Type 0
NarrowedAndPutBack = AfterWrites TableWrite (λ a b. WiderTable a b × SameSar a b × SameDscr a b) NarrowerInStep

-- whatever cycles come to the two, of those that may: the addresses are the same, and what the second suppresses the first does too, but for
-- the cycles of an instruction whose fetch the first aborted
abbrev pub OpensNothing : (May : Unit → Unit → Cycle → Type 0) → Unit → Unit → Type 0
OpensNothing May a b = (cs : List Cycle) → AlongBoth May a b cs → CoversBut of_aborted false a b cs

-- CLAIM: so what is let through after a segment was narrowed, between two instructions or within one, would have been let through without it,
-- but for the cycles of an instruction whose fetch the narrowed unit aborted: with no writes of %08 to %0F afterwards; or, where SAR and DSCR
-- are put back, with those that turn no descriptor whose limits differ.
abbrev pub NarrowingOpensNothing : Type 0
NarrowingOpensNothing =
    AfterWrites TableWrite WiderTable (OpensNothing WritesNone)
    × AfterWrites TableWrite (λ a b. WiderTable a b × SameSar a b × SameDscr a b) (OpensNothing TurnsNone)

-- CLAIM: and every segment is as near to its edge as it would be without it, or nearer, at every cycle that both would translate.
abbrev pub NarrowingNears : Type 0
NarrowingNears =
    AfterWrites TableWrite WiderTable (NearerThroughout WritesNone)
    × AfterWrites TableWrite (λ a b. WiderTable a b × SameSar a b × SameDscr a b) (NearerThroughout TurnsNone)

-- CLAIM: neither can be left out: that only such writes come, and that they leave every descriptor as it was or tighter.
abbrev pub NarrowedNeeds : Type 0
NarrowedNeeds = (AfterWrites (λ c. true ≡ true) WiderTable Narrower → ⊥) × (AfterWrites TableWrite (λ a b. true ≡ true) Narrower → ⊥)

-- CLAIM: where writes come afterwards, neither that SAR is put back, nor that DSCR is.
abbrev pub PutBackNeeded : Type 0
PutBackNeeded =
    (AfterWrites TableWrite (λ a b. WiderTable a b × SameDscr a b) (OpensNothing TurnsNone) → ⊥)
    × (AfterWrites TableWrite (λ a b. WiderTable a b × SameSar a b) (OpensNothing TurnsNone) → ⊥)
