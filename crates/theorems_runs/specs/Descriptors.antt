-- Descriptors stay: what changes a descriptor, and what no cycle changes.
-- Assumes nothing.
use Rattle.std.specs.Prelude.{◌≡◌, Bool, true, false, cond, not, ◌&&◌, ◌||◌, List, [], ◌∷◌, ℕ, ◌%◌, ◌<◌, eqb, length, get_or}
use Rattle.rules.specs.Entry.{replaced}
use Rattle.rules.specs.Flags.{has}
use Rattle.rules.specs.Masks.{RD, SYS, CPUI, EXC, DMAI, DIRW}
use Rattle.rules.specs.Memory.{touched}
use Rattle.rules.specs.PowerOn.{blank}
use Rattle.rules.specs.Refusals.{damaged}
use Rattle.rules.specs.Runs.{units}
use Rattle.rules.specs.Step.{with_flags, stepped}
use Rattle.rules.specs.declared.Cycle.{Cycle}
use Rattle.rules.specs.declared.Descriptor.{Descriptor}
use Rattle.rules.specs.declared.Unit.{Unit}
use Rattle.theorems_runs.specs.Answers.{translated}
use Rattle.theorems_runs.specs.Cycles.{descriptor_write, writes}
use Rattle.theorems_runs.specs.Sequences.{Every, Along}

-- descriptor i of a unit
abbrev pub descriptor : Unit → ℕ → Descriptor
descriptor u i = get_or u.table i blank

-- an unrefused selected CPU write of %08 to %0F while SAR is i: "All eight work on the descriptor at SAR"
abbrev pub writes_to : Unit → Cycle → ℕ → Bool
writes_to u c i = not (damaged u.registers) && descriptor_write c && eqb u.registers.control.sar i

-- an unrefused selected CPU write with this code
abbrev pub writes_here : (code : ℕ) → Unit → Cycle → Bool
writes_here n u c = not (damaged u.registers) && writes n c

-- e has the base, the limit, DIRW and the five protection flags of d; REF and CHG are not looked at
pub record SameRules (d e : Descriptor) : Type 0 where
  pub base : e.base ≡ d.base
  pub limit : e.limit ≡ d.limit
  pub flags : Every (λ flag. has e.attributes flag ≡ has d.attributes flag) (RD ∷ SYS ∷ CPUI ∷ EXC ∷ DMAI ∷ DIRW ∷ [])

-- one cycle, and what changes a descriptor left open
abbrev pub StaysBut : (changes : Unit → Cycle → ℕ → Bool) → Type 0
StaysBut changes = (u : Unit) (c : Cycle) (i : ℕ) → changes u c i ≡ false → SameRules (descriptor u i) (descriptor (stepped u c).unit i)

-- what does change it: a write to it, set all CPUI %15, set all DMAI %16
abbrev pub changes : Unit → Cycle → ℕ → Bool
changes u c i = writes_to u c i || writes_here 0x15 u c || writes_here 0x16 u c

-- CLAIM: base, limit, DIRW and the five protection flags of a descriptor stay in every cycle but these three. Any unit, any number i.
abbrev pub DescriptorsStay : Type 0
DescriptorsStay = StaysBut changes

-- CLAIM: so they stay through a run without these three.
abbrev pub DescriptorsStayThroughout : Type 0
DescriptorsStayThroughout =
    (u : Unit) (cs : List Cycle) (i : ℕ)
    → Along (λ v c. changes v c i ≡ false) u cs
    → Every (λ v. SameRules (descriptor u i) (descriptor v i)) (units u cs)

-- CLAIM: each of the three does change it, so none of them can be left out.
abbrev pub EachChanges : Type 0
EachChanges =
    (StaysBut (λ u c i. writes_here 0x15 u c || writes_here 0x16 u c) → ⊥)
    × (StaysBut (λ u c i. writes_to u c i || writes_here 0x16 u c) → ⊥)
    × (StaysBut (λ u c i. writes_to u c i || writes_here 0x15 u c) → ⊥)

-- What each of them changes

-- the unit has a descriptor i: the code's type says that it has 64; a list of antt may have any length
abbrev pub Has : Unit → ℕ → Type 0
Has u i = i < length u.table

abbrev pub Anywhere : Unit → ℕ → Type 0
Anywhere u i = true ≡ true

-- "%09, %0A, %0D, %0E use byte 2 or 3", "%08 and %0C use byte DSCR", "%0B and %0F use byte DSCR"
abbrev pub byte_at : (code dscr : ℕ) → ℕ
byte_at n dscr = cond (eqb n 0x09 || eqb n 0x0D) 2 (cond (eqb n 0x0A || eqb n 0x0E) 3 dscr)

-- the descriptor at SAR has this byte replaced by the data byte, "bytes 0 and 1 the base (high first), 2 the limit, 3 the attributes"
abbrev pub ReplacesWhere : (There : Unit → ℕ → Type 0) → Type 0
ReplacesWhere There =
    (u : Unit) (c : Cycle) (i : ℕ)
    → There u i
    → writes_to u c i ≡ true
    → descriptor (stepped u c).unit i ≡ replaced (descriptor u i) (byte_at c.offset u.registers.control.dscr) c.byte

-- set all CPUI sets that flag in every descriptor and changes nothing else there; set all DMAI likewise
abbrev pub SetsWhere : (There : Unit → ℕ → Type 0) → Type 0
SetsWhere There =
    (u : Unit) (c : Cycle) (i : ℕ)
    → There u i
    → (writes_here 0x15 u c ≡ true → descriptor (stepped u c).unit i ≡ with_flags CPUI (descriptor u i))
    × (writes_here 0x16 u c ≡ true → descriptor (stepped u c).unit i ≡ with_flags DMAI (descriptor u i))

-- "A translated cycle with SUP off, not an aborted fetch"
abbrev pub let_through : Unit → Cycle → Bool
let_through u c = translated u c && not (stepped u c).answer.sup

-- "sets REF, and CHG too if it writes", in the descriptor of its segment and in no other
abbrev pub MarksWhere : (marks : Unit → Cycle → Bool) → (May : Unit → Cycle → ℕ → Bool) → (There : Unit → ℕ → Type 0) → Type 0
MarksWhere marks May There =
    (u : Unit) (c : Cycle) (i : ℕ)
    → There u i
    → May u c i ≡ true
    → descriptor (stepped u c).unit i
    ≡ cond (marks u c && eqb i (c.segment % 64)) (touched (descriptor u i) c) (descriptor u i)

-- none of the three that change descriptor i
abbrev pub spares : Unit → Cycle → ℕ → Bool
spares u c i = not (changes u c i)

-- CLAIM: a write replaces one byte of the descriptor at SAR as it stood, told by its code and by DSCR as it stood.
abbrev pub WriteReplaces : Type 0
WriteReplaces = ReplacesWhere Has

-- CLAIM: set all CPUI and set all DMAI set their flag, and change nothing else.
abbrev pub SetAllSets : Type 0
SetAllSets = SetsWhere Has

-- CLAIM: every cycle but the three changes REF and CHG at most, of its own segment's descriptor, only sets them, and only with SUP off. So
-- other commands, a write to another descriptor, and resets leave the whole descriptor.
abbrev pub MarksExactly : Type 0
MarksExactly = MarksWhere let_through spares Has

-- CLAIM: a descriptor that is not there is not changed, so the three claims say nothing of it.
abbrev pub HasNeeded : Type 0
HasNeeded = (ReplacesWhere Anywhere → ⊥) × (SetsWhere Anywhere → ⊥) × (MarksWhere let_through spares Anywhere → ⊥)

-- CLAIM: one of the three may change more than REF and CHG.
abbrev pub CommandsExcluded : Type 0
CommandsExcluded = MarksWhere let_through (λ u c i. true) Has → ⊥

-- CLAIM: a translated cycle that is suppressed leaves REF and CHG.
abbrev pub SuppressedMarksNot : Type 0
SuppressedMarksNot = MarksWhere translated spares Has → ⊥
