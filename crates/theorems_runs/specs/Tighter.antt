-- Demand 3: two units alike in all but some descriptors, where the second's are wider, over the same cycles; with ticket 5's line.
-- Assumes nothing.
use Rattle.std.specs.Prelude.{◌≡◌, Bool, true, false, cond, ◌||◌, List, [], ◌∷◌, ℕ, ◌≤◌, ◌<◌, get_or}
use Rattle.rules.specs.Flags.{has}
use Rattle.rules.specs.Masks.{RD, SYS, CPUI, EXC, DMAI, DIRW}
use Rattle.rules.specs.PowerOn.{blank}
use Rattle.rules.specs.Runs.{answers}
use Rattle.rules.specs.Step.{stepped}
use Rattle.rules.specs.declared.Answer.{Answer}
use Rattle.rules.specs.declared.Cycle.{Cycle}
use Rattle.rules.specs.declared.Descriptor.{Descriptor}
use Rattle.rules.specs.declared.Kind.TheVariants.{Translated}
use Rattle.rules.specs.declared.Unit.{Unit}
use Rattle.theorems_runs.specs.Answers.{aborted_fetch}
use Rattle.theorems_runs.specs.Cycles.{descriptor_write}
use Rattle.theorems_runs.specs.Sequences.{◌⇒◌, Every, Both}
use Rattle.theorems_runs.specs.Undamaged.{Undamaged}

-- y has the base and the direction of x, no protection flag that x lacks, and a range at least as wide. REF and CHG are not looked at.
pub record Wider (x y : Descriptor) : Type 0 where
  pub base : x.base ≡ y.base
  pub direction : has x.attributes DIRW ≡ has y.attributes DIRW
  pub rights : Every (λ flag. has y.attributes flag ⇒ has x.attributes flag) (RD ∷ SYS ∷ CPUI ∷ EXC ∷ DMAI ∷ [])
  -- with DIRW clear the range ends at the limit, with DIRW set it begins there
  pub up : has x.attributes DIRW ≡ false → x.limit ≤ y.limit
  pub down : has x.attributes DIRW ≡ true → y.limit ≤ x.limit

-- b is a in all but its descriptors, and each of these is as wide as a's or wider
pub record Loosened (a b : Unit) : Type 0 where
  pub registers : a.registers ≡ b.registers
  pub table : (i : ℕ) → i < 64 → Wider (get_or a.table i blank) (get_or b.table i blank)

-- the answer x drives the address lines that y drives, and suppresses wherever y does
pub record Covers (x y : Answer) : Type 0 where
  pub address : x.address ≡ y.address
  pub sup : y.sup ⇒ x.sup

-- ticket 5: where both translate the cycle, the second is at least as far from the edge as the first. The ticket asks for it "where neither unit
-- has a length violation"; it holds in one too, since a violation carries 0, and one of the second is one of the first.
abbrev pub Nearer : Answer → Answer → Type 0
Nearer x y = x.kind ≡ Translated → y.kind ≡ Translated → x.distance ≤ y.distance

-- the two lines of demand 3, each a relation of the answers
abbrev pub EachLine : (Claim : (Line : Answer → Answer → Type 0) → Type 0) → Type 0
EachLine Claim = Claim Covers × Claim Nearer

-- where to stop: at an aborted fetch in either unit; in the first; nowhere
abbrev pub in_either : Unit → Unit → Cycle → Bool
in_either a b c = aborted_fetch a c || aborted_fetch b c

abbrev pub in_first : Unit → Unit → Cycle → Bool
in_first a b c = aborted_fetch a c

abbrev pub nowhere : Unit → Unit → Cycle → Bool
nowhere a b c = false

-- the cycles before the first at which two units stop
unfoldable pub before : (stop : Unit → Unit → Cycle → Bool) → Unit → Unit → List Cycle → List Cycle
before stop a b [] = []
before stop a b (c ∷ cs) = cond (stop a b c) [] (c ∷ before stop (stepped a c).unit (stepped b c).unit cs)

-- which cycles may come: all but a selected CPU write of %08 to %0F; all
abbrev pub NoDescriptorWrite : Cycle → Type 0
NoDescriptorWrite c = descriptor_write c ≡ false

abbrev pub Any : Cycle → Type 0
Any c = true ≡ true

-- demand 3, with its line, the cycles that may come and the stop left open
abbrev pub TighterBy : (Line : Answer → Answer → Type 0) → (May : Cycle → Type 0) → (stop : Unit → Unit → Cycle → Bool) → Type 0
TighterBy Line May stop =
    (a b : Unit) (cs : List Cycle)
    -- "two undamaged units": damaged ones refuse every cycle, and there is nothing to compare
    → Undamaged a
    → Undamaged b
    -- "alike in all but some descriptors", the second's wider
    → Loosened a b
    -- "the same cycles", each of them one that may come: resets, acknowledges, DMA, refused cycles, set all CPUI and set all DMAI do
    → Every May cs
    -- at each cycle the answers stand in the line's relation
    → Both Line (answers a (before stop a b cs)) (answers b (before stop a b cs))

-- CLAIM, demand 3: no selected CPU write of %08 to %0F, "stopping before the first cycle that is an aborted fetch in either": both units drive
-- the same addresses at the same cycles, and what the second suppresses the first suppresses too; and "the second's distance is at least the
-- first's".
abbrev pub Demand3 : Type 0
Demand3 = EachLine λ Line. TighterBy Line NoDescriptorWrite in_either

-- CLAIM: an aborted fetch in the second unit alone does no harm, so the stop at the first's is enough.
abbrev pub StopInFirst : Type 0
StopInFirst = EachLine λ Line. TighterBy Line NoDescriptorWrite in_first

-- CLAIM: with no stop it is false. The tighter unit's fault makes the next fetch an aborted one, which is never suppressed.
abbrev pub StopNeeded : Type 0
StopNeeded = TighterBy Covers NoDescriptorWrite nowhere → ⊥

-- CLAIM: with writes to descriptors it is false. One that turns a segment's direction makes the wider range the tighter.
abbrev pub WritesExcluded : Type 0
WritesExcluded = EachLine λ Line. TighterBy Line Any in_either → ⊥
