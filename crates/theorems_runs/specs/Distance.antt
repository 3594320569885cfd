-- Ticket 5: what the distance means, and what a stack tuner may rely on.
-- Assumes nothing.
use Rattle.std.specs.Prelude.{◌≡◌, Bool, true, false, cond, not, ◌&&◌, [], ◌∷◌, ℕ, ◌+◌, ◌-◌, ◌≤◌, ◌<◌, eqb, leb, ltb}
use Rattle.rules.specs.Bus.{cpu, write}
use Rattle.rules.specs.Flags.{has}
use Rattle.rules.specs.Masks.{RD, SYS, CPUI, EXC, DMAI, DIRW}
use Rattle.rules.specs.Step.{stepped}
use Rattle.rules.specs.declared.Cycle.{Cycle}
use Rattle.rules.specs.declared.Descriptor.{Descriptor}
use Rattle.rules.specs.declared.Unit.{Unit}
use Rattle.theorems_runs.specs.Answers.{segment_of, beyond_limit, breaks, translated, SameMr}
use Rattle.theorems_runs.specs.Descriptors.{descriptor}
use Rattle.theorems_runs.specs.Narrower.{HoldsFirst, WritesNone, FromBy}
use Rattle.theorems_runs.specs.SegmentNumbers.{warning}
use Rattle.theorems_runs.specs.Sequences.{◌⇒◌, Every}
use Rattle.theorems_runs.specs.Tighter.{Wider, Nearer, in_first, NoDescriptorWrite, TighterBy}
use Rattle.theorems_runs.specs.Undamaged.{Undamaged}

-- the k-th block after another in the segment's direction: with DIRW set a segment grows downwards
abbrev pub onward : Descriptor → (block k : ℕ) → ℕ
onward d o k = cond (has d.attributes DIRW) (o - k) (o + k)

-- the offset byte can name it
abbrev pub named : Descriptor → (block k : ℕ) → Bool
named d o k = cond (has d.attributes DIRW) (leb k o) (ltb (o + k) 256)

-- what a distance n says of a block o: it and each of the n blocks after it in the segment's direction can be named and pass the length check,
-- and the next one, if the offset byte can still name it, does not
pub record Counts (d : Descriptor) (o n : ℕ) : Type 0 where
  pub pass : (k : ℕ) → k ≤ n → (named d o k ≡ true) × (beyond_limit d (onward d o k) ≡ false)
  pub ends : named d o (n + 1) ≡ true → beyond_limit d (onward d o (n + 1)) ≡ true

-- CLAIM: "how many whole blocks remain between the accessed block and the last permitted one in the segment's direction", of a translated cycle
-- without a length violation; the limit is a byte, as the code's type says.
abbrev pub DistanceCounts : Type 0
DistanceCounts =
    (u : Unit) (c : Cycle) → translated u c ≡ true → beyond_limit (segment_of u c) c.offset ≡ false → (segment_of u c).limit < 256
    → Counts (segment_of u c) c.offset (stepped u c).answer.distance

-- CLAIM: no other number says that of a block.
abbrev pub CountsOnce : Type 0
CountsOnce = (d : Descriptor) (o n m : ℕ) → Counts d o n → Counts d o m → n ≡ m

-- CLAIM: a CPU write without violation warns exactly with DIRW set and distance 0. `warning` says it by the offset byte and the limit.
abbrev pub WarnsAtTheEdge : Type 0
WarnsAtTheEdge =
    (u : Unit) (c : Cycle)
    → warning u c
    ≡ (translated u c && not (breaks (segment_of u c) c)
    && (cpu c && write c && has (segment_of u c).attributes DIRW && eqb (stepped u c).answer.distance 0))

-- What can't be left out of demand 3's line

-- CLAIM: that both translate the cycle, where the run goes on past an aborted fetch of the second unit alone, which carries 0: even from equal
-- registers.
abbrev pub BothTranslateNeeded : Type 0
BothTranslateNeeded = TighterBy (λ x y. x.distance ≤ y.distance) NoDescriptorWrite in_first → ⊥

-- `Wider` widened: by the blocks that are allowed, whatever the directions
pub record Roomier (x y : Descriptor) : Type 0 where
  pub base : x.base ≡ y.base
  pub rights : Every (λ flag. has y.attributes flag ⇒ has x.attributes flag) (RD ∷ SYS ∷ CPUI ∷ EXC ∷ DMAI ∷ [])
  pub blocks : (o : ℕ) → o < 256 → beyond_limit x o ≡ false → beyond_limit y o ≡ false

-- CLAIM: so it is.
abbrev pub RoomierWidened : Type 0
RoomierWidened = (x y : Descriptor) → Wider x y → Roomier x y

-- CLAIM: that the directions are the same: with a table that allows more blocks in another direction the edge may be nearer.
abbrev pub DirectionNeeded : Type 0
DirectionNeeded =
    FromBy Nearer WritesNone
    (λ a b. Undamaged a × Undamaged b × ((i : ℕ) → i < 64 → Roomier (descriptor a i) (descriptor b i)) × SameMr a b × HoldsFirst a b)
    → ⊥
