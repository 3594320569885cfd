-- Ticket 2: the segment number that VSN and ISN keep, which cycle stores it, and the half of the segments that its bit 6 tells.
-- Assumes nothing.
use Rattle.std.specs.Prelude.{◌≡◌, Bool, true, false, cond, not, ◌&&◌, ◌||◌, List, ℕ, eqb}
use Rattle.rules.specs.Bus.{cpu, write}
use Rattle.rules.specs.Flags.{has, lacks}
use Rattle.rules.specs.Masks.{DIRW, PRIMARY, URS, UPPER}
use Rattle.rules.specs.Recording.{bus_status}
use Rattle.rules.specs.Step.{stepped}
use Rattle.rules.specs.declared.Cycle.{Cycle}
use Rattle.rules.specs.declared.Registers.{Registers}
use Rattle.rules.specs.declared.Unit.{Unit}
use Rattle.theorems_runs.specs.Answers.{segment_of, breaks, translated}
use Rattle.theorems_runs.specs.Cycles.{selected_command, fetches}
use Rattle.theorems_runs.specs.Hold.{cpu_violation}
use Rattle.theorems_runs.specs.Refusal.{admitted}
use Rattle.theorems_runs.specs.Sequences.{Along}

-- Which cycle stores, and what

-- "A warning is a CPU write without violation, DIRW set, offset byte equal to limit."
abbrev pub warning : Unit → Cycle → Bool
warning u c =
    translated u c && not (breaks (segment_of u c) c)
    && (cpu c && write c && has (segment_of u c).attributes DIRW && eqb c.offset (segment_of u c).limit)

-- "Recording, CPU only: No primary flag in VTR: its violation flags, or PWW, are added; VSN [..], VOFF and BCSR are stored"
abbrev pub stores_fault : Unit → Cycle → Bool
stores_fault u c = (cpu_violation u c || warning u c) && lacks u.registers.faults.vtr PRIMARY

-- "A CPU read at %D translated without violation, not aborted, stores ISN [..] and IOFF while VTR is zero."
abbrev pub stores_fetch : Unit → Cycle → Bool
stores_fetch u c = fetches c && translated u c && not (breaks (segment_of u c) c) && eqb u.registers.faults.vtr 0

-- the five registers and the low byte after a cycle, r, from those of the unit before it: "VSN and ISN keep all seven bits", so the segment as it stands; ticket
-- 8: the low byte "when VOFF is stored, under the same rows"
pub record StoredBy (u : Unit) (c : Cycle) (r : Registers) : Type 0 where
  pub vsn : r.faults.vsn ≡ cond (stores_fault u c) c.segment u.registers.faults.vsn
  pub voff : r.faults.voff ≡ cond (stores_fault u c) c.offset u.registers.faults.voff
  pub bcsr : r.faults.bcsr ≡ cond (stores_fault u c) (bus_status c) u.registers.faults.bcsr
  pub low : r.low ≡ cond (stores_fault u c) c.low u.registers.low
  pub isn : r.fetched.isn ≡ cond (stores_fetch u c) c.segment u.registers.fetched.isn
  pub ioff : r.fetched.ioff ≡ cond (stores_fetch u c) c.offset u.registers.fetched.ioff

-- CLAIM: of every unit and every cycle, the five registers and the low byte are stored exactly there, and else they stay: in resets, commands, acknowledges,
-- DMA and refused cycles too.
abbrev pub StoredExactly : Type 0
StoredExactly = (u : Unit) (c : Cycle) → StoredBy u c (stepped u c).unit.registers

-- What a command reads

-- a register that keeps a segment number: the command that reads it, the register, the cycles that store it
pub record SegmentNumber : Type 0 where
  pub code : ℕ
  pub kept : Unit → ℕ
  pub stores : Unit → Cycle → Bool

abbrev pub vsn : SegmentNumber
vsn = record { code = 0x03; kept = λ u. u.registers.faults.vsn; stores = stores_fault }

abbrev pub isn : SegmentNumber
isn = record { code = 0x06; kept = λ u. u.registers.fetched.isn; stores = stores_fetch }

-- of VSN and of ISN
abbrev pub OfBoth : (SegmentNumber → Type 0) → Type 0
OfBoth Claim = Claim vsn × Claim isn

-- a selected CPU read of a code, refused neither by 2 nor by 1
abbrev pub reads : (code : ℕ) → Unit → Cycle → Bool
reads n u c = admitted u c && selected_command c && c.read && eqb c.offset n

-- CLAIM: commands %03 and %06 drive the whole number that is kept.
abbrev pub ReadShows : Type 0
ReadShows =
    OfBoth λ n. (u : Unit) (c : Cycle) → reads n.code u c ≡ true
    → ((stepped u c).answer.drives ≡ true) × ((stepped u c).answer.byte ≡ n.kept u)

-- each read of a number in a run drives a byte as said of it and of the unit that is read
abbrev pub Reads : (Shows : Unit → (byte : ℕ) → Type 0) → SegmentNumber → Unit → List Cycle → Type 0
Reads Shows n = Along (λ v d. reads n.code v d ≡ true → Shows v (stepped v d).answer.byte)

-- the same after a cycle c that has stored the number, where the cycles after it may come
abbrev pub ReadsAfter : (May : Unit → Cycle → Type 0) → (Shows : Unit → (byte : ℕ) → Type 0) → SegmentNumber → Unit → Cycle → Type 0
ReadsAfter May Shows n u c =
    (cs : List Cycle) → n.stores u c ≡ true → Along May (stepped u c).unit cs → Reads Shows n (stepped u c).unit cs

-- CLAIM: up to the next cycle that stores it, each read drives the segment of the cycle that did, whatever becomes of MR: "the number that the
-- program used".
abbrev pub NumberLasts : Type 0
NumberLasts = OfBoth λ n. (u : Unit) (c : Cycle) → ReadsAfter (λ v d. n.stores v d ≡ false) (λ v byte. byte ≡ c.segment) n u c

-- The half that it tells

-- "URS must equal segment bit 6": bit 6 of a number, and URS of a unit
abbrev pub upper : ℕ → Bool
upper n = has n UPPER

abbrev pub urs : Unit → Bool
urs u = has u.registers.control.mr URS

-- CLAIM: the cycle that stores a number leaves it with the unit's URS in bit 6.
abbrev pub HalfStored : Type 0
HalfStored = OfBoth λ n. (u : Unit) (c : Cycle) → n.stores u c ≡ true → upper (n.kept (stepped u c).unit) ≡ urs u

-- the byte has the unit's URS in bit 6
abbrev pub TellsUrs : Unit → (byte : ℕ) → Type 0
TellsUrs v byte = upper byte ≡ urs v

-- CLAIM: once a cycle has stored it, and while URS stays, each read drives a byte with URS in bit 6. The other bits of MR may change, and the
-- number may be stored anew.
abbrev pub HalfRead : Type 0
HalfRead = OfBoth λ n. (u : Unit) (c : Cycle) → ReadsAfter (λ v d. urs v ≡ urs u) TellsUrs n u c

-- CLAIM: not where MR is rewritten with another URS.
abbrev pub UrsNeeded : Type 0
UrsNeeded = OfBoth λ n. ((u : Unit) (c : Cycle) → ReadsAfter (λ v d. true ≡ true) TellsUrs n u c) → ⊥

-- CLAIM: nor where no cycle has stored it yet.
abbrev pub StoredNeeded : Type 0
StoredNeeded = OfBoth λ n. ((u : Unit) (cs : List Cycle) → Along (λ v d. urs v ≡ urs u) u cs → Reads TellsUrs n u cs) → ⊥

-- CLAIM: two units, two halves: a number that one stores, VSN or ISN, is not one that the other stores, where their URS differs.
abbrev pub HalvesApart : Type 0
HalvesApart =
    OfBoth λ n. OfBoth λ m. (u v : Unit) (c d : Cycle) → urs u ≡ not (urs v) → n.stores u c ≡ true → m.stores v d ≡ true
    → n.kept (stepped u c).unit ≡ m.kept (stepped v d).unit → ⊥
