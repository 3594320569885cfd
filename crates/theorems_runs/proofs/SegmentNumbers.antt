-- Which cycle stores VSN, VOFF, BCSR and the low byte, or ISN and IOFF, and what bit 6 of VSN and ISN tells.
-- Assumes nothing.
use mathlib.Core.Path.{◌≡◌, refl, sym, ◌∙◌, ap, subst}
use mathlib.Core.Bool.{Bool, true, false, cond, not, ◌&&◌, ◌||◌, beq, true≢false, false≢true}
use mathlib.Core.List.{List, [], ◌∷◌}
use Prim.Native.Nat.{ℕ, ◌≤◌}
use native.Mathlib.Omega.{arith}
use lib.Dec.{eqb, leb, ltb}
use lib.ListN.{get_or}
use borrow.Author.Tests.{ltb-false}
use Rattle.rules.specs.Bus.{cpu, write, fetch, seven_bits}
use Rattle.rules.specs.Checks.{rights_of, out_of_length, warns_by, warns}
use Rattle.rules.specs.Codes.{command_of}
use Rattle.rules.specs.Commands.{replied, executed}
use Rattle.rules.specs.Flags.{has, lacks, with, flag_if}
use Rattle.rules.specs.Masks.{SYS, DIRW, SLV, PRIMARY, TRNS, MSEN}
use Rattle.rules.specs.PowerOn.{Stored, blank, power_on}
use Rattle.rules.specs.Recording.{bus_status, event_by, event_of}
use Rattle.rules.specs.Refusals.{out_of_range}
use Rattle.rules.specs.Runs.{final}
use Rattle.rules.specs.Seen.{segment, cycle, command}
use Rattle.rules.specs.Step.{decision, after, place, stepped}
use Rattle.rules.specs.declared.Answer.{Answer}
use Rattle.rules.specs.declared.Cycle.{Cycle}
use Rattle.rules.specs.declared.Decision.{Decision}
use Rattle.rules.specs.declared.Descriptor.{Descriptor}
use Rattle.rules.specs.declared.Fetched.{Fetched}
use Rattle.rules.specs.declared.Unit.{Unit}
use Rattle.theorems_runs.specs.Answers.{awaited, segment_of, breaks, translated, violation}
use Rattle.theorems_runs.specs.Cycles.{selected_command, memory_cycle, fetches, translation_conditions}
use Rattle.theorems_runs.specs.Hold.{cpu_violation}
use Rattle.theorems_runs.specs.SegmentNumbers.{warning, stores_fault, stores_fetch, StoredExactly, SegmentNumber, vsn, isn, reads, upper, urs}
use Rattle.theorems_runs.specs.SegmentNumbers.{Reads, ReadsAfter, TellsUrs, ReadShows, NumberLasts, HalfStored, HalfRead}
use Rattle.theorems_runs.specs.SegmentNumbers.{UrsNeeded, StoredNeeded, HalvesApart}
use Rattle.theorems_runs.specs.Refusal.{admitted}
use Rattle.theorems_runs.specs.Sequences.{Along}
use Rattle.theorems_runs.proofs.Answers.{fails, breaks_exactly, memory-place, where_true}
use Rattle.theorems_runs.proofs.Computed.{computed}
use Rattle.theorems_runs.proofs.Effects.{decides, admitted_inside, code_decided}
use Rattle.theorems_runs.proofs.Examples.{unit_of_three}
use Rattle.theorems_runs.proofs.Looks.{conditions_way}
use Rattle.theorems_runs.proofs.Registers.{companions, instruction, eventful, faultStored, fetchStored, leaves}
use Rattle.theorems_runs.proofs.Reported.{flags, flags_some}
use Rattle.theorems_runs.proofs.Tests.{and_l, and_r, or_r, same}

-- there is something to record exactly in a CPU cycle that violates or warns
eventful_exactly : (d : Descriptor) (c : Cycle)
    → eventful d c ≡ (cpu c && (breaks d c || write c && has d.attributes DIRW && eqb c.offset d.limit))
unfolding event_of warns flags
eventful_exactly d c =
    go c.dma (fails d c) c.read (has d.attributes DIRW) (eqb c.offset d.limit) refl refl
    ∙ ap (λ (t : Bool). cpu c && (t || write c && has d.attributes DIRW && eqb c.offset d.limit)) (breaks_exactly d c)
  where
    go : (dma v read down edge : Bool) → c.dma ≡ dma → fails d c ≡ v
        → not (eqb (event_by dma v (warns_by dma read v down edge) (with (rights_of d.attributes c) (flag_if (out_of_length d c) SLV))) 0)
        ≡ (not dma && (v || not read && down && edge))
    go true v read down edge p q = refl
    go false true read down edge p q = ap not (flags_some d c p q)
    go false false true down edge p q = refl
    go false false false true true p q = refl
    go false false false true false p q = refl
    go false false false false edge p q = refl

-- the two conditions of the walk, in document 01's words
event_told : (t b p y d e l : Bool)
    → (t && (p && (b || y && d && e) && l)) ≡ ((t && b && p || t && not b && (p && y && d && e)) && l)
event_told false b p y d e l = refl
event_told true true true y d e l = refl
event_told true true false y d e l = refl
event_told true false true y d e l = refl
event_told true false false y d e l = refl

fault-told : (a r m f w t b p y d e l : Bool)
    → (a && (not r && m) && (not (f && w) && t && (p && (b || y && d && e) && l)))
    ≡ ((a && (not r && m) && not (not r && f && w) && t && b && p || a && (not r && m) && not (not r && f && w) && t && not b && (p && y && d && e))
    && l)
fault-told false r m f w t b p y d e l = refl
fault-told true true m f w t b p y d e l = refl
fault-told true false false f w t b p y d e l = refl
fault-told true false true true true t b p y d e l = refl
fault-told true false true true false t b p y d e l = event_told t b p y d e l
fault-told true false true false w t b p y d e l = event_told t b p y d e l

fetch-told : (a r m f w t b z : Bool)
    → (a && (not r && m) && (not (f && w) && t && (f && not b && z)))
    ≡ (not r && f && (a && (not r && m) && not (not r && f && w) && t) && not b && z)
fetch-told true true m f w t b z = refl
fetch-told true false false true w t b z = refl
fetch-told true false false false w t b z = refl
fetch-told true false true true true t b z = refl
fetch-told true false true true false true b z = refl
fetch-told true false true true false false b z = refl
fetch-told true false true false w true b z = refl
fetch-told true false true false w false b z = refl
fetch-told false true m f w t b z = refl
fetch-told false false m true w t b z = refl
fetch-told false false m false w t b z = refl

module _ (u : Unit) (c : Cycle) where
  -- the descriptor at the cycle's place is its segment's
  first_exactly : (admitted u c && memory_cycle c && faultStored u.registers (get_or u.table (place u c) blank) c) ≡ stores_fault u c
  unfolding faultStored
  first_exactly =
      let mr : ℕ = u.registers.control.mr in
      where_true (admitted u c && memory_cycle c) _ (faultStored u.registers (segment_of u c) c)
      (λ e. ap (λ (i : ℕ). faultStored u.registers (get_or u.table i blank) c) (memory-place u c (and_r (admitted u c) _ e)))
      ∙ rw (conditions_way mr c, eventful_exactly (segment_of u c) c)
      (fault-told (admitted u c) c.reset (leb 8 c.status && leb c.status 13) (fetch c) u.registers.notes.awaits
      (translation_conditions mr c) (breaks (segment_of u c) c) (cpu c) (write c) (has (segment_of u c).attributes DIRW)
      (eqb c.offset (segment_of u c).limit) (lacks u.registers.faults.vtr PRIMARY))

  start_exactly : (admitted u c && memory_cycle c && fetchStored u.registers (get_or u.table (place u c) blank) c) ≡ stores_fetch u c
  unfolding fetchStored
  start_exactly =
      let mr : ℕ = u.registers.control.mr in
      where_true (admitted u c && memory_cycle c) _ (fetchStored u.registers (segment_of u c) c)
      (λ e. ap (λ (i : ℕ). fetchStored u.registers (get_or u.table i blank) c) (memory-place u c (and_r (admitted u c) _ e)))
      ∙ rw (conditions_way mr c, breaks_exactly (segment_of u c) c)
      (fetch-told (admitted u c) c.reset (leb 8 c.status && leb c.status 13) (fetch c) u.registers.notes.awaits
      (translation_conditions mr c) (breaks (segment_of u c) c) (eqb u.registers.faults.vtr 0))

  -- what stores is translated, so its segment is in range and in the unit's half
  fault-translated : stores_fault u c ≡ true → translated u c ≡ true
  fault-translated e =
      go (cpu_violation u c) (warning u c) refl refl (and_l (cpu_violation u c || warning u c) _ e)
    where
      go : (v w : Bool) → cpu_violation u c ≡ v → warning u c ≡ w → (v || w) ≡ true → translated u c ≡ true
      go true w p q o = and_l (translated u c) _ (and_l (violation u c) _ p)
      go false true p q o = and_l (translated u c) _ (and_l (translated u c && not (breaks (segment_of u c) c)) _ q)
      go false false p q o = absurd (false≢true o)

  fetch-translated : stores_fetch u c ≡ true → translated u c ≡ true
  fetch-translated e =
      and_r (fetches c) _
      (and_l (fetches c && translated u c) _ (and_l (fetches c && translated u c && not (breaks (segment_of u c) c)) _ e))

  whole : translated u c ≡ true → seven_bits c ≡ c.segment
  unfolding out_of_range
  whole e =
      let m : Bool = admitted u c && memory_cycle c in
      let inside : out_of_range c ≡ false = admitted_inside u c (and_l (admitted u c) _ (and_l m _ (and_l (m && not (awaited u c)) _ e))) in
      let low : c.segment ≤ 127 = ltb-false 127 c.segment (or_r (ltb 15 c.status) _ inside) in
      omega (arith, low)

  half : translated u c ≡ true → upper c.segment ≡ urs u
  half e =
      let t : translation_conditions u.registers.control.mr c ≡ true = and_r (admitted u c && memory_cycle c && not (awaited u c)) _ e in
      let k : Bool = has u.registers.control.mr MSEN && has u.registers.control.mr TRNS in
      sym (same (urs u) (upper c.segment) (and_r k _ (and_l (k && beq (urs u) (upper c.segment)) _ t)))

-- a part of what is stored, where it is stored and where it is not
part-stored : {A : Type 0} (part : A → ℕ) (stores : Bool) (new old : A) (n : ℕ) → (stores ≡ true → part new ≡ n)
    → part (cond stores new old) ≡ cond stores n (part old)
part-stored part true new old n h = h refl
part-stored part false new old n h = refl

pub stored_exactly : StoredExactly
unfolding after
stored_exactly u c =
    let first : _ = (leaves u c).faults ∙ ap (λ (t : Bool). companions t c u.registers) (first_exactly u c) in
    let start : _ = (leaves u c).fetched ∙ ap (λ (t : Bool). instruction t c u.registers) (start_exactly u c) in
    record {
      vsn =
          ap (λ (f : Stored). f.faults.vsn) first
          ∙ part-stored (λ (f : Stored). f.faults.vsn) (stores_fault u c) _ _ c.segment (λ e. whole u c (fault-translated u c e));
      voff = ap (λ (f : Stored). f.faults.voff) first ∙ part-stored (λ (f : Stored). f.faults.voff) (stores_fault u c) _ _ c.offset (λ e. refl);
      bcsr = ap (λ (f : Stored). f.faults.bcsr) first ∙ part-stored (λ (f : Stored). f.faults.bcsr) (stores_fault u c) _ _ (bus_status c) (λ e. refl);
      low = ap (λ (f : Stored). f.low) first ∙ part-stored (λ (f : Stored). f.low) (stores_fault u c) _ _ c.low (λ e. refl);
      isn =
          ap (λ (f : Fetched). f.isn) start
          ∙ part-stored (λ (f : Fetched). f.isn) (stores_fetch u c) _ _ c.segment (λ e. whole u c (fetch-translated u c e));
      ioff = ap (λ (f : Fetched). f.ioff) start ∙ part-stored (λ (f : Fetched). f.ioff) (stores_fetch u c) _ _ c.offset (λ e. refl);
    }

-- Reads

-- a read that is refused neither by 2 nor by 1 shows what its code stands for
shown : (n : ℕ) (u : Unit) (c : Cycle) → reads n u c ≡ true → (decision u c).answer ≡ (decides (command_of n) true u c).answer
shown n u c e =
    let r : (admitted u c && selected_command c && c.read) ≡ true = and_l (admitted u c && selected_command c && c.read) _ e in
    let s : (admitted u c && selected_command c) ≡ true = and_l (admitted u c && selected_command c) _ r in
    ap (λ (x : Decision). x.answer)
    (code_decided u c (and_l (admitted u c) _ s) (and_r (admitted u c) _ s) n true (and_r (admitted u c && selected_command c) _ r)
    (and_r (admitted u c && selected_command c && c.read) _ e))

pub read-shows : ReadShows
unfolding command_of executed replied
read-shows = (
  λ u c e. (ap (λ (a : Answer). a.drives) (shown 0x03 u c e), ap (λ (a : Answer). a.byte) (shown 0x03 u c e)),
  λ u c e. (ap (λ (a : Answer). a.drives) (shown 0x06 u c e), ap (λ (a : Answer). a.byte) (shown 0x06 u c e)),
)

-- The half that a number tells

new : (stores : Bool) (x y : ℕ) → stores ≡ true → cond stores x y ≡ x
new stores x y e = ap (λ (t : Bool). cond t x y) e

pub old : (stores : Bool) (x y : ℕ) → stores ≡ false → cond stores x y ≡ y
old stores x y e = ap (λ (t : Bool). cond t x y) e

pub half_stored : HalfStored
half_stored = (
  λ u c e. ap upper ((stored_exactly u c).vsn ∙ new _ _ _ e) ∙ half u c (fault-translated u c e),
  λ u c e. ap upper ((stored_exactly u c).isn ∙ new _ _ _ e) ∙ half u c (fetch-translated u c e),
)

-- what carries the claims about later cycles: where a number is stored, what it is and that it tells URS; where not, that it stays; its read
record Lawful (n : SegmentNumber) : Type 0 where
  stored : (u : Unit) (c : Cycle) → n.stores u c ≡ true → n.kept (stepped u c).unit ≡ c.segment
  stays : (u : Unit) (c : Cycle) → n.stores u c ≡ false → n.kept (stepped u c).unit ≡ n.kept u
  halves : (u : Unit) (c : Cycle) → n.stores u c ≡ true → upper (n.kept (stepped u c).unit) ≡ urs u
  shows : (u : Unit) (c : Cycle) → reads n.code u c ≡ true → (stepped u c).answer.byte ≡ n.kept u

vsn_lawful : Lawful vsn
vsn_lawful =
    record {
      stored = λ u c e. (stored_exactly u c).vsn ∙ new _ _ _ e;
      stays = λ u c e. (stored_exactly u c).vsn ∙ old _ _ _ e;
      halves = half_stored.0;
      shows = λ u c e. (read-shows.0 u c e).1;
    }

isn_lawful : Lawful isn
isn_lawful =
    record {
      stored = λ u c e. (stored_exactly u c).isn ∙ new _ _ _ e;
      stays = λ u c e. (stored_exactly u c).isn ∙ old _ _ _ e;
      halves = half_stored.1;
      shows = λ u c e. (read-shows.1 u c e).1;
    }

module _ (n : SegmentNumber) (l : Lawful n) where
  -- a fact of the number that each cycle keeps is shown by each read
  shows_on : (May : Unit → Cycle → Type 0) (P : ℕ → Type 0) (Shows : Unit → (byte : ℕ) → Type 0)
      → ((v : Unit) (d : Cycle) → May v d → P (n.kept v) → P (n.kept (stepped v d).unit))
      → ((v : Unit) (d : Cycle) → May v d → P (n.kept v) → Shows v (n.kept v))
      → (cs : List Cycle) (v : Unit) → P (n.kept v) → Along May v cs → Reads Shows n v cs
  unfolding Along
  shows_on May P Shows step show [] v p q = refl
  shows_on May P Shows step show (d ∷ cs) v p q = (
    λ e. subst (Shows v) (sym (l.shows v d e)) (show v d q.0 p),
    shows_on May P Shows step show cs (stepped v d).unit (step v d q.0 p) q.1,
  )

  lasts : (u : Unit) (c : Cycle) → ReadsAfter (λ v d. n.stores v d ≡ false) (λ v byte. byte ≡ c.segment) n u c
  lasts u c cs e q =
      shows_on (λ v d. n.stores v d ≡ false) (λ k. k ≡ c.segment) (λ v byte. byte ≡ c.segment) (λ v d f p. l.stays v d f ∙ p)
      (λ v d f p. p) cs (stepped u c).unit (l.stored u c e) q

  tells : (u : Unit) (c : Cycle) → ReadsAfter (λ v d. urs v ≡ urs u) TellsUrs n u c
  tells u c cs e q =
      shows_on (λ v d. urs v ≡ urs u) (λ k. upper k ≡ urs u) TellsUrs step (λ v d f p. p ∙ sym f) cs (stepped u c).unit (l.halves u c e) q
    where
      step : (v : Unit) (d : Cycle) → urs v ≡ urs u → upper (n.kept v) ≡ urs u → upper (n.kept (stepped v d).unit) ≡ urs u
      step v d f p = go (n.stores v d) refl
        where
          go : (t : Bool) → n.stores v d ≡ t → upper (n.kept (stepped v d).unit) ≡ urs u
          go true e = l.halves v d e ∙ f
          go false e = ap upper (l.stays v d e) ∙ p

  apart : (m : SegmentNumber) → Lawful m → (u v : Unit) (c d : Cycle) → urs u ≡ not (urs v) → n.stores u c ≡ true → m.stores v d ≡ true
      → n.kept (stepped u c).unit ≡ m.kept (stepped v d).unit → ⊥
  apart m k u v c d t e f q = no_other (urs v) (sym (k.halves v d f) ∙ sym (ap upper q) ∙ l.halves u c e ∙ t)
    where
      no_other : (t : Bool) → t ≡ not t → ⊥
      no_other true e = true≢false e
      no_other false e = false≢true e

pub number_lasts : NumberLasts
number_lasts = (lasts vsn vsn_lawful, lasts isn isn_lawful)

pub half_read : HalfRead
half_read = (tells vsn vsn_lawful, tells isn isn_lawful)

pub halves_apart : HalvesApart
halves_apart = (
  (apart vsn vsn_lawful vsn vsn_lawful, apart vsn vsn_lawful isn isn_lawful),
  (apart isn isn_lawful vsn vsn_lawful, apart isn isn_lawful isn isn_lawful),
)

-- URS, and segment 65 open to system mode alone, or to all
upper_unit : (attributes : ℕ) → Unit
upper_unit attributes = unit_of_three 0xE0 0 0 false blank (segment 0 0xFF attributes) blank

-- a normal write at segment 65 stores VSN %41, a fetch there ISN %41; MR is written without URS, and the number is read
pub urs_needed : UrsNeeded
unfolding upper_unit computed Along
urs_needed = (
  λ claim.
      true≢false
      ((claim (upper_unit SYS) (cycle false false true 8 65 0) (command false 0x00 0xC0 ∷ command true 0x03 0 ∷ []) refl
      (refl, (refl, refl))).1.0 refl),
  λ claim.
      true≢false
      ((claim (upper_unit 0) (cycle false true true 0xD 65 0) (command false 0x00 0xC0 ∷ command true 0x06 0 ∷ []) refl
      (refl, (refl, refl))).1.0 refl),
)

-- from power-on, MR with URS: both read %00
pub stored_needed : StoredNeeded
unfolding computed Along
stored_needed = (
  λ claim. false≢true ((claim (final power_on (command false 0x00 0xE0 ∷ [])) (command true 0x03 0 ∷ []) (refl, refl)).0 refl),
  λ claim. false≢true ((claim (final power_on (command false 0x00 0xE0 ∷ [])) (command true 0x06 0 ∷ []) (refl, refl)).0 refl),
)
