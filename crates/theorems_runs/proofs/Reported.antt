-- A CPU violation leaves a primary flag in VTR, and a request unless FATL stood.
-- Assumes nothing.
use mathlib.Core.Path.{◌≡◌, refl, ◌∙◌, ap}
use mathlib.Core.Bool.{Bool, true, false, not, ◌&&◌, ◌||◌, true≢false, false≢true}
use mathlib.Core.List.{◌∷◌}
use Prim.Native.Nat.{ℕ, ◌<◌}
use native.Mathlib.Omega.{arith}
use lib.Dec.{eqb, lit<}
use lib.ListN.{get_or, replicate}
use borrow.Author.Tests.{ne_eqb, not-true}
use Rattle.rules.proofs.Blind.{is_translated}
use Rattle.rules.specs.Bus.{cpu, fetch}
use Rattle.rules.specs.Checks.{rights_of, out_of_length, found}
use Rattle.rules.specs.Flags.{has, lacks, with, flag_if}
use Rattle.rules.specs.Masks.{SLV, DIRW, PWW, SWW, FATL, PRIMARY}
use Rattle.rules.specs.PowerOn.{stored_of, notes_of, unit_of, blank, power_on}
use Rattle.rules.specs.Refusals.{out_of_range}
use Rattle.rules.specs.Seen.{segment, cycle}
use Rattle.rules.specs.Runs.{final}
use Rattle.rules.specs.Status.{quieted, purpose_of, by_purpose, by_status}
use Rattle.rules.specs.Recording.{event_by, event_of, first_entry, added, raised, row_of, stack_warning, recorded}
use Rattle.rules.specs.Memory.{begun, noted, resumed, checked, accessed, through, memory_by, memory}
use Rattle.rules.specs.Translation.{way_of, address_of}
use Rattle.rules.specs.Commands.{restarted}
use Rattle.rules.specs.Step.{decided_by, decided, place, decision, after}
use Rattle.rules.specs.declared.Cycle.{Cycle}
use Rattle.rules.specs.declared.Descriptor.{Descriptor}
use Rattle.rules.specs.declared.Address.{Address}
use Rattle.rules.specs.declared.Purpose.{Purpose}
use Rattle.rules.specs.declared.Registers.{Registers}
use Rattle.rules.specs.declared.Unit.{Unit}
use Rattle.rules.specs.declared.Way.{Way}
use Rattle.theorems_runs.specs.Answers.{awaited, segment_of, violation}
use Rattle.theorems_runs.specs.Cycles.{memory_cycle, translation_conditions}
use Rattle.theorems_runs.specs.Refusal.{admitted}
use Rattle.theorems_runs.specs.Reported.{faulted, OwnRequests, ViolationReported, OwnRequestsKept, ReportedFromPowerOn, OwnNeeded, FatlSilent}
use Rattle.theorems_runs.specs.Sequences.{◌⇒◌}
use Rattle.theorems_runs.proofs.Answers.{fails, breaks_exactly, memory-place}
use Rattle.theorems_runs.proofs.Bits.{or-if, or-none, lacks_or, lacks_small}
use Rattle.theorems_runs.proofs.Computed.{computed}
use Rattle.theorems_runs.proofs.Effects.{admitted_sound, admitted_inside}
use Rattle.theorems_runs.proofs.Looks.{conditions_way}
use Rattle.theorems_runs.proofs.Purposes.{is_memory, memory_status}
use Rattle.theorems_runs.proofs.Runs.{always}
use Rattle.theorems_runs.proofs.Tests.{and_l, and_r}
use Rattle.theorems_runs.proofs.Ways.{Became, stayed, controls, empties, clears, restarts, quiets, resumes, begins}
use Rattle.theorems_runs.proofs.Ways.{records, by_row, rights_small, made}
use Rattle.rules.specs.declared.Purpose.TheVariants as purpose
use Rattle.rules.specs.declared.Way.TheVariants as way

-- The event of a CPU violation: some flag, and not PWW

module _ (d : Descriptor) (c : Cycle) (cpus : c.dma ≡ false) (v : fails d c ≡ true) where
  unfoldable pub flags : ℕ
  flags = with (rights_of d.attributes c) (flag_if (out_of_length d c) SLV)

  pub flags_some : eqb flags 0 ≡ false
  unfolding flags
  flags_some = or-none (rights_of d.attributes c) (flag_if (out_of_length d c) SLV) ∙ go (eqb (rights_of d.attributes c) 0) (out_of_length d c) v
    where
      go : (n l : Bool) → (not n || l) ≡ true → (n && eqb (flag_if l SLV) 0) ≡ false
      go true true e = refl
      go true false e = absurd (false≢true e)
      go false l e = refl

  flags_five : flags < 32
  unfolding flags
  flags_five = or-if 5 (out_of_length d c) SLV (lit< tt) (rights_small d.attributes c cpus)

  event_flags : event_of c.dma (found d c) ≡ flags
  unfolding flags event_of
  event_flags =
      ap (λ (t : Bool). event_by t (found d c).violation (found d c).warning flags) cpus
      ∙ ap (λ (t : Bool). event_by false t (found d c).warning flags) v

-- Recording

-- a primary flag, and a request unless FATL stood in r
abbrev Told : Registers → Registers → Type 0
Told r m = faulted m × ((m.notes.request || has r.faults.vtr FATL) ≡ true)

recorded-told : (r : Registers) (c : Cycle) (event : ℕ) → r.notes.own ⇒ r.notes.request → eqb event 0 ≡ false → event < 32
    → Told r (recorded r c event)
unfolding recorded first_entry added raised
recorded-told r c event h some small =
    go (eqb event 0) (lacks r.faults.vtr PRIMARY) r.notes.own (stack_warning c event) (has r.faults.vtr SWW) some refl refl warning
  where
    warning : stack_warning c event ≡ false
    warning = ap (λ (t : Bool). t && not c.normal && eqb c.status 9) (ne_eqb event PWW (λ q. omega arith))

    later : (a b : Bool) → ((a || b) || not b) ≡ true
    later true b = refl
    later false true = refl
    later false false = refl

    go : (n f o s t : Bool) → n ≡ false → lacks r.faults.vtr PRIMARY ≡ f → r.notes.own ≡ o → s ≡ false → Told r (row_of n f o s t r c event)
    go true f o s t n p q w = absurd (true≢false n)
    go false true o s t n p q w =
        (lacks_or r.faults.vtr event ∙ rw (p, lacks_small event (omega arith)) some, refl)
    go false false true s t n p q w = (lacks_or r.faults.vtr event ∙ rw p, rw (h q))
    go false false false true t n p q w = absurd (true≢false w)
    go false false false false t n p q w =
        (lacks_or r.faults.vtr FATL ∙ rw p, later r.notes.request (lacks r.faults.vtr FATL))

accessed-told : (r : Registers) (d : Descriptor) (c : Cycle) (starts : Bool) (l : Address) → r.notes.own ⇒ r.notes.request
    → c.dma ≡ false → fails d c ≡ true → Told r (accessed (begun r starts) d c l).registers
unfolding accessed checked noted begun
accessed-told r d c starts l h cpus v =
    rw (event_flags d c cpus v) (recorded-told (begun r starts) c (flags d c cpus v) began (flags_some d c cpus v) (flags_five d c cpus v))
  where
    began : (begun r starts).notes.own ⇒ (begun r starts).notes.request
    began z = h (and_l r.notes.own _ z)

-- One cycle

-- a cycle that is translated and no aborted fetch is checked
to_memory : (p : Purpose) → is_memory p ≡ true → p ≡ purpose.Memory
to_memory purpose.Command e = absurd (false≢true e)
to_memory purpose.Acknowledge e = absurd (false≢true e)
to_memory purpose.Memory e = refl
to_memory purpose.Other e = absurd (false≢true e)

to_translated : (w : Way) → is_translated w ≡ true → w ≡ way.Translated
to_translated way.Silent e = absurd (false≢true e)
to_translated way.Passed e = absurd (false≢true e)
to_translated way.Translated e = refl

translated-decision : (u : Unit) (c : Cycle) → admitted u c ≡ true → memory_cycle c ≡ true → awaited u c ≡ false
    → translation_conditions u.registers.control.mr c ≡ true
    → decision u c
    ≡ accessed (begun u.registers (fetch c)) (segment_of u c) c (address_of (way_of u.registers.control.mr c) (segment_of u c).base c)
unfolding decision decided by_status memory
translated-decision u c a m w t =
    let r : Registers = u.registers in
    let d : Descriptor = get_or u.table (place u c) blank in
    let way_here : Way = way_of r.control.mr c in
    let l : Address = address_of way_here d.base c in
    ap (λ (t : Bool). decided_by t (out_of_range c) c.reset r d c) (admitted_sound u c a)
    ∙ ap (λ (t : Bool). decided_by false t c.reset r d c) (admitted_inside u c a)
    ∙ ap (λ (t : Bool). decided_by false false t r d c) (not-true c.reset (and_l (not c.reset) _ m))
    ∙ ap (λ (p : Purpose). by_purpose p (cpu c) (cpu c && c.select) r d c)
    (to_memory (purpose_of c.status) (memory_status c.status ∙ and_r (not c.reset) _ m))
    ∙ ap (λ (t : Bool). memory_by t way_here r d c l) (starts c.reset (fetch c) r.notes.awaits (and_l (not c.reset) _ m) w)
    ∙ ap (λ (v : Way). through v (begun r (fetch c)) d c l) (to_translated way_here (conditions_way r.control.mr c ∙ t))
    ∙ ap (λ (i : ℕ). accessed (begun r (fetch c)) (get_or u.table i blank) c (address_of way_here (get_or u.table i blank).base c))
    (memory-place u c m)
  where
    starts : (r f w : Bool) → not r ≡ true → (not r && f && w) ≡ false → (f && w) ≡ false
    starts true f w e q = absurd (false≢true e)
    starts false f w e q = q

pub violation_reported : ViolationReported
unfolding after
violation_reported u c h e =
    let mr : ℕ = u.registers.control.mr in
    let v : violation u c ≡ true = and_l (violation u c) _ e in
    let cpus : c.dma ≡ false = not-true _ (and_r (violation u c) _ e) in
    let m : Bool = admitted u c && memory_cycle c in
    let mwt : (m && not (awaited u c) && translation_conditions mr c) ≡ true = and_l (m && not (awaited u c) && translation_conditions mr c) _ v in
    let mw : (m && not (awaited u c)) ≡ true = and_l (m && not (awaited u c)) _ mwt in
    let am : m ≡ true = and_l m _ mw in
    let fault : fails (segment_of u c) c ≡ true =
    breaks_exactly (segment_of u c) c ∙ and_r (m && not (awaited u c) && translation_conditions mr c) _ v in
    let same : decision u c ≡ accessed (begun u.registers (fetch c)) (segment_of u c) c (address_of (way_of mr c) (segment_of u c).base c) =
    translated-decision u c (and_l (admitted u c) _ am) (and_r (admitted u c) _ am) (not-true _ (and_r m _ mw))
    (and_r (m && not (awaited u c)) _ mwt) in
    let told : Told u.registers (decision u c).registers =
    rw same (accessed-told u.registers (segment_of u c) c (fetch c) _ h cpus fault) in
    record { flag = told.0; request = told.1 }

-- Every cycle keeps that own implies request

abbrev Asks : Registers → Type 0
Asks r = r.notes.own ⇒ r.notes.request

became_asks : {back wiped : Bool} {c : Cycle} {r s : Registers} → Became back wiped c r s → Asks r → Asks s
unfolding restarted quieted resumed begun noted first_entry added raised
became_asks stayed h = h
became_asks (controls k f) h = h
became_asks (empties w) h = h
became_asks (clears flag f) h = h
became_asks (restarts mr f w) h = λ z. z
became_asks (quiets f) h = λ z. z
became_asks resumes h = λ z. absurd (false≢true z)
became_asks {r} (begins starts) h = λ z. h (and_l r.notes.own _ z)
became_asks {c} {r} (records starts event small stores holds w) h =
    by_row Asks (begun r starts) c event (λ z. h (and_l r.notes.own _ z)) (λ n p z. refl) (λ p z. h (and_l r.notes.own _ z))
    (λ flag p z. rw (h (and_l r.notes.own _ z)))

pub own-requests-kept : OwnRequestsKept
unfolding after
own-requests-kept u c = became_asks (made u c).became

pub reported_from_power_on : ReportedFromPowerOn
reported_from_power_on cs c = violation_reported (final power_on cs) c (always OwnRequests own-requests-kept power_on cs (λ z. z))

-- Counterexamples

-- MR %E0, segment 1 from %FF down, and a VTR and an own made by hand
faulted_unit : (vtr : ℕ) → (own : Bool) → Unit
faulted_unit vtr own =
    unit_of (blank ∷ segment 0 0xFF DIRW ∷ replicate 62 blank) 0xE0 0 0 (stored_of vtr 0 0 0 0) 0 0 (notes_of false false own false)

-- VTR %02, own without request; a system write at segment 65, offset %00, adds SLV and asks for nothing
pub own_needed : OwnNeeded
unfolding faulted_unit computed
own_needed claim =
    false≢true (claim (faulted_unit 0x02 true) (cycle false false false 8 65 0) (record { size = refl; sound = refl }) refl).request

-- VTR %82, FATL beside a primary flag; the same write asks for nothing
pub fatl_silent : FatlSilent
unfolding faulted_unit computed
fatl_silent claim =
    false≢true (claim (faulted_unit 0x82 false) (cycle false false false 8 65 0) (record { size = refl; sound = refl }) (λ e. e) refl)
