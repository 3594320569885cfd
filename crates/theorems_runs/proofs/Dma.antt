-- A DMA cycle leaves the registers, and its answer asks MR and one descriptor alone.
-- Assumes nothing.
use mathlib.Core.Path.{◌≡◌, refl, sym, ◌∙◌, ap}
use mathlib.Core.Bool.{Bool, true, false, cond, not, ◌&&◌, ◌||◌, and-false, and-true, or-false, true≢false, false≢true}
use Prim.Native.Nat.{ℕ, ◌+◌, ◌*◌, ◌%◌}
use lib.Dec.{eqb}
use Rattle.rules.specs.Bus.{cpu, fetch}
use Rattle.rules.specs.Checks.{found}
use Rattle.rules.specs.Flags.{has}
use Rattle.rules.specs.Masks.{RD, TRNS}
use Rattle.rules.specs.PowerOn.{stored_of, notes_of, blank, power_on}
use Rattle.rules.specs.Refusals.{damaged, out_of_range}
use Rattle.rules.specs.Replies.{off, plain, refused, seen}
use Rattle.rules.specs.Seen.{segment, cycle_with, no_note, cycle, command, unit_holding, unit_with, acknowledge as acknowledges}
use Rattle.rules.specs.Status.{reset_by, ignored, purpose_of, by_purpose, by_status}
use Rattle.rules.specs.Recording.{event_of, recorded}
use Rattle.rules.specs.Memory.{begun, noted, checked, accessed, aborted, untranslated, memory_by, aborts, memory}
use Rattle.rules.specs.Translation.{way_of}
use Rattle.rules.specs.Step.{decided_by, decided, decision, after, stepped}
use Rattle.rules.specs.declared.Cycle.{Cycle}
use Rattle.rules.specs.declared.Decision.{Decision}
use Rattle.rules.specs.declared.Descriptor.{Descriptor}
use Rattle.rules.specs.declared.Kind.{Kind}
use Rattle.rules.specs.declared.Address.{Address}
use Rattle.rules.specs.declared.Purpose.{Purpose}
use Rattle.rules.specs.declared.Registers.{Registers}
use Rattle.rules.specs.declared.Unit.{Unit}
use Rattle.rules.specs.declared.Way.{Way}
use Rattle.theorems_runs.specs.Answers.{awaited, kind_by, driven, breaks, held_back, blocks_left, SameMr}
use Rattle.theorems_runs.specs.Cycles.{selected_command, acknowledge, memory_cycle, fetches, passing_conditions, translation_conditions}
use Rattle.theorems_runs.specs.Dma.{SameSegment, DmaLeaves, DmaLeavesNeeds, DmaMarks, DmaTrap, DmaAnswers, DmaAnswersNeed}
use Rattle.theorems_runs.specs.Dma.{DmaMarksNeeds, DmaTrapNeeds}
use Rattle.theorems_runs.specs.Refusal.{earliest, unlisted, wrong_way, admitted}
use Rattle.theorems_runs.specs.Trap.{requesting}
use Rattle.theorems_runs.proofs.Answers.{fails, kind_exactly, address_exactly, sup_exactly, distance_exactly}
use Rattle.theorems_runs.proofs.Computed.{computed}
use Rattle.theorems_runs.proofs.Descriptors.{spares-all, marks_exactly}
use Rattle.theorems_runs.proofs.Examples.{bare}
use Rattle.theorems_runs.proofs.Trap.{trap_shows}
use Rattle.rules.specs.declared.Purpose.TheVariants as purpose
use Rattle.rules.specs.declared.Way.TheVariants as way

-- no data byte is driven, and without a reset no register changes
record Idle (reset : Bool) (r : Registers) (x : Decision) : Type 0 where
  registers : reset ≡ false → x.registers ≡ r
  drives : x.answer.drives ≡ false
  byte : x.answer.byte ≡ 0

begun-idle : (r : Registers) → begun r false ≡ r
unfolding begun
begun-idle r = rw (and-true r.notes.own, and-true r.notes.hold)

noted-idle : (r : Registers) (c : Cycle) (v : Bool) → noted r false (v && false) c ≡ r
unfolding noted
noted-idle r c v = rw (and-false v, or-false r.notes.hold)

module _ (c : Cycle) (d : Descriptor) (dma : c.dma ≡ true) where
  no_fetch : fetch c ≡ false
  no_fetch = ap (λ (t : Bool). not t && c.read && eqb c.status 13) dma

  accessed-idle : (s : Bool) (r : Registers) (l : Address) → Idle s r (accessed r d c l)
  unfolding accessed checked seen recorded event_of
  accessed-idle s r l =
      let v : Bool = fails d c in
      let stores : Bool → Bool = λ f. f && not v && eqb r.faults.vtr 0 in
      record {
        registers = λ e.
            ap (λ (t : Bool). noted (recorded r c (event_of t (found d c))) (stores (fetch c)) (v && not t) c) dma
            ∙ ap (λ (t : Bool). noted r (stores t) (v && false) c) no_fetch
            ∙ noted-idle r c v;
        drives = refl;
        byte = refl;
      }

  memory-idle : (s : Bool) (r : Registers) (b : Bool) (w : Way) (l : Address) → b ≡ false → Idle s r (memory_by b w r d c l)
  unfolding aborted seen untranslated
  memory-idle s r true w l e = record { registers = absurd (true≢false e); drives = refl; byte = refl }
  memory-idle s r false way.Translated l e =
      let x : Idle s (begun r (fetch c)) (accessed (begun r (fetch c)) d c l) = accessed-idle s (begun r (fetch c)) l in
      record { registers = λ e. x.registers e ∙ ap (begun r) no_fetch ∙ begun-idle r; drives = x.drives; byte = x.byte }
  memory-idle s r false way.Passed l e = record { registers = λ e. ap (begun r) no_fetch ∙ begun-idle r; drives = refl; byte = refl }
  memory-idle s r false way.Silent l e = record { registers = λ e. ap (begun r) no_fetch ∙ begun-idle r; drives = refl; byte = refl }

  purpose_idle : (s : Bool) (r : Registers) (p : Purpose) (x y : Bool) → x ≡ false → y ≡ false → Idle s r (by_purpose p x y r d c)
  unfolding ignored plain memory
  purpose_idle s r purpose.Acknowledge true y e f = absurd (true≢false e)
  purpose_idle s r purpose.Acknowledge false y e f = record { registers = λ e. refl; drives = refl; byte = refl }
  purpose_idle s r purpose.Command x true e f = absurd (true≢false f)
  purpose_idle s r purpose.Command x false e f = record { registers = λ e. refl; drives = refl; byte = refl }
  purpose_idle s r purpose.Memory x y e f =
      memory-idle s r (aborts r c) (way_of r.control.mr c) _ (ap (λ (t : Bool). t && r.notes.awaits) no_fetch)
  purpose_idle s r purpose.Other x y e f = record { registers = λ e. refl; drives = refl; byte = refl }

  decided-idle : (r : Registers) (two one reset : Bool) → Idle reset r (decided_by two one reset r d c)
  unfolding refused plain reset_by by_status
  decided-idle r true one reset = record { registers = λ e. refl; drives = refl; byte = refl }
  decided-idle r false true reset = record { registers = λ e. refl; drives = refl; byte = refl }
  decided-idle r false false true = record { registers = λ e. absurd (true≢false e); drives = refl; byte = refl }
  decided-idle r false false false =
      purpose_idle false r (purpose_of c.status) (cpu c) (cpu c && c.select) (ap not dma) (ap (λ (t : Bool). not t && c.select) dma)

idle : (u : Unit) (c : Cycle) → c.dma ≡ true → Idle c.reset u.registers (decision u c)
unfolding decision decided
idle u c dma = decided-idle c _ dma u.registers (damaged u.registers) (out_of_range c) c.reset

pub dma-leaves : DmaLeaves
unfolding after
dma-leaves u c h = (idle u c h.0).registers h.1

pub dma_trap : DmaTrap
dma_trap u c h = trap_shows u c ∙ ap (λ (r : Registers). r.notes.request) (dma-leaves u c h)

pub dma-marks : DmaMarks
dma-marks u c i s dma =
    marks_exactly u c i s
    (spares-all u c i
    (ap (λ (t : Bool). not c.reset && eqb c.status 3 && (not t && c.select)) dma ∙ and-false (not c.reset && eqb c.status 3)))

-- Answers

-- of a DMA cycle: no fetch is awaited, and hold does not hold it back
module _ (u : Unit) (c : Cycle) (dma : c.dma ≡ true) where
  not_awaited : awaited u c ≡ false
  not_awaited =
      ap (λ (t : Bool). not c.reset && (not t && c.read && eqb c.status 13) && u.registers.notes.awaits) dma
      ∙ ap (λ (t : Bool). t && u.registers.notes.awaits) (and-false (not c.reset))

  not_held : held_back u c ≡ false
  not_held =
      ap (λ (t : Bool). admitted u c && memory_cycle c && not t && not (fetches c) && u.registers.notes.hold) dma
      ∙ ap (λ (t : Bool). t && not (fetches c) && u.registers.notes.hold) (and-false (admitted u c && memory_cycle c))

module _ (c : Cycle) where
  -- what is answered, by 2, by what is awaited and held, by MR and by the descriptor
  kind_from : (two waits : Bool) → (mr : ℕ) → Kind
  kind_from two waits mr =
      kind_by (earliest two (out_of_range c) (unlisted c) (wrong_way c)) c.reset (acknowledge c) (selected_command c) (memory_cycle c) waits
      (translation_conditions mr c) (passing_conditions mr)

  address_from : (two : Bool) → (mr : ℕ) → Descriptor → Address
  address_from two mr d =
      cond (not two && not (out_of_range c) && memory_cycle c && (passing_conditions mr || translation_conditions mr c))
      (driven (cond (has mr TRNS) ((d.base + c.offset) % 65536) (c.segment * 256 + c.offset))) off

  sup_from : (two waits held : Bool) → (mr : ℕ) → Descriptor → Bool
  sup_from two waits held mr d =
      not two && not (out_of_range c) && memory_cycle c && not waits && translation_conditions mr c && breaks d c || held

  distance_from : (two waits : Bool) → (mr : ℕ) → Descriptor → ℕ
  distance_from two waits mr d =
      cond (not two && not (out_of_range c) && memory_cycle c && not waits && translation_conditions mr c) (blocks_left d c.offset) 0

module _ (a b : Unit) (c : Cycle) (two : damaged a.registers ≡ damaged b.registers) (dma : c.dma ≡ true) (mr : SameMr a b)
    (d : SameSegment a b c) where
  waits : awaited a c ≡ awaited b c
  waits = not_awaited a c dma ∙ sym (not_awaited b c dma)

  same_kind : (stepped a c).answer.kind ≡ (stepped b c).answer.kind
  unfolding kind_from
  same_kind = kind_exactly a c ∙ go two waits mr ∙ sym (kind_exactly b c)
    where
      go : {t t' w w' : Bool} {m m' : ℕ} → t ≡ t' → w ≡ w' → m ≡ m' → kind_from c t w m ≡ kind_from c t' w' m'
      go p q s = rw (p, q, s)

  same_address : (stepped a c).answer.address ≡ (stepped b c).answer.address
  unfolding address_from
  same_address = address_exactly a c ∙ go two mr d ∙ sym (address_exactly b c)
    where
      go : {t t' : Bool} {m m' : ℕ} {x x' : Descriptor} → t ≡ t' → m ≡ m' → x ≡ x' → address_from c t m x ≡ address_from c t' m' x'
      go p q s = rw (p, q, s)

  same_sup : (stepped a c).answer.sup ≡ (stepped b c).answer.sup
  unfolding sup_from
  same_sup = sup_exactly a c ∙ go two waits (not_held a c dma ∙ sym (not_held b c dma)) mr d ∙ sym (sup_exactly b c)
    where
      go : {t t' w w' h h' : Bool} {m m' : ℕ} {x x' : Descriptor} → t ≡ t' → w ≡ w' → h ≡ h' → m ≡ m' → x ≡ x'
          → sup_from c t w h m x ≡ sup_from c t' w' h' m' x'
      go p q s v z = rw (p, q, s, v, z)

  same_distance : (stepped a c).answer.distance ≡ (stepped b c).answer.distance
  unfolding distance_from
  same_distance = distance_exactly a c ∙ go two waits mr d ∙ sym (distance_exactly b c)
    where
      go : {t t' w w' : Bool} {m m' : ℕ} {x x' : Descriptor} → t ≡ t' → w ≡ w' → m ≡ m' → x ≡ x'
          → distance_from c t w m x ≡ distance_from c t' w' m' x'
      go p q s v = rw (p, q, s, v)

pub dma_answers : DmaAnswers
dma_answers a b c h =
    let two : damaged a.registers ≡ damaged b.registers = h.0 ∙ sym h.1 in
    record {
      signals =
          record {
            kind = same_kind a b c two h.2 h.3 h.4;
            address = same_address a b c two h.2 h.3 h.4;
            sup = same_sup a b c two h.2 h.3 h.4;
            drives = (idle a c h.2).drives ∙ sym (idle b c h.2).drives;
            byte = (idle a c h.2).byte ∙ sym (idle b c h.2).byte;
          };
      distance = same_distance a b c two h.2 h.3 h.4;
    }

-- Counterexamples

-- a DMA write at segment 0, offset 0, with the reset line on or off
dma_write : (reset : Bool) → Cycle
dma_write reset = cycle_with 8 false false true false 0 0 0 0 reset

-- MR %C0 is cleared by a reset and written by a command
pub dma_leaves_needs : DmaLeavesNeeds
unfolding dma_write computed
dma_leaves_needs = (
  λ claim. true≢false (ap (λ (r : Registers). eqb r.control.mr 0) (claim (unit_with 0xC0 0 blank) (dma_write true) refl)),
  λ claim. true≢false (ap (λ (r : Registers). eqb r.control.mr 0) (claim (unit_with 0xC0 0 blank) (command false 0x00 0) refl)),
)

pub dma_trap_needs : DmaTrapNeeds
unfolding dma_write computed
dma_trap_needs = (λ claim. false≢true (claim requesting (dma_write true) refl), λ claim. false≢true (claim requesting acknowledges refl))

pub dma_marks_needs : DmaMarksNeeds
unfolding dma_write computed
dma_marks_needs claim = true≢false (ap (λ (d : Descriptor). eqb d.attributes 0) (claim bare (dma_write false) 0 refl refl))

-- SAR 64 refuses it, hold in one unit suppresses a CPU cycle there, MR %80 drives an address, and RD in one unit makes it a violation
whole : Unit
whole = unit_with 0x80 0 blank

held : Unit
held = unit_holding 0 0 0 (stored_of 0 0 0 0 0) 0 0 (notes_of false false false true) 0 blank

broken : Unit
broken = unit_holding 0x80 64 0 (stored_of 0 0 0 0 0) 0 0 no_note 0 blank

with_flags : (attributes : ℕ) → Unit
with_flags a = unit_with 0xC0 0 (segment 0 0xFF a)

pub dma_answers_need : DmaAnswersNeed
unfolding dma_write whole held broken with_flags computed
dma_answers_need = (
  λ claim. false≢true (ap (λ (l : Address). l.driven) (claim broken whole (dma_write false) (refl, refl, refl, refl)).address),
  λ claim. true≢false (ap (λ (l : Address). l.driven) (claim whole broken (dma_write false) (refl, refl, refl, refl)).address),
  λ claim. true≢false (claim held power_on (cycle false false false 8 0 0) (refl, refl, refl, refl)).sup,
  λ claim. true≢false (ap (λ (l : Address). l.driven) (claim whole power_on (dma_write false) (refl, refl, refl, refl)).address),
  λ claim. true≢false (claim (with_flags RD) (with_flags 0) (dma_write false) (refl, refl, refl, refl)).sup,
)
