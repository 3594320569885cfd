-- What a cycle changes in the table: one walk over every decision.
-- Assumes nothing.
use mathlib.Core.Path.{◌≡◌, refl, sym, ◌∙◌, ap, subst}
use mathlib.Core.Bool.{Bool, true, false, cond, not, ◌&&◌, ◌||◌, true≢false, false≢true}
use mathlib.Core.List.{List, [], ◌∷◌}
use Prim.Native.Nat.{ℕ, ◌%◌, ◌≤◌, ◌<◌}
use native.Mathlib.Omega.{arith}
use lib.Dec.{eqb, leb}
use lib.ListN.{length, get_or, set}
use lib.Seq.{get_or-set_same, get_or-set_other}
use borrow.Author.Tests.{eqb-true, eqb-false, eq-eqb, not-true}
use Rattle.rules.proofs.Blind.{is_translated}
use Rattle.rules.specs.Bus.{cpu, write, fetch}
use Rattle.rules.specs.Flags.{has}
use Rattle.rules.specs.Masks.{RD, SYS, CPUI, EXC, DMAI, DIRW}
use Rattle.rules.specs.PowerOn.{blank}
use Rattle.rules.specs.Refusals.{damaged, out_of_range}
use Rattle.rules.specs.Replies.{plain, refused, seen}
use Rattle.rules.specs.Runs.{units}
use Rattle.rules.specs.Status.{reset_by, acknowledged, ignored, purpose_of, by_purpose, by_status}
use Rattle.rules.specs.Memory.{begun, touched, touched_by, suppressed, checked, accessed, aborted, untranslated, memory_by, aborts, memory}
use Rattle.rules.specs.Translation.{way_of}
use Rattle.rules.specs.Codes.{command_of}
use Rattle.rules.specs.Entry.{replaced, index_of, written_by}
use Rattle.rules.specs.Commands.{replied, programmed, entry, acted, executed, commanded}
use Rattle.rules.specs.Step.{decided_by, decided, place_of, place, with_flags, changed, decision, after, stepped}
use Rattle.rules.specs.declared.Action.{Action}
use Rattle.rules.specs.declared.Action.TheVariants.{SoftwareReset, ClearVtr, ClearSww, ClearFatl, SetCpui, SetDmai}
use Rattle.rules.specs.declared.Change.{Change}
use Rattle.rules.specs.declared.Change.TheVariants.{Keep, Put, Raise}
use Rattle.rules.specs.declared.Command.{Command}
use Rattle.rules.specs.declared.Command.TheVariants.{Mr, Sar, Dscr, Show, Entry, Act, Unlisted}
use Rattle.rules.specs.declared.Cycle.{Cycle}
use Rattle.rules.specs.declared.Descriptor.{Descriptor}
use Rattle.rules.specs.declared.Address.{Address}
use Rattle.rules.specs.declared.Part.{Part}
use Rattle.rules.specs.declared.Part.TheVariants.{Base, Limit, Attributes, Whole}
use Rattle.rules.specs.declared.Purpose.{Purpose}
use Rattle.rules.specs.declared.Registers.{Registers}
use Rattle.rules.specs.declared.Unit.{Unit}
use Rattle.rules.specs.declared.Way.{Way}
use Rattle.theorems_runs.specs.Answers.{awaited}
use Rattle.theorems_runs.specs.Cycles.{selected_command, memory_cycle, translation_conditions, on_descriptor, descriptor_write}
use Rattle.theorems_runs.specs.Descriptors.{descriptor, writes_to, writes_here, SameRules, changes, DescriptorsStay, DescriptorsStayThroughout}
use Rattle.theorems_runs.specs.Descriptors.{byte_at, let_through, spares, WriteReplaces, SetAllSets, MarksExactly}
use Rattle.theorems_runs.specs.Refusal.{admitted}
use Rattle.theorems_runs.specs.Sequences.{Every, Along}
use Rattle.theorems_runs.proofs.Answers.{fails, memory-place}
use Rattle.theorems_runs.proofs.Codes.{is_entry, is_act_of, is_at_byte, entry-codes, cpui_code, dmai_code, limit-codes, attributes-codes}
use Rattle.theorems_runs.proofs.Looks.{conditions_way}
use Rattle.theorems_runs.proofs.Purposes.{is_command, is_memory, command_status, memory_status}
use Rattle.theorems_runs.proofs.Tables.{set_at, at_map}
use Rattle.theorems_runs.proofs.Tests.{and_l, and_r, or_l, or_r, every_both}
use Rattle.theorems_runs.proofs.Undamaged.{bounded_exactly}
use Rattle.theorems_runs.proofs.Wider.{touched_same}
use Rattle.rules.specs.declared.Purpose.TheVariants as purpose
use Rattle.rules.specs.declared.Way.TheVariants as way

-- what a cycle does to a table that has d at its place: by a write to byte k of d, by set all CPUI, by set all DMAI, by what it lets through
pub data Alters (c : Cycle) (d : Descriptor) (k : ℕ) : (entry cpui dmai lets : Bool) → Change → Type 0 where
  keeps : Alters c d k false false false false Keep
  touches : Alters c d k false false false true (Put (touched d c))
  puts : Alters c d k true false false false (Put (replaced d k c.byte))
  cpuis : Alters c d k false true false false (Raise CPUI)
  dmais : Alters c d k false false true false (Raise DMAI)

-- the byte that a command on a descriptor uses
abbrev byte_by : (limit attributes : Bool) → (dscr : ℕ) → ℕ
byte_by limit attributes dscr = cond limit 2 (cond attributes 3 dscr)

part-byte : (p : Part) (dscr : ℕ) → index_of p dscr ≡ byte_by (is_at_byte 2 (Entry p)) (is_at_byte 3 (Entry p)) dscr
unfolding index_of
part-byte Base dscr = refl
part-byte Limit dscr = refl
part-byte Attributes dscr = refl
part-byte Whole dscr = refl

module _ (r : Registers) (d : Descriptor) (c : Cycle) where
  idle : (k : ℕ) (a b : Bool) → Alters c d k (a && false) (b && false) (b && false) false Keep
  idle k true true = keeps
  idle k true false = keeps
  idle k false true = keeps
  idle k false false = keeps

  memory_alters : (k : ℕ) (b : Bool) (w : Way) (l : Address)
      → Alters c d k false false false (not b && is_translated w && not (memory_by b w r d c l).answer.sup) (memory_by b w r d c l).change
  unfolding aborted seen untranslated accessed checked touched_by
  memory_alters k true w l = keeps
  memory_alters k false way.Translated l = go (suppressed (fails d c) (begun r (fetch c)) c)
    where
      go : (sup : Bool) → Alters c d k false false false (not sup) (touched_by sup d c)
      go true = keeps
      go false = touches
  memory_alters k false way.Passed l = keeps
  memory_alters k false way.Silent l = keeps

  acted_alters : (k : ℕ) (t : Bool) (a : Action)
      → Alters c d k (t && false) (is_act_of 0x15 (Act a)) (is_act_of 0x16 (Act a)) false (acted r a).change
  unfolding acted plain
  acted_alters k t SoftwareReset = idle k t false
  acted_alters k t ClearVtr = idle k t false
  acted_alters k t ClearSww = idle k t false
  acted_alters k t ClearFatl = idle k t false
  acted_alters k true SetCpui = cpuis
  acted_alters k false SetCpui = cpuis
  acted_alters k true SetDmai = dmais
  acted_alters k false SetDmai = dmais

  byte_of_command : Command → ℕ
  byte_of_command x = byte_by (is_at_byte 2 x) (is_at_byte 3 x) r.control.dscr

  executed_alters : (x : Command) (read : Bool)
      → Alters c d (byte_of_command x) (write c && is_entry x) (not read && is_act_of 0x15 x) (not read && is_act_of 0x16 x) false
      (executed x read r d c).change
  unfolding byte_of_command executed programmed replied refused plain entry written_by
  executed_alters Mr read = idle _ (write c) (not read)
  executed_alters Sar read = idle _ (write c) (not read)
  executed_alters Dscr read = idle _ (write c) (not read)
  executed_alters (Show g) true = idle _ (write c) false
  executed_alters (Show g) false = idle _ (write c) true
  executed_alters (Entry p) read = rw (part-byte p r.control.dscr) (go c.read (not read))
    where
      k : ℕ
      k = byte_by (is_at_byte 2 (Entry p)) (is_at_byte 3 (Entry p)) r.control.dscr

      go : (t s : Bool) → Alters c d k (not t && true) (s && false) (s && false) false (written_by t d k c.byte)
      go true true = keeps
      go true false = keeps
      go false true = puts
      go false false = puts
  executed_alters (Act a) true = idle _ (write c) false
  executed_alters (Act a) false = acted_alters _ (write c) a
  executed_alters Unlisted read = idle _ (write c) (not read)

  -- a memory cycle that is checked
  unfoldable checks : Bool
  checks = not (aborts r c) && is_translated (way_of r.control.mr c)

  purpose_alters : (p : Purpose) (x y : Bool)
      → Alters c d (byte_of_command (command_of c.offset)) (is_command p && y && write c && is_entry (command_of c.offset))
      (is_command p && y && write c && is_act_of 0x15 (command_of c.offset)) (is_command p && y && write c && is_act_of 0x16 (command_of c.offset))
      (is_memory p && (checks && not (by_purpose p x y r d c).answer.sup)) (by_purpose p x y r d c).change
  unfolding checks acknowledged ignored plain commanded memory
  purpose_alters purpose.Acknowledge true y = keeps
  purpose_alters purpose.Acknowledge false y = keeps
  purpose_alters purpose.Command x true = executed_alters (command_of c.offset) c.read
  purpose_alters purpose.Command x false = keeps
  purpose_alters purpose.Memory x y = memory_alters _ (aborts r c) (way_of r.control.mr c) _
  purpose_alters purpose.Other x y = keeps

  decided_alters : (two one reset : Bool)
      → Alters c d (byte_at c.offset r.control.dscr)
      (not two && (not one && (not reset && eqb c.status 3 && (cpu c && c.select)) && write c && on_descriptor c.offset))
      (not two && (not one && (not reset && eqb c.status 3 && (cpu c && c.select)) && write c && eqb c.offset 0x15))
      (not two && (not one && (not reset && eqb c.status 3 && (cpu c && c.select)) && write c && eqb c.offset 0x16))
      (not two && not one && (not reset && (leb 8 c.status && leb c.status 13))
      && (checks && not (decided_by two one reset r d c).answer.sup)) (decided_by two one reset r d c).change
  unfolding byte_of_command refused plain reset_by by_status
  decided_alters true one reset = keeps
  decided_alters false true reset = keeps
  decided_alters false false true = keeps
  decided_alters false false false =
      rw (
        ← command_status c.status,
        ← memory_status c.status,
        ← entry-codes c.offset,
        ← cpui_code c.offset,
        ← dmai_code c.offset,
        ← limit-codes c.offset,
        ← attributes-codes c.offset,
      )
      (purpose_alters (purpose_of c.status) (cpu c) (cpu c && c.select))

-- the byte that a write of %08 to %0F would replace
abbrev pub byte_in : Unit → Cycle → ℕ
byte_in u c = byte_at c.offset u.registers.control.dscr

-- an awaited fetch is one with the reset line off
lets_told : (a r m f w t s : Bool) → (a && (not r && m) && (not (f && w) && t && s)) ≡ (a && (not r && m) && not (not r && f && w) && t && s)
lets_told false r m f w t s = refl
lets_told true true m f w t s = refl
lets_told true false false f w t s = refl
lets_told true false true f w t s = refl

pub alters : (u : Unit) (c : Cycle)
    → Alters c (descriptor u (place u c)) (byte_in u c) (not (damaged u.registers) && descriptor_write c) (writes_here 0x15 u c)
    (writes_here 0x16 u c) (let_through u c) (decision u c).change
unfolding decision decided descriptor_write checks
alters u c =
    subst
    (λ (t : Bool).
    Alters c (descriptor u (place u c)) (byte_in u c) (not (damaged u.registers) && descriptor_write c) (writes_here 0x15 u c)
    (writes_here 0x16 u c) t (decision u c).change)
    (ap (λ (t : Bool). admitted u c && memory_cycle c && (not (aborts u.registers c) && t && not (stepped u c).answer.sup))
    (conditions_way u.registers.control.mr c)
    ∙ lets_told (admitted u c) c.reset (leb 8 c.status && leb c.status 13) (fetch c) u.registers.notes.awaits
    (translation_conditions u.registers.control.mr c) (not (stepped u c).answer.sup))
    (decided_alters u.registers (descriptor u (place u c)) c (damaged u.registers) (out_of_range c) c.reset)

-- Descriptors stay

same_refl : (d : Descriptor) → SameRules d d
same_refl d = record { base = refl; limit = refl; flags = (refl, (refl, (refl, (refl, (refl, (refl, refl)))))) }

same_then : {d e f : Descriptor} → SameRules d e → SameRules e f → SameRules d f
same_then {d} {e} {f} a b =
    record {
      base = b.base ∙ a.base;
      limit = b.limit ∙ a.limit;
      flags =
          every_both (λ m. has e.attributes m ≡ has d.attributes m) (λ m. has f.attributes m ≡ has e.attributes m)
          (λ m. has f.attributes m ≡ has d.attributes m) (λ m p q. q ∙ p) (RD ∷ SYS ∷ CPUI ∷ EXC ∷ DMAI ∷ DIRW ∷ []) a.flags b.flags;
    }

-- a write to a descriptor is to that at SAR
pub command-place : (u : Unit) (c : Cycle) → (not (damaged u.registers) && descriptor_write c) ≡ true → place u c ≡ u.registers.control.sar
unfolding place_of descriptor_write
command-place u c e =
    let sound : damaged u.registers ≡ false = not-true _ (and_l (not (damaged u.registers)) _ e) in
    let w : (not (out_of_range c) && selected_command c && write c && on_descriptor c.offset) ≡ true = and_r (not (damaged u.registers)) _ e in
    let w₃ : (not (out_of_range c) && selected_command c && write c) ≡ true = and_l (not (out_of_range c) && selected_command c && write c) _ w in
    let w₁ : selected_command c ≡ true = and_r (not (out_of_range c)) _ (and_l (not (out_of_range c) && selected_command c) _ w₃) in
    let three : eqb c.status 3 ≡ true = and_r (not c.reset) _ (and_l (not c.reset && eqb c.status 3) _ w₁) in
    let small : u.registers.control.sar ≤ 63 = ((bounded_exactly u.registers).0 sound).0.sar in
    rw three (omega arith)

change_stays : {e p m lets : Bool} (c : Cycle) (k : ℕ) (t : List Descriptor) (j i : ℕ) {h : Change}
    → Alters c (get_or t j blank) k e p m lets h → (e ≡ true → i ≡ j → ⊥) → p ≡ false → m ≡ false
    → SameRules (get_or t i blank) (get_or (changed h j t) i blank)
unfolding changed
change_stays c k t j i keeps n f g = same_refl _
change_stays c k t j i touches n f g =
    set_at (SameRules (get_or t i blank)) t j i (touched (get_or t j blank) c) blank (same_refl _) λ q. rw q (touched_same c _)
change_stays c k t j i puts n f g =
    set_at (SameRules (get_or t i blank)) t j i (replaced (get_or t j blank) k c.byte) blank (same_refl _) λ q. absurd (n refl q)
change_stays c k t j i cpuis n f g = absurd (true≢false f)
change_stays c k t j i dmais n f g = absurd (true≢false g)

-- a cycle that is none of the three writes no byte at the place of descriptor i, and sets no flag in all
apart : (u : Unit) (c : Cycle) (i : ℕ) → changes u c i ≡ false
    → ((not (damaged u.registers) && descriptor_write c) ≡ true → i ≡ place u c → ⊥)
    × (writes_here 0x15 u c ≡ false) × (writes_here 0x16 u c ≡ false)
apart u c i f =
    let w : (writes_to u c i || writes_here 0x15 u c) ≡ false = or_l (writes_to u c i || writes_here 0x15 u c) _ f in (
      λ h q. true≢false (sym (rw h (eq-eqb _ _ (sym (q ∙ command-place u c h)))) ∙ or_l (writes_to u c i) _ w),
      or_r (writes_to u c i) _ w,
      or_r (writes_to u c i || writes_here 0x15 u c) _ f,
    )

pub descriptors_stay : DescriptorsStay
unfolding after
descriptors_stay u c i f =
    let n = apart u c i f in
    change_stays c (byte_in u c) u.table (place u c) i (alters u c) n.0 n.1 n.2

pub descriptors_stay_throughout : DescriptorsStayThroughout
unfolding units Along
descriptors_stay_throughout u cs i q = go (descriptor u i) cs u (same_refl _) q
  where
    go : (d : Descriptor) (cs : List Cycle) (v : Unit) → SameRules d (descriptor v i) → Along (λ v c. changes v c i ≡ false) v cs
        → Every (λ v. SameRules d (descriptor v i)) (units v cs)
    go d [] v s q = refl
    go d (c ∷ cs) v s q =
        let t : SameRules d (descriptor (stepped v c).unit i) = same_then s (descriptors_stay v c i q.0) in
        (t, go d cs (stepped v c).unit t q.1)

-- What changes one

change_puts : {e p m lets : Bool} (c : Cycle) (k : ℕ) (t : List Descriptor) (j : ℕ) {h : Change}
    → Alters c (get_or t j blank) k e p m lets h → e ≡ true → j < length t → get_or (changed h j t) j blank ≡ replaced (get_or t j blank) k c.byte
unfolding changed
change_puts c k t j keeps q s = absurd (false≢true q)
change_puts c k t j touches q s = absurd (false≢true q)
change_puts c k t j puts q s = get_or-set_same t j _ blank s
change_puts c k t j cpuis q s = absurd (false≢true q)
change_puts c k t j dmais q s = absurd (false≢true q)

pub write_replaces : WriteReplaces
unfolding after
write_replaces u c i s w =
    let e : (not (damaged u.registers) && descriptor_write c) ≡ true = and_l (not (damaged u.registers) && descriptor_write c) _ w in
    let at_sar : place u c ≡ i =
    command-place u c e ∙ eqb-true u.registers.control.sar i (and_r (not (damaged u.registers) && descriptor_write c) _ w) in
    subst (λ (j : ℕ). j < length u.table → descriptor (stepped u c).unit j ≡ replaced (descriptor u j) (byte_in u c) c.byte) at_sar
    (change_puts c (byte_in u c) u.table (place u c) (alters u c) e) s

change_raises : {e p m lets : Bool} (c : Cycle) (k : ℕ) (t : List Descriptor) (j i : ℕ) {h : Change}
    → Alters c (get_or t j blank) k e p m lets h → i < length t
    → (p ≡ true → get_or (changed h j t) i blank ≡ with_flags CPUI (get_or t i blank))
    × (m ≡ true → get_or (changed h j t) i blank ≡ with_flags DMAI (get_or t i blank))
unfolding changed
change_raises c k t j i keeps s = (λ q. absurd (false≢true q), λ q. absurd (false≢true q))
change_raises c k t j i touches s = (λ q. absurd (false≢true q), λ q. absurd (false≢true q))
change_raises c k t j i puts s = (λ q. absurd (false≢true q), λ q. absurd (false≢true q))
change_raises c k t j i cpuis s = (λ q. at_map (with_flags CPUI) t i blank s, λ q. absurd (false≢true q))
change_raises c k t j i dmais s = (λ q. absurd (false≢true q), λ q. at_map (with_flags DMAI) t i blank s)

pub set-all-sets : SetAllSets
unfolding after
set-all-sets u c i s = change_raises c (byte_in u c) u.table (place u c) i (alters u c) s

-- Memory cycles

change-marks : {e p m lets : Bool} (c : Cycle) (k : ℕ) (t : List Descriptor) (j i : ℕ) {h : Change}
    → Alters c (get_or t j blank) k e p m lets h → (e ≡ true → i ≡ j → ⊥) → p ≡ false → m ≡ false → i < length t
    → get_or (changed h j t) i blank ≡ cond (lets && eqb i j) (touched (get_or t i blank) c) (get_or t i blank)
unfolding changed
change-marks c k t j i keeps x y z s = refl
change-marks c k t j i touches x y z s = go (eqb i j) refl
  where
    go : (b : Bool) → eqb i j ≡ b
        → get_or (set t j (touched (get_or t j blank) c)) i blank ≡ cond b (touched (get_or t i blank) c) (get_or t i blank)
    go true q = rw (eqb-true i j q) (get_or-set_same t j (touched (get_or t j blank) c) blank (rw (eqb-true i j q) at s))
    go false q = get_or-set_other t j i (touched (get_or t j blank) c) blank (eqb-false i j q)
change-marks c k t j i puts x y z s = get_or-set_other t j i (replaced (get_or t j blank) k c.byte) blank (x refl)
change-marks c k t j i cpuis x y z s = absurd (true≢false y)
change-marks c k t j i dmais x y z s = absurd (true≢false z)

spared : (d o r w x y z e : Bool) → r ≡ false
    → not (d && (o && r && w && x) && e || d && (o && r && w && y) || d && (o && r && w && z)) ≡ true
spared true true r w x y z e q = rw q
spared true false r w x y z e q = refl
spared false o r w x y z e q = refl

-- what is no selected command is none of the three
pub spares-all : (u : Unit) (c : Cycle) (i : ℕ) → selected_command c ≡ false → spares u c i ≡ true
unfolding descriptor_write
spares-all u c i q =
    spared (not (damaged u.registers)) (not (out_of_range c)) (selected_command c) (write c) (on_descriptor c.offset)
    (eqb c.offset 0x15) (eqb c.offset 0x16) (eqb u.registers.control.sar i) q

pub marks_exactly : MarksExactly
unfolding after
marks_exactly u c i s n =
    let a = apart u c i (not-true (changes u c i) n) in
    change-marks c (byte_in u c) u.table (place u c) i (alters u c) a.0 a.1 a.2 s
    ∙ ap (λ (b : Bool). cond b (touched (descriptor u i) c) (descriptor u i)) (go (let_through u c) refl)
  where
    go : (b : Bool) → let_through u c ≡ b → (b && eqb i (place u c)) ≡ (b && eqb i (c.segment % 64))
    go true q =
        let m : Bool = admitted u c && memory_cycle c in
        let t : Bool = translation_conditions u.registers.control.mr c in
        ap (eqb i)
        (memory-place u c
        (and_r (admitted u c) _ (and_l m _ (and_l (m && not (awaited u c)) _ (and_l (m && not (awaited u c) && t) _ q)))))
    go false q = refl
