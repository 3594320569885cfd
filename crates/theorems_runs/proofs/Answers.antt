-- What a cycle answers: one walk over every decision shows the kind, the address lines, SUP, the distance, and that a refusal decides nothing
-- else.
-- Assumes nothing.
use mathlib.Core.Path.{◌≡◌, refl, sym, ◌∙◌, ap}
use mathlib.Core.Bool.{Bool, true, false, cond, not, ◌&&◌, ◌||◌, beq, and-false, false≢true}
use mathlib.Core.Option.{Option, none, some}
use Prim.Native.Nat.{ℕ, ◌+◌, ◌*◌, ◌-◌, ◌%◌}
use lib.Dec.{eqb, leb, ltb}
use lib.ListN.{get_or}
use borrow.Author.Tests.{eqb-true, not-true}
use Rattle.rules.proofs.Blind.{is_translated, own-segment}
use Rattle.rules.specs.Kinds.{number_in}
use Rattle.rules.specs.Bus.{cpu, write, fetch, program}
use Rattle.rules.specs.Checks.{rights_of, beyond, out_of_length, remaining, distance_of, violates}
use Rattle.rules.specs.Flags.{has, lacks, with, flag_if}
use Rattle.rules.specs.Masks.{RD, SYS, CPUI, EXC, DMAI, DIRW, RDV, SYSV, CPUIV, EXCV, DMAIV}
use Rattle.rules.specs.Masks.{NMS, MST, URS, TRNS, MSEN, UPPER}
use Rattle.rules.specs.PowerOn.{blank}
use Rattle.rules.specs.Refusals.{damaged, out_of_range}
use Rattle.rules.specs.Replies.{off, plain, refused, seen}
use Rattle.rules.specs.Status.{reset_by, acknowledged, ignored, purpose_of, by_purpose, by_status}
use Rattle.rules.specs.Memory.{begun, checked, accessed, aborted, untranslated, memory_by, aborts, memory}
use Rattle.rules.specs.Translation.{way_by, way_of, block_of, address_of}
use Rattle.rules.specs.Codes.{command_of}
use Rattle.rules.specs.Commands.{replied, programmed, entry, acted, executed, commanded}
use Rattle.rules.specs.Step.{decided_by, decided, place, decision, stepped}
use Rattle.rules.specs.declared.Action.{Action}
use Rattle.rules.specs.declared.Action.TheVariants.{SoftwareReset, ClearVtr, ClearSww, ClearFatl, SetCpui, SetDmai}
use Rattle.rules.specs.declared.Answer.{Answer}
use Rattle.rules.specs.declared.Command.{Command}
use Rattle.rules.specs.declared.Command.TheVariants.{Mr, Sar, Dscr, Show, Entry, Act, Unlisted}
use Rattle.rules.specs.declared.Cycle.{Cycle}
use Rattle.rules.specs.declared.Decision.{Decision}
use Rattle.rules.specs.declared.Descriptor.{Descriptor}
use Rattle.rules.specs.declared.Kind.{Kind}
use Rattle.rules.specs.declared.Address.{Address}
use Rattle.rules.specs.declared.Purpose.{Purpose}
use Rattle.rules.specs.declared.Registers.{Registers}
use Rattle.rules.specs.declared.Unit.{Unit}
use Rattle.rules.specs.declared.Way.{Way}
use Rattle.theorems_runs.specs.Answers.{awaited, kind_by, KindExactly, is_aborted, AbortedExactly, segment_of, driven, AddressExactly}
use Rattle.theorems_runs.specs.Answers.{breaks, translated, SupExactly, blocks_left, DistanceExactly}
use Rattle.theorems_runs.specs.Cycles.{selected_command, acknowledge, memory_cycle, fetches, passing_conditions, translation_conditions}
use Rattle.theorems_runs.specs.Cycles.{read_only, set_or_clear, listed}
use Rattle.theorems_runs.specs.Refusal.{earliest, refusal_of, unlisted, wrong_way, admitted}
use Rattle.theorems_runs.proofs.Bits.{or-none}
use Rattle.theorems_runs.proofs.Codes.{is_show, is_act, is_listed, show-codes, act-codes, listed-codes}
use Rattle.theorems_runs.proofs.Looks.{conditions_way}
use Rattle.theorems_runs.proofs.Purposes.{is_command, is_acknowledge, is_memory, command_status, acknowledge_status, memory_status}
use Rattle.theorems_runs.proofs.Tests.{and_l, and_r, differs}
use Rattle.rules.specs.declared.Kind.TheVariants as kind
use Rattle.rules.specs.declared.Purpose.TheVariants as purpose
use Rattle.rules.specs.declared.Way.TheVariants as way

-- MR

abbrev pub is_passed : Way → Bool
is_passed way.Silent = false
is_passed way.Passed = true
is_passed way.Translated = false

pub passing_way : (mr : ℕ) (c : Cycle) → is_passed (way_of mr c) ≡ passing_conditions mr
unfolding way_of
passing_way mr c =
    go (lacks mr MSEN) (lacks mr TRNS) (beq (has mr URS) (has c.segment UPPER)) (lacks mr MST) (beq (has mr NMS) c.normal)
  where
    go : (disabled passing half either mode : Bool)
        → is_passed (way_by disabled passing half either mode) ≡ (not disabled && not (not passing))
    go true passing half either mode = refl
    go false true half either mode = refl
    go false false false either mode = refl
    go false false true true mode = refl
    go false false true false true = refl
    go false false true false false = refl

lines_way : (mr base : ℕ) (c : Cycle)
    → address_of (way_of mr c) base c
    ≡ cond (passing_conditions mr || translation_conditions mr c)
    (driven (cond (has mr TRNS) ((base + c.offset) % 65536) (c.segment * 256 + c.offset))) off
unfolding way_of address_of block_of
lines_way mr base c =
    go (lacks mr MSEN) (lacks mr TRNS) (beq (has mr URS) (has c.segment UPPER)) (lacks mr MST) (beq (has mr NMS) c.normal)
  where
    go : (disabled passing half either mode : Bool)
        → address_of (way_by disabled passing half either mode) base c
        ≡ cond (not disabled && not (not passing) || not disabled && not passing && half && (not (not either) || mode))
        (driven (cond (not passing) ((base + c.offset) % 65536) (c.segment * 256 + c.offset))) off
    go true passing half either mode = refl
    go false true half either mode = refl
    go false false false either mode = refl
    go false false true true mode = refl
    go false false true false true = refl
    go false false true false false = refl

-- One walk

-- a cycle that is checked violates; `breaks_exactly` says it flag by flag
abbrev pub fails : Descriptor → Cycle → Bool
fails d c = violates (rights_of d.attributes c) (out_of_length d c)

-- a decision from the registers r with this kind is the refusal of a number, or none
pub data Judged (r : Registers) (x : Decision) : Kind → Type 0 where
  refuses : (n : ℕ) → x ≡ refused n r → Judged r x (kind.Refused n)
  accepts : {k : Kind} → number_in k ≡ none → Judged r x k

-- an answer but for the trap line and the data byte
pub record Shown : Type 0 where
  pub kind : Kind
  pub address : Address
  pub sup : Bool
  pub distance : ℕ

abbrev pub shown : Kind → Address → (sup : Bool) → (distance : ℕ) → Shown
shown k l s n = record { kind = k; address = l; sup = s; distance = n }

abbrev pub shown_of : Answer → Shown
shown_of a = shown a.kind a.address a.sup a.distance

-- a command, and all but a memory cycle
abbrev quiet : Kind → Shown
quiet k = shown k off false 0

pub record Says (r : Registers) (x : Decision) (s : Shown) : Type 0 where
  pub answer : shown_of x.answer ≡ s
  pub left : Judged r x s.kind

module _ (r : Registers) (d : Descriptor) (c : Cycle) where
  memory_says : (b : Bool) (w : Way) (l : Address)
      → Says r (memory_by b w r d c l)
      (shown (kind_by none false false false true b (is_translated w) (is_passed w)) l
      (not b && (is_translated w && fails d c || cpu c && (r.notes.hold && not (fetch c)))) (cond (not b && is_translated w) (distance_of d c) 0))
  unfolding aborted seen untranslated begun accessed checked
  memory_says true w l = record { answer = refl; left = accepts refl }
  memory_says false way.Translated l = record { answer = refl; left = accepts refl }
  memory_says false way.Passed l = record { answer = refl; left = accepts refl }
  memory_says false way.Silent l = record { answer = refl; left = accepts refl }

  acted_says : (a : Action) → Says r (acted r a) (quiet kind.Command)
  unfolding acted plain
  acted_says SoftwareReset = record { answer = refl; left = accepts refl }
  acted_says ClearVtr = record { answer = refl; left = accepts refl }
  acted_says ClearSww = record { answer = refl; left = accepts refl }
  acted_says ClearFatl = record { answer = refl; left = accepts refl }
  acted_says SetCpui = record { answer = refl; left = accepts refl }
  acted_says SetDmai = record { answer = refl; left = accepts refl }

  executed_says : (m : Command) (read b t p : Bool)
      → Says r (executed m read r d c)
      (quiet (kind_by (earliest false false (not (is_listed m)) (not read && is_show m || read && is_act m)) false false true false b t p))
  unfolding executed programmed replied entry refused plain
  executed_says Mr true b t p = record { answer = refl; left = accepts refl }
  executed_says Mr false b t p = record { answer = refl; left = accepts refl }
  executed_says Sar true b t p = record { answer = refl; left = accepts refl }
  executed_says Sar false b t p = record { answer = refl; left = accepts refl }
  executed_says Dscr true b t p = record { answer = refl; left = accepts refl }
  executed_says Dscr false b t p = record { answer = refl; left = accepts refl }
  executed_says (Show g) true b t p = record { answer = refl; left = accepts refl }
  executed_says (Show g) false b t p = record { answer = refl; left = refuses 4 refl }
  executed_says (Entry x) true b t p = record { answer = refl; left = accepts refl }
  executed_says (Entry x) false b t p = record { answer = refl; left = accepts refl }
  executed_says (Act a) true b t p = record { answer = refl; left = refuses 4 refl }
  executed_says (Act a) false b t p = acted_says a
  executed_says Unlisted read b t p = record { answer = refl; left = refuses 3 refl }

  -- the way of a memory cycle, its lines, its SUP and its distance
  way_here : Way
  way_here = way_of r.control.mr c

  address_here : Address
  address_here = address_of way_here d.base c

  pub sup_here : Bool
  sup_here =
      not (aborts r c)
      && (is_translated way_here && fails d c || cpu c && (r.notes.hold && not (fetch c)))

  pub distance_here : ℕ
  distance_here = cond (not (aborts r c) && is_translated way_here) (distance_of d c) 0

  purpose_says : (p : Purpose) (x y : Bool)
      → Says r (by_purpose p x y r d c)
      (shown
      (kind_by
      (earliest false false (is_command p && y && not (is_listed (command_of c.offset)))
      (is_command p && y && (write c && is_show (command_of c.offset) || c.read && is_act (command_of c.offset))))
      false (is_acknowledge p && x) (is_command p && y) (is_memory p) (aborts r c) (is_translated way_here) (is_passed way_here))
      (cond (is_memory p) address_here off) (is_memory p && sup_here) (cond (is_memory p) distance_here 0))
  unfolding way_here address_here sup_here distance_here acknowledged ignored plain commanded memory
  purpose_says purpose.Acknowledge true y = record { answer = refl; left = accepts refl }
  purpose_says purpose.Acknowledge false y = record { answer = refl; left = accepts refl }
  purpose_says purpose.Command x true = executed_says (command_of c.offset) c.read _ _ _
  purpose_says purpose.Command x false = record { answer = refl; left = accepts refl }
  purpose_says purpose.Memory x y = memory_says (aborts r c) way_here address_here
  purpose_says purpose.Other x y = record { answer = refl; left = accepts refl }

  decided_says : (two one reset : Bool)
      → Says r (decided_by two one reset r d c)
      (shown
      (kind_by
      (earliest two one (not reset && eqb c.status 3 && (cpu c && c.select) && not (listed c.offset))
      (not reset && eqb c.status 3 && (cpu c && c.select) && (write c && read_only c.offset || c.read && set_or_clear c.offset)))
      reset (not reset && eqb c.status 4 && cpu c) (not reset && eqb c.status 3 && (cpu c && c.select))
      (not reset && (leb 8 c.status && leb c.status 13))
      (not reset && (cpu c && c.read && eqb c.status 13) && r.notes.awaits) (is_translated way_here) (is_passed way_here))
      (cond (not two && not one && (not reset && (leb 8 c.status && leb c.status 13))) address_here off)
      (not two && not one && (not reset && (leb 8 c.status && leb c.status 13)) && sup_here)
      (cond (not two && not one && (not reset && (leb 8 c.status && leb c.status 13))) distance_here 0))
  unfolding refused reset_by plain by_status
  decided_says true one reset = record { answer = refl; left = refuses 2 refl }
  decided_says false true reset = record { answer = refl; left = refuses 1 refl }
  decided_says false false true = record { answer = refl; left = accepts refl }
  decided_says false false false =
      rw (
        ← command_status c.status,
        ← acknowledge_status c.status,
        ← memory_status c.status,
        ← listed-codes c.offset,
        ← show-codes c.offset,
        ← act-codes c.offset,
      )
      (purpose_says (purpose_of c.status) (cpu c) (cpu c && c.select))

-- the kind, by the way of the cycle
abbrev pub kind_said : Unit → Cycle → Kind
kind_said u c =
    kind_by (refusal_of u c) c.reset (acknowledge c) (selected_command c) (memory_cycle c) (awaited u c)
    (is_translated (way_of u.registers.control.mr c)) (is_passed (way_of u.registers.control.mr c))

pub says : (u : Unit) (c : Cycle)
    → Says u.registers (decision u c)
    (shown (kind_said u c)
    (cond (admitted u c && memory_cycle c) (address_of (way_of u.registers.control.mr c) (get_or u.table (place u c) blank).base c) off)
    (admitted u c && memory_cycle c && sup_here u.registers (get_or u.table (place u c) blank) c)
    (cond (admitted u c && memory_cycle c) (distance_here u.registers (get_or u.table (place u c) blank) c) 0))
unfolding decision decided way_here address_here
says u c = decided_says u.registers (get_or u.table (place u c) blank) c (damaged u.registers) (out_of_range c) c.reset

-- Kind

pub says_kind : (u : Unit) (c : Cycle) → (decision u c).answer.kind ≡ kind_said u c
says_kind u c = ap (λ (s : Shown). s.kind) (says u c).answer

pub kind_exactly : KindExactly
kind_exactly u c = rw (← conditions_way u.registers.control.mr c, ← passing_way u.registers.control.mr c) (says_kind u c)

-- no kind but that of an awaited fetch
none_aborted : (o : Option ℕ) (r a k m t p : Bool) → is_aborted (kind_by o r a k m false t p) ≡ false
none_aborted (some n) r a k m t p = refl
none_aborted none true a k m t p = refl
none_aborted none false true k m t p = refl
none_aborted none false false true m t p = refl
none_aborted none false false false true true p = refl
none_aborted none false false false true false true = refl
none_aborted none false false false true false false = refl
none_aborted none false false false false t p = refl

-- status %D is that of a memory cycle, and of no other
awaited-aborted : (two one reset : Bool) (s : ℕ) (x y b w t p : Bool) → reset ≡ false → s ≡ 13
    → is_aborted
    (kind_by (earliest two one (not reset && eqb s 3 && x && b) (not reset && eqb s 3 && x && w)) reset (not reset && eqb s 4 && y)
    (not reset && eqb s 3 && x) (not reset && (leb 8 s && leb s 13)) true t p)
    ≡ (not two && not one && true)
awaited-aborted true one reset s x y b w t p q e = refl
awaited-aborted false true reset s x y b w t p q e = refl
awaited-aborted false false reset s x y b w t p q e = rw (q, e)

pub aborted_exactly : AbortedExactly
aborted_exactly u c = ap is_aborted (kind_exactly u c) ∙ go (awaited u c) refl
  where
    go : (b : Bool) → awaited u c ≡ b
        → is_aborted
        (kind_by (refusal_of u c) c.reset (acknowledge c) (selected_command c) (memory_cycle c) b
        (translation_conditions u.registers.control.mr c) (passing_conditions u.registers.control.mr))
        ≡ (admitted u c && b)
    go true e =
        let f : fetches c ≡ true = and_l (fetches c) _ e in
        awaited-aborted (damaged u.registers) (out_of_range c) c.reset c.status (cpu c && c.select) (cpu c) _ _ _ _
        (not-true _ (and_l (not c.reset) _ f)) (eqb-true _ _ (and_r (cpu c && c.read) _ (and_r (not c.reset) _ f)))
    go false e =
        none_aborted (refusal_of u c) c.reset (acknowledge c) (selected_command c) (memory_cycle c) _ _ ∙ sym (and-false (admitted u c))

-- Address

-- a memory cycle looks at its segment's descriptor
pub memory-place : (u : Unit) (c : Cycle) → memory_cycle c ≡ true → place u c ≡ c.segment % 64
memory-place u c e =
    ap (λ (n : ℕ). n % 64)
    (own-segment u.registers c (differs (λ s. leb 8 s && leb s 13) c.status 3 (and_r (not c.reset) _ e) refl))

-- what is the same wherever it is said
cond_same : {A : Type 0} (t : Bool) (l m z : A) → (t ≡ true → l ≡ m) → cond t l z ≡ cond t m z
cond_same true l m z h = h refl
cond_same false l m z h = refl

cond_nest : {A : Type 0} (a b : Bool) (l z : A) → cond a (cond b l z) z ≡ cond (a && b) l z
cond_nest true b l z = refl
cond_nest false b l z = refl

pub address_exactly : AddressExactly
address_exactly u c =
    let mr : ℕ = u.registers.control.mr in
    let m : Bool = admitted u c && memory_cycle c in
    ap (λ (s : Shown). s.address) (says u c).answer
    ∙ cond_same m _ (address_of (way_of mr c) (segment_of u c).base c) off
    (λ e. ap (λ (i : ℕ). address_of (way_of mr c) (get_or u.table i blank).base c) (memory-place u c (and_r (admitted u c) _ e)))
    ∙ ap (λ (l : Address). cond m l off) (lines_way mr (segment_of u c).base c)
    ∙ cond_nest m (passing_conditions mr || translation_conditions mr c) _ off

-- SUP

-- the flags of the rights byte, one by one
pub breaks_exactly : (d : Descriptor) (c : Cycle) → fails d c ≡ breaks d c
unfolding rights_of out_of_length
breaks_exactly d c =
    let a : ℕ = d.attributes in
    let x : ℕ = flag_if (has a RD && write c) RDV in
    let y : ℕ = with x (flag_if (has a SYS && c.normal) SYSV) in
    let z : ℕ = with y (flag_if (has a CPUI && cpu c) CPUIV) in
    let t : ℕ = with z (flag_if (has a EXC && not (program c)) EXCV) in
    rw (
      or-none t (flag_if (has a DMAI && c.dma) DMAIV),
      or-none z (flag_if (has a EXC && not (program c)) EXCV),
      or-none y (flag_if (has a CPUI && cpu c) CPUIV),
      or-none x (flag_if (has a SYS && c.normal) SYSV),
      none_if (has a RD && write c) RDV refl,
      none_if (has a SYS && c.normal) SYSV refl,
      none_if (has a CPUI && cpu c) CPUIV refl,
      none_if (has a EXC && not (program c)) EXCV refl,
      none_if (has a DMAI && c.dma) DMAIV refl,
      length (has a DIRW),
    )
    (go (has a RD && write c) (has a SYS && c.normal) (has a EXC && not (program c))
    (cond (has a DIRW) (ltb c.offset d.limit) (ltb d.limit c.offset)) (has a CPUI && cpu c) (has a DMAI && c.dma))
  where
    none_if : (t : Bool) (m : ℕ) → eqb m 0 ≡ false → eqb (flag_if t m) 0 ≡ not t
    none_if true m e = e
    none_if false m e = refl

    length : (t : Bool) → beyond t d.limit c.offset ≡ cond t (ltb c.offset d.limit) (ltb d.limit c.offset)
    length true = refl
    length false = refl

    go : (r s x l p m : Bool) → (not (not r && not s && not p && not x && not m) || l) ≡ (r || s || x || l || p || m)
    go true s x l p m = refl
    go false true x l p m = refl
    go false false true l true m = refl
    go false false true l false m = refl
    go false false false true true m = refl
    go false false false true false true = refl
    go false false false true false false = refl
    go false false false false true m = refl
    go false false false false false true = refl
    go false false false false false false = refl

-- a fetch is awaited or clears hold first, so the two causes can be told apart
two_causes : (a r m f w t v p h : Bool)
    → (a && (not r && m) && (not (f && w) && (t && v || p && (h && not f))))
    ≡ (a && (not r && m) && not (not r && f && w) && t && v || a && (not r && m) && p && not (not r && f) && h)
two_causes false r m f w t v p h = refl
two_causes true true m f w t v p h = refl
two_causes true false false f w t v p h = refl
two_causes true false true true true t v true h = refl
two_causes true false true true true t v false h = refl
two_causes true false true true false t v true true = refl
two_causes true false true true false t v true false = refl
two_causes true false true true false t v false h = refl
two_causes true false true false w t v true true = refl
two_causes true false true false w t v true false = refl
two_causes true false true false w t v false h = refl

-- what is the same wherever a test holds
pub where_true : (t x y : Bool) → (t ≡ true → x ≡ y) → (t && x) ≡ (t && y)
where_true true x y h = h refl
where_true false x y h = refl

pub sup_exactly : SupExactly
unfolding sup_here way_here
sup_exactly u c =
    let mr : ℕ = u.registers.control.mr in
    let m : Bool = admitted u c && memory_cycle c in
    ap (λ (s : Shown). s.sup) (says u c).answer
    ∙ where_true m _ (sup_here u.registers (segment_of u c) c)
    (λ e. ap (λ (i : ℕ). sup_here u.registers (get_or u.table i blank) c) (memory-place u c (and_r (admitted u c) _ e)))
    ∙ rw (conditions_way mr c, breaks_exactly (segment_of u c) c)
    (two_causes (admitted u c) c.reset (leb 8 c.status && leb c.status 13) (fetch c) u.registers.notes.awaits
    (translation_conditions mr c) (breaks (segment_of u c) c) (cpu c) u.registers.notes.hold)

-- Distance

-- in the ticket's own words
blocks_exactly : (d : Descriptor) (c : Cycle) → distance_of d c ≡ blocks_left d c.offset
unfolding distance_of out_of_length
blocks_exactly d c = go (has d.attributes DIRW)
  where
    cut : (t down : Bool) → remaining t down d.limit c.offset ≡ cond t 0 (cond down (c.offset - d.limit) (d.limit - c.offset))
    cut true down = refl
    cut false true = refl
    cut false false = refl

    go : (down : Bool)
        → remaining (beyond down d.limit c.offset) down d.limit c.offset
        ≡ cond (cond down (ltb c.offset d.limit) (ltb d.limit c.offset)) 0 (cond down (c.offset - d.limit) (d.limit - c.offset))
    go true = cut (ltb c.offset d.limit) true
    go false = cut (ltb d.limit c.offset) false

-- an aborted fetch is a fetch without reset
one_way : (a r m f w t : Bool) (n : ℕ)
    → cond (a && (not r && m)) (cond (not (f && w) && t) n 0) 0 ≡ cond (a && (not r && m) && not (not r && f && w) && t) n 0
one_way false r m f w t n = refl
one_way true true m f w t n = refl
one_way true false false f w t n = refl
one_way true false true f w t n = refl

pub distance_exactly : DistanceExactly
unfolding distance_here way_here
distance_exactly u c =
    let mr : ℕ = u.registers.control.mr in
    let m : Bool = admitted u c && memory_cycle c in
    ap (λ (s : Shown). s.distance) (says u c).answer
    ∙ cond_same m _ (distance_here u.registers (segment_of u c) c) 0
    (λ e. ap (λ (i : ℕ). distance_here u.registers (get_or u.table i blank) c) (memory-place u c (and_r (admitted u c) _ e)))
    ∙ rw (conditions_way mr c, blocks_exactly (segment_of u c) c)
    (one_way (admitted u c) c.reset (leb 8 c.status && leb c.status 13) (fetch c) u.registers.notes.awaits
    (translation_conditions mr c) (blocks_left (segment_of u c) c.offset))

-- T is printed of a translated cycle alone
abbrev is_t : Kind → Bool
is_t kind.Reset = false
is_t kind.Acknowledge = false
is_t kind.Command = false
is_t kind.Aborted = false
is_t kind.Translated = true
is_t kind.Passed = false
is_t kind.Ignored = false
is_t (kind.Refused n) = false

pub translates : (u : Unit) (c : Cycle) → (stepped u c).answer.kind ≡ kind.Translated → translated u c ≡ true
translates u c e =
    go (damaged u.registers) (out_of_range c) (unlisted c) (wrong_way c) c.reset (acknowledge c) (selected_command c) (memory_cycle c) (awaited u c)
    (translation_conditions u.registers.control.mr c) (passing_conditions u.registers.control.mr) (ap is_t (sym (kind_exactly u c) ∙ e))
  where
    go : (two one three four r a k m w t p : Bool) → is_t (kind_by (earliest two one three four) r a k m w t p) ≡ true
        → (not two && not one && m && not w && t) ≡ true
    go true one three four r a k m w t p e = absurd (false≢true e)
    go false true three four r a k m w t p e = absurd (false≢true e)
    go false false true four r a k m w t p e = absurd (false≢true e)
    go false false false true r a k m w t p e = absurd (false≢true e)
    go false false false false true a k m w t p e = absurd (false≢true e)
    go false false false false false true k m w t p e = absurd (false≢true e)
    go false false false false false false true m w t p e = absurd (false≢true e)
    go false false false false false false false false w t p e = absurd (false≢true e)
    go false false false false false false false true true t p e = absurd (false≢true e)
    go false false false false false false false true false true p e = refl
    go false false false false false false false true false false true e = absurd (false≢true e)
    go false false false false false false false true false false false e = absurd (false≢true e)
