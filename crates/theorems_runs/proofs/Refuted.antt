-- Claims of specs/ misread in one part, each refuted: at a unit and cycles that antt computes, or by the law that says otherwise. What another
-- theorem or a row of the rules contradicts already is not here.
-- Assumes nothing.
use mathlib.Core.Path.{◌≡◌, refl, ap}
use mathlib.Core.Bool.{Bool, true, false, not, ◌||◌, true≢false, false≢true}
use mathlib.Core.List.{List, [], ◌∷◌}
use Prim.Native.Nat.{ℕ, zero, suc, ◌%◌, ◌≤◌, ◌<◌}
use lib.Dec.{eqb, lit<, lit≤}
use lib.ListN.{length, get_or, replicate, get_or-replicate}
use Rattle.rules.specs.Flags.{has, lacks}
use Rattle.rules.specs.Masks.{RD, SYS, CPUI, EXC, DMAI, DIRW, PRIMARY}
use Rattle.rules.specs.PowerOn.{blank, power_on}
use Rattle.rules.specs.Refusals.{orphan, damaged}
use Rattle.rules.specs.Runs.{answers, final, units}
use Rattle.rules.specs.Seen.{segment, cycle, command, selected}
use Rattle.rules.specs.declared.Answer.{Answer}
use Rattle.rules.specs.declared.Cycle.{Cycle}
use Rattle.rules.specs.declared.Descriptor.{Descriptor}
use Rattle.rules.specs.declared.Address.{Address}
use Rattle.rules.specs.declared.Unit.{Unit}
use Rattle.theorems_runs.specs.Cycles.{meets_conditions, descriptor_read}
use Rattle.theorems_runs.specs.Exchange.{Exchange, FirstAlone}
use Rattle.theorems_runs.specs.Others.{Alike, Sized, ByTicket, OthersUnseen}
use Rattle.theorems_runs.specs.Sequences.{◌⇒◌, Every, Both, Along, all}
use Rattle.theorems_runs.specs.Tighter.{Covers, in_either, before, NoDescriptorWrite}
use Rattle.theorems_runs.specs.Undamaged.{Undamaged}
use Rattle.theorems_runs.proofs.Computed.{computed}
use Rattle.theorems_runs.proofs.Examples.{unit, unit_undamaged}
use Rattle.theorems_runs.proofs.Exchange.{exchanges_exactly, alone_exactly}
use Rattle.theorems_runs.proofs.Tighter.{demand_3}

-- Tightened tables: `Wider` misread

-- two descriptors compared part by part
abbrev Compared : (Base : ℕ → ℕ → Type 0) → (Direction : Bool → Bool → Type 0) → (Rights Up Down : ℕ → ℕ → Type 0)
    → Descriptor → Descriptor → Type 0
Compared Base Direction Rights Up Down x y =
    Base x.base y.base × Direction (has x.attributes DIRW) (has y.attributes DIRW) × Rights x.attributes y.attributes
    × (has x.attributes DIRW ≡ false → Up x.limit y.limit) × (has x.attributes DIRW ≡ true → Down x.limit y.limit)

abbrev Same : {A : Type 0} → A → A → Type 0
Same m n = m ≡ n

abbrev AnyOther : {A : Type 0} → A → A → Type 0
AnyOther m n = m ≡ m

abbrev AtMost : ℕ → ℕ → Type 0
AtMost l m = l ≤ m

abbrev AtLeast : ℕ → ℕ → Type 0
AtLeast l m = m ≤ l

-- of these flags b has none that a lacks
abbrev FewerOf : (flags : List ℕ) → (a b : ℕ) → Type 0
FewerOf flags a b = Every (λ flag. has b flag ⇒ has a flag) flags

abbrev five : List ℕ
five = RD ∷ SYS ∷ CPUI ∷ EXC ∷ DMAI ∷ []

-- `Wider`
abbrev Right : Descriptor → Descriptor → Type 0
Right = Compared Same Same (FewerOf five) AtMost AtLeast

-- one part of it misread: another base, another direction, the rights turned, DMAI left out, the ranges turned with DIRW clear, with DIRW set
abbrev Rebased : Descriptor → Descriptor → Type 0
Rebased = Compared AnyOther Same (FewerOf five) AtMost AtLeast

abbrev Redirected : Descriptor → Descriptor → Type 0
Redirected = Compared Same AnyOther (FewerOf five) AtMost AtLeast

abbrev RightsTurned : Descriptor → Descriptor → Type 0
RightsTurned = Compared Same Same (λ a b. FewerOf five b a) AtMost AtLeast

abbrev DmaiLeftOut : Descriptor → Descriptor → Type 0
DmaiLeftOut = Compared Same Same (FewerOf (RD ∷ SYS ∷ CPUI ∷ EXC ∷ EXC ∷ [])) AtMost AtLeast

abbrev UpTurned : Descriptor → Descriptor → Type 0
UpTurned = Compared Same Same (FewerOf five) AtLeast AtLeast

abbrev DownTurned : Descriptor → Descriptor → Type 0
DownTurned = Compared Same Same (FewerOf five) AtMost AtMost

-- demand 3 with descriptors compared so
abbrev CoversWhere : (Wide : Descriptor → Descriptor → Type 0) → Type 0
CoversWhere Wide =
    (a b : Unit) (cs : List Cycle)
    → Undamaged a
    → Undamaged b
    → a.registers ≡ b.registers
    → ((i : ℕ) → i < 64 → Wide (get_or a.table i blank) (get_or b.table i blank))
    → Every NoDescriptorWrite cs
    → Both Covers (answers a (before in_either a b cs)) (answers b (before in_either a b cs))

-- by `Wider` it is demand 3 itself
right_covers : CoversWhere Right
right_covers a b cs u v r t f =
    demand_3.0 a b cs u v
    (record {
      registers = r;
      table = λ i s. record { base = (t i s).0; direction = (t i s).1; rights = (t i s).2; up = (t i s).3; down = (t i s).4 };
    })
    f

-- 64 descriptors that are the same, MR %C0
abbrev evenly : Descriptor → Unit
evenly d = record { table = replicate 64 d; registers = (unit blank blank blank).registers }

-- what such a claim says of one cycle
covered : (Wide : Descriptor → Descriptor → Type 0) → CoversWhere Wide → (x y : Descriptor) (c : Cycle) → Wide x y → NoDescriptorWrite c
    → Both Covers (answers (evenly x) (before in_either (evenly x) (evenly y) (c ∷ [])))
    (answers (evenly y) (before in_either (evenly x) (evenly y) (c ∷ [])))
unfolding damaged
covered Wide claim x y c w f =
    claim (evenly x) (evenly y) (c ∷ []) (record { size = refl; sound = refl }) (record { size = refl; sound = refl }) refl
    (λ i s. rw (get_or-replicate 64 i x blank s, get_or-replicate 64 i y blank s) w) (f, refl)

abbrev read_at : (offset : ℕ) → Cycle
read_at offset = cycle false true false 8 0 offset

unflagged : FewerOf five 0 0
unflagged = (λ e. e, (λ e. e, (λ e. e, (λ e. e, (λ e. e, refl)))))

-- With any one part misread the second unit drives another block, or it alone suppresses.
pub wider_needed :
    CoversWhere Right × (CoversWhere Rebased → ⊥) × (CoversWhere Redirected → ⊥) × (CoversWhere RightsTurned → ⊥)
    × (CoversWhere DmaiLeftOut → ⊥) × (CoversWhere UpTurned → ⊥) × (CoversWhere DownTurned → ⊥)
unfolding before computed
wider_needed = (
  right_covers,
  λ claim.
      true≢false
      (ap (λ (l : Address). eqb l.block 0)
      (covered Rebased claim (segment 0 0xFF 0) (segment 0x1000 0xFF 0) (read_at 0)
      (refl, refl, unflagged, λ e. lit≤ tt, λ e. lit≤ tt) refl).0.address),
  λ claim.
      false≢true
      ((covered Redirected claim (segment 0 0 0) (segment 0 1 DIRW) (read_at 0)
      (refl, refl, unflagged, λ e. lit≤ tt, λ e. absurd (false≢true e)) refl).0.sup refl),
  λ claim.
      false≢true
      ((covered RightsTurned claim (segment 0 0xFF 0) (segment 0 0xFF CPUI) (read_at 0)
      (refl, refl, (λ e. e, (λ e. e, (λ e. refl, (λ e. e, (λ e. e, refl))))), λ e. lit≤ tt, λ e. lit≤ tt) refl).0.sup refl),
  λ claim.
      false≢true
      ((covered DmaiLeftOut claim (segment 0 0xFF 0) (segment 0 0xFF DMAI) (cycle true true false 8 0 0)
      (refl, refl, unflagged, λ e. lit≤ tt, λ e. lit≤ tt) refl).0.sup refl),
  λ claim.
      false≢true
      ((covered UpTurned claim (segment 0 1 0) (segment 0 0 0) (read_at 1)
      (refl, refl, unflagged, λ e. lit≤ tt, λ e. absurd (false≢true e)) refl).0.sup refl),
  λ claim.
      false≢true
      ((covered DownTurned claim (segment 0 0 DIRW) (segment 0 1 DIRW) (read_at 0)
      (refl, refl, unflagged, λ e. absurd (true≢false e), λ e. lit≤ tt) refl).0.sup refl),
)

-- Other people's segments

-- two units that differ in segment 0, its base and its limit
abbrev left : Unit
left = unit (segment 0x1000 0x10 0) blank blank

abbrev right : Unit
right = unit (segment 0x2000 0x20 0) blank blank

-- "differ only in descriptors outside a set" turned: equal outside the set, where no cycle looks
abbrev AlikeOutside : (inside : ℕ → Bool) → Unit → Unit → Type 0
AlikeOutside inside a b =
    (a.registers ≡ b.registers) × ((i : ℕ) → i < 64 → inside i ≡ false → get_or a.table i blank ≡ get_or b.table i blank)

-- all segments are in the set: a read of segment 0 drives another block
pub set_turned :
    ((inside : ℕ → Bool) (a b : Unit) (cs : List Cycle) → Undamaged a → Undamaged b → AlikeOutside inside a b → Along (ByTicket inside) a cs
    → answers a cs ≡ answers b cs)
    → ⊥
unfolding Along computed
set_turned claim =
    true≢false
    (ap (all (λ (x : Answer). eqb x.address.block 0x1000))
    (claim (λ i. true) left right (read_at 0 ∷ []) (unit_undamaged _ _ _) (unit_undamaged _ _ _) (refl, λ i low e. absurd (true≢false e))
    ((λ e. refl, refl), refl)))

-- a read of %08 to %0F that looks at the segment that it names, and not at SAR
abbrev LooksAtSegment : (inside : ℕ → Bool) → Unit → Cycle → Type 0
LooksAtSegment inside u c = (meets_conditions u c || descriptor_read c) ⇒ inside (c.segment % 64)

-- their descriptors but for segment 0 are equal
all_but_first : (i : ℕ) → i < 64 → not (eqb i 0) ≡ true → get_or left.table i blank ≡ get_or right.table i blank
all_but_first zero low e = absurd (false≢true e)
all_but_first (suc i) low e = refl

-- all segments but 0 are in the set, SAR is 0, and the read names segment 1: %09 shows another limit
pub segment_for_sar : OthersUnseen Sized Alike LooksAtSegment → ⊥
unfolding Along computed
segment_for_sar claim =
    true≢false
    (ap (all (λ (x : Answer). eqb x.byte 0x10))
    (claim (λ i. not (eqb i 0)) left right (selected false 3 1 0x09 ∷ []) refl refl (record { registers = refl; table = all_but_first })
    (λ e. refl, refl)).0)

-- "every register but those descriptors" with those descriptors too: they differ, and go on to
pub outside_differs :
    ((inside : ℕ → Bool) (a b : Unit) (cs : List Cycle) → Undamaged a → Undamaged b → Alike inside a b → Along (ByTicket inside) a cs
    → Both (Alike (λ i. true)) (units a cs) (units b cs))
    → ⊥
unfolding Along computed
outside_differs claim =
    true≢false
    (ap (λ (d : Descriptor). eqb d.base 0x1000)
    ((claim (λ i. not (eqb i 0)) left right (cycle false true false 0 0 0 ∷ []) (unit_undamaged _ _ _) (unit_undamaged _ _ _)
    (record { registers = refl; table = all_but_first }) ((λ e. absurd (false≢true e), refl), refl)).0.table 0 (lit< tt) refl))

-- Undamaged units: 63 descriptors for 64
pub size_misread : ((cs : List Cycle) → length (final power_on cs).table ≡ 63) → ⊥
unfolding computed
size_misread claim = true≢false (ap (λ (n : ℕ). eqb n 64) (claim []))

-- Orphans and notes

-- VOFF taken for the VTR: a read past the limit, at %40, stores an offset that looks like SWW alone
pub voff_no_vtr : ((cs : List Cycle) → orphan (final power_on cs).registers.faults.voff ≡ false) → ⊥
unfolding computed
voff_no_vtr claim = true≢false (claim (command false 0x00 0xC0 ∷ read_at 0x40 ∷ []))

-- `ZeroExactly` past a byte: 256 has none of the flags
pub byte_needed : ((vtr : ℕ) → vtr ≤ 256 → orphan vtr ≡ false → lacks vtr PRIMARY ≡ eqb vtr 0) → ⊥
byte_needed claim = true≢false (claim 256 (lit≤ tt) refl)

-- request implying await: the aborted fetch after a fault leaves the request alone
pub request_alone : ((cs : List Cycle) → (final power_on cs).registers.notes.request ⇒ (final power_on cs).registers.notes.awaits) → ⊥
unfolding computed
request_alone claim = false≢true (claim (command false 0x00 0xC0 ∷ read_at 1 ∷ cycle false true false 13 0 0 ∷ []) refl)

-- await implying own: a later instruction's FATL awaits too
pub await_alone : ((cs : List Cycle) → (final power_on cs).registers.notes.awaits ⇒ (final power_on cs).registers.notes.own) → ⊥
unfolding computed
await_alone claim = false≢true (claim (command false 0x00 0xC0 ∷ read_at 1 ∷ cycle false true false 13 0 0 ∷ read_at 1 ∷ []) refl)

-- Set and clear commands, where the tables of `AloneExactly` and `ExchangesExactly` were misread

-- clear FATL is part of clear VTR
pub fatl_left_out : FirstAlone 0x11 0x14
fatl_left_out = (alone_exactly _ _ refl refl).0.1 refl

-- software reset and a write of a limit are not apart
pub limit_exchanged : Exchange 0x10 0x09
limit_exchanged = (exchanges_exactly _ _ refl).1 refl
