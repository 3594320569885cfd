-- What the distance means, from its exact equation; and what demand 3's line needs, by runs that antt computes.
-- Assumes nothing.
use mathlib.Core.Path.{◌≡◌, refl, sym, ◌∙◌, ap, subst}
use mathlib.Core.Bool.{Bool, true, false, cond, not, ◌&&◌, ◌||◌, true≢false, false≢true}
use mathlib.Core.List.{List, [], ◌∷◌}
use Prim.Native.Nat.{ℕ, zero, suc, ◌+◌, ◌-◌, ◌≤◌, ◌<◌}
use native.Mathlib.Omega.{arith}
use lib.Dec.{eqb, leb, ltb, lit<, lit≤}
use lib.ListN.{get_or, replicate}
use borrow.Author.Tests.{ltb-true, ltb-false, lt-ltb, le-ltb, leb-true, le-leb}
use borrow.Author.Tests.{eqb-true, eqb-false, eq-eqb, ne_eqb}
use Rattle.rules.specs.Bus.{cpu, write}
use Rattle.rules.specs.Flags.{has}
use Rattle.rules.specs.Masks.{RD, SYS, CPUI, EXC, DMAI, DIRW}
use Rattle.rules.specs.PowerOn.{blank}
use Rattle.rules.specs.Seen.{segment, reads, writes, acknowledge, command, cycle}
use Rattle.rules.specs.Step.{stepped}
use Rattle.rules.specs.declared.Cycle.{Cycle}
use Rattle.rules.specs.declared.Descriptor.{Descriptor}
use Rattle.rules.specs.declared.Unit.{Unit}
use Rattle.theorems_runs.specs.Answers.{beyond_limit, breaks, translated, segment_of, blocks_left}
use Rattle.theorems_runs.specs.Distance.{Counts, DistanceCounts, CountsOnce, WarnsAtTheEdge, BothTranslateNeeded}
use Rattle.theorems_runs.specs.Distance.{Roomier, RoomierWidened, DirectionNeeded}
use Rattle.theorems_runs.specs.Narrower.{AlongBoth}
use Rattle.theorems_runs.specs.SegmentNumbers.{warning}
use Rattle.theorems_runs.specs.Sequences.{◌⇒◌}
use Rattle.theorems_runs.specs.Tighter.{Wider, before}
use Rattle.theorems_runs.proofs.Answers.{distance_exactly}
use Rattle.theorems_runs.proofs.Computed.{computed}
use Rattle.theorems_runs.proofs.Examples.{unit, unit_undamaged, wider_entries, unit_loosened, read_only, writable, closed, writable_wider}
use Rattle.theorems_runs.proofs.Narrowing.{narrowing_nears}
use Rattle.theorems_runs.proofs.Tests.{or_l, or_r}
use Rattle.theorems_runs.proofs.Wider.{wider_refl, beyond_limit-⇒}

-- The blocks that are counted

-- by the direction: `named`, `onward` and `beyond_limit` of the k-th block after o
abbrev within : (down : Bool) → (o k : ℕ) → Bool
within down o k = cond down (leb k o) (ltb (o + k) 256)

abbrev past : (down : Bool) → (limit o k : ℕ) → Bool
past down l o k = cond down (ltb (cond down (o - k) (o + k)) l) (ltb l (cond down (o - k) (o + k)))

passes : (down : Bool) (l o k : ℕ) → l < 256 → cond down (ltb o l) (ltb l o) ≡ false → k ≤ cond down (o - l) (l - o)
    → (within down o k ≡ true) × (past down l o k ≡ false)
passes true l o k small e h =
    let inside : l ≤ o = ltb-false o l e in (le-leb k o (omega arith), le-ltb (o - k) l (omega arith))
passes false l o k small e h =
    let inside : o ≤ l = ltb-false l o e in (lt-ltb (o + k) 256 (omega arith), le-ltb l (o + k) (omega arith))

stops : (down : Bool) (l o : ℕ) → cond down (ltb o l) (ltb l o) ≡ false → within down o (cond down (o - l) (l - o) + 1) ≡ true
    → past down l o (cond down (o - l) (l - o) + 1) ≡ true
stops true l o e h =
    let inside : l ≤ o = ltb-false o l e in
    let room : o - l + 1 ≤ o = leb-true (o - l + 1) o h in
    lt-ltb (o - (o - l + 1)) l (omega arith)
stops false l o e h =
    let inside : o ≤ l = ltb-false l o e in
    lt-ltb l (o + (l - o + 1)) (omega arith)

-- the distance of a translated cycle within the limit
left : (u : Unit) (c : Cycle) → translated u c ≡ true → beyond_limit (segment_of u c) c.offset ≡ false
    → (stepped u c).answer.distance
    ≡ cond (has (segment_of u c).attributes DIRW) (c.offset - (segment_of u c).limit) ((segment_of u c).limit - c.offset)
left u c t e =
    let d : Descriptor = segment_of u c in
    distance_exactly u c
    ∙ ap (λ (t : Bool). cond t (blocks_left d c.offset) 0) t
    ∙ ap (λ (t : Bool). cond t 0 (cond (has d.attributes DIRW) (c.offset - d.limit) (d.limit - c.offset))) e

pub distance_counts : DistanceCounts
distance_counts u c t e small =
    let d : Descriptor = segment_of u c in
    let down : Bool = has d.attributes DIRW in
    subst (λ (n : ℕ). Counts d c.offset n) (sym (left u c t e))
    (record { pass = λ k h. passes down d.limit c.offset k small e h; ends = stops down d.limit c.offset e })

-- a larger number would have the block pass at which the smaller one ends
pub counts_once : CountsOnce
counts_once d o n m x y = go (ltb n m) (ltb m n) refl refl
  where
    apart : (k j : ℕ) → k < j → Counts d o k → Counts d o j → ⊥
    apart k j h p q =
        let next : _ = q.pass (k + 1) (omega arith) in
        false≢true (sym next.1 ∙ p.ends next.0)

    go : (s t : Bool) → ltb n m ≡ s → ltb m n ≡ t → n ≡ m
    go true t e f = absurd (apart n m (ltb-true n m e) x y)
    go false true e f = absurd (apart m n (ltb-true m n f) y x)
    go false false e f = let a : m ≤ n = ltb-false n m e in let b : n ≤ m = ltb-false m n f in omega arith

-- The warning

-- of a block of a stack, none are left exactly at the limit
edge : (l o : ℕ) → l ≤ o → eqb o l ≡ eqb (o - l) 0
edge l o h = go (eqb o l) refl
  where
    go : (t : Bool) → eqb o l ≡ t → t ≡ eqb (o - l) 0
    go true e = let q : o ≡ l = eqb-true o l e in sym (eq-eqb (o - l) 0 (omega arith))
    go false e = sym (ne_eqb (o - l) 0 (λ z. eqb-false o l e (omega arith)))

-- what breaks no rule is within the limit
inside_limit : (d : Descriptor) (c : Cycle) → breaks d c ≡ false → beyond_limit d c.offset ≡ false
inside_limit d c b =
    let a : ℕ = d.attributes in
    let long : Bool = beyond_limit d c.offset in
    let first : Bool = has a RD && write c || has a SYS && c.normal || has a EXC && not (eqb c.status 0xC || eqb c.status 0xD) in
    or_r first long (or_l (first || long) (has a CPUI && cpu c) (or_l (first || long || has a CPUI && cpu c) (has a DMAI && c.dma) b))

pub warns_at_the_edge : WarnsAtTheEdge
warns_at_the_edge u c = go (translated u c) (breaks d c) (cpu c && write c) (has d.attributes DIRW) (eqb o d.limit) _ same
  where
    d : Descriptor
    d = segment_of u c

    o : ℕ
    o = c.offset

    same : translated u c ≡ true → breaks d c ≡ false → has d.attributes DIRW ≡ true
        → eqb o d.limit ≡ eqb (stepped u c).answer.distance 0
    same t b w =
        let inside : beyond_limit d o ≡ false = inside_limit d c b in
        let downward : (stepped u c).answer.distance ≡ o - d.limit =
        left u c t inside ∙ ap (λ (t : Bool). cond t (o - d.limit) (d.limit - o)) w in
        let under : ltb o d.limit ≡ false = subst (λ (t : Bool). cond t (ltb o d.limit) (ltb d.limit o) ≡ false) w inside in
        edge d.limit o (ltb-false o d.limit under) ∙ ap (λ (n : ℕ). eqb n 0) (sym downward)

    go : (t b p w e f : Bool) → (t ≡ true → b ≡ false → w ≡ true → e ≡ f) → (t && not b && (p && w && e)) ≡ (t && not b && (p && w && f))
    go false b p w e f h = refl
    go true true p w e f h = refl
    go true false false w e f h = refl
    go true false true false e f h = refl
    go true false true true e f h = h refl refl refl

-- What the claims come to in a stack with the limit %F8: had they asked for more, or said less, these would not follow from them

abbrev stack : (limit : ℕ) → Descriptor
stack limit = segment 0x2000 limit DIRW

abbrev stacked : Unit
stacked = unit (stack 0xF8) blank blank

-- block %FB: three blocks are left, and the fourth does not pass
pub counts_known : Counts (stack 0xF8) 0xFB 3
unfolding computed
counts_known = distance_counts stacked (reads 0xFB) refl refl (lit< tt)

-- a write at the limit warns, one a block above it does not, nor a read at the limit
pub warns_known : (warning stacked (writes 0xF8) ≡ true) × (warning stacked (writes 0xF9) ≡ false) × (warning stacked (reads 0xF8) ≡ false)
unfolding computed
warns_known = (warns_at_the_edge stacked (writes 0xF8), warns_at_the_edge stacked (writes 0xF9), warns_at_the_edge stacked (reads 0xF8))

-- with the limit written to %F9 block %FB is no further from the edge than without
abbrev raised : Unit
raised = (stepped stacked (command false 0x09 0xF9)).unit

pub nears_known : (stepped raised (reads 0xFB)).answer.distance ≤ (stepped stacked (reads 0xFB)).answer.distance
unfolding AlongBoth computed
nears_known =
    (narrowing_nears.0 stacked (command false 0x09 0xF9 ∷ []) (unit_undamaged _ _ _) (refl, refl)
    (wider_entries (lower 0xF9 0xF8 (lit≤ tt)) (wider_refl _) (wider_refl _)) (reads 0xFB ∷ []) (refl, refl)).0 refl refl
  where
    -- the lower limit has more blocks
    lower : (m l : ℕ) → l ≤ m → Wider (stack m) (stack l)
    lower m l h =
        record {
          base = refl;
          direction = refl;
          rights = (λ e. e, (λ e. e, (λ e. e, (λ e. e, (λ e. e, refl)))));
          up = λ e. absurd (true≢false e);
          down = λ e. h;
        }

-- What demand 3's line needs

-- Segment 1 is read-only in the first unit alone, segment 2 is closed to the CPU in both. A write to segment 1 is a fault of the first unit; the
-- next fault, of both, is its second, and sets FATL there. At the third it is silent, and the second unit alone awaits the fetch after it, of
-- segment 0 at offset 0 with the limit 1: one block from the edge in the first unit, aborted in the second.
faults_then_fetch : List Cycle
faults_then_fetch =
    cycle false false false 8 1 0 ∷ acknowledge ∷ cycle false true false 8 2 0 ∷ acknowledge ∷ cycle false true false 8 2 0
    ∷ cycle false true false 13 0 0 ∷ []

pub both_translate_needed : BothTranslateNeeded
unfolding faults_then_fetch before computed
both_translate_needed claim =
    absurd
    (omega (
      arith,
      (claim (unit short read_only closed) (unit short writable closed) faults_then_fetch (unit_undamaged _ _ _) (unit_undamaged _ _ _)
          (unit_loosened (wider_refl _) writable_wider) (refl, (refl, (refl, (refl, (refl, (refl, refl))))))).1.1.1.1.1.0,
    ))
  where
    short : Descriptor
    short = segment 0 1 0

pub roomier_widened : RoomierWidened
roomier_widened x y w = record { base = w.base; rights = w.rights; blocks = λ o s e. never (beyond_limit y o) (beyond_limit x o) (beyond_limit-⇒ o w) e }
  where
    never : (t s : Bool) → t ⇒ s → s ≡ false → t ≡ false
    never true s h e = absurd (false≢true (sym e ∙ h refl))
    never false s h e = refl

-- segment 0 ends at block 1 in the first unit and is a stack of all 256 blocks in the second: block 0 is a block from the one's edge, and it is the
-- other's
upward : Descriptor
upward = segment 0 1 0

downward : Descriptor
downward = segment 0 0 DIRW

roomier : (i : ℕ) → i < 64
    → Roomier (get_or (upward ∷ blank ∷ blank ∷ replicate 61 blank) i blank) (get_or (downward ∷ blank ∷ blank ∷ replicate 61 blank) i blank)
unfolding upward downward
roomier zero h =
    record {
      base = refl;
      rights = (λ e. e, (λ e. e, (λ e. e, (λ e. e, (λ e. e, refl)))));
      blocks = λ o s e. le-ltb o 0 (omega arith);
    }
roomier (suc i) h =
    record { base = refl; rights = (λ e. e, (λ e. e, (λ e. e, (λ e. e, (λ e. e, refl))))); blocks = λ o s e. e }

pub direction_needed : DirectionNeeded
unfolding upward downward before AlongBoth computed
direction_needed claim =
    absurd
    (omega (
      arith,
      (claim (unit upward blank blank) (unit downward blank blank) (cycle false true false 8 0 0 ∷ [])
          (unit_undamaged _ _ _, unit_undamaged _ _ _, roomier, refl, λ z. z) (refl, refl)).0 refl refl,
    ))
