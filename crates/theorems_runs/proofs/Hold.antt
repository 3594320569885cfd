-- Hold after a cycle, and SUP while it stands.
-- Assumes nothing.
use mathlib.Core.Path.{◌≡◌, refl, sym, ◌∙◌, ap}
use mathlib.Core.Bool.{Bool, true, false, not, ◌&&◌, ◌||◌, or-true, true≢false, false≢true}
use mathlib.Core.List.{List, [], ◌∷◌, ◌++◌}
use Prim.Native.Nat.{ℕ}
use lib.Dec.{leb}
use lib.ListN.{get_or}
use Rattle.rules.specs.Bus.{cpu, fetch}
use Rattle.rules.specs.Masks.{DMAI}
use Rattle.rules.specs.PowerOn.{blank, power_on}
use Rattle.rules.specs.Seen.{segment, cycle, acknowledge, command, translating}
use Rattle.rules.specs.Runs.{final}
use Rattle.rules.specs.Step.{place, after, stepped}
use Rattle.rules.specs.declared.Cycle.{Cycle}
use Rattle.rules.specs.declared.Unit.{Unit}
use Rattle.theorems_runs.specs.Answers.{violation, held_back, breaks, segment_of}
use Rattle.theorems_runs.specs.Cycles.{acknowledge as acknowledges, memory_cycle, fetches, software_reset, translation_conditions}
use Rattle.theorems_runs.specs.Hold.{holds, cpu_violation, ends_hold, HoldExactly, ViolatedSince, HoldByHistory, HistoryEnds, SupLasts}
use Rattle.theorems_runs.specs.Hold.{Why, violates_now, violated_before, SupByHistory}
use Rattle.theorems_runs.specs.Hold.{DmaLastsNot, EachEndsHold}
use Rattle.theorems_runs.specs.Refusal.{admitted}
use Rattle.theorems_runs.specs.Sequences.{◌⇒◌, Along}
use Rattle.theorems_runs.proofs.Answers.{breaks_exactly, memory-place, where_true, sup_exactly}
use Rattle.theorems_runs.proofs.Computed.{computed}
use Rattle.theorems_runs.proofs.Looks.{conditions_way}
use Rattle.theorems_runs.proofs.Registers.{violated, leaves}
use Rattle.theorems_runs.proofs.Tests.{and_l, and_r}

-- an awaited fetch is one with the reset line off
told : (a r m f w t v p : Bool)
    → (a && (not r && m) && (not (f && w) && t && v && p)) ≡ (a && (not r && m) && not (not r && f && w) && t && v && p)
told false r m f w t v p = refl
told true true m f w t v p = refl
told true false false f w t v p = refl
told true false true f w t v p = refl

-- the descriptor that is checked is that of the cycle's segment
violation_exactly : (u : Unit) (c : Cycle)
    → (admitted u c && memory_cycle c && violated u.registers (get_or u.table (place u c) blank) c) ≡ cpu_violation u c
unfolding violated
violation_exactly u c =
    let mr : ℕ = u.registers.control.mr in
    where_true (admitted u c && memory_cycle c) (violated u.registers (get_or u.table (place u c) blank) c)
    (violated u.registers (segment_of u c) c)
    (λ e. ap (λ (i : ℕ). violated u.registers (get_or u.table i blank) c) (memory-place u c (and_r (admitted u c) _ e)))
    ∙ rw (conditions_way mr c, breaks_exactly (segment_of u c) c)
    (told (admitted u c) c.reset (leb 8 c.status && leb c.status 13) (fetch c) u.registers.notes.awaits
    (translation_conditions mr c) (breaks (segment_of u c) c) (cpu c))

pub hold_exactly : HoldExactly
unfolding after
hold_exactly u c = (leaves u c).hold ∙ ap (λ (t : Bool). t || not (ends_hold u c) && holds u) (violation_exactly u c)

-- Runs

stands_on : (u : Unit) (c : Cycle) → holds u ≡ true → ends_hold u c ≡ false → holds (stepped u c).unit ≡ true
stands_on u c h e = hold_exactly u c ∙ go (cpu_violation u c) (ends_hold u c) (holds u) e h
  where
    go : (v e s : Bool) → e ≡ false → s ≡ true → (v || not e && s) ≡ true
    go v e s p q = rw (p, q) (or-true v)

-- hold stands to the end of a run without the four
stands-through : (cs : List Cycle) (u : Unit) → holds u ≡ true → Along (λ v c. ends_hold v c ≡ false) u cs → holds (final u cs) ≡ true
unfolding final Along
stands-through [] u h e = h
stands-through (c ∷ cs) u h e = stands-through cs (stepped u c).unit (stands_on u c h e.0) e.1

set_by : (u : Unit) (c : Cycle) → cpu_violation u c ≡ true → holds (stepped u c).unit ≡ true
set_by u c v = hold_exactly u c ∙ ap (λ (t : Bool). t || not (ends_hold u c) && holds u) v

final-after : (cs ds : List Cycle) (u : Unit) → final u (cs ++ ds) ≡ final (final u cs) ds
unfolding final
final-after [] ds u = refl
final-after (c ∷ cs) ds u = final-after cs ds (stepped u c).unit

-- hold stood at the start and none of the four came, or a violation came and none of them since
data Whence (u : Unit) (cs : List Cycle) : Type 0 where
  from_start : holds u ≡ true → Along (λ v c. ends_hold v c ≡ false) u cs → Whence u cs
  from_violation : ViolatedSince ends_hold u cs → Whence u cs

whence : (cs : List Cycle) (u : Unit) → holds (final u cs) ≡ true → Whence u cs
unfolding final Along
whence [] u h = from_start h refl
whence (c ∷ cs) u h = go (whence cs (stepped u c).unit h)
  where
    split : (v e s : Bool) → cpu_violation u c ≡ v → ends_hold u c ≡ e → holds u ≡ s → (v || not e && s) ≡ true
        → Along (λ v c. ends_hold v c ≡ false) (stepped u c).unit cs → Whence u (c ∷ cs)
    split true e s p q t z a = from_violation (record { earlier = []; cycle = c; since = cs; run = refl; violates = p; goes_on = a })
    split false true s p q t z a = absurd (false≢true z)
    split false false s p q t z a = from_start (t ∙ z) (q, a)

    go : Whence (stepped u c).unit cs → Whence u (c ∷ cs)
    go (from_start s a) = split (cpu_violation u c) (ends_hold u c) (holds u) refl refl refl (sym (hold_exactly u c) ∙ s) a
    go (from_violation x) =
        from_violation
        (record {
          earlier = c ∷ x.earlier;
          cycle = x.cycle;
          since = x.since;
          run = ap (λ (l : List Cycle). c ∷ l) x.run;
          violates = x.violates;
          goes_on = x.goes_on;
        })

pub hold_by_history : HoldByHistory
unfolding final
hold_by_history cs = (λ h. since (whence cs power_on h), λ x. stood x)
  where
    since : Whence power_on cs → ViolatedSince ends_hold power_on cs
    since (from_start s a) = absurd (false≢true s)
    since (from_violation x) = x

    stood : ViolatedSince ends_hold power_on cs → holds (final power_on cs) ≡ true
    stood x =
        ap (λ (l : List Cycle). holds (final power_on l)) x.run
        ∙ ap holds (final-after x.earlier (x.cycle ∷ x.since) power_on)
        ∙ stands-through x.since _ (set_by _ x.cycle x.violates) x.goes_on

pub sup_by_history : SupByHistory
sup_by_history cs c = (λ e. why (violation u c) refl (sym (sup_exactly u c) ∙ e), sup)
  where
    u : Unit
    u = final power_on cs

    reaches : Bool
    reaches = admitted u c && memory_cycle c && cpu c && not (fetches c)

    why : (v : Bool) → violation u c ≡ v → (v || held_back u c) ≡ true → Why cs c
    why true q e = violates_now q
    why false q e = violated_before (and_l reaches _ e) ((hold_by_history cs).0 (and_r reaches _ e))

    both : (p q : Bool) → p ≡ true → q ≡ true → (p && q) ≡ true
    both p q x y = rw (x, y)

    sup : Why cs c → (stepped u c).answer.sup ≡ true
    sup (violates_now v) = sup_exactly u c ∙ ap (λ (t : Bool). t || held_back u c) v
    sup (violated_before r s) =
        sup_exactly u c ∙ ap (λ (t : Bool). violation u c || t) (both reaches (holds u) r ((hold_by_history cs).1 s)) ∙ or-true (violation u c)

-- MR %C0, a read past the limit of segment 0, and an acknowledge, which ends hold
pub history_ends : HistoryEnds
unfolding Along computed
history_ends claim =
    false≢true
    ((claim (command false 0x00 0xC0 ∷ cycle false true false 8 0 1 ∷ acknowledge ∷ [])).1
    (record {
      earlier = command false 0x00 0xC0 ∷ [];
      cycle = cycle false true false 8 0 1;
      since = acknowledge ∷ [];
      run = refl;
      violates = refl;
      goes_on = (refl, refl);
    }))

-- no fetch, and hold stands: a CPU memory cycle is suppressed
suppressed_on : (u : Unit) (c : Cycle) → holds u ≡ true → ends_hold u c ≡ false
    → (admitted u c && memory_cycle c && cpu c) ⇒ (stepped u c).answer.sup
suppressed_on u c h e z =
    let starts-not : fetches c ≡ false =
    no_fetch (admitted u c) (c.reset || acknowledges c) (fetches c) (software_reset c)
    (and_l (admitted u c) _ (and_l (admitted u c && memory_cycle c) _ z)) e in
    sup_exactly u c ∙ held (violation u c) (admitted u c && memory_cycle c && cpu c) (fetches c) (holds u) z starts-not h
  where
    held : (v m f h : Bool) → m ≡ true → f ≡ false → h ≡ true → (v || m && not f && h) ≡ true
    held v m f h x y z = rw (x, y, z) (or-true v)

    no_fetch : (a q f s : Bool) → a ≡ true → (a && (q || f || s)) ≡ false → f ≡ false
    no_fetch true true f s x e = absurd (true≢false e)
    no_fetch true false true s x e = absurd (true≢false e)
    no_fetch true false false s x e = refl
    no_fetch false q f s x e = absurd (false≢true x)

pub sup_lasts : SupLasts
unfolding Along
sup_lasts u c cs v e = go cs (stepped u c).unit (set_by u c v) e
  where
    go : (cs : List Cycle) (v : Unit) → holds v ≡ true → Along (λ v d. ends_hold v d ≡ false) v cs
        → Along (λ v d. (admitted v d && memory_cycle d && cpu d) ⇒ (stepped v d).answer.sup) v cs
    go [] v h e = refl
    go (d ∷ cs) v h e = (suppressed_on v d h e.0, go cs (stepped v d).unit (stands_on v d h e.0) e.1)

-- segment 0 is closed to DMA: the read of DMA is a violation, and the CPU's after it is let through
pub dma_lasts_not : DmaLastsNot
unfolding Along computed
dma_lasts_not claim =
    false≢true
    ((claim (translating (segment 0 0xFF DMAI)) (cycle true true false 8 0 0) (cycle false true false 8 0 0 ∷ []) refl (refl, refl)).0 refl)

pub each_ends_hold : EachEndsHold
unfolding computed
each_ends_hold = (refl, refl, ((refl, refl), ((refl, refl), ((refl, refl), ((refl, refl), refl)))))
