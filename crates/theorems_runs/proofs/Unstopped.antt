-- Demand 3 with no stop, from the exact equations of the address, SUP, the distance, hold, MR and the descriptors.
-- Assumes nothing.
use mathlib.Core.Path.{◌≡◌, refl, sym, ◌∙◌, ap, subst}
use mathlib.Core.Bool.{Bool, true, false, cond, not, ◌&&◌, ◌||◌, beq, true≢false, false≢true}
use mathlib.Core.List.{List, [], ◌∷◌}
use Prim.Native.Nat.{ℕ, ◌+◌, ◌*◌, ◌%◌, ◌<◌}
use native.Mathlib.Omega.{arith}
use lib.Dec.{eqb, leb}
use lib.ListN.{length}
use borrow.Author.Tests.{eqb-true, not-true}
use Rattle.rules.specs.Bus.{cpu, write}
use Rattle.rules.specs.Entry.{replaced, moved}
use Rattle.rules.specs.Flags.{has}
use Rattle.rules.specs.Masks.{CPUI, DMAI, DIRW, TRNS}
use Rattle.rules.specs.Refusals.{damaged, out_of_range}
use Rattle.rules.specs.Replies.{off}
use Rattle.rules.specs.Codes.{command_of}
use Rattle.rules.specs.Runs.{answers}
use Rattle.rules.specs.Step.{after, stepped}
use Rattle.rules.specs.declared.Action.TheVariants.{SoftwareReset, ClearVtr, ClearSww, ClearFatl, SetCpui, SetDmai}
use Rattle.rules.specs.declared.Command.{Command}
use Rattle.rules.specs.declared.Command.TheVariants.{Mr, Sar, Dscr, Show, Entry, Act, Unlisted}
use Rattle.rules.specs.declared.Control.{Control}
use Rattle.rules.specs.declared.Cycle.{Cycle}
use Rattle.rules.specs.declared.Descriptor.{Descriptor}
use Rattle.rules.specs.declared.Address.{Address}
use Rattle.rules.specs.declared.Unit.{Unit}
use Rattle.theorems_runs.specs.Answers.{awaited, aborted_fetch, driven, segment_of, breaks, translated, violation, held_back, SameMr}
use Rattle.theorems_runs.specs.Cycles.{selected_command, acknowledge, memory_cycle, fetches, software_reset, passing_conditions}
use Rattle.theorems_runs.specs.Cycles.{translation_conditions, descriptor_write, writes}
use Rattle.theorems_runs.specs.Descriptors.{descriptor, writes_to, writes_here, byte_at}
use Rattle.theorems_runs.specs.Hold.{ends_hold, holds, cpu_violation}
use Rattle.theorems_runs.specs.Narrower.{HoldsFirst, Level, Narrower, NarrowerInStep, TurnsNone, WritesNone, AlongBoth}
use Rattle.theorems_runs.specs.Narrower.{SameSar, SameDscr}
use Rattle.theorems_runs.specs.Refusal.{admitted}
use Rattle.theorems_runs.specs.Sequences.{◌⇒◌, Both}
use Rattle.theorems_runs.specs.Tighter.{Wider, Nearer}
use Rattle.theorems_runs.specs.Unstopped.{MrExactly, of_aborted, CoversBut, CoversUnstopped, CoversWithWrites, NearerUnstopped}
use Rattle.theorems_runs.proofs.Answers.{address_exactly, sup_exactly, distance_exactly, translates}
use Rattle.theorems_runs.proofs.Codes.{is_act_of, is_mr, software_reset_code, mr_code}
use Rattle.theorems_runs.proofs.Descriptors.{byte_in, descriptors_stay, write_replaces, set-all-sets}
use Rattle.theorems_runs.proofs.Hold.{hold_exactly}
use Rattle.theorems_runs.proofs.Registers.{command_control, control_by, leaves}
use Rattle.theorems_runs.proofs.Tests.{and_l, and_r, or_l, or_r, or-⇒, and-⇒, differs}
use Rattle.theorems_runs.proofs.Undamaged.{undamaged_after}
use Rattle.theorems_runs.proofs.Wider.{same_wider, raised_wider, replaced_wider, breaks-⇒, nearer_blocks}

-- MR

module _ (c : Cycle) (k : Control) where
  command_mr : (m : Command) (read : Bool) → c.read ≡ read
      → (command_control m read c k).mr ≡ cond (not read && is_act_of 0x10 m) 0 (cond (not read && is_mr m) c.byte k.mr)
  unfolding moved
  command_mr Mr true e = rw e
  command_mr Mr false e = rw e
  command_mr Sar true e = rw e
  command_mr Sar false e = rw e
  command_mr Dscr true e = rw e
  command_mr Dscr false e = rw e
  command_mr (Show g) true e = refl
  command_mr (Show g) false e = refl
  command_mr (Entry p) true e = refl
  command_mr (Entry p) false e = refl
  command_mr (Act a) true e = refl
  command_mr (Act SoftwareReset) false e = refl
  command_mr (Act ClearVtr) false e = refl
  command_mr (Act ClearSww) false e = refl
  command_mr (Act ClearFatl) false e = refl
  command_mr (Act SetCpui) false e = refl
  command_mr (Act SetDmai) false e = refl
  command_mr Unlisted true e = refl
  command_mr Unlisted false e = refl

  control_mr : (two one reset command : Bool)
      → (control_by two one reset command c k).mr
      ≡ cond (not two && not one && reset) (cond c.select 128 0)
      (cond (not two && not one && (not reset && command && write c && eqb c.offset 0x10)) 0
      (cond (not two && not one && (not reset && command && write c && eqb c.offset 0x00)) c.byte k.mr))
  control_mr true one reset command = refl
  control_mr false true reset command = refl
  control_mr false false true command = refl
  control_mr false false false true =
      rw (← software_reset_code c.offset, ← mr_code c.offset) (command_mr (command_of c.offset) c.read refl)
  control_mr false false false false = refl

-- the two ways to bracket a selected command
bracketed : (r s p : Bool) → (not r && (s && p)) ≡ (not r && s && p)
bracketed true s p = refl
bracketed false s p = refl

pub mr_exactly : MrExactly
unfolding after
mr_exactly u c =
    ap (λ (k : Control). k.mr) (leaves u c).control
    ∙ control_mr c u.registers.control (damaged u.registers) (out_of_range c) c.reset (eqb c.status 3 && (cpu c && c.select))
    ∙ (rw (bracketed c.reset (eqb c.status 3) (cpu c && c.select)))

-- Two units: undamaged, the second's descriptors wider, MR equal

pub level : {a b : Unit} → Narrower a b → Level a b
level h = record { first = h.first; second = h.second; table = h.table; mr = h.mr }

module _ (a b : Unit) (c : Cycle) (h : Level a b) where
  two : damaged a.registers ≡ damaged b.registers
  two = h.first.sound ∙ sym h.second.sound

  same_admitted : admitted a c ≡ admitted b c
  same_admitted = ap (λ (t : Bool). not t && not (out_of_range c)) two

  wider_segment : Wider (segment_of a c) (segment_of b c)
  wider_segment = h.table (c.segment % 64) (omega arith)

  same_address : (stepped a c).answer.address ≡ (stepped b c).answer.address
  same_address = address_exactly a c ∙ go two h.mr wider_segment.base ∙ sym (address_exactly b c)
    where
      lines : (t : Bool) (m base : ℕ) → Address
      lines t m base =
          cond (not t && not (out_of_range c) && memory_cycle c && (passing_conditions m || translation_conditions m c))
          (driven (cond (has m TRNS) ((base + c.offset) % 65536) (c.segment * 256 + c.offset))) off

      go : {t t' : Bool} {m m' x x' : ℕ} → t ≡ t' → m ≡ m' → x ≡ x' → lines t m x ≡ lines t' m' x'
      go p q s = rw (p, q, s)

  same_mr : SameMr (stepped a c).unit (stepped b c).unit
  same_mr = mr_exactly a c ∙ go same_admitted h.mr ∙ sym (mr_exactly b c)
    where
      next : (t : Bool) (m : ℕ) → ℕ
      next t m =
          cond (t && c.reset) (cond c.select 128 0)
          (cond (t && software_reset c) 0 (cond (t && (selected_command c && write c && eqb c.offset 0x00)) c.byte m))

      go : {t t' : Bool} {m m' : ℕ} → t ≡ t' → m ≡ m' → next t m ≡ next t' m'
      go p q = rw (p, q)

  -- Descriptors

  module _ (i : ℕ) (small : i < 64) where
    Wider_after : Type 0
    Wider_after = Wider (descriptor (stepped a c).unit i) (descriptor (stepped b c).unit i)

    here : i < length a.table
    here = omega (arith, h.first.size)

    there : i < length b.table
    there = omega (arith, h.second.size)

    -- what both descriptors are after the cycle
    by : {x y : Descriptor} → descriptor (stepped a c).unit i ≡ x → descriptor (stepped b c).unit i ≡ y → Wider x y → Wider_after
    unfolding Wider_after
    by {x} {y} p q w =
        subst (λ (d : Descriptor). Wider d (descriptor (stepped b c).unit i)) (sym p) (subst (λ (d : Descriptor). Wider x d) (sym q) w)

    -- but for a write to them
    wider_after : writes_to a c i ≡ writes_to b c i → (writes_to a c i ≡ true → Wider_after) → Wider_after
    unfolding Wider_after
    wider_after same put = go (writes_to a c i) (writes_here 0x15 a c) (writes_here 0x16 a c) refl refl refl
      where
        also : (n : ℕ) → writes_here n a c ≡ writes_here n b c
        also n = ap (λ (t : Bool). not t && writes n c) two

        none : (x y z : Bool) → x ≡ false → y ≡ false → z ≡ false → (x || y || z) ≡ false
        none x y z p q s = rw (p, q, s)

        go : (w s d : Bool) → writes_to a c i ≡ w → writes_here 0x15 a c ≡ s → writes_here 0x16 a c ≡ d → Wider_after
        go true s d p q r = put p
        go false true d p q r =
            by ((set-all-sets a c i here).0 q) ((set-all-sets b c i there).0 (sym (also 0x15) ∙ q)) (raised_wider CPUI refl _ _ (h.table i small))
        go false false true p q r =
            by ((set-all-sets a c i here).1 r) ((set-all-sets b c i there).1 (sym (also 0x16) ∙ r)) (raised_wider DMAI refl _ _ (h.table i small))
        go false false false p q r =
            same_wider (descriptors_stay a c i (none _ _ _ p q r))
            (descriptors_stay b c i (none _ _ _ (sym same ∙ p) (sym (also 0x15) ∙ q) (sym (also 0x16) ∙ r))) (h.table i small)

  pub step_level : WritesNone a b c → Level (stepped a c).unit (stepped b c).unit
  unfolding Wider_after
  step_level f =
      record {
        first = undamaged_after a c h.first;
        second = undamaged_after b c h.second;
        table = λ i s. wider_after i s (none a i ∙ sym (none b i)) (λ w. absurd (true≢false (sym w ∙ none a i)));
        mr = same_mr;
      }
    where
      none : (u : Unit) (i : ℕ) → writes_to u c i ≡ false
      none u i = go (not (damaged u.registers)) (descriptor_write c) (eqb u.registers.control.sar i) f
        where
          go : (d w e : Bool) → w ≡ false → (d && w && e) ≡ false
          go true w e q = rw q
          go false w e q = refl

  -- ticket 5's line, at one cycle
  pub nearer_step : Nearer (stepped a c).answer (stepped b c).answer
  nearer_step p q =
      let x : translated a c ≡ true = translates a c p in
      let y : translated b c ≡ true = translates b c q in
      rw (distance_exactly a c, x, distance_exactly b c, y) (nearer_blocks c.offset wider_segment)

-- SUP and hold

-- of the memory cycles only a fetch ends hold
goes_on : (u : Unit) (c : Cycle) → memory_cycle c ≡ true → fetches c ≡ false → ends_hold u c ≡ false
goes_on u c m f =
    go (admitted u c) c.reset (eqb c.status 4) (eqb c.status 3) (fetches c) (not-true _ (and_l (not c.reset) _ m))
    (other 4 refl) (other 3 refl) f
  where
    -- no other status is that of a memory cycle
    other : (n : ℕ) → (leb 8 n && leb n 13) ≡ false → eqb c.status n ≡ false
    other n e = differs (λ s. leb 8 s && leb s 13) c.status n (and_r (not c.reset) _ m) e

    go : (a r x y f : Bool) → r ≡ false → x ≡ false → y ≡ false → f ≡ false
        → (a && (r || not r && x && cpu c || f || not r && y && (cpu c && c.select) && write c && eqb c.offset 0x10)) ≡ false
    go true r x y f p q s t = rw (p, q, s, t)
    go false r x y f p q s t = refl

module _ (a b : Unit) (c : Cycle) (h : Level a b) (x : aborted_fetch a c ≡ false) (k : ends_hold a c ≡ false → HoldsFirst a b) where
  violation_too : violation b c ⇒ violation a c
  violation_too e =
      same (same_admitted a b c h) (ap (λ (m : ℕ). translation_conditions m c) h.mr)
      ∙ go (admitted b c) (memory_cycle c) (awaited a c) (awaited b c) (translation_conditions b.registers.control.mr c)
      (breaks (segment_of a c) c) (breaks (segment_of b c) c) (ap (λ (t : Bool). t && awaited a c) (sym (same_admitted a b c h)) ∙ x)
      (breaks-⇒ c (wider_segment a b c h)) e
    where
      same : {y y' t t' : Bool} → y ≡ y' → t ≡ t'
          → (y && memory_cycle c && not (awaited a c) && t && breaks (segment_of a c) c)
          ≡ (y' && memory_cycle c && not (awaited a c) && t' && breaks (segment_of a c) c)
      same p q = rw (p, q)

      go : (y m w w' t v v' : Bool) → (y && w) ≡ false → v' ⇒ v → (y && m && not w' && t && v') ≡ true → (y && m && not w && t && v) ≡ true
      go false m w w' t v v' q s e = absurd (false≢true e)
      go true false w w' t v v' q s e = absurd (false≢true e)
      go true true true w' t v v' q s e = absurd (true≢false q)
      go true true false true t v v' q s e = absurd (false≢true e)
      go true true false false false v v' q s e = absurd (false≢true e)
      go true true false false true v v' q s e = s e

  held_too : held_back b c ⇒ held_back a c
  held_too e =
      ap (λ (t : Bool). t && memory_cycle c && cpu c && not (fetches c) && holds a) (same_admitted a b c h)
      ∙ go (admitted b c) (memory_cycle c) (cpu c) (fetches c) (holds b) (holds a) (λ m f. k (goes_on a c m f)) e
    where
      go : (y m p f s s' : Bool) → (m ≡ true → f ≡ false → s ⇒ s') → (y && m && p && not f && s) ≡ true → (y && m && p && not f && s') ≡ true
      go false m p f s s' q e = absurd (false≢true e)
      go true false p f s s' q e = absurd (false≢true e)
      go true true false f s s' q e = absurd (false≢true e)
      go true true true true s s' q e = absurd (false≢true e)
      go true true true false s s' q e = q refl refl e

  sup_step : (stepped b c).answer.sup ⇒ (stepped a c).answer.sup
  sup_step z =
      sup_exactly a c
      ∙ or-⇒ (violation b c) (violation a c) (held_back b c) (held_back a c) violation_too held_too (sym (sup_exactly b c) ∙ z)

  pub hold_step : HoldsFirst (stepped a c).unit (stepped b c).unit
  hold_step z =
      hold_exactly a c
      ∙ or-⇒ (cpu_violation b c) (cpu_violation a c) (not (ends_hold b c) && holds b) (not (ends_hold a c) && holds a)
      (and-⇒ (violation b c) (violation a c) (cpu c) violation_too)
      (λ e. go (ends_hold a c) k (ap (λ (t : Bool). not (t && ends) && holds b) (same_admitted a b c h) ∙ e)) (sym (hold_exactly b c) ∙ z)
    where
      ends : Bool
      ends = c.reset || acknowledge c || fetches c || software_reset c

      go : (t : Bool) → (t ≡ false → HoldsFirst a b) → (not t && holds b) ≡ true → (not t && holds a) ≡ true
      go true k e = e
      go false k e = k refl e

-- Runs

module _ (Related : Unit → Unit → Type 0) (May : Unit → Unit → Cycle → Type 0) (levels : (a b : Unit) → Related a b → Level a b)
    (step : (a b : Unit) (c : Cycle) → Related a b → May a b c → Related (stepped a c).unit (stepped b c).unit) where
  unstopped : (cs : List Cycle) (so : Bool) (a b : Unit) → Related a b → (so ≡ false → HoldsFirst a b)
      → AlongBoth May a b cs → CoversBut of_aborted so a b cs
  unfolding CoversBut AlongBoth
  unstopped [] so a b r k f = refl
  unstopped (c ∷ cs) so a b r k f = (
    same_address a b c (levels a b r),
    λ e. sup_step a b c (levels a b r) (fine e) (kept e),
    unstopped cs (of_aborted so a c) (stepped a c).unit (stepped b c).unit (step a b c r f.0)
        (λ e. hold_step a b c (levels a b r) (fine e) (kept e)) f.1,
  )
    where
      fine : of_aborted so a c ≡ false → aborted_fetch a c ≡ false
      fine e = or_l (aborted_fetch a c) _ e

      was : (p q : Bool) → (p && not q) ≡ false → q ≡ false → p ≡ false
      was true true e d = absurd (true≢false d)
      was true false e d = e
      was false q e d = refl

      kept : of_aborted so a c ≡ false → ends_hold a c ≡ false → HoldsFirst a b
      kept e d = k (was so (ends_hold a c) (or_r (aborted_fetch a c) _ e) d)

pub covers_unstopped : CoversUnstopped
covers_unstopped a b cs n f = unstopped Level WritesNone (λ a b l. l) step_level cs false a b (level n) (λ e. n.hold) f

-- Where writes come too

-- SAR and DSCR equal beside MR
pub record Abreast (a b : Unit) : Type 0 where
  pub levels : Level a b
  pub control : a.registers.control ≡ b.registers.control

-- where these are all that is equal
side_by_side : {a b : Unit} → Level a b → SameSar a b → SameDscr a b → Abreast a b
side_by_side h sar dscr = record { levels = h; control = same h.mr sar dscr }
  where
    control_of : (m n d : ℕ) → Control
    control_of m n d = record { mr = m; sar = n; dscr = d }

    same : {m m' n n' d d' : ℕ} → m ≡ m' → n ≡ n' → d ≡ d' → control_of m n d ≡ control_of m' n' d'
    same p q s = rw (p, q, s)

pub abreast : {a b : Unit} → NarrowerInStep a b → Abreast a b
abreast h = side_by_side (level h.narrower) h.sar h.dscr

module _ (a b : Unit) (c : Cycle) (h : Abreast a b) (turns : TurnsNone a b c) where
  same_control : (stepped a c).unit.registers.control ≡ (stepped b c).unit.registers.control
  unfolding after
  same_control = (leaves a c).control ∙ go (two a b c h.levels) h.control ∙ sym (leaves b c).control
    where
      next : (t : Bool) → Control → Control
      next t k = control_by t (out_of_range c) c.reset (eqb c.status 3 && (cpu c && c.select)) c k

      go : {t t' : Bool} {k k' : Control} → t ≡ t' → k ≡ k' → next t k ≡ next t' k'
      go p q = rw (p, q)

  module _ (i : ℕ) (small : i < 64) where
    same_write : writes_to a c i ≡ writes_to b c i
    same_write = go (two a b c h.levels) (ap (λ (k : Control). k.sar) h.control)
      where
        go : {t t' : Bool} {s s' : ℕ} → t ≡ t' → s ≡ s' → (not t && descriptor_write c && eqb s i) ≡ (not t' && descriptor_write c && eqb s' i)
        go p q = rw (p, q)

    turned : Descriptor → ℕ → Bool
    turned d s =
        beq (has d.attributes DIRW) (has (descriptor a s).attributes DIRW) || eqb (descriptor a s).limit (descriptor b s).limit

    put_wider : writes_to a c i ≡ true → Wider (descriptor (stepped a c).unit i) (descriptor (stepped b c).unit i)
    unfolding Wider_after turned
    put_wider w =
        let d : Bool = not (damaged a.registers) in
        let here : _ = write_replaces a c i (omega (arith, h.levels.first.size)) w in
        let there : _ = write_replaces b c i (omega (arith, h.levels.second.size)) (sym same_write ∙ w) in
        let at_sar : a.registers.control.sar ≡ i = eqb-true a.registers.control.sar i (and_r (d && descriptor_write c) _ w) in
        let writes : descriptor_write c ≡ true = and_r d _ (and_l (d && descriptor_write c) _ w) in
        let harmless : turned (replaced (descriptor a i) (byte_in a c) c.byte) i ≡ true =
        ap (λ (e : Descriptor). turned e i) (sym here)
        ∙ subst (λ (s : ℕ). turned (descriptor (stepped a c).unit s) s ≡ true) at_sar (turns writes) in
        by a b c h.levels i small here
        (there ∙ ap (λ (k : Control). replaced (descriptor b i) (byte_at c.offset k.dscr) c.byte) (sym h.control))
        (replaced_wider (byte_in a c) c.byte (descriptor a i) (descriptor b i) (h.levels.table i small) harmless)

  pub step_abreast : Abreast (stepped a c).unit (stepped b c).unit
  unfolding Wider_after
  step_abreast =
      record {
        levels =
            record {
              first = undamaged_after a c h.levels.first;
              second = undamaged_after b c h.levels.second;
              table = λ i s. wider_after a b c h.levels i s (same_write i s) (put_wider i s);
              mr = same_mr a b c h.levels;
            };
        control = same_control;
      }

-- Ticket 5's line

module _ (Related : Unit → Unit → Type 0) (May : Unit → Unit → Cycle → Type 0) (levels : (a b : Unit) → Related a b → Level a b)
    (step : (a b : Unit) (c : Cycle) → Related a b → May a b c → Related (stepped a c).unit (stepped b c).unit) where
  nearer : (cs : List Cycle) (a b : Unit) → Related a b → AlongBoth May a b cs → Both Nearer (answers a cs) (answers b cs)
  unfolding answers AlongBoth
  nearer [] a b r f = refl
  nearer (c ∷ cs) a b r f = (
    nearer_step a b c (levels a b r),
    nearer cs (stepped a c).unit (stepped b c).unit (step a b c r f.0) f.1,
  )

pub nearer_unstopped : NearerUnstopped
nearer_unstopped = (
  λ a b h cs f. nearer Level WritesNone (λ a b l. l) step_level cs a b h f,
  λ a b h sar dscr cs f. nearer Abreast TurnsNone (λ a b h. h.levels) step_abreast cs a b (side_by_side h sar dscr) f,
)

pub covers_with_writes : CoversWithWrites
covers_with_writes a b cs n f =
    unstopped Abreast TurnsNone (λ a b h. h.levels) step_abreast cs false a b (abreast n) (λ e. n.narrower.hold) f
