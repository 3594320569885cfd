-- A unit that a cycle does not concern shows its request, and stays as it is.
-- Assumes nothing.
use mathlib.Core.Path.{◌≡◌, refl, sym, ap, ◌∙◌}
use mathlib.Core.Bool.{Bool, true, false, not, ◌&&◌, ◌||◌, false≢true}
use Prim.Native.Nat.{ℕ}
use lib.Dec.{eqb, leb}
use lib.ListN.{get_or}
use borrow.Author.Tests.{not-true}
use Rattle.rules.proofs.Blind.{is_translated}
use Rattle.rules.specs.Bus.{cpu, fetch}
use Rattle.rules.specs.Memory.{memory, memory_by, aborts, untranslated, begun}
use Rattle.rules.specs.PowerOn.{blank}
use Rattle.rules.specs.Refusals.{damaged, out_of_range}
use Rattle.rules.specs.Replies.{off, plain, seen}
use Rattle.rules.specs.Status.{purpose_of, by_purpose, by_status, ignored}
use Rattle.rules.specs.Step.{decided, decided_by, place, changed, decision, after, stepped}
use Rattle.rules.specs.Translation.{way_of, address_of}
use Rattle.rules.specs.declared.Cycle.{Cycle}
use Rattle.rules.specs.declared.Decision.{Decision}
use Rattle.rules.specs.declared.Descriptor.{Descriptor}
use Rattle.rules.specs.declared.Purpose.{Purpose}
use Rattle.rules.specs.declared.Registers.{Registers}
use Rattle.rules.specs.declared.Stepped.{Stepped}
use Rattle.rules.specs.declared.Unit.{Unit}
use Rattle.rules.specs.declared.Way.{Way}
use Rattle.rules.specs.declared.Kind.TheVariants as kind
use Rattle.rules.specs.declared.Purpose.TheVariants as purpose
use Rattle.rules.specs.declared.Way.TheVariants as way
use Rattle.theorems_runs.proofs.Answers.{is_passed, passing_way}
use Rattle.theorems_runs.proofs.Looks.{conditions_way}
use Rattle.theorems_runs.proofs.Purposes.{is_command, is_memory, is_acknowledge, acknowledge_status, command_status, memory_status}
use Rattle.theorems_runs.proofs.Tests.{and_l, and_r, or_l, or_r}
use Rattle.board_rules.specs.Board.{silent, seen_by}
use Rattle.theorems_boards.specs.Numbers.{may_drive}
use Rattle.theorems_boards.proofs.Forms.{Accepted, accepted-admitted, may_drive_lem}
use Rattle.board_refusals.specs.Judged.{asking, concerns}

-- a unit that may not drive is silent
silent_way : (mr : ℕ) (c : Cycle) → may_drive mr c ≡ false → way_of mr c ≡ way.Silent
silent_way mr c e = go (way_of mr c) (rw (passing_way mr c, conditions_way mr c, may_drive_lem mr c) e)
  where
    go : (w : Way) → (is_passed w || is_translated w) ≡ false → w ≡ way.Silent
    go way.Silent f = refl
    go way.Passed f = absurd (false≢true (sym f))
    go way.Translated f = absurd (false≢true (sym f))

module _ (r : Registers) (d : Descriptor) (c : Cycle) where
  and-off : (x s : Bool) → x ≡ false → (x && s) ≡ x
  and-off false s e = refl
  and-off true s e = absurd (false≢true (sym e))

  and-off-r : (s x : Bool) → x ≡ false → (s && x) ≡ false
  and-off-r true x e = e
  and-off-r false x e = refl

  -- neither await nor own nor hold, and silent
  still : r.notes.awaits ≡ false → r.notes.own ≡ false → r.notes.hold ≡ false → memory_by (aborts r c) way.Silent r d c off ≡ ignored r
  unfolding untranslated begun seen ignored plain
  still a o h =
      rw (
        and-off-r (fetch c) r.notes.awaits a,
        and-off r.notes.own (not (fetch c)) o,
        and-off r.notes.hold (not (fetch c)) h,
        and-off-r (cpu c) r.notes.hold h,
      )

  idle-memory : ((r.notes.awaits || (r.notes.own || r.notes.hold)) || may_drive r.control.mr c) ≡ false → memory r d c ≡ ignored r
  unfolding memory address_of
  idle-memory e =
      let busy = or_l (r.notes.awaits || (r.notes.own || r.notes.hold)) (may_drive r.control.mr c) e in
      let own-hold = or_r r.notes.awaits (r.notes.own || r.notes.hold) busy in
      rw (silent_way r.control.mr c (or_r (r.notes.awaits || (r.notes.own || r.notes.hold)) (may_drive r.control.mr c) e))
      (still (or_l r.notes.awaits (r.notes.own || r.notes.hold) busy) (or_l r.notes.own r.notes.hold own-hold)
      (or_r r.notes.own r.notes.hold own-hold))

  -- by the purpose of the status: an acknowledge of the CPU, a selected command, and a memory cycle are told apart from what is ignored
  by_purpose_lem : (p : Purpose) (x s w : Bool)
      → ((is_acknowledge p && x) || ((is_command p && x && s) || (is_memory p && w))) ≡ false
      → (w ≡ false → memory r d c ≡ ignored r) → by_purpose p x (x && s) r d c ≡ ignored r
  by_purpose_lem purpose.Acknowledge true s w e m = absurd (false≢true (sym e))
  by_purpose_lem purpose.Acknowledge false s w e m = refl
  by_purpose_lem purpose.Command true true w e m = absurd (false≢true (sym e))
  by_purpose_lem purpose.Command true false w e m = refl
  by_purpose_lem purpose.Command false s w e m = refl
  by_purpose_lem purpose.Memory x s w e m = m e
  by_purpose_lem purpose.Other x s w e m = refl

-- what `concerns` is where the reset line is off
concerns-off : (reset a b x s m w : Bool)
    → ((reset || (not reset && a && x)) || ((not reset && b && x && s) || (not reset && m && w))) ≡ false
    → (reset ≡ false) × (((a && x) || ((b && x && s) || (m && w))) ≡ false)
concerns-off true a b x s m w e = absurd (false≢true (sym e))
concerns-off false a b x s m w e = (refl, e)

module _ (u : Unit) (s : Bool) (c : Cycle) where
  abbrev r : Registers
  r = u.registers

  abbrev d : Descriptor
  d = get_or u.table (place u (seen_by s c)) blank

  abbrev looks : Bool
  looks = (r.notes.awaits || (r.notes.own || r.notes.hold)) || may_drive r.control.mr c

  decides_nothing : Accepted (stepped u (seen_by s c)).answer → concerns r s c (asking c) ≡ false → decision u (seen_by s c) ≡ ignored r
  unfolding seen_by decision decided by_status
  decides_nothing a e =
      let in_range = accepted-admitted u (seen_by s c) a in
      let two : damaged r ≡ false = not-true _ (and_l (not (damaged r)) _ in_range) in
      let one : out_of_range (seen_by s c) ≡ false = not-true _ (and_r (not (damaged r)) _ in_range) in
      let known = concerns-off c.reset (eqb c.status 4) (eqb c.status 3) (cpu c) s (leb 8 c.status && leb c.status 13) looks e in
      let told : ((is_acknowledge (purpose_of c.status) && cpu c)
      || ((is_command (purpose_of c.status) && cpu c && s) || (is_memory (purpose_of c.status) && looks))) ≡ false =
      rw (acknowledge_status c.status, command_status c.status, memory_status c.status) known.1 in
      ap (λ (t : Bool). decided_by t (out_of_range (seen_by s c)) c.reset r d (seen_by s c)) two
      ∙ ap (λ (t : Bool). decided_by false t c.reset r d (seen_by s c)) one
      ∙ ap (λ (t : Bool). decided_by false false t r d (seen_by s c)) known.0
      ∙ by_purpose_lem r d (seen_by s c) (purpose_of c.status) (cpu c) s looks told (idle-memory r d (seen_by s c))

  pub unconcerned_still : Accepted (stepped u (seen_by s c)).answer → concerns r s c (asking c) ≡ false
      → ◌≡◌ {A = Stepped} (stepped u (seen_by s c)) (record { unit = u; answer = silent kind.Ignored r.notes.request })
  unfolding after changed ignored plain
  unconcerned_still a e =
      ap (λ (p : Decision). record {
        unit = record { table = changed p.change (place u (seen_by s c)) u.table; registers = p.registers };
        answer = p.answer;
      })
      (decides_nothing a e)
