-- What one turn does in the loop that steps the units of a board: a unit whose bit is on is stepped alone and joined, and one whose bit is off
-- shows its request and stays.
-- Assumes nothing.
use mathlib.Core.Path.{◌≡◌, refl, sym, ap, ◌∙◌, subst}
use mathlib.Core.Bool.{false, not}
use mathlib.Core.List.{List, [], ◌∷◌, map}
use Prim.Native.Nat.{ℕ, ◌+◌, ◌*◌, ◌/◌, ◌%◌, ◌<◌, ◌≤◌}
use native.Mathlib.Numerals.{add-one}
use native.Mathlib.Omega.{arith}
use lib.Dec.{eqb}
use lib.ListN.{length, get_or, take, drop, set}
use lib.Seq.{take_all, set-get_or}
use borrow.Author.Tests.{not-true}
use Rattle.rules.specs.PowerOn.{blank, power_on}
use Rattle.rules.specs.Refusals.{damaged, out_of_range}
use Rattle.rules.specs.Step.{decided, place_of, changed, place, decision, after, stepped}
use Rattle.rules.specs.declared.Change.{Change}
use Rattle.rules.specs.declared.Cycle.{Cycle}
use Rattle.rules.specs.declared.Decision.{Decision}
use Rattle.rules.specs.declared.Descriptor.{Descriptor}
use Rattle.rules.specs.declared.Registers.{Registers}
use Rattle.rules.specs.declared.Stepped.{Stepped}
use Rattle.rules.specs.declared.Unit.{Unit}
use Rattle.theorems_runs.specs.Sequences.{Every}
use Rattle.theorems_runs.proofs.Tests.{and_l, and_r}
use Rattle.board_rules.specs.Board.{Seat, seated, seen_by, answer_of, afterwards}
use Rattle.board_rules.proofs.Ahead.{rest, rest_next, rest_none, Ahead, ahead_turn, ended, agree_at, agree_turn}
use Rattle.theorems_boards.proofs.Forms.{Accepted, accepted-admitted}
use Rattle.board_refusals.proofs.Still.{unconcerned_still}
use Rattle.board_answers.specs.Joint.{nothing, joining, quietly, ahead}
use Rattle.board_answers.specs.declared.Joint.{Joint}
use Rattle.board_answers.proofs.Laws.{joined_turn, quiet_turn}
use Rattle.board_run.specs.Plan.{table_of, unit_of, units_of, Changed, Off}
use Rattle.board_run.proofs.Flat.{units-length, units_at, descriptor_at_lem, unit-changed}

-- the units that the arrays hold are all that there are
pub units-all : (rs : List Registers) (ts : List Descriptor) (n : ℕ) → take n (units_of rs ts n) ≡ units_of rs ts n
units-all rs ts n = take_all n (units_of rs ts n) (omega (arith, units-length rs ts n))

-- the first i of the units `us` are stepped and joined, the others are as they were, and the bits that are left tell which to look at
pub record Stepping (us : List Unit) (count selects : ℕ) (c : Cycle) (rs : List Registers) (ts : List Descriptor) (joint : Joint) (i left mask : ℕ)
    : Type 0 where
  pub joins : ahead joint i (map (answer_of c) (rest us count i left)) ≡ ahead nothing 0 (map (answer_of c) (seated (take count us) selects))
  pub units : Ahead (afterwards c) us count selects (units_of rs ts count) i left
  pub later : drop i (units_of rs ts count) ≡ drop i us
  pub off : Off c mask (rest us count i left)
  pub accepted : Every (λ s. Accepted (answer_of c s)) (rest us count i left)

pub stepping_begins : (rs : List Registers) (ts : List Descriptor) (count selects : ℕ) (c : Cycle) (mask : ℕ)
    → Off c mask (seated (units_of rs ts count) selects) → Every (λ s. Accepted (answer_of c s)) (seated (units_of rs ts count) selects)
    → Stepping (units_of rs ts count) count selects c rs ts nothing 0 selects mask
stepping_begins rs ts count selects c mask off accepted = record {
  joins = refl;
  units = refl;
  later = refl;
  off = rw (units-all rs ts count) off;
  accepted = rw (units-all rs ts count) accepted;
}

module _ (us : List Unit) (count selects : ℕ) (c : Cycle) (rs : List Registers) (ts : List Descriptor) (joint : Joint) (i left mask : ℕ)
    (h : Stepping us count selects c rs ts joint i left mask) (here : i < count) (long : length us ≡ count) where
  -- the seat of this turn
  abbrev seat : Seat
  seat = record { unit = get_or us i power_on; select = eqb (left % 2) 1 }

  next : rest us count i left ≡ seat ∷ rest us count (i + 1) (left / 2)
  next = rest_next us count i left power_on here (omega arith)

  -- its unit is the one that the arrays hold
  unit_now : get_or us i power_on ≡ unit_of rs ts i
  unit_now = sym (agree_at (units_of rs ts count) us i power_on h.later) ∙ units_at rs ts count i power_on here

  off_now : Off c mask (seat ∷ rest us count (i + 1) (left / 2))
  off_now = rw next at h.off

  accepted_now : Every (λ s. Accepted (answer_of c s)) (seat ∷ rest us count (i + 1) (left / 2))
  accepted_now = rw next at h.accepted

  pub stepping_turn : (rs' : List Registers) (ts' : List Descriptor) (joint' : Joint)
      → units_of rs' ts' count ≡ set (units_of rs ts count) i (afterwards c seat) → joint' ≡ joining joint i (answer_of c seat)
      → Stepping us count selects c rs' ts' joint' (i + 1) (left / 2) (mask / 2)
  unfolding Off
  stepping_turn rs' ts' joint' e j = record {
    joins =
        ap (λ (t : Joint). ahead t (i + 1) (map (answer_of c) (rest us count (i + 1) (left / 2)))) j
        ∙ ap (λ (k : ℕ). ahead (joining joint i (answer_of c seat)) k (map (answer_of c) (rest us count (i + 1) (left / 2)))) (add-one i)
        ∙ joined_turn joint i (answer_of c seat) (map (answer_of c) (rest us count (i + 1) (left / 2)))
        ∙ ap (λ (ss : List Seat). ahead joint i (map (answer_of c) ss)) (sym next)
        ∙ h.joins;
    units = rw e
        (ahead_turn (afterwards c) us count selects (units_of rs ts count) i left power_on (afterwards c seat) here (omega arith)
        (omega (arith, units-length rs ts count)) refl h.units);
    later = rw e (agree_turn (units_of rs ts count) us i (afterwards c seat) h.later);
    off = off_now.1;
    accepted = accepted_now.1;
  }

  -- the bit is off
  pub turn_off : eqb (mask % 2) 1 ≡ false
      → Stepping us count selects c rs ts (quietly joint (get_or rs i power_on.registers).notes.request) (i + 1) (left / 2) (mask / 2)
  unfolding Off
  turn_off e =
      let still = unconcerned_still (get_or us i power_on) (eqb (left % 2) 1) c accepted_now.0 (off_now.0 e) in
      let r : Registers = (get_or us i power_on).registers in
      stepping_turn rs ts (quietly joint (get_or rs i power_on.registers).notes.request)
      (sym (set-get_or (units_of rs ts count) i power_on)
      ∙ ap (λ (u : Unit). set (units_of rs ts count) i u)
      (units_at rs ts count i power_on here ∙ sym unit_now ∙ sym (ap (λ (s : Stepped). s.unit) still)))
      (ap (λ (u : Unit). quietly joint u.registers.notes.request) (sym unit_now)
      ∙ sym (quiet_turn joint i r.notes.request)
      ∙ ap (λ (s : Stepped). joining joint i s.answer) (sym still))

  -- the unit gives no number: it is undamaged, and the cycle is in range
  pub admitted_now : (damaged (get_or rs i power_on.registers) ≡ false) × (out_of_range (seen_by (eqb (left % 2) 1) c) ≡ false)
  admitted_now =
      let r : Registers = (get_or us i power_on).registers in
      let met = accepted-admitted (get_or us i power_on) (seen_by (eqb (left % 2) 1) c) accepted_now.0 in (
        ap (λ (u : Unit). damaged u.registers) (sym unit_now) ∙ not-true _ (and_l (not (damaged r)) _ met),
        not-true _ (and_r (not (damaged r)) _ met),
      )

  -- the bit is on
  abbrev cycleNow : Cycle
  cycleNow = seen_by (eqb (left % 2) 1) c

  abbrev placeNow : ℕ
  placeNow = place (unit_of rs ts i) cycleNow

  pub turn_on : (p : Decision) (ts' : List Descriptor) → count ≤ length rs
      → p ≡ decided (get_or rs i power_on.registers) (get_or ts (64 * i + placeNow) blank) cycleNow
      → Changed i (changed p.change placeNow (table_of ts i)) ts ts'
      → Stepping us count selects c (set rs i p.registers) ts' (joining joint i p.answer) (i + 1) (left / 2) (mask / 2)
  unfolding decision after
  turn_on p ts' room e t =
      let u : Unit = unit_of rs ts i in
      let decides : p ≡ decision u cycleNow =
      e ∙ ap (λ (d : Descriptor). decided u.registers d cycleNow) (sym (descriptor_at_lem ts i placeNow blank (omega arith))) in
      let whole : ◌≡◌ {A = Stepped}
      (record { unit = record { table = changed p.change placeNow (table_of ts i); registers = p.registers }; answer = p.answer })
      (stepped (get_or us i power_on) cycleNow) =
      ap (λ (q : Decision). record {
        unit = record { table = changed q.change placeNow (table_of ts i); registers = q.registers };
        answer = q.answer;
      }) decides
      ∙ ap (λ (v : Unit). stepped v cycleNow) (sym unit_now) in
      stepping_turn (set rs i p.registers) ts' (joining joint i p.answer)
      (unit-changed rs ts ts' count i p.registers (changed p.change placeNow (table_of ts i)) here room t
      ∙ ap (λ (s : Stepped). set (units_of rs ts count) i s.unit) whole)
      (ap (λ (s : Stepped). joining joint i s.answer) whole)

  -- the same, by what the calls of the turn gave
  pub turn_by : (x : Cycle) (at : ℕ) (p : Decision) (joint' : Joint) (ts' : List Descriptor) → count ≤ length rs
      → x ≡ seen_by (eqb (left % 2) 1) c → at ≡ place_of (get_or rs i power_on.registers) x
      → p ≡ decided (get_or rs i power_on.registers) (get_or ts (64 * i + at % 64) blank) x → joint' ≡ joining joint i p.answer
      → Changed i (changed p.change (at % 64) (table_of ts i)) ts ts'
      → Stepping us count selects c (set rs i p.registers) ts' joint' (i + 1) (left / 2) (mask / 2)
  turn_by x at p joint' ts' room e q d j t =
      let r : Registers = get_or rs i power_on.registers in
      let same : at % 64 ≡ placeNow = ap (λ (k : ℕ). k % 64) (q ∙ ap (place_of r) e) in
      rw j
      (turn_on p ts' room
      (d ∙ ap (λ (k : ℕ). decided r (get_or ts (64 * i + k) blank) x) same ∙ ap (decided r (get_or ts (64 * i + placeNow) blank)) e)
      (subst (λ (k : ℕ). Changed i (changed p.change k (table_of ts i)) ts ts') same t))

-- the table that a change leaves, by the change that it is
pub by_change : (h g : Change) (k i : ℕ) (t ts ts' : List Descriptor) → h ≡ g → Changed i (changed g k t) ts ts' → Changed i (changed h k t) ts ts'
by_change h g k i t ts ts' e = subst (λ (x : Change). Changed i (changed x k t) ts ts') (sym e)

-- after the last turn
pub stepping_ends : (us : List Unit) (count selects : ℕ) (c : Cycle) (rs : List Registers) (ts : List Descriptor) (joint : Joint) (i left mask : ℕ)
    → Stepping us count selects c rs ts joint i left mask → i ≡ count → take count us ≡ us
    → (units_of rs ts count ≡ map (afterwards c) (seated us selects)) × (ahead joint count [] ≡ ahead nothing 0 (map (answer_of c) (seated us selects)))
stepping_ends us count selects c rs ts joint i left mask h e all = (
  sym (units-all rs ts count) ∙ ended (afterwards c) us count selects (units_of rs ts count) i left e h.units
      ∙ ap (λ (l : List Unit). map (afterwards c) (seated l selects)) all,
  ap (λ (k : ℕ). ahead joint k []) (sym e)
      ∙ ap (λ (ss : List Seat). ahead joint i (map (answer_of c) ss)) (sym (rest_none us count left) ∙ ap (λ (k : ℕ). rest us count k left) (sym e))
      ∙ h.joins
      ∙ ap (λ (l : List Unit). ahead nothing 0 (map (answer_of c) (seated l selects))) all,
)
