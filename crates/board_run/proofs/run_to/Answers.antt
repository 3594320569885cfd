-- The two loops of `run_to`: the run begins, a turn begins, a unit more is stepped, and the turn ends. Assumes nothing.
use mathlib.Core.Path.{◌≡◌, refl, sym, ap, ◌∙◌, subst}
use mathlib.Core.Bool.{Bool}
use Rattle.std.proofs.Common.{ℕ, ◌+◌, ◌*◌, ◌/◌, ◌%◌, ◌^◌, ◌<◌, ◌≤◌, List, [], length, take, arith}
use native.Mathlib.Nat.{div-one}
use lib.Dec.{eqb}
use lib.ListN.{get_or, set, length-set, length-take}
use borrow.Author.Tests.{ne_eqb}
use Rattle.rules.specs.PowerOn.{blank, power_on}
use Rattle.rules.specs.Refusals.{out_of_range}
use Rattle.rules.specs.Step.{changed, place_of, decided}
use Rattle.rules.specs.declared.Change.{Change}
use Rattle.rules.specs.declared.Change.TheVariants.{Keep, Put, Raise}
use Rattle.rules.specs.declared.Cycle.{Cycle}
use Rattle.rules.specs.declared.Decision.{Decision}
use Rattle.rules.specs.declared.Descriptor.{Descriptor}
use Rattle.rules.specs.declared.Registers.{Registers}
use Rattle.rules.specs.declared.Unit.{Unit}
use Rattle.theorems_runs.specs.Sequences.{Every}
use Rattle.theorems_runs.specs.Undamaged.{Undamaged}
use Rattle.board_rules.specs.Board.{Refusal, seated, seen_by, refusing, board_answers, board_final}
use Rattle.board_rules.specs.declared.Board.{Board}
use Rattle.board_rules.specs.declared.BoardCycle.{BoardCycle}
use Rattle.board_rules.proofs.Ahead.{select_next}
use Rattle.theorems_boards.specs.Seats.{live}
use Rattle.theorems_boards.proofs.Units.{board_from_power_on}
use Rattle.board_refusals.specs.Judged.{refuses, refusal_in, by_number, given}
use Rattle.board_refusals.proofs.Laws.{refused_by, accepted_by}
use Rattle.board_refusals.specs.declared.Judged.{Judged}
use Rattle.board_refusals.specs.declared.Verdict.{Verdict}
use Rattle.board_answers.specs.Joint.{joining}
use Rattle.board_answers.specs.declared.Joint.{Joint}
use Rattle.board_packed.specs.BoardPacked.{board_packed_all}
use Rattle.board_run.specs.BoardRun.{record_size, board_cycle_at, board_cycles_to, board_ran_to}
use Rattle.board_run.specs.Plan.{table_of, units_of, Changed, Planned, PlanIs, any_asks}
use Rattle.board_run.proofs.Flat.{stored_changed, kept-changed, units-length}
use Rattle.board_run.proofs.Stepping.{Stepping, units-all, stepping_begins, stepping_ends, turn_off, admitted_now, turn_by, by_change}
use Rattle.board_run.proofs.Boards.{board_of, in_range, healthy, refused_board, accepted_board, stepped_board}
use Rattle.board_run.proofs.Turns.{board_at, cycle_at, record_shown, turn_ends, board_begins}
use Rattle.board_run.proofs.run_to.Goals as goal
use Rattle.board_run.proofs.run_to.Goals.{then-on+in-Keep, then-on+in-Put, then-on+in-Raise, else-on, in-Some, in_default+else-loop-i-test}

-- the units are undamaged, and the cycle is in range: the plan is what it says
planned : (t : List ℕ) (count n : ℕ) (rs : List Registers) (ts : List Descriptor) (b : BoardCycle) (mask : ℕ) (j : Judged)
    → board_of rs ts count ≡ board_at t count n → b ≡ cycle_at t n → PlanIs rs count b.cycle b.selects mask j
    → Planned mask j b.cycle (seated (units_of rs ts count) b.selects)
unfolding PlanIs
planned t count n rs ts b mask j e k plan =
    plan ts (ap (λ (x : BoardCycle). out_of_range x.cycle) k ∙ in_range t (record_size * n))
    (healthy rs ts count b.selects
    (subst (λ (x : Board). Every Undamaged (live x)) (sym e) (board_from_power_on count count (board_cycles_to t n))))

-- a unit stepped, by what the calls gave and the table that the change left
stepped-one : (us : List Unit) (count selects : ℕ) (c : Cycle) (rs : List Registers) (ts : List Descriptor) (joint : Joint) (i left mask : ℕ)
    → (length rs ≡ 16) × (length ts ≡ 1024) × Stepping us count selects c rs ts joint i left mask → i < count → count ≤ 16 → length us ≡ count
    → (x : Cycle) (k : ℕ) (p : Decision) (joint' : Joint) (h : Change) (ts' : List Descriptor)
    → x ≡ seen_by (eqb (left % 2) 1) c → k ≡ place_of (get_or rs i power_on.registers) x
    → p ≡ decided (get_or rs i power_on.registers) (get_or ts (64 * i + k % 64) blank) x → joint' ≡ joining joint i p.answer
    → p.change ≡ h → Changed i (changed h (k % 64) (table_of ts i)) ts ts'
    → (length (set rs i p.registers) ≡ 16) × (length ts' ≡ 1024)
    × Stepping us count selects c (set rs i p.registers) ts' joint' (i + 1) (left / 2) (mask / 2)
stepped-one us count selects c rs ts joint i left mask inv here most long x k p joint' h ts' e q d j was t =
    let made : Changed i (changed p.change (k % 64) (table_of ts i)) ts ts' = by_change p.change h (k % 64) i (table_of ts i) ts ts' was t in (
      length-set rs i p.registers ∙ inv.0,
      made.size ∙ inv.1,
      turn_by us count selects c rs ts joint i left mask inv.2 here long x k p joint' ts' (omega arith) e q d j made,
    )

pub loop-n-init : goal.loop-n-init
unfolding board_ran_to board_cycles_to board_answers board_final board_packed_all
loop-n-init c = (
  refl,
  refl,
  refl,
  board_begins c.args.count c.power_on-u.result.registers c.requires.1 (ap (λ (u : Unit). u.registers) c.power_on-u.ensures),
)

pub loop-i-init : goal.loop-i-init
loop-i-init c =
    let l = c.loop-n in
    let n : ℕ = c.args.count in
    let b : BoardCycle = c.cycle_of-b.result in
    let here : c.loop-n.n < c.args.cycles = omega (arith, c.loop-n-test.true, length-take c.args.cycles c.as_chunks.result.0.now) in
    let read : b ≡ cycle_at c.args.records.now c.loop-n.n =
    c.cycle_of-b.ensures
    ∙ ap (λ (l : List (List ℕ)). board_cycle_at (get_or (take c.args.cycles l) c.loop-n.n []) 0) c.as_chunks.ensures.front
    ∙ record_shown c.args.records.now [] c.loop-n.n c.args.cycles here c.requires.3 in
    let j : Judged = c.plan-p.result.judged in
    let plan = planned c.args.records.now n l.n l.registers l.tables b c.plan-p.result.mask j l.invariant.3 read c.plan-p.ensures in
    let accepts = accepted_by (refuses j b.cycle.read) (refusal_in j) (sym (ap given c.in_default.is) ∙ c.refuses.ensures) in (
      l.invariant.0,
      l.invariant.1,
      rw (c.nothing-joint.ensures, div-one b.selects, div-one c.plan-p.result.mask)
          (stepping_begins l.registers l.tables n b.selects b.cycle c.plan-p.result.mask plan.off
          (accepted_board l.registers l.tables n b c.requires.0 c.requires.1 j plan.known accepts)),
    )

-- the unit of this turn is undamaged, and the cycle that it sees is in range
pub act-p-requires : goal.act-p-requires
act-p-requires c =
    let first = c.loop-n in
    let l = c.loop-i in
    let b : BoardCycle = c.cycle_of-b.result in
    let n : ℕ = c.args.count in
    let h =
    admitted_now (units_of first.registers first.tables n) n b.selects b.cycle l.registers l.tables l.joint l.i (b.selects / 2 ^ l.i) (c.plan-p.result.mask / 2 ^ l.i) l.invariant.2
    c.loop-i-test.true (units-length first.registers first.tables n) in
    (h.0, ap out_of_range c.seen_by-seen.ensures ∙ h.1)

pub loop-i-preserved : goal.loop-i-preserved
unfolding changed
loop-i-preserved c =
    let first = c.loop-n in
    let l = c.loop-i in
    let b : BoardCycle = c.cycle_of-b.result in
    let n : ℕ = c.args.count in
    let us : List Unit = units_of first.registers first.tables n in
    let here : l.i < n = c.loop-i-test.true in
    let long : length us ≡ n = units-length first.registers first.tables n in
    let place : (k : ℕ) → k % 64 < 64 = λ k. omega arith in
    let one = stepped-one us n b.selects b.cycle l.registers l.tables l.joint l.i (b.selects / 2 ^ l.i) (c.plan-p.result.mask / 2 ^ l.i) l.invariant here c.requires.1 long in
    elim c.if-on.branch [
      | then-on+in-Keep w ↦
          rw (w.tables-is, w.registers-is, ← select_next l.i b.selects, ← select_next l.i c.plan-p.result.mask, w.joint-is)
          (one w.seen_by-seen.result w.place_of.result w.act-p.result w.join-joint.result Keep l.tables
          w.seen_by-seen.ensures w.place_of.ensures (rw w.from-place.ensures at w.act-p.ensures) w.join-joint.ensures w.in-Keep.is (kept-changed l.tables l.i))
      | then-on+in-Put w ↦
          rw (w.tables-is, w.from-place.ensures, w.registers-is, ← select_next l.i b.selects, ← select_next l.i c.plan-p.result.mask, w.joint-is)
          (one w.seen_by-seen.result w.place_of.result w.act-p.result w.join-joint.result (Put w.in-Put.e) _
          w.seen_by-seen.ensures w.place_of.ensures (rw w.from-place.ensures at w.act-p.ensures) w.join-joint.ensures w.in-Put.is
          (stored_changed l.tables l.i (w.place_of.result % 64) w.in-Put.e (place w.place_of.result)))
      | then-on+in-Raise w ↦
          rw (w.tables-is, w.registers-is, ← select_next l.i b.selects, ← select_next l.i c.plan-p.result.mask, w.joint-is)
          (one w.seen_by-seen.result w.place_of.result w.act-p.result w.join-joint.result (Raise w.in-Raise.flags) w.raised-tables.result
          w.seen_by-seen.ensures w.place_of.ensures (rw w.from-place.ensures at w.act-p.ensures) w.join-joint.ensures w.in-Raise.is w.raised-tables.ensures)
      | else-on w ↦
          rw (w.tables-is, w.registers-is, ← select_next l.i b.selects, ← select_next l.i c.plan-p.result.mask, w.joint-is, w.pass_by-joint.ensures) (
            l.invariant.0,
            l.invariant.1,
            turn_off us n b.selects b.cycle l.registers l.tables l.joint l.i (b.selects / 2 ^ l.i) (c.plan-p.result.mask / 2 ^ l.i) l.invariant.2 here long
                (ne_eqb (c.plan-p.result.mask / 2 ^ l.i % 2) 1 w.if-on.false),
          )
    ]

pub loop-n-preserved : goal.loop-n-preserved
loop-n-preserved c =
    let t : List ℕ = c.args.records.now in
    let o : List ℕ = c.args.out.now in
    let n : ℕ = c.args.count in
    let l = c.loop-n in
    let b : BoardCycle = c.cycle_of-b.result in
    let here : c.loop-n.n < c.args.cycles = omega (arith, c.loop-n-test.true, length-take c.args.cycles c.as_chunks.result.0.now) in
    let read : b ≡ cycle_at c.args.records.now c.loop-n.n =
    c.cycle_of-b.ensures
    ∙ ap (λ (l : List (List ℕ)). board_cycle_at (get_or (take c.args.cycles l) c.loop-n.n []) 0) c.as_chunks.ensures.front
    ∙ record_shown c.args.records.now [] c.loop-n.n c.args.cycles here c.requires.3 in
    let j : Judged = c.plan-p.result.judged in
    let plan = planned t n l.n l.registers l.tables b c.plan-p.result.mask j l.invariant.3 read c.plan-p.ensures in
    elim c.match-refuses.branch [
      | in-Some w ↦
          let v : Verdict = w.in-Some.v in
          let why = refused_by (refuses j b.cycle.read) (by_number v) (refusal_in j) (sym (ap given w.in-Some.is) ∙ c.refuses.ensures) in
          let ends = refused_board l.registers l.tables n b c.requires.0 c.requires.1 j plan.known why.0 in
          let said : w.refused-a.result ≡ refusing (refusal_in j) (any_asks l.registers n) =
          w.refused-a.ensures
          ∙ ap (λ (r : Refusal). refusing r w.asks.result) why.1
          ∙ ap (λ (s : Bool). refusing (refusal_in j) s) w.asks.ensures in
          let made =
          turn_ends t o l.out w.put.new.out n l.n l.registers l.registers l.tables l.tables b w.refused-a.result
          l.invariant.2 l.invariant.3 read (said ∙ ends.0) ends.1 w.put.ensures in
          rw (w.out-is, w.tables-is, w.registers-is) (l.invariant.0, l.invariant.1, made.1, made.2)
      | in_default+else-loop-i-test w ↦
          let last = w.loop-i in
          let us : List Unit = units_of l.registers l.tables n in
          let accepts = accepted_by (refuses j b.cycle.read) (refusal_in j) (sym (ap given w.in_default.is) ∙ c.refuses.ensures) in
          let stepped =
          stepping_ends us n b.selects b.cycle last.registers last.tables last.joint last.i (b.selects / 2 ^ last.i) (c.plan-p.result.mask / 2 ^ last.i) last.invariant.2
          (omega (arith, w.loop-i-test.false)) (units-all l.registers l.tables n) in
          let ends =
          stepped_board l.registers l.tables n b c.requires.0 c.requires.1 j plan.known accepts
          last.registers last.tables last.joint stepped.0 stepped.1 in
          let made =
          turn_ends t o l.out w.put-in_default.new.out n l.n l.registers last.registers l.tables last.tables b w.told-a.result
          l.invariant.2 l.invariant.3 read (w.told-a.ensures ∙ ends.0) ends.1 w.put-in_default.ensures in
          rw (w.out-is, w.tables-is, w.registers-is) (last.invariant.0, last.invariant.1, made.1, made.2)
    ]
