-- The loop of `driving`: at its start, and a unit more. Assumes nothing.
use mathlib.Core.Path.{◌≡◌, subst}
use mathlib.Core.Bool.{Bool, ◌&&◌, ◌||◌}
use Rattle.std.proofs.Common.{ℕ, ◌≡◌, ◌+◌, ◌*◌, ◌-◌, suc, List, length, take, drop, ◌∷◌, arith, rules}
use lib.ListN.{get_or, take-append-drop}
use lib.Seq.{length-take-le}
use lib.Pow.{pow_pos}
use mir.Val.{bool_byte}
use Rattle.rules.specs.PowerOn.{power_on}
use Rattle.rules.specs.declared.Registers.{Registers}
use Rattle.theorems_boards.specs.Numbers.{may_drive}
use Rattle.board_run.specs.Plan.{DrivingFrom}
use Rattle.board_run.proofs.Back.{shorter, one_fewer, last_is, lower, mask_bound, driving_none, driving_turn}
use Rattle.board_run.proofs.driving.Goals as goal

pub loop-r-init : goal.loop-r-init
loop-r-init c =
    let start = c.args in
    let all : c.into_iter-r-iterator.result.iter.rest.now ≡ take start.count start.registers = search rules in
    let long : length (take start.count start.registers) ≡ start.count = length-take-le start.count start.registers (omega arith) in
    let none : start.count - start.count ≡ 0 = omega arith in
    rw (all, long, none) (
      (drop start.count start.registers, take-append-drop start.count start.registers),
      omega arith,
      pow_pos (16 - start.count),
      driving_none start.registers start.count 0 start.c,
    )

pub loop-r-preserved : goal.loop-r-preserved
loop-r-preserved c =
    let start = c.args in
    let l = c.loop-r in
    let rs : List Registers = start.registers in
    let front : List Registers = c.next.new.self.iter.rest.now in
    let k : ℕ = length front in
    let n : ℕ = length l.r-iterator.iter.rest.now in
    let behind = l.invariant.0 in
    let fewer : n ≡ suc k = one_fewer rs _ front behind.0 c.in-Some.r.now c.in-Some.ensures.steps behind.1 in
    let r : Registers = get_or rs k power_on.registers in
    let drive : Bool = may_drive r.control.mr start.c in
    let on : Bool = drive || (r.notes.awaits || (r.notes.own || r.notes.hold)) in
    let last = last_is rs _ front behind.0 c.in-Some.r.now c.in-Some.ensures.steps behind.1 in (
      (c.in-Some.r.now ∷ behind.0, shorter rs _ front behind.0 c.in-Some.r.now c.in-Some.ensures.steps behind.1),
      omega (arith, fewer, l.invariant.1),
      mask_bound k n l.mask c.bit.result fewer (omega arith) c.bit.ensures.1 l.invariant.2,
      rw (c.bit.ensures.0, c.may_drive-drive.ensures, last)
          (lower (λ m. DrivingFrom rs k m start.c (l.mask * 2 + bool_byte on) (drive || l.drives) (l.clash || (drive && l.drives))) k n start.count fewer l.invariant.1
          (driving_turn rs k (start.count - n) start.c l.mask l.drives l.clash
          (subst (λ m. DrivingFrom rs m (start.count - n) start.c l.mask l.drives l.clash) fewer l.invariant.3))),
    )

pub returns : goal.returns
returns c =
    let left : length c.loop-r.r-iterator.iter.rest.now ≡ 0 = c.in-None.ensures.steps.0 in
    let all : c.args.count - 0 ≡ c.args.count = omega arith in
    rw all at rw left at c.loop-r.invariant.3
