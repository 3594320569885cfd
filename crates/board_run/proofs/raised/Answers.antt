-- The loop of `raised`: at its start, one descriptor more, and its end. Assumes nothing.
use mathlib.Core.Path.{◌≡◌, ap, subst, ◌∙◌}
use Rattle.std.proofs.Common.{ℕ, ◌+◌, ◌*◌, ◌-◌, List, length, map, take, drop, add-one, arith}
use borrow.Rule.Slice.PartMut.{put_mid}
use Rattle.rules.specs.PowerOn.{blank}
use Rattle.rules.specs.Step.{with_flags}
use Rattle.rules.specs.declared.Descriptor.{Descriptor}
use Rattle.unit_step.proofs.Prefix.{up_to_suc, up_to_all}
use Rattle.board_run.specs.Plan.{table_of, Changed}
use Rattle.board_run.proofs.Flat.{table_long, put_changed}
use Rattle.board_run.proofs.raised.Goals as goal

-- as many descriptors are cut out as a table has
whole : (i : ℕ) → 64 * i + 64 - 64 * i ≡ 64
whole i = omega arith

pub loop-d-init : goal.loop-d-init
loop-d-init c = ap (λ (k : ℕ). take k (drop (64 * c.args.i) c.args.tables)) (whole c.args.i)

pub loop-d-preserved : goal.loop-d-preserved
loop-d-preserved c =
    let long = table_long c.args.tables c.args.i (omega arith) in
    let cut : length (take (64 * c.args.i + 64 - 64 * c.args.i) (drop (64 * c.args.i) c.args.tables)) ≡ 64 =
    ap (λ (k : ℕ). length (take k (drop (64 * c.args.i) c.args.tables))) (whole c.args.i) ∙ long in
    simp (c.with_flags.ensures, c.loop-d.invariant, add-one)
    (up_to_suc (with_flags c.args.mask) c.loop-d.d-index (table_of c.args.tables c.args.i) blank (omega (arith, long, cut, c.loop-d-test.true)))

pub returns : goal.returns
returns c =
    let start = c.args in
    let long = table_long start.tables start.i (omega arith) in
    let cut : length (take (64 * start.i + 64 - 64 * start.i) (drop (64 * start.i) start.tables)) ≡ 64 =
    ap (λ (k : ℕ). length (take k (drop (64 * start.i) start.tables))) (whole start.i) ∙ long in
    let all : c.loop-d.d-items ≡ map (with_flags start.mask) (table_of start.tables start.i) =
    c.loop-d.invariant ∙ up_to_all (with_flags start.mask) c.loop-d.d-index (table_of start.tables start.i) (omega (arith, long, cut, c.loop-d-test.false)) in
    subst (λ (t : List Descriptor). Changed start.i t start.tables (put_mid (64 * start.i) (64 * start.i + 64 - 64 * start.i) start.tables c.loop-d.d-items)) all
    (put_changed start.tables c.loop-d.d-items start.i (omega arith) (c.loop-d.auto.d-items ∙ cut))
