-- What is left to put after a turn and at the end. Assumes nothing.
use Rattle.std.proofs.Common.{◌≡◌, ◌∙◌, length, arith, rules}
use Rattle.unit_packed.specs.Packed.{width}
use Rattle.unit_stores.proofs.Laws.{after-all}
use Rattle.text.proofs.Turns.{turn, enough_left, at_end}
use Rattle.text.proofs.numbers.Line.put_lines.Goals as goal

pub loop-n-preserved : goal.loop-n-preserved
loop-n-preserved c =
    let before = c.loop-n.invariant in
    let taken = c.in-Some.ensures.steps in
    let counted = taken.0 in
    let cut = counted.0 in
    let size : length c.in-Some.answer.now ≡ width = search rules in
    let line = rw (counted.1) at c.put_line.ensures.put in
    let left = turn c.loop-n.n-iterator.iter.count _ _ _ _ _ taken.1 cut.1.0 size before.6 line in (
      cut.0 ∙ before.0,
      omega (arith, before.1, counted.2, taken.1),
      enough_left c.loop-n.n-iterator.iter.count _ _ _ _ _ taken.1 cut.1.0 size before.2,
      omega (arith, before.3, c.put_line.ensures.within, taken.1),
      c.put_line.ensures.long ∙ before.4,
      c.put_line.ensures.same ∙ before.5,
      rw (counted.2) left,
    )

pub returns : goal.returns
returns c =
    let before = c.loop-n.invariant in
    let rest = c.loop-n.n-iterator in
    let none = at_end rest.iter.count rest.n rest.iter.iter.rest.now before.2 (λ more. (c.in-None.ensures.steps more).0.1.0) in
    record {
      put = after-all (rw none at before.6);
      within = omega (arith, before.3);
      long = before.4;
      same = before.5;
    }
