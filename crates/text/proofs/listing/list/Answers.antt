-- The head and the lines of the packed answers, one after the other; and the line of a refusal. Assumes nothing.
use mathlib.Core.Path.{◌≡◌, sym, ap, ◌∙◌}
use Rattle.std.proofs.Common.{ℕ, ◌≤◌, List, arith, rules}
use Rattle.rules.proofs.Numbers.{refusal_says_no}
use Rattle.rules.specs.Numbers.{number_of_outcome, refusal_number}
use Rattle.trace_header.specs.Header.{format1, refusal_of}
use Rattle.unit_stores.proofs.Laws.{then}
use Rattle.trace_records.specs.Trace.{given_of}
use Rattle.run.proofs.Ends.{fits, with_room}
use Rattle.text.proofs.Whole.{taken_text, printed-refused, all-put}
use Rattle.text.proofs.listing.list.Goals as goal

pub returns-clause-listed : goal.returns-clause-listed
returns-clause-listed c =
    let t : List ℕ = c.args.trace.now in
    let came = with_room c.run.ensures (omega (arith, c.zeros-packed.ensures)) in
    let none : refusal_of t ≡ 0 = sym came.0 ∙ ap number_of_outcome c.in_default.is in
    let few : given_of t ≤ format1.most = (fits t none).0 in
    let text = then c.put_head.ensures.put c.put_lines.ensures.put in
    let whole =
    taken_text t c.zeros-packed.result c.run.new.out c.count-count.result none c.count-count.ensures (came.1 none)
    (omega (arith, few, c.count-count.ensures, c.zeros-packed.ensures)) in
    (all-put t c.args.out.now c.if-out-lt-ROOM.false (omega (arith, few, c.count-count.ensures)) (search (rules, rw whole at text))).0

pub returns-in-Err-clause-listed : goal.returns-in-Err-clause-listed
returns-in-Err-clause-listed c =
    let t : List ℕ = c.args.trace.now in
    let came = with_room c.run.ensures (omega (arith, c.zeros-packed.ensures)) in
    let said : refusal_number c.in-Err.refusal ≡ refusal_of t = sym (ap number_of_outcome c.in-Err.is) ∙ came.0 in
    let some : refusal_of t ≡ 0 → ⊥ = λ (e : refusal_of t ≡ 0). refusal_says_no c.in-Err.refusal (said ∙ e) in
    (all-put t c.args.out.now c.if-out-lt-ROOM.false (omega arith)
    (rw (printed-refused t some, ← said, ← c.into.ensures) (search rules))).0
