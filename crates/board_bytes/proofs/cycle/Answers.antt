-- Three of its ends, and the number of a refusal. Assumes nothing.
use mathlib.Core.Path.{◌≡◌, sym, ap, ◌∙◌}
use mathlib.Core.Bool.{Bool, false}
use borrow.Author.Tests.{le-ltb}
use Rattle.std.proofs.Common.{◌*◌, ℕ, length}
use Rattle.rules.specs.Kinds.{number_of}
use Rattle.unit_bytes.specs.Snapshot.{unit_size}
use Rattle.board_rules.specs.Board.{Refusal, refusing}
use Rattle.board_rules.specs.declared.BoardAnswer.{BoardAnswer}
use Rattle.board_rules.specs.declared.BoardCycle.{BoardCycle}
use Rattle.theorems_boards.proofs.Numbers.{good_count}
use Rattle.board_refusals.specs.Judged.{by_number, given, refuses, refusal_in}
use Rattle.board_refusals.specs.declared.Judged.{Judged}
use Rattle.board_refusals.specs.declared.Verdict.{Verdict}
use Rattle.board_refusals.proofs.Laws.{refused_by, accepted_by}
use Rattle.board_packed.specs.BoardPacked.{board_width}
use Rattle.board_bytes.specs.Boarded.{board_in}
use Rattle.board_bytes.proofs.Ends.{wrong_end, cycle_end, refused_ends, refused_numbers, stepped_ends, stepped_number}
use Rattle.board_bytes.proofs.cycle.Goals as goal

-- the number of a refusal's answer
refusing_number : {a : BoardAnswer} (r : Refusal) (trap : Bool) → a ≡ refusing r trap → r.number ≡ number_of a.answer.kind
refusing_number r trap e = sym (ap (λ (x : BoardAnswer). number_of x.answer.kind) e)

pub returns-then-count : goal.returns-then-count
returns-then-count c =
    let start = c.args in
    let said = c.refused-a.ensures ∙ ap (λ (n : ℕ). refusing (record { number = n; named = _ }) false) c.into.ensures in
    wrong_end (record { cycle = start.c; selects = start.selects }) start.count start.units.now start.answer.now
    c.refused-a.result (le-ltb (length start.answer.now) board_width c.if-answer-lt-BYTES.false) c.if-count.true said
    (refusing_number _ false said) c.put.ensures

-- the verdict's number is one of a board's
pub refusal_of-reason-requires : goal.refusal_of-reason-requires
refusal_of-reason-requires c =
    let start = c.args in
    let b : BoardCycle = record { cycle = start.c; selects = start.selects } in
    let j : Judged = c.judge_all-j.result in
    let v : Verdict = c.in-Some.v in
    let why = refused_by (refuses j start.c.read) (by_number v) (refusal_in j) (sym (ap given c.in-Some.is) ∙ c.refuses.ensures) in
    rw (ap (λ (r : Refusal). r.number) why.1) (refused_numbers start.units.now start.count b j c.judge_all-j.ensures)

pub returns-in-Some : goal.returns-in-Some
returns-in-Some c =
    let start = c.args in
    let b : BoardCycle = record { cycle = start.c; selects = start.selects } in
    let j : Judged = c.judge_all-j.result in
    let v : Verdict = c.in-Some.v in
    let why = refused_by (refuses j start.c.read) (by_number v) (refusal_in j) (sym (ap given c.in-Some.is) ∙ c.refuses.ensures) in
    let said : c.refused-a-in-Some.result ≡ refusing (by_number v) j.stood = c.refused-a-in-Some.ensures in
    let ends = refused_ends start.units.now start.count b j c.judge_all-j.ensures c.refused-a-in-Some.result why.0
    (said ∙ ap (λ (r : Refusal). refusing r j.stood) why.1) in
    cycle_end b start.count start.units.now start.answer.now
    c.refused-a-in-Some.result (le-ltb (length start.answer.now) board_width c.if-answer-lt-BYTES.false) c.if-count.false
    (le-ltb (length start.units.now) (unit_size * start.count) c.if-units-count.false)
    ends.0 ends.1 (c.refusal_of-reason.ensures ∙ refusing_number _ j.stood said) c.put-in-Some.ensures

pub returns : goal.returns
returns c =
    let start = c.args in
    let b : BoardCycle = record { cycle = start.c; selects = start.selects } in
    let j : Judged = c.judge_all-j.result in
    let accepts = accepted_by (refuses j start.c.read) (refusal_in j) (sym (ap given c.in_default.is) ∙ c.refuses.ensures) in
    let ends = stepped_ends start.units.now start.count b j c.judge_all-j.ensures c.told.result c.step_all-joint.new.units c.step_all-joint.result
    accepts ((good_count (board_in start.units.now start.count)).0 c.if-count.false).0 c.told.ensures c.step_all-joint.ensures.0 c.step_all-joint.ensures.1 in
    cycle_end b start.count start.units.now start.answer.now
    c.told.result (le-ltb (length start.answer.now) board_width c.if-answer-lt-BYTES.false) c.if-count.false
    (le-ltb (length start.units.now) (unit_size * start.count) c.if-units-count.false)
    ends.0 ends.1 (stepped_number start.units.now start.count b j c.judge_all-j.ensures c.told.result accepts ends.0) c.put-2.ensures
