-- The loop of `step_all`: at its start, after a unit, and at its end. Assumes nothing.
use mathlib.Core.Path.{◌≡◌, sym, ap, ◌∙◌}
use Rattle.std.proofs.Common.{ℕ, ◌+◌, ◌*◌, ◌-◌, ◌/◌, ◌%◌, ◌^◌, ◌≤◌, List, [], map, length, take, drop, arith}
use native.Mathlib.Nat.{div-one}
use lib.Dec.{eqb}
use Rattle.rules.specs.Step.{stepped}
use Rattle.rules.specs.declared.Answer.{Answer}
use Rattle.rules.specs.declared.Cycle.{Cycle}
use Rattle.unit_bytes.specs.InPlace.{decided_in, in_place}
use Rattle.unit_bytes.specs.Snapshot.{unit_size, unit_in}
use Rattle.unit_bytes.proofs.InPlace.{in_place_answers}
use Rattle.board_rules.specs.Board.{seated, seen_by, answer_of}
use Rattle.board_rules.proofs.Ahead.{select_next}
use Rattle.board_answers.specs.Joint.{nothing, joining, ahead}
use Rattle.board_answers.specs.declared.Joint.{Joint}
use Rattle.board_bytes.specs.Boarded.{parts_in, part_at}
use Rattle.board_bytes.proofs.Turns.{rest, cut_is, rest_all, rest_none, join_turn}
use Rattle.board_bytes.proofs.Turns.{nearly, nearly_all, nearly_none, nearly_turn, put, put-drop, done, done_long}
use Rattle.board_bytes.proofs.step_all.Goals as goal

pub loop-i-init : goal.loop-i-init
loop-i-init c =
    let start = c.args in
    let units : List ℕ = start.units.now in
    let selects : ℕ = start.c.selects in (
      ap (λ (k : ℕ). ahead c.nothing-joint.result 0 (map (answer_of start.c.cycle) (seated (map unit_in (rest units start.count 0)) k))) (div-one selects)
          ∙ ap (λ (t : Joint). ahead t 0 (map (answer_of start.c.cycle) (seated (map unit_in (rest units start.count 0)) selects))) c.nothing-joint.ensures
          ∙ ap (λ (ps : List (List ℕ)). ahead nothing 0 (map (answer_of start.c.cycle) (seated (map unit_in ps) selects))) (rest_all units start.count),
      ap (λ (k : ℕ). nearly start.c.cycle start.count 0 k units) (div-one selects) ∙ nearly_all start.c.cycle start.count selects units,
    )

pub loop-i-preserved : goal.loop-i-preserved
loop-i-preserved c =
    let start = c.args in
    let l = c.loop-i in
    let units : List ℕ = l.units in
    let left : ℕ = start.c.selects / 2 ^ l.i in
    let next : left / 2 ≡ start.c.selects / 2 ^ (l.i + 1) = select_next l.i start.c.selects in
    let seen : Cycle = seen_by (eqb (left % 2) 1) start.c.cycle in
    let room : unit_size * (l.i + 1) ≤ length units = omega arith in
    let y : List ℕ = c.stepped-x.new.unit in
    let made : y ≡ done units l.i left start.c.cycle =
    c.stepped-x.ensures.1
    ∙ ap (λ (s : Cycle). in_place (take (unit_size * l.i + unit_size - unit_size * l.i) (drop (unit_size * l.i) units)) s) c.seen_by.ensures
    ∙ ap (λ (p : List ℕ). in_place p seen) (cut_is units l.i) in
    let said : c.stepped-x.result ≡ (stepped (unit_in (part_at units l.i)) seen).answer =
    c.stepped-x.ensures.0
    ∙ ap (λ (s : Cycle). (decided_in (take (unit_size * l.i + unit_size - unit_size * l.i) (drop (unit_size * l.i) units)) s).answer) c.seen_by.ensures
    ∙ ap (λ (p : List ℕ). (decided_in p seen).answer) (cut_is units l.i)
    ∙ in_place_answers (part_at units l.i) seen in
    let wide : length y ≡ unit_size = ap length made ∙ done_long units l.i left start.c.cycle room in (
      ap (λ (k : ℕ). ahead c.join-joint.result (l.i + 1) (map (answer_of start.c.cycle) (seated (map unit_in (rest (put units y l.i) start.count (l.i + 1))) k))) (sym next)
          ∙ ap (λ (m : List ℕ). ahead c.join-joint.result (l.i + 1) (map (answer_of start.c.cycle) (seated (map unit_in (parts_in m (start.count - (l.i + 1)))) (left / 2))))
          (put-drop units y l.i room wide)
          ∙ ap (λ (t : Joint). ahead t (l.i + 1) (map (answer_of start.c.cycle) (seated (map unit_in (rest units start.count (l.i + 1))) (left / 2))))
          (c.join-joint.ensures ∙ ap (λ (x : Answer). joining l.joint l.i x) said)
          ∙ join_turn units start.count l.i left start.c.cycle (omega arith) l.joint
          ∙ l.invariant.0,
      ap (λ (k : ℕ). nearly start.c.cycle start.count (l.i + 1) k (put units y l.i)) (sym next)
          ∙ ap (λ (p : List ℕ). nearly start.c.cycle start.count (l.i + 1) (left / 2) (put units p l.i)) made
          ∙ nearly_turn units l.i left start.c.cycle room start.count (omega arith)
          ∙ l.invariant.1,
    )

pub returns : goal.returns
unfolding seated
returns c =
    let start = c.args in
    let l = c.loop-i in
    let left : ℕ = start.c.selects / 2 ^ l.i in
    let all : l.i ≡ start.count = omega arith in (
      sym (nearly_none start.c.cycle start.count l.i left l.units all) ∙ l.invariant.1,
      ap (λ (k : ℕ). ahead l.joint k []) (sym all)
          ∙ ap (λ (ps : List (List ℕ)). ahead l.joint l.i (map (answer_of start.c.cycle) (seated (map unit_in ps) left)))
          (sym (rest_none l.units start.count l.i all))
          ∙ l.invariant.0,
    )
