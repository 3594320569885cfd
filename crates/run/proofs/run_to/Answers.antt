-- The loop of `run_to`: at its start, and one record more. Assumes nothing.
use mathlib.Core.Path.{◌≡◌, refl, sym, ap, subst, ◌∙◌}
use mathlib.Core.List.{List, []}
use Prim.Native.Nat.{ℕ, ◌-◌, ◌/◌, ◌%◌, ◌<◌}
use lib.ListN.{length, get_or, take, drop}
use Rattle.rules.specs.PowerOn.{blank}
use Rattle.rules.specs.Runs.{answers, final}
use Rattle.rules.specs.Step.{decided, place_of, changed, place, decision}
use Rattle.rules.specs.declared.Change.{Change}
use Rattle.rules.specs.declared.Cycle.{Cycle}
use Rattle.rules.specs.declared.Decision.{Decision}
use Rattle.rules.specs.declared.Descriptor.{Descriptor}
use Rattle.rules.specs.declared.Unit.{Unit}
use Rattle.trace_records.specs.Trace.{cycle_of, cycles_to}
use Rattle.unit_packed.specs.Packed.{packed_all}
use Rattle.run.specs.Run.{ran_to}
use Rattle.run.proofs.Turns.{cycle_at, record_shown, unit_turned, answer_stored}
use Rattle.run.proofs.run_to.Goals as goal
use Rattle.run.proofs.run_to.Goals.{in-Keep, in-Put, in-Raise}

pub loop-n-init : goal.loop-n-init
unfolding ran_to cycles_to answers final packed_all
loop-n-init c = (refl, c.power_on-u.ensures)

pub loop-n-preserved : goal.loop-n-preserved
unfolding decision changed
loop-n-preserved c =
    let t : List ℕ = c.args.trace.now in
    let n : ℕ = c.loop-n.n in
    -- the unit as the turn begins, what is decided, and the cycle of this turn's record
    let was : Unit = record { table = c.loop-n.table; registers = c.loop-n.r } in
    let acted : Decision = c.act-p.result in
    let x : Cycle = cycle_at t n in
    let decoded : c.decode-c.result ≡ x =
    c.decode-c.ensures ∙ ap (λ (rs : List (List ℕ)). cycle_of (get_or rs n [])) c.as_chunks.ensures.front
    ∙ ap cycle_of (record_shown t [] n (length (take (length t - 7) (drop 7 t)) / 4)
    (subst (λ (k : ℕ). n < k) c.as_chunks.ensures.front_len c.loop-n-test.true)) in
    let here : c.from-i.result ≡ place was x =
    c.from-i.ensures ∙ ap (λ (k : ℕ). k % 64) (c.place_of.ensures ∙ ap (place_of c.loop-n.r) decoded) in
    let decides : acted ≡ decision was x =
    c.act-p.ensures
    ∙ ap (λ (k : ℕ). decided c.loop-n.r (get_or c.loop-n.table k blank) c.decode-c.result) here
    ∙ ap (λ (y : Cycle). decided c.loop-n.r (get_or c.loop-n.table (place was x) blank) y) decoded in
    let f : Change → List Descriptor = λ (h : Change). changed h c.from-i.result c.loop-n.table in
    let after : c.match-p.table ≡ changed acted.change c.from-i.result c.loop-n.table =
    elim c.match-p.branch [
      | in-Keep w ↦ w.table-is ∙ sym (ap f w.in-Keep.is)
      | in-Put w ↦ w.table-is ∙ sym (ap f w.in-Put.is)
      | in-Raise w ↦ w.table-is ∙ w.with_flags_in_all-table.ensures ∙ sym (ap f w.in-Raise.is)
    ] in (
      c.put.ensures ∙ answer_stored t c.args.out.now c.loop-n.out n was acted c.loop-n.invariant.0 c.loop-n.invariant.1 decides,
      unit_turned t n was acted c.match-p.table c.loop-n.invariant.1 decides
          (after ∙ ap (λ (k : ℕ). changed acted.change k c.loop-n.table) here),
    )
