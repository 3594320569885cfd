-- The loop of `asks`: one unit more. Assumes nothing.
use mathlib.Core.Path.{◌≡◌, sym, ap, ◌∙◌}
use mathlib.Core.Bool.{Bool, ◌||◌, or_assoc}
use Rattle.std.proofs.Common.{ℕ, List, suc, ◌+◌, ◌-◌, ◌<◌, add-one, arith}
use lib.ListN.{get_or, length-take}
use lib.Seq.{get_or-take}
use Rattle.rules.specs.PowerOn.{power_on}
use Rattle.rules.specs.declared.Registers.{Registers}
use Rattle.board_run.specs.Plan.{asks_from}
use Rattle.board_run.proofs.asks.Goals as goal

asks_turn : (rs : List Registers) (i n : ℕ) (t : Bool)
    → ((t || (get_or rs i power_on.registers).notes.request) || asks_from rs (suc i) n) ≡ (t || asks_from rs i (suc n))
unfolding asks_from
asks_turn rs i n t = or_assoc t (get_or rs i power_on.registers).notes.request (asks_from rs (suc i) n)

pub loop-r-preserved : goal.loop-r-preserved
loop-r-preserved c =
    let start = c.args in
    let l = c.loop-r in
    let here : l.r-index < start.count = omega (arith, c.loop-r-test.true, length-take start.count start.registers) in
    let fewer : start.count - l.r-index ≡ suc (start.count - (l.r-index + 1)) = omega (arith, here) in
    ap (λ (r : Registers). (l.trap || r.notes.request) || asks_from start.registers (l.r-index + 1) (start.count - (l.r-index + 1)))
    (get_or-take start.count start.registers l.r-index power_on.registers here)
    ∙ ap (λ (k : ℕ). (l.trap || (get_or start.registers l.r-index power_on.registers).notes.request) || asks_from start.registers k (start.count - (l.r-index + 1))) (add-one l.r-index)
    ∙ asks_turn start.registers l.r-index (start.count - (l.r-index + 1)) l.trap
    ∙ ap (λ (k : ℕ). l.trap || asks_from start.registers l.r-index k) (sym fewer)
    ∙ l.invariant
