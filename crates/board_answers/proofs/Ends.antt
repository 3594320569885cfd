-- The two ends of a board's cycle, its count being good: it refuses, or all units are stepped and their answers joined.
-- Assumes nothing.
use mathlib.Core.Path.{◌≡◌, sym, ◌∙◌, ap}
use mathlib.Core.Bool.{Bool, true, false, cond}
use mathlib.Core.List.{List, [], ◌∷◌, map}
use mathlib.Core.Option.{Option, none, some}
use Prim.Native.Nat.{ℕ, ◌<◌}
use native.Mathlib.Nat.{not-suc-le-zero}
use lib.ListN.{length}
use Rattle.rules.specs.declared.Cycle.{Cycle}
use Rattle.board_rules.specs.Board.{Seat, answer_of, afterwards, unit_of, some_of, Refusal, verdict, refusing, answer_by, units_by, joined}
use Rattle.board_rules.specs.Board.{seats_answer, seats_after}
use Rattle.theorems_runs.specs.Sequences.{Every}
use Rattle.theorems_boards.specs.Numbers.{seat_commanded}
use Rattle.theorems_boards.proofs.Forms.{Accepted}
use Rattle.theorems_boards.proofs.Numbers.{verdict_none}
use Rattle.board_refusals.specs.Judged.{refuses, refusal_in}
use Rattle.board_refusals.specs.declared.Judged.{Judged}
use Rattle.board_refusals.proofs.Laws.{Known, verdict_known}
use Rattle.board_answers.specs.Joint.{nothing, told, ahead}
use Rattle.board_answers.specs.declared.Joint.{Joint}
use Rattle.board_answers.proofs.Laws.{told_is}

module _ (j : Judged) (c : Cycle) (ss : List Seat) (k : Known j c ss) where
  pub verdict_by_lem : (b : Bool) → refuses j c.read ≡ b → verdict c ss ≡ cond b (some (refusal_in j)) none
  verdict_by_lem b e = verdict_known j c ss k ∙ ap (λ (t : Bool). cond t (some (refusal_in j)) none) e

  -- it refuses
  pub refused-answer : refuses j c.read ≡ true → refusing (refusal_in j) j.stood ≡ seats_answer c ss
  unfolding seats_answer
  refused-answer e =
      ap (λ (t : Bool). refusing (refusal_in j) t) k.stood ∙ sym (ap (λ (v : Option Refusal). answer_by v c ss) (verdict_by_lem true e))

  pub refused-units : refuses j c.read ≡ true → seats_after c ss ≡ map unit_of ss
  unfolding seats_after
  refused-units e = ap (λ (v : Option Refusal). units_by v c ss) (verdict_by_lem true e)

  -- it does not
  pub stepped-units : refuses j c.read ≡ false → seats_after c ss ≡ map (afterwards c) ss
  unfolding seats_after
  stepped-units e = ap (λ (v : Option Refusal). units_by v c ss) (verdict_by_lem false e)

  pub stepped-answer : refuses j c.read ≡ false → 0 < length ss → (t : Joint) (i : ℕ)
      → ahead t i [] ≡ ahead nothing 0 (map (answer_of c) ss) → told t c j.command ≡ seats_answer c ss
  unfolding seats_answer
  stepped-answer e some-unit t i h =
      go ss some-unit (verdict_none c ss (verdict_by_lem false e)) h k.command ∙ sym (ap (λ (v : Option Refusal). answer_by v c ss) (verdict_by_lem false e))
    where
      go : (zs : List Seat) → 0 < length zs → Every (λ z. Accepted (answer_of c z)) zs → ahead t i [] ≡ ahead nothing 0 (map (answer_of c) zs)
          → j.command ≡ some_of (seat_commanded c) zs → told t c j.command ≡ joined (map (answer_of c) zs)
      go [] n a h q = absurd (not-suc-le-zero n)
      go (z ∷ zs) n a h q = told_is c z zs a t i j.command h q
