-- A board of one unit is the unit.
-- Assumes nothing.
use mathlib.Core.Path.{◌≡◌, refl, sym, ◌∙◌, ap}
use mathlib.Core.Bool.{Bool, true, false, cond, and-false, or-false, or-true}
use mathlib.Core.List.{List, [], ◌∷◌}
use mathlib.Core.Option.{Option, none, some}
use Prim.Native.Nat.{ℕ, ◌%◌}
use native.Mathlib.Omega.{arith}
use lib.Dec.{eqb}
use Rattle.std.specs.Prelude.{Some}
use Rattle.rules.specs.Kinds.{number_in}
use Rattle.rules.specs.Runs.{answers, final}
use Rattle.rules.specs.Step.{stepped}
use Rattle.rules.specs.declared.Answer.{Answer}
use Rattle.rules.specs.declared.Cycle.{Cycle}
use Rattle.rules.specs.declared.Kind.{Kind}
use Rattle.rules.specs.declared.Kind.TheVariants.{Reset, Acknowledge, Command, Aborted, Translated, Passed, Ignored, Refused}
use Rattle.rules.specs.declared.Unit.{Unit}
use Rattle.theorems_runs.specs.Refusal.{AsItStood}
use Rattle.theorems_runs.proofs.Refusal.{refusal-leaves}
use Rattle.board_rules.specs.Board.{Seat, seated, seen_by, some_of, two_of, answer_of, afterwards, own_from, verdict}
use Rattle.board_rules.specs.Board.{on_lines, is_kind, driver_from, joined, seats_answer, seats_after, board_answer, board_after, board_answers, board_final}
use Rattle.board_rules.specs.declared.BoardCycle.{BoardCycle}
use Rattle.theorems_boards.specs.Seats.{cycle_at}
use Rattle.theorems_boards.specs.Alone.{board_of_one, as_boards, OneIsTheUnit}
use Rattle.theorems_boards.proofs.Forms.{accepted_form}
use Rattle.theorems_boards.proofs.Lists.{select_first}

pub refused_kind : (k : Kind) (n : ℕ) → number_in k ≡ some n → k ≡ Refused n
refused_kind Reset n e = let z : ◌≡◌ {A = ℕ} 0 1 = cc in absurd (omega arith)
refused_kind Acknowledge n e = let z : ◌≡◌ {A = ℕ} 0 1 = cc in absurd (omega arith)
refused_kind Command n e = let z : ◌≡◌ {A = ℕ} 0 1 = cc in absurd (omega arith)
refused_kind Aborted n e = let z : ◌≡◌ {A = ℕ} 0 1 = cc in absurd (omega arith)
refused_kind Translated n e = let z : ◌≡◌ {A = ℕ} 0 1 = cc in absurd (omega arith)
refused_kind Passed n e = let z : ◌≡◌ {A = ℕ} 0 1 = cc in absurd (omega arith)
refused_kind Ignored n e = let z : ◌≡◌ {A = ℕ} 0 1 = cc in absurd (omega arith)
refused_kind (Refused m) n e = cc

same_answer : (x y : Answer) → x.kind ≡ y.kind → x.address ≡ y.address → x.sup ≡ y.sup → x.trap ≡ y.trap → x.drives ≡ y.drives
    → x.byte ≡ y.byte → x.distance ≡ y.distance → x ≡ y
same_answer x y k l s t d b n = rw (k, l, s, t, d, b, n)

-- one is never two
alone_not_two : {A : Type 0} (p : A → Bool) (x : A) → two_of p (x ∷ []) ≡ false
unfolding two_of some_of
alone_not_two p x = go (p x)
  where
    go : (t : Bool) → cond t false false ≡ false
    go true = refl
    go false = refl

module _ (c : Cycle) (s : Seat) where
  verdict-accepted : number_in (answer_of c s).kind ≡ none → verdict c (s ∷ []) ≡ none
  unfolding verdict own_from
  verdict-accepted e = rw (e, alone_not_two on_lines (answer_of c s), alone_not_two (is_kind Command) (answer_of c s), and-false c.read)

  verdict-refused : (n : ℕ) → number_in (answer_of c s).kind ≡ some n → verdict c (s ∷ []) ≡ some (record { number = n; named = Some 0 })
  unfolding verdict own_from
  verdict-refused n e = rw e

  joined-named : number_in (answer_of c s).kind ≡ none → joined (answer_of c s ∷ []) ≡ as_boards (answer_of c s)
  unfolding driver_from joined
  joined-named e = rw ((accepted_form s.unit (seen_by s.select c) e).one, e, or-false (on_lines (answer_of c s)))

  seat_one : (o : Option ℕ) → number_in (answer_of c s).kind ≡ o
      → (seats_answer c (s ∷ []) ≡ as_boards (answer_of c s)) × (seats_after c (s ∷ []) ≡ afterwards c s ∷ [])
  unfolding seats_answer seats_after some_of
  seat_one none e = (rw (verdict-accepted e) (joined-named e), rw (verdict-accepted e))
  seat_one (some n) e =
      let k : (answer_of c s).kind ≡ Refused n = refused_kind _ n e in
      let h : AsItStood s.unit (stepped s.unit (seen_by s.select c)) = refusal-leaves s.unit (seen_by s.select c) n k in (
        rw (verdict-refused n e, e, or-true (on_lines (answer_of c s)))
            (ap (λ (x : Answer). record { answer = x; named = Some 0 })
            (same_answer _ (answer_of c s) (sym k) (sym h.address) (sym h.sup) (or-false _ ∙ sym h.trap) (sym h.drives) (sym h.byte)
            (sym h.distance))),
        rw (verdict-refused n e, h.unit),
      )

module _ (u : Unit) (us : List Unit) (c : BoardCycle) where
  at_one : (seats_answer c.cycle (seated (u ∷ []) c.selects) ≡ as_boards (stepped u (cycle_at 0 c)).answer)
      × (seats_after c.cycle (seated (u ∷ []) c.selects) ≡ (stepped u (cycle_at 0 c)).unit ∷ [])
  unfolding seated
  at_one =
      let s : Seat = record { unit = u; select = eqb (c.selects % 2) 1 } in
      rw (select_first c.selects) (seat_one c.cycle s (number_in (answer_of c.cycle s).kind) refl)

  pub one_answer : board_answer (board_of_one u us) c ≡ as_boards (stepped u (cycle_at 0 c)).answer
  unfolding board_answer
  one_answer = at_one.0

  pub one-after : board_after (board_of_one u us) c ≡ board_of_one (stepped u (cycle_at 0 c)).unit us
  unfolding board_after
  one-after = rw at_one.1

pub one_is_the_unit : OneIsTheUnit
unfolding board_answers board_final answers final
one_is_the_unit u us [] = (refl, refl)
one_is_the_unit u us (c ∷ cs) =
    let later = one_is_the_unit (stepped u (cycle_at 0 c)).unit us cs in
    (rw (one_answer u us c, one-after u us c, later.0), rw (one-after u us c) later.1)
