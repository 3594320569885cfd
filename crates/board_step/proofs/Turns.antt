-- What one turn does in the two loops over a board's units: the unit of the turn is the next of the seats that are still to come.
-- Assumes nothing.
use mathlib.Core.Path.{◌≡◌, sym, ap, ◌∙◌}
use mathlib.Core.List.{List, [], ◌∷◌, map}
use Prim.Native.Nat.{ℕ, suc, ◌+◌, ◌<◌, ◌/◌, ◌%◌, ◌^◌}
use native.Mathlib.Nat.{div-one}
use native.Mathlib.Numerals.{add-one}
use lib.Dec.{eqb}
use lib.ListN.{get_or, length, drop}
use lib.Seq.{drop-cons, drop-length}
use Rattle.rules.specs.declared.Cycle.{Cycle}
use Rattle.rules.specs.declared.Unit.{Unit}
use Rattle.board_rules.specs.Board.{Seat, seated, answer_of}
use Rattle.board_rules.proofs.Ahead.{select_next}
use Rattle.board_refusals.specs.Judged.{asking, judging}
use Rattle.board_refusals.specs.Judged.{ahead as judgedAhead}
use Rattle.board_refusals.specs.declared.Judged.{Judged}
use Rattle.board_refusals.proofs.Laws.{judged_turn}
use Rattle.board_answers.specs.Joint.{joining}
use Rattle.board_answers.specs.Joint.{ahead as joinedAhead}
use Rattle.board_answers.specs.declared.Joint.{Joint}
use Rattle.board_answers.proofs.Laws.{joined_turn}

-- the seats from unit i on
abbrev pub rest : List Unit → (i selects : ℕ) → List Seat
rest us i selects = seated (drop i us) (selects / 2 ^ i)

pub rest_all : (us : List Unit) (selects : ℕ) → rest us 0 selects ≡ seated us selects
rest_all us selects = ap (λ (k : ℕ). seated us k) (div-one selects)

pub rest_none : (us : List Unit) (i selects : ℕ) → i ≡ length us → rest us i selects ≡ []
unfolding seated
rest_none us i selects e = ap (λ (k : ℕ). seated (drop k us) (selects / 2 ^ i)) e ∙ ap (λ (l : List Unit). seated l (selects / 2 ^ i)) (drop-length us)

module _ (us : List Unit) (i selects : ℕ) (d : Unit) (c : Cycle) (here : i < length us) where
  -- the seat of this turn
  abbrev pub seat : Seat
  seat = record { unit = get_or us i d; select = eqb (selects / 2 ^ i % 2) 1 }

  pub rest_next : rest us i selects ≡ seat ∷ rest us (i + 1) selects
  unfolding seated
  rest_next =
      ap (λ (l : List Unit). seated l (selects / 2 ^ i)) (drop-cons us i d here)
      ∙ ap (λ (k : ℕ). seat ∷ seated (drop (suc i) us) k) (select_next i selects)
      ∙ ap (λ (k : ℕ). seat ∷ seated (drop k us) (selects / 2 ^ (i + 1))) (sym (add-one i))

  pub judge_turn : (j : Judged)
      → judgedAhead (judging j i seat.unit.registers seat.select c (asking c)) (i + 1) c (rest us (i + 1) selects) ≡ judgedAhead j i c (rest us i selects)
  judge_turn j =
      ap (λ (k : ℕ). judgedAhead (judging j i seat.unit.registers seat.select c (asking c)) k c (rest us (i + 1) selects)) (add-one i)
      ∙ judged_turn j i c seat (rest us (i + 1) selects)
      ∙ ap (λ (ss : List Seat). judgedAhead j i c ss) (sym rest_next)

  pub join_turn : (t : Joint)
      → joinedAhead (joining t i (answer_of c seat)) (i + 1) (map (answer_of c) (rest us (i + 1) selects))
      ≡ joinedAhead t i (map (answer_of c) (rest us i selects))
  join_turn t =
      ap (λ (k : ℕ). joinedAhead (joining t i (answer_of c seat)) k (map (answer_of c) (rest us (i + 1) selects))) (add-one i)
      ∙ joined_turn t i (answer_of c seat) (map (answer_of c) (rest us (i + 1) selects))
      ∙ ap (λ (ss : List Seat). joinedAhead t i (map (answer_of c) ss)) (sym rest_next)
