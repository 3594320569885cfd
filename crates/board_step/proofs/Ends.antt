-- The three ends of a board's cycle, by value.
-- Assumes nothing.
use mathlib.Core.Path.{◌≡◌, sym, ◌∙◌, ap}
use mathlib.Core.Bool.{Bool, true, false}
use mathlib.Core.List.{List, [], ◌++◌, map}
use Prim.Native.Nat.{ℕ, ◌≤◌, ◌<◌}
use native.Mathlib.Omega.{arith}
use lib.ListN.{length, take, drop, take-append-drop, length-take}
use Rattle.rules.specs.declared.Unit.{Unit}
use Rattle.board_rules.specs.Board.{Seat, seats_of, answer_of, afterwards, nobodys, wrong_count, refusing, seats_answer, seats_after}
use Rattle.board_rules.specs.Board.{board_answer_by, board_units_by, board_answer, board_after, board_stepped}
use Rattle.board_rules.specs.declared.Board.{Board}
use Rattle.board_rules.specs.declared.BoardAnswer.{BoardAnswer}
use Rattle.board_rules.specs.declared.BoardCycle.{BoardCycle}
use Rattle.board_rules.specs.declared.BoardStepped.{BoardStepped}
use Rattle.theorems_boards.proofs.Lists.{seats_units, seats_length}
use Rattle.board_refusals.specs.Judged.{refuses, refusal_in}
use Rattle.board_refusals.specs.declared.Judged.{Judged}
use Rattle.board_refusals.proofs.Laws.{Known}
use Rattle.board_answers.specs.Joint.{nothing, told, ahead}
use Rattle.board_answers.specs.declared.Joint.{Joint}
use Rattle.board_answers.proofs.Ends.{refused-answer, refused-units, stepped-units, stepped-answer}

abbrev end : List Unit → (count : ℕ) → BoardAnswer → BoardStepped
end us n a = record { board = record { units = us; count = n }; answer = a }

module _ (b : Board) (c : BoardCycle) where
  by : (wrong : Bool) → wrong_count b.count ≡ wrong → end (board_units_by wrong b c) b.count (board_answer_by wrong b c) ≡ board_stepped b c
  unfolding board_after board_answer
  by wrong e = ap (λ (w : Bool). end (board_units_by w b c) b.count (board_answer_by w b c)) (sym e)

  pub wrong_end : wrong_count b.count ≡ true → end b.units b.count (refusing (nobodys 11) false) ≡ board_stepped b c
  wrong_end e = by true e

  abbrev seats : List Seat
  seats = seats_of b c.selects

  good_end : (us : List Unit) (a : BoardAnswer) → wrong_count b.count ≡ false → us ≡ seats_after c.cycle seats ++ drop b.count b.units
      → a ≡ seats_answer c.cycle seats → end us b.count a ≡ board_stepped b c
  good_end us a e u q =
      ap (λ (v : List Unit). end v b.count a) u
      ∙ ap (λ (x : BoardAnswer). end (seats_after c.cycle seats ++ drop b.count b.units) b.count x) q
      ∙ by false e

  module _ (j : Judged) (k : Known j c.cycle seats) (good : wrong_count b.count ≡ false) where
    pub refused_end : refuses j c.cycle.read ≡ true → end b.units b.count (refusing (refusal_in j) j.stood) ≡ board_stepped b c
    refused_end e =
        let same : b.units ≡ seats_after c.cycle seats ++ drop b.count b.units =
        sym (take-append-drop b.count b.units)
        ∙ ap (λ (l : List Unit). l ++ drop b.count b.units)
        (sym (seats_units (take b.count b.units) c.selects) ∙ sym (refused-units j c.cycle seats k e)) in
        good_end b.units (refusing (refusal_in j) j.stood) good same (refused-answer j c.cycle seats k e)

    pub stepped_end : (us : List Unit) (t : Joint) → refuses j c.cycle.read ≡ false → 1 ≤ b.count → length b.units ≡ 16
        → us ≡ map (afterwards c.cycle) seats ++ drop b.count b.units
        → ahead t b.count [] ≡ ahead nothing 0 (map (answer_of c.cycle) seats)
        → end us b.count (told t c.cycle j.command) ≡ board_stepped b c
    stepped_end us t e one size u h =
        let long : length seats ≡ length (take b.count b.units) = seats_length (take b.count b.units) c.selects in
        let taken = length-take b.count b.units in
        let some-unit : 0 < length seats = omega (arith, long, taken, one, size) in
        good_end us (told t c.cycle j.command) good
        (u ∙ ap (λ (l : List Unit). l ++ drop b.count b.units) (sym (stepped-units j c.cycle seats k e)))
        (stepped-answer j c.cycle seats k e some-unit t b.count h)
