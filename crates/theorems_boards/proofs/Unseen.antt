-- What each unit sees of a cycle, and what a board does not look at: units and select bits past the count, and the cycle's own select.
-- Assumes nothing.
use mathlib.Core.Path.{◌≡◌, refl, sym, ◌∙◌, ap}
use mathlib.Core.Bool.{Bool, true, false}
use mathlib.Core.List.{List, [], ◌∷◌}
use Prim.Native.Nat.{ℕ, suc, ◌/◌, ◌<◌}
use native.Mathlib.Omega.{arith}
use lib.ListN.{length, length-take}
use mathlib.Core.Option.{Option, none, some}
use Rattle.rules.specs.declared.Cycle.{Cycle}
use Rattle.rules.specs.declared.Unit.{Unit}
use Rattle.board_rules.specs.Board.{Seat, seated, seats_of, seen_by, wrong_count, verdict, seats_answer, seats_after, board_answer_by, board_answer}
use Rattle.board_rules.specs.Board.{board_after, board_units_by, board_answers, board_final, Refusal, answer_by, units_by}
use Rattle.board_rules.specs.declared.Board.{Board}
use Rattle.board_rules.specs.declared.BoardCycle.{BoardCycle}
use Rattle.board_rules.specs.declared.BoardStepped.{BoardStepped}
use Rattle.theorems_boards.specs.Seats.{select_of, live}
use Rattle.theorems_boards.specs.Unseen.{unselected, CycleSeen, SameFor, SelectsUnseen, AlikeWithin, PastUnseen}
use Rattle.theorems_boards.proofs.Lists.{select_first, select_later}
use Rattle.theorems_boards.proofs.Live.{live_right, live_wrong}

pub cycle-seen : CycleSeen
unfolding seen_by
cycle-seen i c = (refl, refl)

-- Units past the count

module _ (a b : Board) (c : BoardCycle) (s : AlikeWithin a b) where
  same_answer : board_answer a c ≡ board_answer b c
  unfolding board_answer
  same_answer = go (wrong_count b.count) refl
    where
      go : (t : Bool) → wrong_count b.count ≡ t → board_answer_by (wrong_count a.count) a c ≡ board_answer_by (wrong_count b.count) b c
      go true w = rw (s.count, w)
      go false w =
          rw (ap (λ (n : ℕ). wrong_count n) s.count ∙ w, w)
          (ap (λ (us : List Unit). seats_answer c.cycle (seated us c.selects)) s.units)

  still_alike : AlikeWithin (board_after a c) (board_after b c)
  unfolding board_after
  still_alike = record { count = s.count; units = go (wrong_count b.count) refl }
    where
      go : (t : Bool) → wrong_count b.count ≡ t → live (board_after a c) ≡ live (board_after b c)
      go true w = live_wrong a c (ap (λ (n : ℕ). wrong_count n) s.count ∙ w) ∙ s.units ∙ sym (live_wrong b c w)
      go false w =
          live_right a c (ap (λ (n : ℕ). wrong_count n) s.count ∙ w)
          ∙ ap (λ (us : List Unit). seats_after c.cycle (seated us c.selects)) s.units
          ∙ sym (live_right b c w)

pub past_unseen : PastUnseen
unfolding board_answers board_final
past_unseen a b [] s = (refl, s)
past_unseen a b (c ∷ cs) s =
    let later = past_unseen (board_after a c) (board_after b c) cs (still_alike a b c s) in
    (rw (same_answer a b c s, later.0), later.1)

-- Select bits

seated_same : (us : List Unit) (k j : ℕ) → ((i : ℕ) → i < length us → select_of i k ≡ select_of i j) → seated us k ≡ seated us j
unfolding seated
seated_same [] k j h = refl
seated_same (u ∷ us) k j h =
    rw (
      sym (select_first k) ∙ h 0 (omega arith) ∙ select_first j,
      seated_same us (k / 2) (j / 2) (λ i l. sym (select_later i k) ∙ h (suc i) (omega arith) ∙ select_later i j),
    )

-- the cycle's own select
module _ (c : Cycle) (ss : List Seat) where
  own-answer : seats_answer c ss ≡ seats_answer (unselected c) ss
  unfolding seats_answer verdict seen_by
  own-answer = go (verdict c ss)
    where
      go : (v : Option Refusal) → answer_by v c ss ≡ answer_by v (unselected c) ss
      go (some r) = refl
      go none = refl

  own-after : seats_after c ss ≡ seats_after (unselected c) ss
  unfolding seats_after verdict seen_by
  own-after = go (verdict c ss)
    where
      go : (v : Option Refusal) → units_by v c ss ≡ units_by v (unselected c) ss
      go (some r) = refl
      go none = refl

-- what does not look at the cycle's own select, of two such cycles
module _ (b : Board) (c d : BoardCycle) (s : SameFor b.count c d) where
  same_of : {B : Type 0} (f : Cycle → List Seat → B) → ((c : Cycle) (ss : List Seat) → f c ss ≡ f (unselected c) ss)
      → f c.cycle (seats_of b c.selects) ≡ f d.cycle (seats_of b d.selects)
  same_of f own =
      own c.cycle (seats_of b c.selects)
      ∙ ap (λ (x : Cycle). f x (seats_of b c.selects)) s.cycle
      ∙ sym (own d.cycle (seats_of b c.selects))
      ∙ ap (λ (ss : List Seat). f d.cycle ss)
      (seated_same (live b) c.selects d.selects (λ i l. s.selects i (omega (arith, simp length-take at l))))

abbrev stepped_by : (wrong : Bool) → Board → BoardCycle → BoardStepped
stepped_by t b c = record { board = record { units = board_units_by t b c; count = b.count }; answer = board_answer_by t b c }

pub selects_unseen : SelectsUnseen
unfolding board_answer board_after
selects_unseen b c d s = go (wrong_count b.count)
  where
    go : (t : Bool) → stepped_by t b c ≡ stepped_by t b d
    go true = refl
    go false = rw (same_of b c d s seats_after own-after, same_of b c d s seats_answer own-answer)
