-- The units of a board that the count takes in, after a cycle.
-- Assumes nothing.
use mathlib.Core.Path.{◌≡◌, refl, ◌∙◌, ap}
use mathlib.Core.Bool.{Bool, true, false}
use mathlib.Core.List.{List}
use mathlib.Core.Option.{Option, none, some}
use lib.ListN.{length, length-map}
use Rattle.rules.specs.declared.Cycle.{Cycle}
use Rattle.rules.specs.declared.Unit.{Unit}
use Rattle.theorems_runs.specs.Sequences.{Every}
use Rattle.theorems_runs.specs.Undamaged.{Undamaged}
use Rattle.theorems_runs.proofs.Undamaged.{undamaged_after}
use Rattle.board_rules.specs.Board.{Seat, seats_of, seen_by, unit_of, afterwards, Refusal, wrong_count, verdict, units_by, seats_answer, seats_after}
use Rattle.board_rules.specs.Board.{board_answer_by, board_answer, board_after}
use Rattle.board_rules.specs.declared.Board.{Board}
use Rattle.board_rules.specs.declared.BoardCycle.{BoardCycle}
use Rattle.theorems_boards.specs.Seats.{live}
use Rattle.theorems_boards.proofs.Lists.{front_take, every_map, every_imp, seats_length, seats_every}

by_length : (v : Option Refusal) (c : Cycle) (ss : List Seat) → length (units_by v c ss) ≡ length ss
by_length (some r) c ss = length-map ss unit_of
by_length none c ss = length-map ss (afterwards c)

by_undamaged : (v : Option Refusal) (c : Cycle) (ss : List Seat) → Every (λ s. Undamaged s.unit) ss → Every Undamaged (units_by v c ss)
by_undamaged (some r) c ss h = every_map Undamaged unit_of ss h
by_undamaged none c ss h =
    every_map Undamaged (afterwards c) ss (every_imp _ _ (λ s. undamaged_after s.unit (seen_by s.select c)) ss h)

module _ (b : Board) (c : BoardCycle) where
  pub after-count : (board_after b c).count ≡ b.count
  unfolding board_after
  after-count = refl

  pub after-length : length (seats_after c.cycle (seats_of b c.selects)) ≡ length (live b)
  unfolding seats_after
  after-length =
      let ss : List Seat = seats_of b c.selects in
      by_length (verdict c.cycle ss) c.cycle ss ∙ seats_length (live b) c.selects

  pub live_right : wrong_count b.count ≡ false → live (board_after b c) ≡ seats_after c.cycle (seats_of b c.selects)
  unfolding board_after
  live_right e = rw e (front_take b.count b.units (seats_after c.cycle (seats_of b c.selects)) after-length)

  pub live_wrong : wrong_count b.count ≡ true → live (board_after b c) ≡ live b
  unfolding board_after
  live_wrong e = rw e

  pub answer_right : wrong_count b.count ≡ false → board_answer b c ≡ seats_answer c.cycle (seats_of b c.selects)
  unfolding board_answer
  answer_right e = rw e

  pub answer_wrong : wrong_count b.count ≡ true → board_answer b c ≡ board_answer_by true b c
  unfolding board_answer
  answer_wrong e = rw e

  pub live-length : length (live (board_after b c)) ≡ length (live b)
  live-length = go (wrong_count b.count) refl
    where
      go : (t : Bool) → wrong_count b.count ≡ t → length (live (board_after b c)) ≡ length (live b)
      go true w = ap (λ (l : List Unit). length l) (live_wrong w)
      go false w = ap (λ (l : List Unit). length l) (live_right w) ∙ after-length

  pub live_undamaged : Every Undamaged (live b) → Every Undamaged (live (board_after b c))
  unfolding seats_after
  live_undamaged h = go (wrong_count b.count) refl
    where
      ss : List Seat
      ss = seats_of b c.selects

      go : (t : Bool) → wrong_count b.count ≡ t → Every Undamaged (live (board_after b c))
      go true w = rw (live_wrong w) h
      go false w = rw (live_right w) (by_undamaged (verdict c.cycle ss) c.cycle ss (seats_every Undamaged (live b) c.selects h))
