-- The two ends of a cycle of a board that flat arrays hold: it refuses, or all units are stepped.
-- Assumes nothing.
use mathlib.Core.Path.{◌≡◌, refl, sym, ap, ◌∙◌}
use mathlib.Core.Bool.{Bool, true, false}
use mathlib.Core.List.{List, [], ◌++◌, map, append-nil}
use Prim.Native.Nat.{ℕ, zero, suc, ◌<◌, ◌≤◌, ◌/◌, ◌%◌}
use native.Mathlib.Omega.{arith}
use lib.ListN.{length, get_or, take, drop}
use lib.Seq.{drop-length}
use borrow.Author.Tests.{le-ltb, ne_eqb}
use Rattle.rules.specs.Refusals.{out_of_range}
use Rattle.rules.specs.declared.Descriptor.{Descriptor}
use Rattle.rules.specs.declared.Registers.{Registers}
use Rattle.rules.specs.declared.Unit.{Unit}
use Rattle.theorems_runs.specs.Sequences.{Every}
use Rattle.theorems_runs.specs.Undamaged.{Undamaged}
use Rattle.trace_records.specs.Layout.{status_at, segment_at, STATUSES, NUMBERS}
use Rattle.trace_records.specs.Trace.{cycle_of}
use Rattle.board_rules.specs.Board.{Seat, seated, answer_of, afterwards, some_of, requests, wrong_count, refusing, seats_answer, seats_after}
use Rattle.board_rules.specs.Board.{board_answer_by, board_units_by, board_answer, board_after}
use Rattle.board_rules.specs.declared.Board.{Board}
use Rattle.board_rules.specs.declared.BoardCycle.{BoardCycle}
use Rattle.theorems_boards.proofs.Lists.{every_imp, seats_units, seats_length, seats_every}
use Rattle.theorems_boards.proofs.Forms.{Accepted}
use Rattle.theorems_boards.proofs.Numbers.{verdict_none}
use Rattle.board_refusals.specs.Judged.{refuses, refusal_in}
use Rattle.board_refusals.specs.declared.Judged.{Judged}
use Rattle.board_refusals.proofs.Laws.{Known, verdict_known}
use Rattle.board_answers.specs.Joint.{nothing, told, ahead}
use Rattle.board_answers.specs.declared.Joint.{Joint}
use Rattle.board_answers.proofs.Ends.{refused-answer, refused-units, stepped-units, stepped-answer}
use Rattle.board_run.specs.BoardRun.{low_at, board_cycle_at}
use Rattle.board_run.specs.Plan.{units_from, units_of, asks_from, any_asks, judged_with, Healthy}
use Rattle.board_run.proofs.Flat.{units-length}
use Rattle.board_run.proofs.Stepping.{units-all}

abbrev pub board_of : List Registers → List Descriptor → (count : ℕ) → Board
board_of rs ts count = record { units = units_of rs ts count; count = count }

-- requests, read off the registers
asks_are : (rs : List Registers) (ts : List Descriptor) (k n left : ℕ) → asks_from rs k n ≡ some_of requests (seated (units_from rs ts k n) left)
unfolding asks_from units_from seated some_of
asks_are rs ts k zero left = refl
asks_are rs ts k (suc n) left = rw (asks_are rs ts (suc k) n (left / 2))

-- a record's cycle is in range
pub in_range : (t : List ℕ) (at : ℕ) → out_of_range (board_cycle_at t at).cycle ≡ false
unfolding board_cycle_at cycle_of out_of_range
in_range t at =
    let p : List ℕ = take low_at (drop at t) in
    rw (le-ltb 15 (get_or p status_at 0 % STATUSES) (omega arith), le-ltb 127 (get_or p segment_at 0 % NUMBERS) (omega arith))

pub right_count : (count : ℕ) → 1 ≤ count → count ≤ 16 → wrong_count count ≡ false
right_count count l h = rw (ne_eqb count 0 (λ e. omega arith), le-ltb 16 count h)

-- undamaged units, in their seats
pub healthy : (rs : List Registers) (ts : List Descriptor) (count selects : ℕ) → Every Undamaged (take count (units_of rs ts count))
    → Every Healthy (seated (units_of rs ts count) selects)
healthy rs ts count selects h =
    every_imp (λ s. Undamaged s.unit) Healthy (λ s u. u.sound) (seated (units_of rs ts count) selects)
    (seats_every Undamaged (units_of rs ts count) selects (rw (units-all rs ts count) at h))

module _ (rs : List Registers) (ts : List Descriptor) (count : ℕ) (c : BoardCycle) (l : 1 ≤ count) (m : count ≤ 16) (j : Judged) where
  abbrev us : List Unit
  us = units_of rs ts count

  abbrev ss : List Seat
  ss = seated us c.selects

  abbrev stood : Bool
  stood = some_of requests ss

  none_past : drop count us ≡ []
  none_past = ap (λ (k : ℕ). drop k us) (sym (units-length rs ts count)) ∙ drop-length us

  answer_good : board_answer (board_of rs ts count) c ≡ seats_answer c.cycle ss
  unfolding board_answer
  answer_good =
      ap (λ (w : Bool). board_answer_by w (board_of rs ts count) c) (right_count count l m)
      ∙ ap (λ (x : List Unit). seats_answer c.cycle (seated x c.selects)) (units-all rs ts count)

  after_good : board_after (board_of rs ts count) c ≡ record { units = seats_after c.cycle ss; count = count }
  unfolding board_after
  after_good =
      ap (λ (w : Bool). record { units = board_units_by w (board_of rs ts count) c; count = count }) (right_count count l m)
      ∙ ap (λ (x : List Unit). record { units = seats_after c.cycle (seated x c.selects) ++ drop count us; count = count }) (units-all rs ts count)
      ∙ ap (λ (x : List Unit). record { units = seats_after c.cycle ss ++ x; count = count }) none_past
      ∙ ap (λ (x : List Unit). record { units = x; count = count }) (append-nil (seats_after c.cycle ss))

  module _ (k : Known (judged_with j (some_of requests (seated (units_of rs ts count) c.selects))) c.cycle (seated (units_of rs ts count) c.selects)) where
    pub refused_board : refuses j c.cycle.read ≡ true
        → (refusing (refusal_in (judged_with j (any_asks rs count))) (any_asks rs count) ≡ board_answer (board_of rs ts count) c)
        × (board_after (board_of rs ts count) c ≡ board_of rs ts count)
    refused_board e = (
      ap (λ (b : Bool). refusing (refusal_in (judged_with j b)) b) (asks_are rs ts 0 count c.selects)
          ∙ refused-answer (judged_with j stood) c.cycle ss k e
          ∙ sym answer_good,
      after_good
          ∙ ap (λ (x : List Unit). record { units = x; count = count })
          (refused-units (judged_with j stood) c.cycle ss k e ∙ seats_units us c.selects),
    )

    pub accepted_board : refuses j c.cycle.read ≡ false → Every (λ s. Accepted (answer_of c.cycle s)) (seated (units_of rs ts count) c.selects)
    accepted_board e =
        verdict_none c.cycle ss (verdict_known (judged_with j stood) c.cycle ss k ∙ rw e)

    pub stepped_board : refuses j c.cycle.read ≡ false → (rs' : List Registers) (ts' : List Descriptor) (t : Joint)
        → units_of rs' ts' count ≡ map (afterwards c.cycle) (seated (units_of rs ts count) c.selects)
        → ahead t count [] ≡ ahead nothing 0 (map (answer_of c.cycle) (seated (units_of rs ts count) c.selects))
        → (told t c.cycle j.command ≡ board_answer (board_of rs ts count) c) × (board_after (board_of rs ts count) c ≡ board_of rs' ts' count)
    stepped_board e rs' ts' t u h =
        let some-unit : 0 < length ss = omega (arith, seats_length us c.selects, units-length rs ts count) in (
          stepped-answer (judged_with j stood) c.cycle ss k e some-unit t count h ∙ sym answer_good,
          after_good
              ∙ ap (λ (x : List Unit). record { units = x; count = count }) (stepped-units (judged_with j stood) c.cycle ss k e ∙ sym u),
        )
