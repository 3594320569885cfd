-- The ends of a call: the two of a board's cycle with room, and the four of the whole.
-- Assumes nothing.
use mathlib.Core.Path.{◌≡◌, refl, sym, ap, ◌∙◌}
use mathlib.Core.Bool.{Bool, true, false}
use mathlib.Core.List.{List, [], ◌∷◌, map}
use mathlib.Core.Option
use mathlib.Core.Option.{Option, none, some}
use Prim.Native.Nat.{ℕ, suc, ◌≤◌, ◌<◌}
use native.Mathlib.Omega.{arith}
use lib.ListN.{length}
use lib.Seq.{sets}
use Rattle.std.specs.Prelude.{Some, None}
use Rattle.std.specs.Prelude.{Option as Optional}
use Rattle.rules.specs.Kinds.{number_of, number_in}
use Rattle.rules.specs.Refusals.{damaged, out_of_range}
use Rattle.rules.specs.declared.Cycle.{Cycle}
use Rattle.rules.specs.declared.Kind.{Kind}
use Rattle.rules.specs.declared.Kind.TheVariants.{Reset, Acknowledge, Command, Aborted, Translated, Passed, Ignored, Refused}
use Rattle.rules.specs.declared.Unit.{Unit}
use Rattle.unit_stores.specs.Put.{NO_ROOM}
use Rattle.unit_bytes.specs.Snapshot.{unit_in}
use Rattle.theorems_runs.specs.Refusal.{earliest, unlisted, wrong_way}
use Rattle.board_rules.specs.Board.{Seat, seated, seen_by, answer_of, nobodys, Refusal, wrong_count, verdict, refusing, seats_answer, board_answer}
use Rattle.board_rules.specs.declared.BoardAnswer.{BoardAnswer}
use Rattle.board_rules.specs.declared.BoardCycle.{BoardCycle}
use Rattle.theorems_boards.specs.Numbers.{seat_number, lowest_from, own_of}
use Rattle.theorems_boards.proofs.Lists.{seats_length}
use Rattle.theorems_boards.proofs.Live.{answer_right, answer_wrong}
use Rattle.theorems_boards.proofs.Numbers.{verdict_none, seats_number}
use Rattle.board_refusals.specs.Judged.{by_number, given, refuses, refusal_by, refusal_in}
use Rattle.board_refusals.specs.declared.Judged.{Judged}
use Rattle.board_refusals.specs.declared.Verdict.{Verdict}
use Rattle.board_refusals.proofs.Laws.{Known}
use Rattle.board_answers.specs.Joint.{nothing, told, ahead}
use Rattle.board_answers.specs.declared.Joint.{Joint}
use Rattle.board_answers.proofs.Ends.{verdict_by_lem, refused-answer, stepped-answer}
use Rattle.board_packed.specs.BoardPacked.{board_packed}
use Rattle.board_bytes.specs.Boarded.{parts_in, units_in, seats_in, board_in, stepped_in, bytes_by, board_bytes}
use Rattle.board_bytes.specs.Boarded.{no_answer, no_units, no_room, call_number, call_answer, call_units, Boarded}
use Rattle.board_bytes.proofs.Held.{units-length, units-take, all_plain}

-- a kind that gives no number has the number 0
no-number : (k : Kind) → number_in k ≡ none → 0 ≡ number_of k
no-number Reset e = refl
no-number Acknowledge e = refl
no-number Command e = refl
no-number Aborted e = refl
no-number Translated e = refl
no-number Passed e = refl
no-number Ignored e = refl
no-number (Refused n) e = let z : ◌≡◌ {A = ℕ} 0 1 = cc in absurd (omega arith)

-- A number that a board's units give: 1 to 4, 12 or 13

abbrev pub BoardsNumber : ℕ → Type 0
BoardsNumber n = (1 ≤ n) × (n ≤ 13) × (4 < n → 12 ≤ n)

earliest_numbers : (two one three four : Bool) (n : ℕ) → earliest two one three four ≡ some n → BoardsNumber n
earliest_numbers true one three four n e = let q : 2 ≡ n = cc in (omega arith, omega arith, omega arith)
earliest_numbers false true three four n e = let q : 1 ≡ n = cc in (omega arith, omega arith, omega arith)
earliest_numbers false false true four n e = let q : 3 ≡ n = cc in (omega arith, omega arith, omega arith)
earliest_numbers false false false true n e = let q : 4 ≡ n = cc in (omega arith, omega arith, omega arith)
earliest_numbers false false false false n e = let z : ◌≡◌ {A = ℕ} 0 1 = cc in absurd (omega arith)

own_numbers : (c : Cycle) (i : ℕ) (ss : List Seat) (r : Refusal) → some r ≡ lowest_from i (map (seat_number c) ss) → BoardsNumber r.number
unfolding lowest_from
own_numbers c i [] r e = let z : ◌≡◌ {A = ℕ} 0 1 = cc in absurd (omega arith)
own_numbers c i (s ∷ ss) r e = go (seat_number c s) refl e (own_numbers c (suc i) ss r)
  where
    go : (o : Option ℕ) → seat_number c s ≡ o → some r ≡ lowest_from i (o ∷ map (seat_number c) ss)
        → (some r ≡ lowest_from (suc i) (map (seat_number c) ss) → BoardsNumber r.number) → BoardsNumber r.number
    go none q e later = later e
    go (some n) q e later =
        let same : n ≡ r.number = cc in
        rw (← same)
        (earliest_numbers (damaged s.unit.registers) (out_of_range (seen_by s.select c)) (unlisted (seen_by s.select c)) (wrong_way (seen_by s.select c)) n q)

-- A cycle with room, its count being good

module _ (l : List ℕ) (count : ℕ) (c : BoardCycle) (j : Judged) (k : Known j c.cycle (seats_in l count c.selects)) where
  abbrev seats : List Seat
  seats = seats_in l count c.selects

  -- it refuses
  pub refused_ends : (a : BoardAnswer) → refuses j c.cycle.read ≡ true → a ≡ refusing (refusal_in j) j.stood
      → (a ≡ seats_answer c.cycle seats) × (l ≡ bytes_by false (verdict c.cycle seats) l count c)
  refused_ends a e q = (
    q ∙ refused-answer j c.cycle seats k e,
    sym (ap (λ (v : Option Refusal). bytes_by false v l count c) (verdict_by_lem j c.cycle seats k true e)),
  )

  -- by a number of a unit, or by one that is nobody's
  pub refused_numbers : BoardsNumber (refusal_in j).number
  refused_numbers = go j.own j.clash k.own
    where
      go : (o : Optional Verdict) (t : Bool) → given o ≡ own_of c.cycle seats → BoardsNumber (refusal_by o t).number
      go None true e = (omega arith, omega arith, omega arith)
      go None false e = (omega arith, omega arith, omega arith)
      go (Some v) t e = own_numbers c.cycle 0 seats (by_number v) e

  -- it does not, so no notes are strange
  pub stepped_ends : (a : BoardAnswer) (m : List ℕ) (t : Joint) → refuses j c.cycle.read ≡ false → 1 ≤ count
      → a ≡ told t c.cycle j.command
      → m ≡ stepped_in c.cycle count c.selects l
      → ahead t count [] ≡ ahead nothing 0 (map (answer_of c.cycle) (seated (map unit_in (parts_in l count)) c.selects))
      → (a ≡ seats_answer c.cycle seats) × (m ≡ bytes_by false (verdict c.cycle seats) l count c)
  stepped_ends a m t e one q s h =
      let accepts : verdict c.cycle seats ≡ none = verdict_by_lem j c.cycle seats k false e in
      let plain = all_plain c.cycle (parts_in l count) c.selects (verdict_none c.cycle seats accepts) in
      let long : length seats ≡ length (units_in l count) = seats_length (units_in l count) c.selects in
      let some-unit : 0 < length seats = omega (arith, long, units-length l count) in (
        q ∙ stepped-answer j c.cycle seats k e some-unit t count
            (h ∙ ap (λ (ss : List Seat). ahead nothing 0 (map (answer_of c.cycle) ss)) (sym plain)),
        s ∙ sym (ap (λ (v : Option Refusal). bytes_by false v l count c) accepts),
      )

  -- and gives no number
  pub stepped_number : (a : BoardAnswer) → refuses j c.cycle.read ≡ false → a ≡ seats_answer c.cycle seats → 0 ≡ number_of a.answer.kind
  stepped_number a e q =
      let accepts : verdict c.cycle seats ≡ none = verdict_by_lem j c.cycle seats k false e in
      let without : number_in a.answer.kind ≡ none =
      ap (λ (x : BoardAnswer). number_in x.answer.kind) q
      ∙ seats_number c.cycle seats
      ∙ ap (λ (v : Option Refusal). Option.map (λ (r : Refusal). r.number) v) accepts in
      no-number a.answer.kind without

-- The whole

module _ (c : BoardCycle) (count : ℕ) (l o : List ℕ) where
  abbrev says : BoardAnswer
  says = board_answer (board_in l count) c

  ended : {m p : List ℕ} {number : ℕ} (short : Bool) → no_room l o count ≡ short → number ≡ call_number short says → p ≡ call_answer short o says
      → m ≡ call_units short l (board_bytes l count c) → Boarded c count l o m p number
  ended short e n p m = record {
    says = n ∙ ap (λ (s : Bool). call_number s says) (sym e);
    shows = p ∙ ap (λ (s : Bool). call_answer s o says) (sym e);
    leaves = m ∙ ap (λ (s : Bool). call_units s l (board_bytes l count c)) (sym e);
  }

  shown : {m p : List ℕ} {number : ℕ} (a : BoardAnswer) → no_room l o count ≡ false → a ≡ says → number ≡ number_of a.answer.kind
      → p ≡ sets o 0 (board_packed a) → m ≡ board_bytes l count c → Boarded c count l o m p number
  shown a e said n p m =
      ended false e (n ∙ ap (λ (x : BoardAnswer). number_of x.answer.kind) said) (p ∙ ap (λ (x : BoardAnswer). sets o 0 (board_packed x)) said) m

  -- no room for the answer
  pub short_end : no_answer o ≡ true → Boarded c count l o l o NO_ROOM
  short_end e = ended true (rw e) refl refl refl

  -- the count is wrong
  pub wrong_end : {p : List ℕ} {number : ℕ} (a : BoardAnswer) → no_answer o ≡ false → wrong_count count ≡ true → a ≡ refusing (nobodys 11) false
      → number ≡ number_of a.answer.kind → p ≡ sets o 0 (board_packed a) → Boarded c count l o l p number
  wrong_end a e w said n p = shown a (rw (e, w)) (said ∙ sym (answer_wrong (board_in l count) c w)) n p (rw w)

  -- no room for the units
  pub narrow_end : no_answer o ≡ false → wrong_count count ≡ false → no_units l count ≡ true → Boarded c count l o l o NO_ROOM
  narrow_end e w r = ended true (rw (e, w, r)) refl refl refl

  -- the board's cycle
  pub cycle_end : {m p : List ℕ} {number : ℕ} (a : BoardAnswer) → no_answer o ≡ false → wrong_count count ≡ false → no_units l count ≡ false
      → a ≡ seats_answer c.cycle (seats_in l count c.selects) → m ≡ bytes_by false (verdict c.cycle (seats_in l count c.selects)) l count c
      → number ≡ number_of a.answer.kind → p ≡ sets o 0 (board_packed a) → Boarded c count l o m p number
  cycle_end a e w r said left n p =
      shown a (rw (e, w, r))
      (said
      ∙ ap (λ (us : List Unit). seats_answer c.cycle (seated us c.selects)) (sym (units-take l count))
      ∙ sym (answer_right (board_in l count) c w))
      n p
      (left ∙ ap (λ (t : Bool). bytes_by t (verdict c.cycle (seats_in l count c.selects)) l count c) (sym w))
