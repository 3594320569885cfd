-- What a caller may rely on that keeps a board's units in bytes.
-- Assumes nothing.
use mathlib.Core.Path.{◌≡◌, refl, sym, ap, subst, ◌∙◌}
use mathlib.Core.Bool.{Bool, true, false, not, ◌&&◌, and-false}
use mathlib.Core.List.{List, [], ◌∷◌, ◌++◌, map, append-nil, append_assoc}
use mathlib.Core.Option
use mathlib.Core.Option.{Option, none, some}
use Prim.Native.Nat.{ℕ, zero, suc, ◌+◌, ◌*◌, ◌≤◌, ◌<◌, ◌/◌, ◌%◌}
use native.Mathlib.Nat.{le_of_suc-le-suc, not-suc-le-zero}
use native.Mathlib.Omega.{arith}
use lib.Dec.{eqb, ltb}
use lib.ListN.{length, get_or, take, drop, replicate, length-append, length-drop, length-replicate, drop_of_length-le}
use lib.Seq.{sets, sets-eq, take_at, drop_at, drop-drop, drop-append-add, get_or-take, length-take-le}
use borrow.Author.Tests.{ltb-false, le-ltb}
use Rattle.rules.specs.Kinds.{number_in}
use Rattle.rules.specs.PowerOn.{power_on}
use Rattle.rules.specs.Replies.{refused}
use Rattle.rules.specs.Runs.{answers}
use Rattle.rules.specs.Step.{stepped}
use Rattle.rules.specs.declared.Answer.{Answer}
use Rattle.rules.specs.declared.Cycle.{Cycle}
use Rattle.rules.specs.declared.Descriptor.{Descriptor}
use Rattle.rules.specs.declared.Registers.{Registers}
use Rattle.rules.specs.declared.Unit.{Unit}
use Rattle.theorems_runs.specs.Sequences.{Every}
use Rattle.unit_bytes.specs.Cycled.{strange, answer_by, answer_of}
use Rattle.unit_bytes.specs.InPlace.{in_place}
use Rattle.unit_bytes.specs.Snapshot.{mr_at, sar_at, dscr_at, vtr_at, vsn_at, voff_at, bcsr_at, isn_at, ioff_at, notes_at, low_at, LAST_NOTES}
use Rattle.unit_bytes.specs.Snapshot.{segments, unit_size, descriptor_at, descriptor_in, table_in, registers_in, unit_in, unit_bytes}
use Rattle.unit_bytes.proofs.Found.{descriptor_same}
use Rattle.unit_bytes.proofs.InPlace.{in_place-length, in_place_never_strange, in_place_steps}
use Rattle.board_rules.specs.Board.{Seat, seated, seats_of, seen_by, afterwards, Refusal, wrong_count, verdict, seats_answer, seats_after}
use Rattle.board_rules.specs.Board.{units_by, board_units_by, board_answer, board_after, board_answers, board_final}
use Rattle.board_rules.specs.declared.Board.{Board}
use Rattle.board_rules.specs.declared.BoardAnswer.{BoardAnswer}
use Rattle.board_rules.specs.declared.BoardCycle.{BoardCycle}
use Rattle.theorems_boards.specs.Alone.{as_boards}
use Rattle.theorems_boards.specs.Seats.{select_of, cycle_at}
use Rattle.theorems_boards.proofs.Lists.{seats_units, select_first, select_later}
use Rattle.theorems_boards.proofs.Live.{answer_right}
use Rattle.theorems_boards.proofs.Numbers.{verdict_none, seats_number}
use Rattle.theorems_boards.proofs.One.{one_is_the_unit}
use Rattle.theorems_boards.proofs.Units.{unrefused}
use Rattle.board_bytes.specs.Boarded.{parts_in, part_at, held_in, units_in, seats_in, board_in, stepped_in, bytes_by, board_bytes}
use Rattle.board_bytes.specs.Boarded.{no_units, call_number, call_answer, call_units}
use Rattle.board_bytes.proofs.Held.{units-length, units-take, held_plain, held_answers, all_plain}
use Rattle.theorems_kept.specs.Boards.{UnitStandsAt, EachInPlace, BoardHeld, HeldAfter, BoardRefusalKeeps}
use Rattle.theorems_kept.specs.Boards.{BoardCallGives, OneInBytes, board_calls, board_left, Roomy, TheRun}
use Rattle.theorems_kept.specs.Boards.{BoardCallsAreTheRun, units_bytes, BoardFoundAgain, BoardFromPowerOnBytes}
use Rattle.theorems_kept.proofs.FoundAgain.{unit-length, found-again, never_strange}

-- The bytes that are stepped

module _ (c : Cycle) (n k : ℕ) (l : List ℕ) (room : unit_size * suc n ≤ length l) where
  abbrev here : Cycle
  here = seen_by (eqb (k % 2) 1) c

  first_long : length (take unit_size l) ≡ unit_size
  first_long = length-take-le unit_size l (omega arith)

  -- the first unit's bytes, stepped
  abbrev first : List ℕ
  first = in_place (take unit_size l) here

  stepped_long : length first ≡ unit_size
  stepped_long = in_place-length (take unit_size l) here ∙ first_long

  first_found : held_in first ≡ (stepped (unit_in (take unit_size l)) here).unit
  first_found =
      let wide : unit_size ≤ length (take unit_size l) = omega (arith, first_long) in
      held_plain first (in_place_never_strange (take unit_size l) here wide) ∙ in_place_steps (take unit_size l) here wide

  rest_room : unit_size * n ≤ length (drop unit_size l)
  rest_room = omega (arith, length-drop unit_size l)

module _ (c : Cycle) where
  stepped-units : (n k : ℕ) (l : List ℕ) → unit_size * n ≤ length l
      → units_in (stepped_in c n k l) n ≡ map (afterwards c) (seated (map unit_in (parts_in l n)) k)
  unfolding parts_in stepped_in seated
  stepped-units zero k l room = refl
  stepped-units (suc n) k l room =
      let x : List ℕ = first c n k l room in
      let y : List ℕ = stepped_in c n (k / 2) (drop unit_size l) in
      let long : length x ≡ unit_size = stepped_long c n k l room in
      ap (λ (p : List ℕ). held_in p ∷ units_in (drop unit_size (x ++ y)) n) (take_at x y unit_size long)
      ∙ ap (λ (p : List ℕ). held_in x ∷ units_in p n) (drop_at x y unit_size long)
      ∙ ap (λ (u : Unit). u ∷ units_in y n) (first_found c n k l room)
      ∙ ap (λ (us : List Unit). (stepped (unit_in (take unit_size l)) (here c n k l room)).unit ∷ us)
      (stepped-units n (k / 2) (drop unit_size l) (rest_room c n k l room))

  stepped_behind : (n k : ℕ) (l : List ℕ) → unit_size * n ≤ length l → drop (unit_size * n) (stepped_in c n k l) ≡ drop (unit_size * n) l
  unfolding stepped_in
  stepped_behind zero k l room = refl
  stepped_behind (suc n) k l room =
      let x : List ℕ = first c n k l room in
      let y : List ℕ = stepped_in c n (k / 2) (drop unit_size l) in
      let past : unit_size * suc n ≡ length x + unit_size * n = omega (arith, stepped_long c n k l room) in
      let back : unit_size + unit_size * n ≡ unit_size * suc n = omega arith in
      ap (λ (i : ℕ). drop i (x ++ y)) past
      ∙ drop-append-add x y (unit_size * n)
      ∙ stepped_behind n (k / 2) (drop unit_size l) (rest_room c n k l room)
      ∙ drop-drop (unit_size * n) unit_size l
      ∙ ap (λ (i : ℕ). drop i l) back

  stepped_size : (n k : ℕ) (l : List ℕ) → unit_size * n ≤ length l → length (stepped_in c n k l) ≡ length l
  unfolding stepped_in
  stepped_size zero k l room = refl
  stepped_size (suc n) k l room =
      let x : List ℕ = first c n k l room in
      let y : List ℕ = stepped_in c n (k / 2) (drop unit_size l) in
      let both : length (x ++ y) ≡ length x + length y = length-append x y in
      let one : length x ≡ unit_size = stepped_long c n k l room in
      let others : length y ≡ length (drop unit_size l) = stepped_size n (k / 2) (drop unit_size l) (rest_room c n k l room) in
      both ∙ omega (arith, one, others, length-drop unit_size l)

-- Where each unit stands

next-part : (l : List ℕ) (i : ℕ) → part_at (drop unit_size l) i ≡ part_at l (suc i)
next-part l i =
    let next : unit_size + unit_size * i ≡ unit_size * suc i = omega arith in
    ap (λ (m : List ℕ). take unit_size m) (drop-drop (unit_size * i) unit_size l ∙ ap (λ (k : ℕ). drop k l) next)

pub unit_stands_at : UnitStandsAt
unfolding parts_in
unit_stands_at l zero i d h = absurd (not-suc-le-zero h)
unit_stands_at l (suc n) zero d h = refl
unit_stands_at l (suc n) (suc i) d h = unit_stands_at (drop unit_size l) n i d (le_of_suc-le-suc h) ∙ ap held_in (next-part l i)

part-stepped : (c : Cycle) (count selects i : ℕ) (l : List ℕ) → i < count → unit_size * count ≤ length l
    → part_at (stepped_in c count selects l) i ≡ in_place (part_at l i) (seen_by (select_of i selects) c)
unfolding stepped_in
part-stepped c zero k i l h room = absurd (not-suc-le-zero h)
part-stepped c (suc n) k zero l h room =
    let y : List ℕ = stepped_in c n (k / 2) (drop unit_size l) in
    take_at (first c n k l room) y unit_size (stepped_long c n k l room)
    ∙ ap (λ (b : Bool). in_place (take unit_size l) (seen_by b c)) (sym (select_first k))
part-stepped c (suc n) k (suc i) l h room =
    let x : List ℕ = first c n k l room in
    let y : List ℕ = stepped_in c n (k / 2) (drop unit_size l) in
    sym (next-part (x ++ y) i)
    ∙ ap (λ (m : List ℕ). part_at m i) (drop_at x y unit_size (stepped_long c n k l room))
    ∙ part-stepped c n (k / 2) i (drop unit_size l) (le_of_suc-le-suc h) (rest_room c n k l room)
    ∙ ap (λ (p : List ℕ). in_place p (seen_by (select_of i (k / 2)) c)) (next-part l i)
    ∙ ap (λ (b : Bool). in_place (part_at l (suc i)) (seen_by b c)) (sym (select_later i k))

pub each_in_place : EachInPlace
each_in_place c count i l e h room =
    let u = unrefused (board_in l count) c e in
    let accepts : verdict c.cycle (seats_in l count c.selects) ≡ none =
    ap (λ (us : List Unit). verdict c.cycle (seated us c.selects)) (sym (units-take l count)) ∙ u.accepts in
    ap (λ (t : Bool). part_at (bytes_by t (verdict c.cycle (seats_in l count c.selects)) l count c) i) u.count
    ∙ ap (λ (v : Option Refusal). part_at (bytes_by false v l count c) i) accepts
    ∙ part-stepped c.cycle count c.selects i l h room

-- One cycle

pub held_after : HeldAfter
unfolding seats_after
held_after c count l good room =
    subst (λ (m : List ℕ). BoardHeld c count l m) (sym (ap (λ (t : Bool). bytes_by t (verdict c.cycle ss) l count c) good))
    (go (verdict c.cycle ss) refl)
  where
    ss : List Seat
    ss = seats_in l count c.selects

    go : (v : Option Refusal) → verdict c.cycle ss ≡ v → BoardHeld c count l (bytes_by false v l count c)
    go (some r) e = record {
      units = sym (ap (λ (v : Option Refusal). units_by v c.cycle ss) e ∙ seats_units (units_in l count) c.selects);
      behind = refl;
      size = refl;
    }
    go none e = record {
      units = stepped-units c.cycle count c.selects l room
          ∙ ap (λ (zs : List Seat). map (afterwards c.cycle) zs)
          (sym (all_plain c.cycle (parts_in l count) c.selects (verdict_none c.cycle ss e)))
          ∙ sym (ap (λ (v : Option Refusal). units_by v c.cycle ss) e);
      behind = stepped_behind c.cycle count c.selects l room;
      size = stepped_size c.cycle count c.selects l room;
    }

-- the answer, with a good count
answer_in : (c : BoardCycle) (count : ℕ) (l : List ℕ) → wrong_count count ≡ false
    → board_answer (board_in l count) c ≡ seats_answer c.cycle (seats_in l count c.selects)
answer_in c count l good =
    answer_right (board_in l count) c good ∙ ap (λ (us : List Unit). seats_answer c.cycle (seated us c.selects)) (units-take l count)

pub board_refusal_keeps : BoardRefusalKeeps
board_refusal_keeps c count n l said = by (wrong_count count) refl
  where
    ss : List Seat
    ss = seats_in l count c.selects

    by_verdict : (v : Option Refusal) → verdict c.cycle ss ≡ v → number_in (seats_answer c.cycle ss).answer.kind ≡ some n
        → bytes_by false v l count c ≡ l
    by_verdict (some r) e q = refl
    by_verdict none e q =
        let number : ◌≡◌ {A = Option ℕ} none (some n) =
        sym (seats_number c.cycle ss ∙ ap (λ (v : Option Refusal). Option.map (λ (r : Refusal). r.number) v) e) ∙ q in
        let z : ◌≡◌ {A = ℕ} 0 1 = cc in
        absurd (omega arith)

    by : (t : Bool) → wrong_count count ≡ t → bytes_by t (verdict c.cycle ss) l count c ≡ l
    by true w = refl
    by false w = by_verdict (verdict c.cycle ss) refl (sym (ap (λ (a : BoardAnswer). number_in a.answer.kind) (answer_in c count l w)) ∙ said)

pub board_call_gives : BoardCallGives
board_call_gives c count number units answer units' answer' room w =
    let a : BoardAnswer = board_answer (board_in units count) c in (
      w.says ∙ ap (λ (t : Bool). call_number t a) room,
      w.shows ∙ ap (λ (t : Bool). call_answer t answer a) room,
      w.leaves ∙ ap (λ (t : Bool). call_units t units (board_bytes units count c)) room,
    )

-- A unit in the first bytes of a buffer is the unit in the buffer

module _ (l : List ℕ) where
  front_at : (j : ℕ) → j < unit_size → get_or (take unit_size l) j 0 ≡ get_or l j 0
  front_at j h = get_or-take unit_size l j 0 h

  front_table : (n : ℕ) → n ≤ segments → table_in (take unit_size l) n ≡ table_in l n
  unfolding table_in
  front_table zero h = refl
  front_table (suc n) h =
      ap (λ (t : List Descriptor). t ++ (descriptor_in (take unit_size l) (descriptor_at n) ∷ [])) (front_table n (omega arith))
      ∙ ap (λ (d : Descriptor). table_in l n ++ (d ∷ []))
      (descriptor_same l (take unit_size l) (descriptor_at n) (λ j from to. front_at j (omega arith)))

  front_registers : registers_in (take unit_size l) ≡ registers_in l
  unfolding registers_in
  front_registers =
      rw (
        front_at mr_at (omega arith),
        front_at sar_at (omega arith),
        front_at dscr_at (omega arith),
        front_at vtr_at (omega arith),
        front_at vsn_at (omega arith),
        front_at voff_at (omega arith),
        front_at bcsr_at (omega arith),
        front_at isn_at (omega arith),
        front_at ioff_at (omega arith),
        front_at notes_at (omega arith),
        front_at low_at (omega arith),
      )

  front_unit : unit_in (take unit_size l) ≡ unit_in l
  unfolding unit_in
  front_unit =
      let table : table_in (take unit_size l) segments ≡ table_in l segments = front_table segments (omega arith) in
      λ i. record { table = table i; registers = front_registers i }

  front_answers : (c : Cycle) → answer_of (take unit_size l) c ≡ answer_of l c
  front_answers c =
      ap (λ (b : ℕ). answer_by (ltb LAST_NOTES b) (take unit_size l) c) (front_at notes_at (omega arith)) ∙ go (strange l)
    where
      go : (b : Bool) → answer_by b (take unit_size l) c ≡ answer_by b l c
      go true = ap (λ (r : Registers). (refused 2 r).answer) front_registers
      go false = ap (λ (u : Unit). (stepped u c).answer) front_unit

pub one_in_bytes : OneInBytes
unfolding parts_in board_answers answers
one_in_bytes c l =
    let u : Unit = held_in (take unit_size l) in
    let a : BoardAnswer = board_answer (board_in l 1) c in
    ap (λ (xs : List BoardAnswer). get_or xs 0 a) (one_is_the_unit u [] (c ∷ [])).0
    ∙ ap (λ (x : Answer). as_boards x) (held_answers (take unit_size l) (cycle_at 0 c) ∙ front_answers l (cycle_at 0 c))

-- Cycles one after another

-- a call on the bytes of a board is a cycle of that board
pub record OnBoard (c : BoardCycle) (count : ℕ) (before after : List ℕ) : Type 0 where
  pub board : board_in after count ≡ board_after (board_in before count) c
  pub behind : drop (unit_size * count) after ≡ drop (unit_size * count) before
  pub size : length after ≡ length before

on_board : (c : BoardCycle) (count : ℕ) (l : List ℕ) → Roomy l count → OnBoard c count l (board_bytes l count c)
unfolding board_after
on_board c count l roomy = go (wrong_count count) refl
  where
    ss : List Seat
    ss = seats_in l count c.selects

    us : List Unit
    us = units_in l count

    go : (t : Bool) → wrong_count count ≡ t → OnBoard c count l (board_bytes l count c)
    go true w =
        let same : board_bytes l count c ≡ l = ap (λ (t : Bool). bytes_by t (verdict c.cycle ss) l count c) w in
        let units : us ≡ board_units_by (wrong_count count) (board_in l count) c = sym (ap (λ (t : Bool). board_units_by t (board_in l count) c) w) in
        record {
          board = ap (λ (m : List ℕ). board_in m count) same ∙ ap (λ (vs : List Unit). record { units = vs; count = count }) units;
          behind = ap (λ (m : List ℕ). drop (unit_size * count) m) same;
          size = ap (λ (m : List ℕ). length m) same;
        }
    go false w =
        let room : unit_size * count ≤ length l =
        ltb-false (length l) (unit_size * count) (sym (ap (λ (t : Bool). not t && no_units l count) w) ∙ roomy) in
        let held : BoardHeld c count l (board_bytes l count c) = held_after c count l w room in
        let none-behind : drop count us ≡ [] = drop_of_length-le us {i = count} (omega (arith, units-length l count)) in
        let units : units_in (board_bytes l count c) count ≡ board_units_by (wrong_count count) (board_in l count) c =
        held.units
        ∙ ap (λ (vs : List Unit). seats_after c.cycle (seated vs c.selects)) (sym (units-take l count))
        ∙ sym (append-nil (seats_after c.cycle (seats_of (board_in l count) c.selects)))
        ∙ ap (λ (vs : List Unit). seats_after c.cycle (seats_of (board_in l count) c.selects) ++ vs) (sym none-behind)
        ∙ sym (ap (λ (t : Bool). board_units_by t (board_in l count) c) w) in
        record {
          board = ap (λ (vs : List Unit). record { units = vs; count = count }) units;
          behind = held.behind;
          size = held.size;
        }

pub board_calls_are_the_run : BoardCallsAreTheRun
unfolding board_calls board_left board_answers board_final
board_calls_are_the_run [] l count roomy = record { answers = refl; board = refl; behind = refl; size = refl }
board_calls_are_the_run (c ∷ cs) l count roomy =
    let m : List ℕ = board_bytes l count c in
    let one : OnBoard c count l m = on_board c count l roomy in
    let roomy' : Roomy m count = ap (λ (n : ℕ). not (wrong_count count) && ltb n (unit_size * count)) one.size ∙ roomy in
    let later : TheRun (board_in m count) cs m count = board_calls_are_the_run cs m count roomy' in
    record {
      answers = ap (λ (xs : List BoardAnswer). board_answer (board_in l count) c ∷ xs)
          (later.answers ∙ ap (λ (b : Board). board_answers b cs) one.board);
      board = later.board ∙ ap (λ (b : Board). board_final b cs) one.board;
      behind = later.behind ∙ one.behind;
      size = later.size ∙ one.size;
    }

-- Units that were put there

module _ (u : Unit) (size : length u.table ≡ segments) where
  over_itself : sets (unit_bytes u) 0 (unit_bytes u) ≡ unit_bytes u
  over_itself =
      let x : List ℕ = unit_bytes u in
      let none-behind : drop (0 + length x) x ≡ [] = drop_of_length-le x {i = 0 + length x} (omega arith) in
      sets-eq x x 0 (omega arith) ∙ ap (λ (r : List ℕ). x ++ r) none-behind ∙ append-nil x

  unit-held : held_in (unit_bytes u) ≡ u
  unit-held =
      let x : List ℕ = unit_bytes u in
      let room : unit_size ≤ length x = omega (arith, unit-length u size) in
      held_plain x (ap strange (sym over_itself) ∙ never_strange x u room size) ∙ ap unit_in (sym over_itself) ∙ found-again x u room size

pub board_found_again : BoardFoundAgain
unfolding units_bytes parts_in
board_found_again [] rest e = refl
board_found_again (u ∷ us) rest e =
    let x : List ℕ = unit_bytes u in
    let y : List ℕ = units_bytes us ++ rest in
    let long : length x ≡ unit_size = unit-length u e.0 in
    ap (λ (l : List ℕ). units_in l (suc (length us))) (append_assoc x (units_bytes us) rest)
    ∙ ap (λ (p : List ℕ). held_in p ∷ units_in (drop unit_size (x ++ y)) (length us)) (take_at x y unit_size long)
    ∙ ap (λ (p : List ℕ). held_in x ∷ units_in p (length us)) (drop_at x y unit_size long)
    ∙ ap (λ (v : Unit). v ∷ units_in y (length us)) (unit-held u e.0)
    ∙ ap (λ (vs : List Unit). u ∷ vs) (board_found_again us rest e.1)

units_bytes_long : (us : List Unit) → Every (λ u. length u.table ≡ segments) us → length (units_bytes us) ≡ unit_size * length us
unfolding units_bytes
units_bytes_long [] e = refl
units_bytes_long (u ∷ us) e =
    length-append (unit_bytes u) (units_bytes us) ∙ omega (arith, unit-length u e.0, units_bytes_long us e.1)

all_on : (n : ℕ) → Every (λ u. length u.table ≡ segments) (replicate n power_on)
all_on zero = refl
all_on (suc n) = (refl, all_on n)

pub board_from_power_on_bytes : BoardFromPowerOnBytes
board_from_power_on_bytes cs count rest =
    let us : List Unit = replicate count power_on in
    let l : List ℕ = units_bytes us ++ rest in
    let many : length us ≡ count = length-replicate count power_on in
    let found : units_in l count ≡ us = ap (λ (n : ℕ). units_in l n) (sym many) ∙ board_found_again us rest (all_on count) in
    let long : length (units_bytes us) ≡ unit_size * length us = units_bytes_long us (all_on count) in
    let room : no_units l count ≡ false = le-ltb (length l) (unit_size * count) (omega (arith, many, long, length-append (units_bytes us) rest)) in
    let roomy : Roomy l count = ap (λ (t : Bool). not (wrong_count count) && t) room ∙ and-false (not (wrong_count count)) in
    subst (λ (b : Board). TheRun b cs l count) (ap (λ (vs : List Unit). record { units = vs; count = count }) found)
    (board_calls_are_the_run cs l count roomy)
