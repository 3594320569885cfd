-- The kind, SUP and the trap line of every board and every cycle, as one equation each; and that the driving unit's answer is shown.
-- Assumes nothing.
use mathlib.Core.Path.{◌≡◌, refl, sym, ◌∙◌, ap}
use mathlib.Core.Bool.{Bool, true, false, not, cond, ◌&&◌, ◌||◌, true≢false, false≢true, and-false}
use mathlib.Core.List.{List, [], ◌∷◌, map}
use mathlib.Core.Option
use mathlib.Core.Option.{Option, none, some}
use Prim.Native.Nat.{ℕ, ◌<◌, ◌≤◌}
use native.Mathlib.Omega.{arith}
use lib.Dec.{eqb, leb}
use lib.ListN.{length, length-take}
use borrow.Author.Tests.{eqb-true, leb-true, ne_eqb}
use Rattle.std.specs.Prelude.{Some}
use Rattle.rules.specs.Bus.{cpu}
use Rattle.rules.specs.Refusals.{out_of_range}
use Rattle.rules.specs.Step.{stepped}
use Rattle.rules.specs.declared.Answer.{Answer}
use Rattle.rules.specs.declared.Cycle.{Cycle}
use Rattle.rules.specs.declared.Kind.{Kind}
use Rattle.rules.specs.declared.Kind.TheVariants.{Reset, Acknowledge, Command, Aborted, Translated, Passed, Ignored, Refused}
use Rattle.rules.specs.declared.Unit.{Unit}
use Rattle.theorems_runs.specs.Answers.{awaited, is_aborted, violation, held_back, kind_by as singleBy}
use Rattle.theorems_runs.specs.Cycles.{selected_command, memory_cycle, acknowledge, fetches, passing_conditions, translation_conditions}
use Rattle.theorems_runs.specs.Refusal.{refusal_of as singleRefusal}
use Rattle.theorems_runs.specs.Sequences.{Every}
use Rattle.theorems_runs.proofs.Answers.{kind_exactly, aborted_exactly, sup_exactly}
use Rattle.theorems_runs.proofs.Refusal.{numbers_exactly}
use Rattle.theorems_runs.proofs.Tests.{and_l, and_r}
use Rattle.theorems_runs.proofs.Trap.{trap_shows}
use Rattle.board_rules.specs.Board.{Seat, seats_of, seen_by, answer_of, afterwards, some_of, Refusal, is_kind}
use Rattle.board_rules.specs.Board.{on_lines, silent, driver, kind_by, nobody_drives, unit_of, kind_of, joined, wrong_count, board_answer, board_after}
use Rattle.board_rules.specs.declared.Board.{Board}
use Rattle.board_rules.specs.declared.BoardAnswer.{BoardAnswer}
use Rattle.board_rules.specs.declared.BoardCycle.{BoardCycle}
use Rattle.theorems_boards.specs.Seats.{live, alone_at, refusal_of}
use Rattle.theorems_boards.specs.Numbers.{asks, seat_commanded, expected}
use Rattle.theorems_boards.specs.Said.{ready, Shows, DriverAddress, first, driver_of, kind_in, memory_kind, board_kind_by}
use Rattle.theorems_boards.specs.Said.{BoardKindExactly, unless_refused, BoardSupExactly, BoardTrapShows}
use Rattle.theorems_boards.proofs.Forms.{Accepted, accepted-admitted, accepted_form, may_drive_lem}
use Rattle.theorems_boards.proofs.Lists.{every_imp, some_ext, some_and, some_map, seats_length, seats_units, seats_some}
use Rattle.theorems_boards.proofs.Numbers.{board_numbers_exactly, good_count}
use Rattle.theorems_boards.proofs.One.{refused_kind}
use Rattle.theorems_boards.proofs.Said.{told, nothing, told_at, all-accepted, some_drives, names, named_on, nobody_on, none_on, driver-named}
use Rattle.theorems_boards.proofs.Units.{unrefused, board_refusal_leaves}

-- Reset, acknowledge, command: what the units take the cycle as

module _ (c : Cycle) (ss : List Seat) (a : Every (λ s. Accepted (answer_of c s)) ss) where
  resets_are : some_of (is_kind Reset) (map (answer_of c) ss) ≡ some_of (λ s. c.reset) ss
  unfolding seen_by
  resets_are =
      some_map (is_kind Reset) (answer_of c) ss
      ∙ some_ext _ (λ s. c.reset) ss (every_imp _ _ (λ s e. (accepted_form s.unit (seen_by s.select c) e).resets) ss a)

  replies_are : some_of (is_kind Acknowledge) (map (answer_of c) ss) ≡ some_of (λ s. acknowledge c) ss
  unfolding seen_by
  replies_are =
      some_map (is_kind Acknowledge) (answer_of c) ss
      ∙ some_ext _ (λ s. acknowledge c) ss (every_imp _ _ (λ s e. (accepted_form s.unit (seen_by s.select c) e).acks) ss a)

  commands_are : some_of (is_kind Command) (map (answer_of c) ss) ≡ some_of (seat_commanded c) ss
  commands_are =
      some_map (is_kind Command) (answer_of c) ss
      ∙ some_ext _ _ ss (every_imp _ _ (λ s e. (accepted_form s.unit (seen_by s.select c) e).command) ss a)

-- what all agree on, where there is any
pub some_same : {A : Type 0} (l : List A) (t : Bool) → 0 < length l → some_of (λ x. t) l ≡ t
unfolding some_of
some_same [] t h = absurd (omega arith)
some_same (x ∷ l) true h = refl
some_same (x ∷ []) false h = refl
some_same (x ∷ y ∷ l) false h = some_same (y ∷ l) false (omega arith)

-- Aborted fetches

pub letter-aborted : (k : Kind) → is_kind Aborted (silent k false) ≡ is_aborted k
letter-aborted Reset = refl
letter-aborted Acknowledge = refl
letter-aborted Command = refl
letter-aborted Aborted = refl
letter-aborted Translated = refl
letter-aborted Passed = refl
letter-aborted Ignored = refl
letter-aborted (Refused n) = refl

-- where a unit does not refuse, its answer is that of an aborted fetch exactly where the fetch is awaited
aborted-alone : (u : Unit) (c : Cycle) → Accepted (stepped u c).answer → is_kind Aborted (stepped u c).answer ≡ awaited u c
aborted-alone u c h =
    letter-aborted (stepped u c).answer.kind
    ∙ aborted_exactly u c
    ∙ ap (λ (t : Bool). t && awaited u c) (accepted-admitted u c h)

aborted_are : (b : Board) (c : BoardCycle) → refusal_of b c ≡ none
    → some_of (is_kind Aborted) (told b c) ≡ some_of (λ u. awaited u c.cycle) (live b)
unfolding seen_by
aborted_are b c e =
    some_map (is_kind Aborted) (answer_of c.cycle) (seats_of b c.selects)
    ∙ some_ext _ (λ s. awaited s.unit c.cycle) (seats_of b c.selects)
    (every_imp _ _ (λ s. aborted-alone s.unit (seen_by s.select c.cycle)) (seats_of b c.selects) (all-accepted b c e))
    ∙ seats_some (λ u. awaited u c.cycle) (live b) c.selects

-- a fetch is a memory cycle
no_fetch : (c : Cycle) → memory_cycle c ≡ false → fetches c ≡ false
no_fetch c m = go c.reset (eqb c.status 0xD) refl m
  where
    go : (reset thirteen : Bool) → eqb c.status 0xD ≡ thirteen → (not reset && (leb 0x8 c.status && leb c.status 0xD)) ≡ false
        → (not reset && (cpu c && c.read && eqb c.status 0xD)) ≡ false
    go true thirteen q m = refl
    go false true q m =
        absurd (true≢false (sym (ap (λ (n : ℕ). leb 0x8 n && leb n 0xD) (eqb-true c.status 0xD q)) ∙ m))
    go false false q m = rw (q, and-false (cpu c && c.read))

never_awaited : (c : Cycle) (us : List Unit) → memory_cycle c ≡ false → some_of (λ u. awaited u c) us ≡ false
never_awaited c us m =
    some_and (fetches c) (λ u. u.registers.notes.awaits) us
    ∙ ap (λ (t : Bool). t && some_of (λ u. u.registers.notes.awaits) us) (no_fetch c m)

-- Memory cycles

-- a memory cycle is no reset, no acknowledge and no command
module _ (c : Cycle) (m : memory_cycle c ≡ true) where
  no_reset : c.reset ≡ false
  no_reset = go c.reset (and_l (not c.reset) _ m)
    where
      go : (t : Bool) → not t ≡ true → t ≡ false
      go true e = sym e
      go false e = refl

  no_status : (n : ℕ) → n < 8 → eqb c.status n ≡ false
  no_status n h =
      let far : 8 ≤ c.status = leb-true 8 c.status (and_l (leb 8 c.status) _ (and_r (not c.reset) _ m)) in
      ne_eqb c.status n (λ e. omega arith)

  no_reply : acknowledge c ≡ false
  no_reply = rw (no_reset, no_status 4 (omega arith))

  no_command : selected_command c ≡ false
  no_command = rw (no_reset, no_status 3 (omega arith))

way : (w t p : Bool) → (p || t) ≡ true → singleBy none false false false true w t p ≡ cond w Aborted (cond t Translated Passed)
way true t p e = refl
way false true p e = refl
way false false true e = refl
way false false false e = absurd (false≢true e)

memory_way : (o : Option ℕ) (r a k m w t p : Bool) → o ≡ none → r ≡ false → a ≡ false → k ≡ false → m ≡ true → (p || t) ≡ true
    → singleBy o r a k m w t p ≡ cond w Aborted (cond t Translated Passed)
memory_way o r a k m w t p eo er ea ek em e = rw (eo, er, ea, ek, em) (way w t p e)

-- the kind of a memory cycle in a unit that drives
kind_in_lem : (u : Unit) (c : Cycle) → Accepted (stepped u c).answer → memory_cycle c ≡ true → ready c u ≡ true
    → (stepped u c).answer.kind ≡ kind_in c u
kind_in_lem u c h m r =
    let mr : ℕ = u.registers.control.mr in
    kind_exactly u c
    ∙ memory_way (singleRefusal u c) c.reset (acknowledge c) (selected_command c) (memory_cycle c) (awaited u c) (translation_conditions mr c)
    (passing_conditions mr) (sym (numbers_exactly u c) ∙ h) (no_reset c m) (no_reply c m) (no_command c m) m (may_drive_lem mr c ∙ r)

-- the driver's kind, and k where nobody drives
abbrev kind_or : (k : Kind) → Cycle → Option Unit → Kind
kind_or k c (some u) = kind_in c u
kind_or k c none = k

module _ (c : Cycle) (m : memory_cycle c ≡ true) (k : Kind) where
  driver_is : (ss : List Seat) → Every (λ s. Accepted (answer_of c s)) ss
      → (driver (silent k false) (map (answer_of c) ss)).kind ≡ kind_or k c (first (ready c) (map unit_of ss))
  unfolding driver first seen_by
  driver_is [] a = refl
  driver_is (s ∷ ss) a =
      rw ((accepted_form s.unit (seen_by s.select c) a.0).address, m) (go (ready c s.unit) refl (driver_is ss a.1))
    where
      go : (t : Bool) → ready c s.unit ≡ t
          → (driver (silent k false) (map (answer_of c) ss)).kind ≡ kind_or k c (first (ready c) (map unit_of ss))
          → (cond t (answer_of c s) (driver (silent k false) (map (answer_of c) ss))).kind
          ≡ kind_or k c (cond t (some s.unit) (first (ready c) (map unit_of ss)))
      go true r later = kind_in_lem s.unit (seen_by s.select c) a.0 m r
      go false r later = later

-- The kind

-- every board that does not refuse, with at least one unit within the count
module _ (b : Board) (c : BoardCycle) (e : refusal_of b c ≡ none) where
  nobody_is : nobody_drives (told b c) ≡ cond (some_of (λ u. awaited u c.cycle) (live b)) Aborted Ignored
  nobody_is = rw (aborted_are b c e)

  accessed : (o : Option Unit) → kind_or (nobody_drives (told b c)) c.cycle o ≡ memory_kind o c.cycle (live b)
  accessed (some u) = refl
  accessed none = nobody_is

  driver-memory : memory_cycle c.cycle ≡ true
      → (driver (silent (nobody_drives (told b c)) false) (told b c)).kind ≡ memory_kind (driver_of c.cycle (live b)) c.cycle (live b)
  driver-memory m =
      driver_is c.cycle m (nobody_drives (told b c)) (seats_of b c.selects) (all-accepted b c e)
      ∙ ap (λ (us : List Unit). kind_or (nobody_drives (told b c)) c.cycle (first (ready c.cycle) us)) (seats_units (live b) c.selects)
      ∙ accessed (driver_of c.cycle (live b))

  driver-other : memory_cycle c.cycle ≡ false → (driver (silent (nobody_drives (told b c)) false) (told b c)).kind ≡ Ignored
  driver-other m =
      let none-drives : some_of on_lines (told b c) ≡ false =
      some_drives b c e ∙ ap (λ (t : Bool). t && some_of (ready c.cycle) (live b)) m in
      ap (λ (x : Answer). x.kind) (none_on (silent (nobody_drives (told b c)) false) (told b c) 0 none-drives).1
      ∙ nobody_is
      ∙ ap (λ (t : Bool). cond t Aborted Ignored) (never_awaited c.cycle (live b) m)

  kind_said_lem : 0 < length (live b)
      → (board_answer b c).answer.kind
      ≡ kind_by c.cycle.reset (acknowledge c.cycle) (some_of (seat_commanded c.cycle) (seats_of b c.selects))
      (driver (silent (nobody_drives (told b c)) false) (told b c)).kind
  unfolding joined kind_of
  kind_said_lem l =
      let ss : List Seat = seats_of b c.selects in
      let k : 0 < length ss = rw (seats_length (live b) c.selects) l in
      ap (λ (x : BoardAnswer). x.answer.kind) (unrefused b c e).answer
      ∙ rw (
        resets_are c.cycle ss (all-accepted b c e),
        replies_are c.cycle ss (all-accepted b c e),
        commands_are c.cycle ss (all-accepted b c e),
        some_same ss c.cycle.reset k,
        some_same ss (acknowledge c.cycle) k,
      )

  kind_unrefused : 0 < length (live b)
      → (board_answer b c).answer.kind
      ≡ board_kind_by none c.cycle.reset (acknowledge c.cycle) (some_of (seat_commanded c.cycle) (seats_of b c.selects))
      (memory_cycle c.cycle) (memory_kind (driver_of c.cycle (live b)) c.cycle (live b))
  kind_unrefused l =
      kind_said_lem l
      ∙ go c.cycle.reset (acknowledge c.cycle) (some_of (seat_commanded c.cycle) (seats_of b c.selects)) (memory_cycle c.cycle)
      driver-memory driver-other
    where
      go : {x y : Kind} (r a k m : Bool) → (m ≡ true → x ≡ y) → (m ≡ false → x ≡ Ignored) → kind_by r a k x ≡ board_kind_by none r a k m y
      go true a k m p q = refl
      go false true k m p q = refl
      go false false true m p q = refl
      go false false false true p q = p refl
      go false false false false p q = q refl

-- where a number is given it is the expected one, and where none is expected none is given
refused-number : (b : Board) (c : BoardCycle) (o : Option Refusal) → expected b c ≡ o → refusal_of b c ≡ Option.map (λ r. r.number) o
refused-number b c o e = board_numbers_exactly b c ∙ ap (λ (o : Option Refusal). Option.map (λ r. r.number) o) e

-- a board that does not refuse has a unit within the count, if it has any
some_live : (b : Board) → wrong_count b.count ≡ false → 0 < length b.units → 0 < length (live b)
some_live b w h =
    let n : 1 ≤ b.count = ((good_count b).0 w).0 in
    simp length-take (omega arith)

pub board_kind_exactly : BoardKindExactly
board_kind_exactly b c h = go (expected b c) refl
  where
    go : (o : Option Refusal) → expected b c ≡ o
        → (board_answer b c).answer.kind
        ≡ board_kind_by o c.cycle.reset (acknowledge c.cycle) (some_of (seat_commanded c.cycle) (seats_of b c.selects))
        (memory_cycle c.cycle) (memory_kind (driver_of c.cycle (live b)) c.cycle (live b))
    go (some r) e = refused_kind _ r.number (refused-number b c (some r) e)
    go none e =
        let accepted : refusal_of b c ≡ none = refused-number b c none e in
        kind_unrefused b c accepted (some_live b (unrefused b c accepted).count h)

-- The driving unit's answer

some_never : {A : Type 0} (p : A → Bool) (l : List A) → ((x : A) → p x ≡ false) → some_of p l ≡ false
unfolding some_of
some_never p [] h = refl
some_never p (x ∷ l) h = rw (h x) (some_never p l h)

never_commanded : (c : Cycle) → memory_cycle c ≡ true → (ss : List Seat) → some_of (seat_commanded c) ss ≡ false
unfolding seen_by
never_commanded c m ss = some_never (seat_commanded c) ss (λ s. no_command (seen_by s.select c) m)

kind_last : (r a k : Bool) (x : Kind) → r ≡ false → a ≡ false → k ≡ false → kind_by r a k x ≡ x
kind_last r a k x er ea ek = rw (er, ea, ek)

module _ (b : Board) (c : BoardCycle) (e : refusal_of b c ≡ none) (i : ℕ) (n : (board_answer b c).named ≡ Some i) where
  within : i < length (live b)
  within = (((driver-named b c e).unit i).0 n).0

  memory : memory_cycle c.cycle ≡ true
  memory = and_l (memory_cycle c.cycle) _ (((driver-named b c e).unit i).0 n).1

  driver-alone : (z : Answer) → driver z (told b c) ≡ (alone_at i b c).answer
  driver-alone z = (named_on nothing z (told b c) 0 i i (omega arith) (sym (names b c e) ∙ n)).2 ∙ told_at b c i within

  driven-shows : Shows (alone_at i b c).answer (board_answer b c).answer
  unfolding joined
  driven-shows =
      let z : Answer = silent (nobody_drives (told b c)) false in
      let a : board_answer b c ≡ joined (told b c) = (unrefused b c e).answer in
      record {
        kind = kind_said_lem b c e (omega (arith, within))
            ∙ kind_last c.cycle.reset (acknowledge c.cycle) (some_of (seat_commanded c.cycle) (seats_of b c.selects))
            (driver z (told b c)).kind (no_reset c.cycle memory) (no_reply c.cycle memory)
            (never_commanded c.cycle memory (seats_of b c.selects))
            ∙ ap (λ (x : Answer). x.kind) (driver-alone z);
        address = ap (λ (x : BoardAnswer). x.answer.address) a ∙ ap (λ (x : Answer). x.address) (driver-alone nothing);
        distance = ap (λ (x : BoardAnswer). x.answer.distance) a ∙ ap (λ (x : Answer). x.distance) (driver-alone nothing);
      }

pub driver_address : DriverAddress
unfolding joined
driver_address b c e =
    let a : board_answer b c ≡ joined (told b c) = (unrefused b c e).answer in
    record {
      driven = driven-shows b c e;
      undriven = λ n.
          let nobody : driver nothing (told b c) ≡ nothing = (none_on nothing (told b c) 0 (nobody_on (told b c) 0 (sym (names b c e) ∙ n))).1 in (
            ap (λ (x : BoardAnswer). x.answer.address) a ∙ ap (λ (x : Answer). x.address) nobody,
            ap (λ (x : BoardAnswer). x.answer.distance) a ∙ ap (λ (x : Answer). x.distance) nobody,
          );
    }

-- SUP and the trap line

sup_unrefused : (b : Board) (c : BoardCycle) → refusal_of b c ≡ none
    → (board_answer b c).answer.sup ≡ some_of (λ u. violation u c.cycle || held_back u c.cycle) (live b)
unfolding joined seen_by out_of_range
sup_unrefused b c e =
    ap (λ (x : BoardAnswer). x.answer.sup) (unrefused b c e).answer
    ∙ some_map (λ x. x.sup) (answer_of c.cycle) (seats_of b c.selects)
    ∙ some_ext _ (λ s. violation s.unit c.cycle || held_back s.unit c.cycle) (seats_of b c.selects)
    (every_imp _ _ (λ s a. sup_exactly s.unit (seen_by s.select c.cycle)) (seats_of b c.selects) (all-accepted b c e))
    ∙ seats_some (λ u. violation u c.cycle || held_back u c.cycle) (live b) c.selects

pub board_sup_exactly : BoardSupExactly
board_sup_exactly b c = go (expected b c) refl
  where
    go : (o : Option Refusal) → expected b c ≡ o
        → (board_answer b c).answer.sup ≡ unless_refused o (some_of (λ u. violation u c.cycle || held_back u c.cycle) (live b))
    go (some r) e = (board_refusal_leaves b c r.number (refused-number b c (some r) e)).sup
    go none e = sup_unrefused b c (refused-number b c none e)

pub board_trap_shows : BoardTrapShows
unfolding joined
board_trap_shows b c = go (refusal_of b c) refl
  where
    go : (o : Option ℕ) → refusal_of b c ≡ o
        → (board_answer b c).answer.trap ≡ (not (wrong_count b.count) && some_of asks (live (board_after b c)))
    go (some n) e =
        (board_refusal_leaves b c n e).trap
        ∙ ap (λ (a : Board). not (wrong_count b.count) && some_of asks (live a)) (sym (board_refusal_leaves b c n e).board)
    go none e =
        let ss : List Seat = seats_of b c.selects in
        ap (λ (x : BoardAnswer). x.answer.trap) (unrefused b c e).answer
        ∙ some_map (λ x. x.trap) (answer_of c.cycle) ss
        ∙ some_ext _ (λ s. asks (afterwards c.cycle s)) ss
        (every_imp _ _ (λ s a. trap_shows s.unit (seen_by s.select c.cycle)) ss (all-accepted b c e))
        ∙ sym (some_map asks (afterwards c.cycle) ss)
        ∙ ap (λ (us : List Unit). some_of asks us) (sym (unrefused b c e).units)
        ∙ ap (λ (t : Bool). not t && some_of asks (live (board_after b c))) (sym (unrefused b c e).count)
