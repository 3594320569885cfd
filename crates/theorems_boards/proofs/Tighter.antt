-- Demand 3 for boards: the verdicts are equal, since they look at MR and the selects alone, and each pair of units goes its single way.
-- Assumes nothing.
use mathlib.Core.Path.{◌≡◌, refl, sym, ◌∙◌, ap}
use mathlib.Core.Bool.{Bool, true, false, not, cond, ◌&&◌, ◌||◌, and-false, true≢false, false≢true}
use mathlib.Core.List.{List, [], ◌∷◌, map}
use mathlib.Core.Option.{Option, none, some}
use Prim.Native.Nat.{ℕ, suc, ◌/◌, ◌%◌, ◌<◌, ◌≤◌}
use native.Mathlib.Omega.{arith}
use lib.ListN.{length, length-take}
use Rattle.rules.specs.Bus.{cpu}
use Rattle.rules.specs.Kinds.{number_in}
use Rattle.rules.specs.Refusals.{out_of_range}
use Rattle.rules.specs.declared.Answer.{Answer}
use Rattle.rules.specs.declared.Address.{Address}
use Rattle.rules.specs.declared.Cycle.{Cycle}
use Rattle.rules.specs.declared.Kind.{Kind}
use Rattle.rules.specs.declared.Kind.TheVariants.{Reset, Acknowledge, Command, Translated}
use Rattle.rules.specs.declared.Unit.{Unit}
use Rattle.rules.specs.Step.{stepped}
use Rattle.theorems_runs.specs.Answers.{awaited, aborted_fetch, segment_of, breaks, violation}
use Rattle.theorems_runs.specs.Cycles.{descriptor_write, acknowledge, memory_cycle, fetches, software_reset, translation_conditions}
use Rattle.theorems_runs.specs.Hold.{holds}
use Rattle.theorems_runs.specs.Narrower.{Level, Narrower, AlongBoth}
use Rattle.theorems_runs.specs.Refusal.{admitted}
use Rattle.theorems_runs.specs.Sequences.{◌⇒◌, Every, Both}
use Rattle.theorems_runs.specs.Tighter.{Nearer}
use Rattle.theorems_runs.specs.Unstopped.{CoversBut}
use Rattle.theorems_runs.proofs.Answers.{address_exactly, sup_exactly}
use Rattle.theorems_runs.proofs.Hold.{hold_exactly}
use Rattle.theorems_runs.proofs.Tests.{and_l, and_r, or_l}
use Rattle.theorems_runs.proofs.Tighter.{narrower_kept}
use Rattle.theorems_runs.proofs.Unstopped.{level, step_level, nearer_step, covers_unstopped}
use Rattle.board_rules.specs.Board.{Seat, seated, seats_of, seen_by, unit_of, answer_of, afterwards, some_of, Refusal, wrong_count, verdict, is_kind}
use Rattle.board_rules.specs.Board.{on_lines, driver, driver_from, silent, kind_by, nobody_drives, kind_of, joined, answer_by, units_by, seats_answer}
use Rattle.board_rules.specs.Board.{nobodys, refusing, requests}
use Rattle.board_rules.specs.Board.{seats_after, board_answer, board_after, board_answers}
use Rattle.board_rules.specs.declared.Board.{Board}
use Rattle.board_rules.specs.declared.BoardAnswer.{BoardAnswer}
use Rattle.board_rules.specs.declared.BoardCycle.{BoardCycle}
use Rattle.theorems_boards.specs.Numbers.{may_drive, seat_number, seat_drives, seat_commanded, expected_by}
use Rattle.theorems_boards.specs.Seats.{live, select_of, refusal_of, given}
use Rattle.theorems_boards.specs.Settings.{mr_of}
use Rattle.theorems_boards.specs.BoardTighter.{BoardSame, BoardCovers, BoardNearer, EachBoardLine, aborted_on}
use Rattle.theorems_boards.specs.BoardTighter.{on_either, on_first, on_translating, on_none, board_before, NoWriteTo, BoardTighterBy}
use Rattle.theorems_boards.specs.BoardTighter.{Tightened, BoardDemand3, BoardStopInFirst, BoardNarrowerCovers}
use Rattle.theorems_boards.specs.BoardTighter.{BoardStopWhereTranslated, BoardUnstopped, OnceBy, SupToo, BoardOnce}
use Rattle.theorems_boards.proofs.Elements.{every_true, none_false, none_of_both, map_both, both_map, both_imp, some-⇒, two_both}
use Rattle.theorems_boards.proofs.Forms.{Accepted}
use Rattle.theorems_boards.proofs.Lists.{select_first, select_later}
use Rattle.theorems_boards.proofs.Live.{after-count, live_right, live_wrong, answer_right, answer_wrong}
use Rattle.theorems_boards.proofs.Numbers.{verdict_is, verdict_none, kind_accepted, seats_number}

-- Answers joined

-- two answers drive the same address
SameAddress : Answer → Answer → Type 0
SameAddress x y = x.address ≡ y.address

module _ (x : Answer) where
  driver_address : (l m : List Answer) → Both SameAddress l m → (driver x l).address ≡ (driver x m).address
  unfolding driver SameAddress
  driver_address [] [] e = refl
  driver_address [] (y ∷ m) e = absurd e
  driver_address (z ∷ l) [] e = absurd e
  driver_address (z ∷ l) (y ∷ m) e =
      go (on_lines z) (driver_address l m e.1) ∙ ap (λ (o : Address). (cond o.driven y (driver x m)).address) e.0
    where
      go : (t : Bool) → (driver x l).address ≡ (driver x m).address → (cond t z (driver x l)).address ≡ (cond t y (driver x m)).address
      go true later = e.0
      go false later = later

driver-named : (i : ℕ) (l m : List Answer) → Both SameAddress l m → driver_from i l ≡ driver_from i m
unfolding driver_from SameAddress
driver-named i [] [] e = refl
driver-named i [] (y ∷ m) e = absurd e
driver-named i (z ∷ l) [] e = absurd e
driver-named i (z ∷ l) (y ∷ m) e = rw (e.0, driver-named (suc i) l m e.1)

-- the same unit drives in both, so where both translate, its distances are compared
record Compared (x y : Answer) : Type 0 where
  address : x.address ≡ y.address
  nearer : Nearer x y

driver_nearer : (x y z : Answer) (l m : List Answer) → Both Compared l m → (driver x l).kind ≡ Translated → (driver y m).kind ≡ Translated
    → (driver z l).distance ≤ (driver z m).distance
unfolding driver
driver_nearer x y z [] [] e p q = omega arith
driver_nearer x y z [] (v ∷ m) e p q = absurd e
driver_nearer x y z (u ∷ l) [] e p q = absurd e
driver_nearer x y z (u ∷ l) (v ∷ m) e p q =
    go (on_lines u) (on_lines v) (ap (λ (o : Address). o.driven) e.0.address) p q (driver_nearer x y z l m e.1)
  where
    go : (s t : Bool) → s ≡ t → (cond s u (driver x l)).kind ≡ Translated → (cond t v (driver y m)).kind ≡ Translated
        → ((driver x l).kind ≡ Translated → (driver y m).kind ≡ Translated → (driver z l).distance ≤ (driver z m).distance)
        → (cond s u (driver z l)).distance ≤ (cond t v (driver z m)).distance
    go true true r p q later = e.0.nearer p q
    go false false r p q later = later p q
    go true false r p q later = absurd (true≢false r)
    go false true r p q later = absurd (false≢true r)

-- where the board's kind is Translated, its driver's is
by_driver : (reset acknowledge command : Bool) (k : Kind) → kind_by reset acknowledge command k ≡ Translated → k ≡ Translated
by_driver true acknowledge command k e = let z : ◌≡◌ {A = ℕ} 0 1 = cc in absurd (omega arith)
by_driver false true command k e = let z : ◌≡◌ {A = ℕ} 0 1 = cc in absurd (omega arith)
by_driver false false true k e = let z : ◌≡◌ {A = ℕ} 0 1 = cc in absurd (omega arith)
by_driver false false false k e = e

translating : (l : List Answer) → kind_of l ≡ Translated → (driver (silent (nobody_drives l) false) l).kind ≡ Translated
unfolding kind_of
translating l e = by_driver (some_of (is_kind Reset) l) (some_of (is_kind Acknowledge) l) (some_of (is_kind Command) l) _ e

joined_nearer : (l m : List Answer) → Both Compared l m → BoardNearer (joined l) (joined m)
unfolding joined
joined_nearer l m e p q = driver_nearer _ _ _ l m e (translating l p) (translating m q)

-- Pairs of units, at one cycle

same_address : (a b : Unit) (c : Cycle) → Level a b → (stepped a c).answer.address ≡ (stepped b c).answer.address
same_address a b c h =
    rw (
      address_exactly a c,
      address_exactly b c,
      h.first.sound,
      h.second.sound,
      h.mr,
      (h.table (c.segment % 64) (omega arith)).base,
    )

compared : (a b : Unit) (c : Cycle) → Level a b → Compared (stepped a c).answer (stepped b c).answer
compared a b c h = record { address = same_address a b c h; nearer = nearer_step a b c h }

-- an aborted fetch that meets the translation conditions in its unit
abbrev Harms : Unit → Cycle → Bool
Harms u c = aborted_fetch u c && translation_conditions (mr_of u) c

module _ (a b : Unit) (c : Cycle) (h : Narrower a b) where
  -- one that does not meet them in the first unit: the second has nothing to check, and as a fetch it is not held back and ends hold
  module _ (x : aborted_fetch a c ≡ true) (t : translation_conditions (mr_of a) c ≡ false) where
    fetching : fetches c ≡ true
    fetching = and_l (fetches c) a.registers.notes.awaits (and_r (admitted a c) _ x)

    no_violation : violation b c ≡ false
    no_violation =
        let out : translation_conditions (mr_of b) c ≡ false = ap (λ (m : ℕ). translation_conditions m c) (sym h.mr) ∙ t in
        ap (λ (q : Bool). admitted b c && memory_cycle c && not (awaited b c) && q && breaks (segment_of b c) c) out
        ∙ ap (λ (q : Bool). q && breaks (segment_of b c) c) (and-false (admitted b c && memory_cycle c && not (awaited b c)))

    no_sup : (stepped b c).answer.sup ≡ false
    no_sup = sup_exactly b c ∙ rw (no_violation, fetching) (go (admitted b c && memory_cycle c && cpu c))
      where
        go : (q : Bool) → (q && false && holds b) ≡ false
        go true = refl
        go false = refl

    no_hold : holds (stepped b c).unit ≡ false
    no_hold =
        let in_range : admitted b c ≡ true =
        ap (λ (d : Bool). not d && not (out_of_range c)) (h.second.sound ∙ sym h.first.sound) ∙ and_l (admitted a c) _ x in
        hold_exactly b c ∙ rw (no_violation, in_range, fetching) (go (c.reset || acknowledge c) (software_reset c))
      where
        go : (q s : Bool) → (not (q || true || s) && holds b) ≡ false
        go true s = refl
        go false s = refl

  sup_too : descriptor_write c ≡ false → Harms a c ≡ false → (stepped b c).answer.sup ⇒ (stepped a c).answer.sup
  unfolding CoversBut AlongBoth
  sup_too f x = go (aborted_fetch a c) refl x
    where
      go : (t : Bool) → aborted_fetch a c ≡ t → (t && translation_conditions (mr_of a) c) ≡ false → (stepped b c).answer.sup ⇒ (stepped a c).answer.sup
      go true e x = λ z. absurd (false≢true (sym (no_sup e x) ∙ z))
      go false e x = (covers_unstopped a b (c ∷ []) h (f, refl)).1 (ap (λ (t : Bool). t || false) e)

  kept : descriptor_write c ≡ false → Harms a c ≡ false → Narrower (stepped a c).unit (stepped b c).unit
  kept f x = go (aborted_fetch a c) refl x
    where
      go : (t : Bool) → aborted_fetch a c ≡ t → (t && translation_conditions (mr_of a) c) ≡ false → Narrower (stepped a c).unit (stepped b c).unit
      go true e x =
          let k : Level (stepped a c).unit (stepped b c).unit = step_level a b c (level h) f in
          record {
            first = k.first;
            second = k.second;
            table = k.table;
            mr = k.mr;
            hold = λ z. absurd (false≢true (sym (no_hold e x) ∙ z));
          }
      go false e x = narrower_kept a b c h f e

-- Pairs of seats

record Pair (Related : Unit → Unit → Type 0) (c : Cycle) (s t : Seat) : Type 0 where
  units : Related s.unit t.unit
  select : s.select ≡ t.select
  reads : descriptor_write (seen_by s.select c) ≡ false

module _ (Related : Unit → Unit → Type 0) (c : Cycle) where
  seats_paired : (us vs : List Unit) (k : ℕ) → Both Related us vs → ((i : ℕ) → i < length us → descriptor_write (seen_by (select_of i k) c) ≡ false)
      → Both (Pair Related c) (seated us k) (seated vs k)
  unfolding seated
  seats_paired [] [] k e f = refl
  seats_paired [] (v ∷ vs) k e f = absurd e
  seats_paired (u ∷ us) [] k e f = absurd e
  seats_paired (u ∷ us) (v ∷ vs) k e f = (
    record { units = e.0; select = refl; reads = rw (← select_first k) (f 0 (omega arith)) },
    seats_paired us vs (k / 2) e.1 (λ i h. rw (← select_later i k) (f (suc i) (omega arith))),
  )

-- the verdict looks at MR, the selects and 2
module _ (c : Cycle) (ss ts : List Seat) (h : Both (Pair Level c) ss ts) where
  same_numbers : map (seat_number c) ss ≡ map (seat_number c) ts
  same_numbers =
      map_both (Pair Level c) (seat_number c) (λ s t p. rw (p.units.first.sound, p.units.second.sound, p.select)) ss ts h

  same_expected : expected_by false c ss ≡ expected_by false c ts
  same_expected =
      rw (
        same_numbers,
        two_both (Pair Level c) (seat_drives c) (λ s t p. ap (λ (m : ℕ). may_drive m c) p.units.mr) ss ts h,
        two_both (Pair Level c) (seat_commanded c) (λ s t p. rw p.select) ss ts h,
      )

  same_verdict : verdict c ss ≡ verdict c ts
  same_verdict = verdict_is c ss ∙ same_expected ∙ sym (verdict_is c ts)

-- A relation of two units that cycles keep and that gives a line of their answers, where the first unit's cycle is as asked

pub record Way (Related : Unit → Unit → Type 0) (Fine : Unit → Cycle → Type 0) (Single : Answer → Answer → Type 0)
    (Line : BoardAnswer → BoardAnswer → Type 0) : Type 0 where
  pub levels : (a b : Unit) → Related a b → Level a b
  pub answers_so : (a b : Unit) (c : Cycle) → Related a b → descriptor_write c ≡ false → Fine a c → Single (stepped a c).answer (stepped b c).answer
  pub units_so : (a b : Unit) (c : Cycle) → Related a b → descriptor_write c ≡ false → Fine a c → Related (stepped a c).unit (stepped b c).unit
  pub refused_so : (r : Refusal) (x y : Bool) → Line (refusing r x) (refusing r y)
  pub joined_so : (l m : List Answer) → Both Single l m → number_in (kind_of l) ≡ none → number_in (kind_of m) ≡ none → Line (joined l) (joined m)

module _ (Related : Unit → Unit → Type 0) (Fine : Unit → Cycle → Type 0) (Single : Answer → Answer → Type 0)
    (Line : BoardAnswer → BoardAnswer → Type 0) (way : Way Related Fine Single Line) where
  -- One cycle of two lists of seats
  module _ (c : Cycle) (ss ts : List Seat) (h : Both (Pair Related c) ss ts) where
    seats_level : Both (Pair Level c) ss ts
    seats_level =
        both_imp (Pair Related c) (Pair Level c)
        (λ s t p. record { units = way.levels s.unit t.unit p.units; select = p.select; reads = p.reads }) ss ts h

    both_stay : Both Related (map unit_of ss) (map unit_of ts)
    both_stay = both_map (Pair Related c) Related (λ s. true ≡ true) unit_of (λ s t p x. p.units) ss ts h (every_true ss)

    module _ (a : Every (λ s. Fine s.unit (seen_by s.select c)) ss) where
      both_answer : Both Single (map (answer_of c) ss) (map (answer_of c) ts)
      both_answer =
          both_map (Pair Related c) Single (λ s. Fine s.unit (seen_by s.select c)) (answer_of c)
          (λ s t p x. rw (← p.select) (way.answers_so s.unit t.unit (seen_by s.select c) p.units p.reads x)) ss ts h a

      both_go : Both Related (map (afterwards c) ss) (map (afterwards c) ts)
      both_go =
          both_map (Pair Related c) Related (λ s. Fine s.unit (seen_by s.select c)) (afterwards c)
          (λ s t p x. rw (← p.select) (way.units_so s.unit t.unit (seen_by s.select c) p.units p.reads x)) ss ts h a

    seats_step : (verdict c ss ≡ none → Every (λ s. Fine s.unit (seen_by s.select c)) ss)
        → Line (seats_answer c ss) (seats_answer c ts) × Both Related (seats_after c ss) (seats_after c ts)
    unfolding seats_answer seats_after
    seats_step fine = go (verdict c ss) refl
      where
        same : verdict c ss ≡ verdict c ts
        same = same_verdict c ss ts seats_level

        go : (v : Option Refusal) → verdict c ss ≡ v
            → Line (answer_by (verdict c ss) c ss) (answer_by (verdict c ts) c ts)
            × Both Related (units_by (verdict c ss) c ss) (units_by (verdict c ts) c ts)
        go (some r) e = rw (← same, e) (way.refused_so r (some_of requests ss) (some_of requests ts), both_stay)
        go none e =
            let accepted : Every (λ s. Accepted (answer_of c s)) ts = verdict_none c ts (sym same ∙ e) in
            rw (← same, e) (
              way.joined_so (map (answer_of c) ss) (map (answer_of c) ts) (both_answer (fine e)) (kind_accepted c ss (verdict_none c ss e))
                  (kind_accepted c ts accepted),
              both_go (fine e),
            )

  -- One cycle of two boards
  module _ (a b : Board) (c : BoardCycle) (n : a.count ≡ b.count) (h : Both Related (live a) (live b)) (f : NoWriteTo a.count c)
      (fine : not (given (refusal_of a c)) ≡ true → Every (λ s. Fine s.unit (seen_by s.select c.cycle)) (seats_of a c.selects)) where
    paired : Both (Pair Related c.cycle) (seats_of a c.selects) (seats_of b c.selects)
    paired =
        seats_paired Related c.cycle (live a) (live b) c.selects h
        (λ i l. let s : i < a.count = omega (arith, length-take a.count a.units) in f i s)

    board_step : Line (board_answer a c) (board_answer b c) × Both Related (live (board_after a c)) (live (board_after b c))
    board_step = go (wrong_count a.count) refl
      where
        go : (t : Bool) → wrong_count a.count ≡ t
            → Line (board_answer a c) (board_answer b c) × Both Related (live (board_after a c)) (live (board_after b c))
        go true e =
            let e' : wrong_count b.count ≡ true = ap wrong_count (sym n) ∙ e in (
              rw (answer_wrong a c e, answer_wrong b c e') (way.refused_so (nobodys 11) false false),
              rw (live_wrong a c e, live_wrong b c e') h,
            )
        go false e =
            let e' : wrong_count b.count ≡ false = ap wrong_count (sym n) ∙ e in
            let ss : List Seat = seats_of a c.selects in
            let s =
            seats_step c.cycle ss (seats_of b c.selects) paired
            (λ v. fine (rw (answer_right a c e, seats_number c.cycle ss, v))) in (
              rw (answer_right a c e, answer_right b c e') s.0,
              rw (live_right a c e, live_right b c e') s.1,
            )

  -- Runs
  module _ (stop : Board → Board → BoardCycle → Bool)
      (stops : (a b : Board) (c : BoardCycle) → stop a b c ≡ false → not (given (refusal_of a c)) ≡ true
      → Every (λ s. Fine s.unit (seen_by s.select c.cycle)) (seats_of a c.selects)) where
    run : (n : ℕ) (cs : List BoardCycle) (a b : Board) → a.count ≡ n → a.count ≡ b.count → Both Related (live a) (live b) → Every (NoWriteTo n) cs
        → Both Line (board_answers a (board_before stop a b cs)) (board_answers b (board_before stop a b cs))
    unfolding board_answers board_before
    run n [] a b k m h f = refl
    run n (c ∷ cs) a b k m h f =
        go (stop a b c) refl
        (run n cs (board_after a c) (board_after b c) (after-count a c ∙ k) (after-count a c ∙ m ∙ sym (after-count b c)))
      where
        rest : List BoardCycle
        rest = board_before stop (board_after a c) (board_after b c) cs

        go : (t : Bool) → stop a b c ≡ t
            → (Both Related (live (board_after a c)) (live (board_after b c)) → Every (NoWriteTo n) cs
            → Both Line (board_answers (board_after a c) rest) (board_answers (board_after b c) rest))
            → Both Line (board_answers a (cond t [] (c ∷ rest))) (board_answers b (cond t [] (c ∷ rest)))
        go true e later = refl
        go false e later =
            let s = board_step a b c m h (rw k f.0) (stops a b c e) in
            (s.0, later s.1 f.1)

    pub tighter_by : BoardTighterBy Line Related NoWriteTo stop
    tighter_by a b cs n h f = run a.count cs a b refl n h f

-- The two ways: with no stop, and up to an aborted fetch of the first board that its unit would translate

Unstopped : BoardAnswer → BoardAnswer → Type 0
Unstopped x y = BoardSame x y × BoardNearer x y

Stopped : BoardAnswer → BoardAnswer → Type 0
Stopped x y = BoardCovers x y × BoardNearer x y

same_joined : (l m : List Answer) → Both Compared l m → number_in (kind_of l) ≡ none → number_in (kind_of m) ≡ none → BoardSame (joined l) (joined m)
unfolding joined SameAddress
same_joined l m h p q =
    let lines : Both SameAddress l m = both_imp Compared SameAddress (λ x y c. c.address) l m h in
    record { address = driver_address _ l m lines; number = p ∙ sym q; named = driver-named 0 l m lines }

level_way : Way Level (λ u c. true ≡ true) Compared Unstopped
unfolding Unstopped
level_way =
    record {
      levels = λ a b h. h;
      answers_so = λ a b c h f x. compared a b c h;
      units_so = λ a b c h f x. step_level a b c h f;
      refused_so = λ r x y. (record { address = refl; number = refl; named = refl }, λ p q. omega arith);
      joined_so = λ l m h p q. (same_joined l m h p q, joined_nearer l m h);
    }

record Covered (x y : Answer) : Type 0 where
  compare : Compared x y
  sup : y.sup ⇒ x.sup

narrower_way : Way Narrower (λ u c. Harms u c ≡ false) Covered Stopped
unfolding Stopped joined
narrower_way =
    record {
      levels = λ a b h. level h;
      answers_so = λ a b c h f x. record { compare = compared a b c (level h); sup = sup_too a b c h f x };
      units_so = λ a b c h f x. kept a b c h f x;
      refused_so = λ r x y. (record { address = refl; sup = λ z. z; number = refl; named = refl }, λ p q. omega arith);
      joined_so = λ l m h p q.
          let k : Both Compared l m = both_imp Covered Compared (λ x y c. c.compare) l m h in
          let s : BoardSame (joined l) (joined m) = same_joined l m k p q in (
            record {
              address = s.address;
              sup = some-⇒ Covered (λ x. x.sup) (λ x y c. c.sup) l m h;
              number = s.number;
              named = s.named;
            },
            joined_nearer l m k,
          );
    }

-- each line of the two
module _ (P Q : BoardAnswer → BoardAnswer → Type 0) (Start : Unit → Unit → Type 0) (stop : Board → Board → BoardCycle → Bool) where
  each_line : BoardTighterBy (λ x y. P x y × Q x y) Start NoWriteTo stop
      → BoardTighterBy P Start NoWriteTo stop × BoardTighterBy Q Start NoWriteTo stop
  each_line claim = (
    λ a b cs n h f. both_imp _ P (λ x y z. z.0) (of a a b cs) (of b a b cs) (claim a b cs n h f),
    λ a b cs n h f. both_imp _ Q (λ x y z. z.1) (of a a b cs) (of b a b cs) (claim a b cs n h f),
  )
    where
      of : (board a b : Board) → List BoardCycle → List BoardAnswer
      of board a b cs = board_answers board (board_before stop a b cs)

pub board_unstopped : BoardUnstopped
unfolding Unstopped
board_unstopped =
    each_line BoardSame BoardNearer Level on_none
    (tighter_by Level (λ u c. true ≡ true) Compared Unstopped level_way on_none λ a b c e q. every_true (seats_of a c.selects))

narrower_pair : (a b : Unit) → Tightened a b → Narrower a b
narrower_pair a b h =
    record {
      first = h.first;
      second = h.second;
      table = h.loosened.table;
      mr = ap (λ r. r.control.mr) h.loosened.registers;
      hold = rw h.loosened.registers (λ z. z);
    }

-- any stop that comes before such a fetch
module _ (stop : Board → Board → BoardCycle → Bool) (stops : (a b : Board) (c : BoardCycle) → stop a b c ≡ false → on_translating a b c ≡ false) where
  from_narrower : EachBoardLine λ Line. BoardTighterBy Line Narrower NoWriteTo stop
  unfolding Stopped seen_by
  from_narrower =
      each_line BoardCovers BoardNearer Narrower stop
      (tighter_by Narrower (λ u c. Harms u c ≡ false) Covered Stopped narrower_way stop
      λ a b c e q. none_false _ (seats_of a c.selects) (rw q at (stops a b c e)))

  from_tightened : EachBoardLine λ Line. BoardTighterBy Line Tightened NoWriteTo stop
  from_tightened = (
    λ a b cs n h f. from_narrower.0 a b cs n (both_imp Tightened Narrower narrower_pair (live a) (live b) h) f,
    λ a b cs n h f. from_narrower.1 a b cs n (both_imp Tightened Narrower narrower_pair (live a) (live b) h) f,
  )

-- which a stop at every aborted fetch of the first board does
fewer : (a b : Board) (c : BoardCycle) → aborted_on a c ≡ false → on_translating a b c ≡ false
fewer a b c e =
    go (not (given (refusal_of a c))) (λ s. aborted_fetch s.unit (seen_by s.select c.cycle))
    (λ s. translation_conditions (mr_of s.unit) c.cycle) (seats_of a c.selects) e
  where
    go : (t : Bool) (p q : Seat → Bool) (ss : List Seat) → (t && some_of p ss) ≡ false → (t && some_of (λ s. p s && q s) ss) ≡ false
    go false p q ss e = refl
    go true p q ss e = none_of_both p q ss e

pub board_demand_3 : BoardDemand3
board_demand_3 = from_tightened on_either λ a b c e. fewer a b c (or_l (aborted_on a c) (aborted_on b c) e)

pub board_stop_in_first : BoardStopInFirst
board_stop_in_first = from_tightened on_first fewer

pub board_narrower_covers : BoardNarrowerCovers
board_narrower_covers = from_narrower on_first fewer

pub board_stop_where_translated : BoardStopWhereTranslated
board_stop_where_translated = from_narrower on_translating λ a b c e. e

-- Of one cycle

module _ (Start : Unit → Unit → Type 0) (stop : Board → Board → BoardCycle → Bool) where
  at_first : (Line : BoardAnswer → BoardAnswer → Type 0) → BoardTighterBy Line Start NoWriteTo stop → (a b : Board) (c : BoardCycle)
      → a.count ≡ b.count → Both Start (live a) (live b) → NoWriteTo a.count c → stop a b c ≡ false → Line (board_answer a c) (board_answer b c)
  unfolding board_answers board_before
  at_first Line claim a b c n h f e = (rw e at (claim a b (c ∷ []) n h (f, refl))).0

  once : (EachBoardLine λ Line. BoardTighterBy Line Start NoWriteTo stop) → OnceBy Start stop SupToo
  once claim a b c n h f e =
      let k : BoardCovers (board_answer a c) (board_answer b c) = at_first BoardCovers claim.0 a b c n h f e in
      (k.address, k.sup, k.number, k.named, at_first BoardNearer claim.1 a b c n h f e)

pub board_once : BoardOnce
board_once = (
  once Tightened on_either board_demand_3,
  once Tightened on_first board_stop_in_first,
  once Narrower on_first board_narrower_covers,
  once Narrower on_translating board_stop_where_translated,
  λ a b c n h f e.
      let k : BoardSame (board_answer a c) (board_answer b c) = at_first Level on_none BoardSame board_unstopped.0 a b c n h f e in
      (k.address, refl, k.number, k.named, at_first Level on_none BoardNearer board_unstopped.1 a b c n h f e),
)
