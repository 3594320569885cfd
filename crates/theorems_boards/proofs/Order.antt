-- The order of undamaged units does not matter.
-- Assumes nothing.
use mathlib.Core.Path.{◌≡◌, refl, sym, ◌∙◌, ap}
use mathlib.Core.Bool.{Bool, true, false, not, cond, ◌&&◌, ◌||◌, true≢false}
use mathlib.Core.List.{List, [], ◌∷◌, map}
use mathlib.Core.Option
use mathlib.Core.Option.{Option, none, some}
use Prim.Native.Nat.{ℕ, zero, suc, ◌/◌, ◌%◌, ◌≤◌}
use native.Mathlib.Omega.{arith}
use lib.Bits.{bit_or, or_comm}
use lib.Dec.{eqb, ltb}
use lib.ListN.{length}
use borrow.Author.Tests.{le-ltb}
use Rattle.std.specs.Prelude.{Some, None}
use Rattle.rules.specs.Bus.{write}
use Rattle.rules.specs.Kinds.{number_of}
use Rattle.rules.specs.PowerOn.{blank, power_on}
use Rattle.rules.specs.Refusals.{out_of_range}
use Rattle.rules.specs.Seen.{cycle}
use Rattle.rules.specs.declared.Answer.{Answer}
use Rattle.rules.specs.declared.Cycle.{Cycle}
use Rattle.rules.specs.declared.Kind.TheVariants.{Reset, Acknowledge, Command, Aborted, Ignored}
use Rattle.rules.specs.declared.Unit.{Unit}
use Rattle.theorems_runs.specs.Cycles.{written, selected_command, listed, read_only, set_or_clear}
use Rattle.theorems_runs.specs.Refusal.{earliest}
use Rattle.theorems_runs.specs.Sequences.{Every}
use Rattle.theorems_runs.specs.Undamaged.{Undamaged}
use Rattle.theorems_runs.proofs.Examples.{unit_of_three}
use Rattle.theorems_runs.proofs.Undamaged.{undamaged_from_power_on}
use Rattle.theorems_runs.proofs.Bits.{with-either}
use Rattle.board_rules.specs.Board.{Seat, seated, seats_of, seen_by, unit_of, answer_of, afterwards, some_of, two_of, Refusal, wrong_count}
use Rattle.board_rules.specs.Board.{own_from, on_lines, is_kind, driver_from, clash, several_read, verdict, silent, requests, driver, joined_byte}
use Rattle.board_rules.specs.Board.{nobody_drives, kind_of, joined, answer_by, units_by, seats_answer, seats_after, board_answer, board_after}
use Rattle.board_rules.specs.Board.{board_answer_by, board_answers, board_final}
use Rattle.board_rules.specs.declared.Board.{Board}
use Rattle.board_rules.specs.declared.BoardAnswer.{BoardAnswer}
use Rattle.board_rules.specs.declared.BoardCycle.{BoardCycle}
use Rattle.theorems_boards.specs.Numbers.{seat_number, seat_drives, seat_commanded, lowest_from, two_drive, two_read, in_order}
use Rattle.theorems_boards.specs.Order.{exchange, permuted, bits, Alike, is_nobody, OrderNeverMatters, broken, pair_of, unlisted_code}
use Rattle.theorems_boards.specs.Order.{OrderMattersDamaged, OrderNeedsUndamaged}
use Rattle.theorems_boards.specs.Seats.{live}
use Rattle.theorems_boards.proofs.Computed.{computed}
use Rattle.theorems_boards.proofs.Lists.{seats_every}
use Rattle.theorems_boards.proofs.Live.{after-count, live_right, live_wrong, live-length, live_undamaged}
use Rattle.theorems_boards.proofs.Numbers.{none_clash, verdict_is, lowest_small}

-- Lists with two neighbours exchanged

or_swap : (x y z : Bool) → (y || (x || z)) ≡ (x || (y || z))
or_swap true true z = refl
or_swap true false z = refl
or_swap false true z = refl
or_swap false false z = refl

two_swap : (x y s t : Bool) → cond y (x || s) (cond x s t) ≡ cond x (y || s) (cond y s t)
two_swap true true s t = refl
two_swap true false s t = refl
two_swap false true s t = refl
two_swap false false s t = refl

module _ {A : Type 0} (p : A → Bool) where
  some_exchange : (i : ℕ) (l : List A) → some_of p (exchange i l) ≡ some_of p l
  unfolding some_of exchange
  some_exchange zero [] = refl
  some_exchange (suc i) [] = refl
  some_exchange zero (x ∷ []) = refl
  some_exchange zero (x ∷ y ∷ l) = or_swap (p x) (p y) (some_of p l)
  some_exchange (suc i) (x ∷ l) = rw (some_exchange i l)

  two-exchange : (i : ℕ) (l : List A) → two_of p (exchange i l) ≡ two_of p l
  unfolding some_of two_of exchange
  two-exchange zero [] = refl
  two-exchange (suc i) [] = refl
  two-exchange zero (x ∷ []) = refl
  two-exchange zero (x ∷ y ∷ l) = two_swap (p x) (p y) (some_of p l) (two_of p l)
  two-exchange (suc i) (x ∷ l) = rw (some_exchange i l, two-exchange i l)

every_exchange : {A : Type 0} (P : A → Type 0) (i : ℕ) (l : List A) → Every P l → Every P (exchange i l)
unfolding exchange
every_exchange P zero [] h = h
every_exchange P (suc i) [] h = h
every_exchange P zero (x ∷ []) h = h
every_exchange P zero (x ∷ y ∷ l) h = (h.1.0, (h.0, h.1.1))
every_exchange P (suc i) (x ∷ l) h = (h.0, every_exchange P i l h.1)

map-exchange : {A B : Type 0} (f : A → B) (i : ℕ) (l : List A) → map f (exchange i l) ≡ exchange i (map f l)
unfolding exchange
map-exchange f zero [] = refl
map-exchange f (suc i) [] = refl
map-exchange f zero (x ∷ []) = refl
map-exchange f zero (x ∷ y ∷ l) = refl
map-exchange f (suc i) (x ∷ l) = rw (map-exchange f i l)

length-exchange : {A : Type 0} (i : ℕ) (l : List A) → length (exchange i l) ≡ length l
unfolding exchange
length-exchange zero [] = refl
length-exchange (suc i) [] = refl
length-exchange zero (x ∷ []) = refl
length-exchange zero (x ∷ y ∷ l) = refl
length-exchange (suc i) (x ∷ l) = ap suc (length-exchange i l)

-- Joined answers, where at most one unit drives

byte_swap : (a b l : ℕ) → bit_or b (bit_or a l) ≡ bit_or a (bit_or b l)
byte_swap a b l =
    or_comm b (bit_or a l) ∙ ap (λ (n : ℕ). bit_or n b) (or_comm a l) ∙ with-either l a b ∙ or_comm (bit_or l b) a
    ∙ ap (λ (n : ℕ). bit_or a n) (or_comm l b)

byte_exchange : (i : ℕ) (l : List Answer) → joined_byte (exchange i l) ≡ joined_byte l
unfolding joined_byte exchange
byte_exchange zero [] = refl
byte_exchange (suc i) [] = refl
byte_exchange zero (x ∷ []) = refl
byte_exchange zero (x ∷ y ∷ l) = byte_swap x.byte y.byte (joined_byte l)
byte_exchange (suc i) (x ∷ l) = ap (λ (n : ℕ). bit_or x.byte n) (byte_exchange i l)

driver_swap : (x y z : Answer) (s t o q : Bool) → cond s (t || o) (cond t o q) ≡ false → cond t y (cond s x z) ≡ cond s x (cond t y z)
driver_swap x y z true true o q e = absurd (true≢false e)
driver_swap x y z true false o q e = refl
driver_swap x y z false true o q e = refl
driver_swap x y z false false o q e = refl

driver-exchange : (z : Answer) (i : ℕ) (l : List Answer) → two_of on_lines l ≡ false → driver z (exchange i l) ≡ driver z l
unfolding driver exchange two_of some_of
driver-exchange z zero [] e = refl
driver-exchange z (suc i) [] e = refl
driver-exchange z zero (x ∷ []) e = refl
driver-exchange z zero (x ∷ y ∷ l) e = driver_swap x y (driver z l) (on_lines x) (on_lines y) (some_of on_lines l) (two_of on_lines l) e
driver-exchange z (suc i) (x ∷ l) e = go (on_lines x) e (driver-exchange z i l)
  where
    go : (t : Bool) → cond t (some_of on_lines l) (two_of on_lines l) ≡ false → (two_of on_lines l ≡ false → driver z (exchange i l) ≡ driver z l)
        → cond t x (driver z (exchange i l)) ≡ cond t x (driver z l)
    go true e later = refl
    go false e later = later e

joined-exchange : (i : ℕ) (l : List Answer) → clash l ≡ false → (joined (exchange i l)).answer ≡ (joined l).answer
unfolding joined kind_of
joined-exchange i l e =
    rw (
      some_exchange (is_kind Reset) i l,
      some_exchange (is_kind Acknowledge) i l,
      some_exchange (is_kind Command) i l,
      some_exchange (is_kind Aborted) i l,
      some_exchange (λ x. x.sup) i l,
      some_exchange (λ x. x.trap) i l,
      some_exchange (λ x. x.drives) i l,
      driver-exchange (silent (nobody_drives l) false) i l e,
      driver-exchange (silent Ignored false) i l e,
      byte_exchange i l,
    )

-- Nobody is named where none drives

nobody_driver : (j : ℕ) (l : List Answer) → is_nobody (driver_from j l) ≡ not (some_of on_lines l)
unfolding driver_from some_of
nobody_driver j [] = refl
nobody_driver j (x ∷ l) = go (on_lines x) (nobody_driver (suc j) l)
  where
    go : (t : Bool) → is_nobody (driver_from (suc j) l) ≡ not (some_of on_lines l)
        → is_nobody (cond t (Some j) (driver_from (suc j) l)) ≡ not (t || some_of on_lines l)
    go true later = refl
    go false later = later

nobody_exchange : (i : ℕ) (l : List Answer) → is_nobody (joined (exchange i l)).named ≡ is_nobody (joined l).named
unfolding joined
nobody_exchange i l =
    nobody_driver 0 (exchange i l) ∙ ap (λ (t : Bool). not t) (some_exchange on_lines i l) ∙ sym (nobody_driver 0 l)

-- Numbers: an undamaged unit's own depends on the cycle and on whether it is selected

abbrev bad : Cycle → Bool
bad c = not (listed c.offset)

abbrev wrong : Cycle → Bool
wrong c = write c && read_only c.offset || c.read && set_or_clear c.offset

abbrev refuses_own : Cycle → Seat → Bool
refuses_own c s = out_of_range c || (selected_command (seen_by s.select c) && (bad c || wrong c))

abbrev number_for : Cycle → ℕ
number_for c = cond (out_of_range c) 1 (cond (bad c) 3 4)

own_is : (c : Cycle) (s : Seat) → Undamaged s.unit → seat_number c s ≡ cond (refuses_own c s) (some (number_for c)) none
unfolding seen_by out_of_range
own_is c s u = rw u.sound (go (out_of_range c) (selected_command (seen_by s.select c)) (bad c) (wrong c))
  where
    go : (one taken three four : Bool)
        → earliest false one (taken && three) (taken && four) ≡ cond (one || (taken && (three || four))) (some (cond one 1 (cond three 3 4))) none
    go true taken three four = refl
    go false false three four = refl
    go false true true four = refl
    go false true false true = refl
    go false true false false = refl

lowest_number : (c : Cycle) (i : ℕ) (ss : List Seat) → Every (λ s. Undamaged s.unit) ss
    → Option.map (λ r. r.number) (lowest_from i (map (seat_number c) ss)) ≡ cond (some_of (refuses_own c) ss) (some (number_for c)) none
unfolding lowest_from some_of
lowest_number c i [] h = refl
lowest_number c i (s ∷ ss) h = rw (own_is c s h.0) (go (refuses_own c s) (lowest_number c (suc i) ss h.1))
  where
    go : (t : Bool)
        → Option.map (λ r. r.number) (lowest_from (suc i) (map (seat_number c) ss)) ≡ cond (some_of (refuses_own c) ss) (some (number_for c)) none
        → Option.map (λ r. r.number) (lowest_from i (cond t (some (number_for c)) none ∷ map (seat_number c) ss))
        ≡ cond (t || some_of (refuses_own c) ss) (some (number_for c)) none
    go true later = refl
    go false later = later

abbrev number_by : Option ℕ → (clash several : Bool) → Option ℕ
number_by (some n) clash several = some n
number_by none true several = some 12
number_by none false true = some 13
number_by none false false = none

by_number : (o : Option Refusal) (x y : Bool) → Option.map (λ r. r.number) (in_order false o x y) ≡ number_by (Option.map (λ r. r.number) o) x y
by_number (some r) x y = refl
by_number none true y = refl
by_number none false true = refl
by_number none false false = refl

said : Cycle → List Seat → Option ℕ
said c ss = number_by (cond (some_of (refuses_own c) ss) (some (number_for c)) none) (two_drive c ss) (two_read c ss)

verdict-said : (c : Cycle) (ss : List Seat) → Every (λ s. Undamaged s.unit) ss → Option.map (λ r. r.number) (verdict c ss) ≡ said c ss
unfolding said
verdict-said c ss h =
    ap (λ (v : Option Refusal). Option.map (λ r. r.number) v) (verdict_is c ss)
    ∙ by_number (lowest_from 0 (map (seat_number c) ss)) (two_drive c ss) (two_read c ss)
    ∙ ap (λ (o : Option ℕ). number_by o (two_drive c ss) (two_read c ss)) (lowest_number c 0 ss h)

said-exchange : (c : Cycle) (i : ℕ) (ss : List Seat) → said c (exchange i ss) ≡ said c ss
unfolding said
said-exchange c i ss =
    rw (
      some_exchange (refuses_own c) i ss,
      two-exchange (seat_drives c) i ss,
      two-exchange (seat_commanded c) i ss,
    )

-- a refusal names nobody exactly where its number is none of a unit's own
lowest_names : (c : Cycle) (i : ℕ) (ss : List Seat) (r : Refusal) → lowest_from i (map (seat_number c) ss) ≡ some r → is_nobody r.named ≡ false
unfolding lowest_from
lowest_names c i [] r e = let z : ◌≡◌ {A = ℕ} 0 1 = cc in absurd (omega arith)
lowest_names c i (s ∷ ss) r e = go (seat_number c s) e (lowest_names c (suc i) ss r)
  where
    go : (o : Option ℕ) → lowest_from i (o ∷ map (seat_number c) ss) ≡ some r
        → (lowest_from (suc i) (map (seat_number c) ss) ≡ some r → is_nobody r.named ≡ false) → is_nobody r.named ≡ false
    go none e later = later e
    go (some n) e later = let k : Some i ≡ r.named = cc in rw (← k)

names_by : (o : Option Refusal) (x y : Bool) → ((r : Refusal) → o ≡ some r → is_nobody r.named ≡ false)
    → ((r : Refusal) → o ≡ some r → r.number ≤ 4) → (r : Refusal) → in_order false o x y ≡ some r → is_nobody r.named ≡ ltb 4 r.number
names_by (some q) x y names few r e = names r e ∙ sym (le-ltb 4 r.number (few r e))
names_by none true y names few r e =
    let k : None ≡ r.named = cc in
    let n : 12 ≡ r.number = cc in
    rw (← k, ← n)
names_by none false true names few r e =
    let k : None ≡ r.named = cc in
    let n : 13 ≡ r.number = cc in
    rw (← k, ← n)
names_by none false false names few r e = let z : ◌≡◌ {A = ℕ} 0 1 = cc in absurd (omega arith)

verdict_names : (c : Cycle) (ss : List Seat) (r : Refusal) → verdict c ss ≡ some r → is_nobody r.named ≡ ltb 4 r.number
verdict_names c ss r e =
    names_by (lowest_from 0 (map (seat_number c) ss)) (two_drive c ss) (two_read c ss) (lowest_names c 0 ss) (lowest_small c 0 ss) r
    (sym (verdict_is c ss) ∙ e)

pub verdict-clash : (c : Cycle) (ss : List Seat) → verdict c ss ≡ none → clash (map (answer_of c) ss) ≡ false
unfolding verdict
verdict-clash c ss e = none_clash (own_from 0 (map (answer_of c) ss)) (clash (map (answer_of c) ss)) (several_read c (map (answer_of c) ss)) e

-- One cycle

-- two answers are the same but for the number of the unit that is named
record AnswersAlike (x y : BoardAnswer) : Type 0 where
  answer : x.answer ≡ y.answer
  nobody : is_nobody x.named ≡ is_nobody y.named

seats_exchange : (c : Cycle) (i : ℕ) (ss : List Seat) → Every (λ s. Undamaged s.unit) ss
    → AnswersAlike (seats_answer c (exchange i ss)) (seats_answer c ss) × (seats_after c (exchange i ss) ≡ exchange i (seats_after c ss))
unfolding seats_answer seats_after
seats_exchange c i ss h =
    go (verdict c ss) (verdict c (exchange i ss)) refl refl
    (verdict-said c (exchange i ss) (every_exchange _ i ss h) ∙ said-exchange c i ss ∙ sym (verdict-said c ss h))
  where
    go : (v w : Option Refusal) → verdict c ss ≡ v → verdict c (exchange i ss) ≡ w
        → Option.map (λ r. r.number) w ≡ Option.map (λ r. r.number) v
        → AnswersAlike (answer_by w c (exchange i ss)) (answer_by v c ss) × (units_by w c (exchange i ss) ≡ exchange i (units_by v c ss))
    go none none e f q = (
      record {
        answer = rw (map-exchange (answer_of c) i ss) (joined-exchange i (map (answer_of c) ss) (verdict-clash c ss e));
        nobody = rw (map-exchange (answer_of c) i ss) (nobody_exchange i (map (answer_of c) ss));
      },
      map-exchange (afterwards c) i ss,
    )
    go none (some r) e f q = let z : ◌≡◌ {A = ℕ} 0 1 = cc in absurd (omega arith)
    go (some r) none e f q = let z : ◌≡◌ {A = ℕ} 0 1 = cc in absurd (omega arith)
    go (some r) (some r') e f q =
        let n : r'.number ≡ r.number = cc in (
          record {
            answer = rw (n, some_exchange requests i ss);
            nobody = verdict_names c (exchange i ss) r' f ∙ ap (λ (m : ℕ). ltb 4 m) n ∙ sym (verdict_names c ss r e);
          },
          map-exchange unit_of i ss,
        )

permuted_seats : (c : Cycle) (p : List ℕ) (ss : List Seat) → Every (λ s. Undamaged s.unit) ss
    → AnswersAlike (seats_answer c (permuted p ss)) (seats_answer c ss) × (seats_after c (permuted p ss) ≡ permuted p (seats_after c ss))
unfolding permuted
permuted_seats c [] ss h = (record { answer = refl; nobody = refl }, refl)
permuted_seats c (i ∷ p) ss h =
    let now = seats_exchange c i ss h in
    let later = permuted_seats c p (exchange i ss) (every_exchange _ i ss h) in (
      record { answer = later.0.answer ∙ now.0.answer; nobody = later.0.nobody ∙ now.0.nobody },
      later.1 ∙ ap (λ (l : List Unit). permuted p l) now.1,
    )

-- Seats from units and select bits

zipped : List Unit → List Bool → List Seat
zipped [] bs = []
zipped (u ∷ us) [] = []
zipped (u ∷ us) (b ∷ bs) = record { unit = u; select = b } ∷ zipped us bs

seated_zipped : (us : List Unit) (k : ℕ) → seated us k ≡ zipped us (bits (length us) k)
unfolding seated zipped bits
seated_zipped [] k = refl
seated_zipped (u ∷ us) k = ap {B = List Seat} (λ l. record { unit = u; select = eqb (k % 2) 1 } ∷ l) (seated_zipped us (k / 2))

zip-exchange : (i : ℕ) (us : List Unit) (bs : List Bool) → length us ≡ length bs → zipped (exchange i us) (exchange i bs) ≡ exchange i (zipped us bs)
unfolding zipped exchange
zip-exchange zero [] bs e = refl
zip-exchange (suc i) [] bs e = refl
zip-exchange zero (u ∷ us) [] e = absurd (omega arith)
zip-exchange (suc i) (u ∷ us) [] e = absurd (omega arith)
zip-exchange zero (u ∷ []) (b ∷ []) e = refl
zip-exchange zero (u ∷ []) (b ∷ c ∷ bs) e = absurd (omega arith)
zip-exchange zero (u ∷ v ∷ us) (b ∷ []) e = absurd (omega arith)
zip-exchange zero (u ∷ v ∷ us) (b ∷ c ∷ bs) e = refl
zip-exchange (suc i) (u ∷ us) (b ∷ bs) e = ap {B = List Seat} (λ l. record { unit = u; select = b } ∷ l) (zip-exchange i us bs (omega arith))

zip-permuted : (p : List ℕ) (us : List Unit) (bs : List Bool) → length us ≡ length bs
    → zipped (permuted p us) (permuted p bs) ≡ permuted p (zipped us bs)
unfolding permuted
zip-permuted [] us bs e = refl
zip-permuted (i ∷ p) us bs e =
    zip-permuted p (exchange i us) (exchange i bs) (length-exchange i us ∙ e ∙ sym (length-exchange i bs))
    ∙ ap (λ (l : List Seat). permuted p l) (zip-exchange i us bs e)

length-permuted : {A : Type 0} (p : List ℕ) (l : List A) → length (permuted p l) ≡ length l
unfolding permuted
length-permuted [] l = refl
length-permuted (i ∷ p) l = length-permuted p (exchange i l) ∙ length-exchange i l

bits-length : (n k : ℕ) → length (bits n k) ≡ n
unfolding bits
bits-length zero k = refl
bits-length (suc n) k = ap suc (bits-length n (k / 2))

seated-permuted : (p : List ℕ) (us : List Unit) (j k : ℕ) → bits (length us) k ≡ permuted p (bits (length us) j)
    → seated (permuted p us) k ≡ permuted p (seated us j)
seated-permuted p us j k e =
    seated_zipped (permuted p us) k
    ∙ ap (λ (n : ℕ). zipped (permuted p us) (bits n k)) (length-permuted p us)
    ∙ ap (λ (bs : List Bool). zipped (permuted p us) bs) e
    ∙ zip-permuted p us (bits (length us) j) (sym (bits-length (length us) j))
    ∙ ap (λ (l : List Seat). permuted p l) (sym (seated_zipped us j))

-- Two boards

module _ (a b : Board) (p : List ℕ) (c d : BoardCycle) (u : Every Undamaged (live a)) (n : a.count ≡ b.count) (e : live b ≡ permuted p (live a))
    (h : Alike (length (live a)) p c d) where
  seats_alike : seats_of b d.selects ≡ permuted p (seats_of a c.selects)
  seats_alike =
      ap (λ (l : List Unit). seated l d.selects) e ∙ seated-permuted p (live a) c.selects d.selects h.selects

  both_step : AnswersAlike (seats_answer d.cycle (seats_of b d.selects)) (seats_answer c.cycle (seats_of a c.selects))
      × (seats_after d.cycle (seats_of b d.selects) ≡ permuted p (seats_after c.cycle (seats_of a c.selects)))
  both_step =
      rw (← h.cycle, seats_alike) (permuted_seats c.cycle p (seats_of a c.selects) (seats_every Undamaged (live a) c.selects u))

  answer_alike : (board_answer a c).answer ≡ (board_answer b d).answer
  unfolding board_answer
  answer_alike = go (wrong_count a.count) ∙ ap (λ (m : ℕ). (board_answer_by (wrong_count m) b d).answer) n
    where
      go : (t : Bool) → (board_answer_by t a c).answer ≡ (board_answer_by t b d).answer
      go true = refl
      go false = sym both_step.0.answer

  nobody_alike : is_nobody (board_answer a c).named ≡ is_nobody (board_answer b d).named
  unfolding board_answer
  nobody_alike = go (wrong_count a.count) ∙ ap (λ (m : ℕ). is_nobody (board_answer_by (wrong_count m) b d).named) n
    where
      go : (t : Bool) → is_nobody (board_answer_by t a c).named ≡ is_nobody (board_answer_by t b d).named
      go true = refl
      go false = sym both_step.0.nobody

  live_alike : live (board_after b d) ≡ permuted p (live (board_after a c))
  live_alike = go (wrong_count a.count) refl
    where
      go : (t : Bool) → wrong_count a.count ≡ t → live (board_after b d) ≡ permuted p (live (board_after a c))
      go true w = rw (live_wrong a c w, live_wrong b d (ap wrong_count (sym n) ∙ w)) e
      go false w = rw (live_right a c w, live_right b d (ap wrong_count (sym n) ∙ w)) both_step.1

pub order_never_matters : OrderNeverMatters
unfolding board_answers board_final
order_never_matters a b p [] [] u n e h = (refl, refl, e)
order_never_matters a b p [] (d ∷ ds) u n e h = absurd h
order_never_matters a b p (c ∷ cs) [] u n e h = absurd h
order_never_matters a b p (c ∷ cs) (d ∷ ds) u n e h =
    let later =
    order_never_matters (board_after a c) (board_after b d) p cs ds (live_undamaged a c u)
    (after-count a c ∙ n ∙ sym (after-count b d)) (live_alike a b p c d u n e h.0)
    (rw (live-length a c) h.1) in
    (rw (answer_alike a b p c d u n e h.0, later.0), rw (nobody_alike a b p c d u n e h.0, later.1), later.2)

pub order_matters_damaged : OrderMattersDamaged
unfolding computed
order_matters_damaged = (refl, refl)

-- the first answer is a refusal with 2
abbrev two-first : List Answer → Bool
two-first [] = false
two-first (x ∷ l) = eqb (number_of x.kind) 2

pub order_needs_undamaged : OrderNeedsUndamaged
unfolding computed exchange permuted bits
order_needs_undamaged claim =
    true≢false
    (ap (λ (l : List Answer). two-first l)
    (claim (pair_of broken power_on) (pair_of power_on broken) (0 ∷ []) (unlisted_code 2 ∷ []) (unlisted_code 1 ∷ []) (refl, (refl, refl)) refl refl
    (record { cycle = refl; selects = refl }, refl)).0)

-- Unit 1 passes a data write; then %FF to it is refused, and SAR is written in it. Exchanged, these are unit 0's.

abbrev passes : Unit
passes = unit_of_three 0x80 0 0 false blank blank blank

abbrev to_one : (selects : ℕ) → List BoardCycle
to_one selects =
    map (λ c. record { cycle = c; selects = selects }) (cycle false false false 8 1 0 ∷ written 3 0xFF 0 false ∷ written 3 0x01 7 false ∷ [])

shown : (map (λ x. x.answer) (board_answers (pair_of power_on passes) (to_one 2))
    ≡ map (λ x. x.answer) (board_answers (pair_of passes power_on) (to_one 1)))
    × (map (λ x. is_nobody x.named) (board_answers (pair_of power_on passes) (to_one 2))
    ≡ map (λ x. is_nobody x.named) (board_answers (pair_of passes power_on) (to_one 1)))
    × (live (board_final (pair_of passes power_on) (to_one 1)) ≡ exchange 0 (live (board_final (pair_of power_on passes) (to_one 2))))
unfolding computed permuted bits exchange
shown =
    order_never_matters (pair_of power_on passes) (pair_of passes power_on) (0 ∷ []) (to_one 2) (to_one 1)
    (undamaged_from_power_on [], (record { size = refl; sound = refl }, refl)) refl refl
    (record { cycle = refl; selects = refl }, (record { cycle = refl; selects = refl }, (record { cycle = refl; selects = refl }, refl)))
