-- Which number a board refuses a cycle with: exactly under the conditions, and in the order.
-- Assumes nothing.
use mathlib.Core.Path.{◌≡◌, refl, sym, ◌∙◌, ap}
use mathlib.Core.Bool.{Bool, true, false, cond, ◌&&◌, false≢true}
use mathlib.Core.List.{List, [], ◌∷◌, map}
use mathlib.Core.Option
use mathlib.Core.Option.{Option, none, some}
use Prim.Native.Nat.{ℕ, suc, ◌≤◌}
use native.Mathlib.Omega.{arith}
use mathlib.Core.Logic.{◌≢◌}
use lib.Dec.{eqb, ltb}
use borrow.Author.Tests.{eqb-false, ltb-false, ne_eqb, le-ltb}
use Rattle.theorems_runs.proofs.Tests.{or_l, or_r}
use Rattle.rules.specs.Refusals.{damaged, out_of_range}
use Rattle.rules.specs.declared.Answer.{Answer}
use Rattle.rules.specs.declared.Cycle.{Cycle}
use Rattle.rules.specs.declared.Kind.{Kind}
use Rattle.rules.specs.declared.Kind.TheVariants.{Reset, Acknowledge, Command, Aborted, Ignored}
use Rattle.theorems_runs.specs.Cycles.{memory_cycle}
use Rattle.rules.specs.Kinds.{number_in}
use Rattle.theorems_runs.specs.Refusal.{earliest, unlisted, wrong_way}
use Rattle.theorems_runs.specs.Sequences.{Every}
use Rattle.theorems_runs.proofs.Refusal.{numbers_exactly}
use Rattle.board_rules.specs.Board.{Seat, seats_of, seen_by, some_of, Refusal, answer_of, wrong_count, own_by, own_from, verdict_by, verdict}
use Rattle.board_rules.specs.Board.{is_kind, on_lines, clash, several_read, driver, silent, kind_by, nobody_drives, kind_of, joined, answer_by}
use Rattle.board_rules.specs.Board.{seats_answer, board_answer_by, board_answer}
use Rattle.theorems_boards.specs.Numbers.{seat_number, seat_drives, lowest_from, own_of, two_drive, two_read, in_order, expected_by}
use Rattle.theorems_boards.specs.Numbers.{BoardNumbersExactly, NamedExactly, CountGood, ElevenExactly, TwelveExactly, ThirteenExactly}
use Rattle.theorems_boards.proofs.Forms.{Accepted, accepted_form}
use Rattle.theorems_boards.proofs.Lists.{every_imp, two_ext, two_and, two-map}

-- Own numbers

own_lowest : (c : Cycle) (i : ℕ) (ss : List Seat) → own_from i (map (answer_of c) ss) ≡ lowest_from i (map (seat_number c) ss)
unfolding own_from lowest_from
own_lowest c i [] = refl
own_lowest c i (s ∷ ss) = rw (numbers_exactly s.unit (seen_by s.select c)) (go (seat_number c s) (own_lowest c (suc i) ss))
  where
    go : (o : Option ℕ) → own_from (suc i) (map (answer_of c) ss) ≡ lowest_from (suc i) (map (seat_number c) ss)
        → own_by o i (own_from (suc i) (map (answer_of c) ss)) ≡ lowest_from i (o ∷ map (seat_number c) ss)
    go none later = later
    go (some n) later = refl

pub own_none : (c : Cycle) (i : ℕ) (ss : List Seat) → own_from i (map (answer_of c) ss) ≡ none → Every (λ s. Accepted (answer_of c s)) ss
unfolding own_from
own_none c i [] e = refl
own_none c i (s ∷ ss) e = go (number_in (answer_of c s).kind) refl e (own_none c (suc i) ss)
  where
    go : (o : Option ℕ) → number_in (answer_of c s).kind ≡ o → own_by o i (own_from (suc i) (map (answer_of c) ss)) ≡ none
        → (own_from (suc i) (map (answer_of c) ss) ≡ none → Every (λ s. Accepted (answer_of c s)) ss)
        → Every (λ s. Accepted (answer_of c s)) (s ∷ ss)
    go none q e later = (q, later e)
    go (some n) q e later = let z : ◌≡◌ {A = ℕ} 0 1 = cc in absurd (omega arith)

-- 12 and 13, where no unit refuses

module _ (c : Cycle) (ss : List Seat) (a : Every (λ s. Accepted (answer_of c s)) ss) where
  pub clash_is : clash (map (answer_of c) ss) ≡ two_drive c ss
  unfolding seen_by
  clash_is =
      two-map on_lines (answer_of c) ss
      ∙ two_ext _ (λ s. memory_cycle c && seat_drives c s) ss
      (every_imp _ _ (λ s e. (accepted_form s.unit (seen_by s.select c) e).address) ss a)
      ∙ two_and (memory_cycle c) (seat_drives c) ss

  pub several_is : several_read c (map (answer_of c) ss) ≡ two_read c ss
  several_is =
      ap (λ (t : Bool). c.read && t) (two-map (is_kind Command) (answer_of c) ss
      ∙ two_ext _ _ ss (every_imp _ _ (λ s e. (accepted_form s.unit (seen_by s.select c) e).command) ss a))

same_order : (o : Option Refusal) (x y : Bool) → verdict_by o x y ≡ in_order false o x y
same_order (some r) x y = refl
same_order none true y = refl
same_order none false true = refl
same_order none false false = refl

pub verdict_is : (c : Cycle) (ss : List Seat) → verdict c ss ≡ expected_by false c ss
unfolding verdict
verdict_is c ss = go (own_from 0 (map (answer_of c) ss)) refl
  where
    go : (o : Option Refusal) → own_from 0 (map (answer_of c) ss) ≡ o
        → verdict_by (own_from 0 (map (answer_of c) ss)) (clash (map (answer_of c) ss)) (several_read c (map (answer_of c) ss)) ≡ expected_by false c ss
    go (some r) e = rw (← own_lowest c 0 ss, e)
    go none e =
        rw (← own_lowest c 0 ss, e, clash_is c ss (own_none c 0 ss e), several_is c ss (own_none c 0 ss e))
        (same_order none (two_drive c ss) (two_read c ss))

-- A board that does not refuse gives no number

by_accepted : (reset acknowledge command : Bool) (k : Kind) → number_in k ≡ none → number_in (kind_by reset acknowledge command k) ≡ none
by_accepted true acknowledge command k e = refl
by_accepted false true command k e = refl
by_accepted false false true k e = refl
by_accepted false false false k e = e

driver-accepted : (c : Cycle) (x : Answer) → Accepted x → (ss : List Seat) → Every (λ s. Accepted (answer_of c s)) ss
    → Accepted (driver x (map (answer_of c) ss))
unfolding driver
driver-accepted c x e [] a = e
driver-accepted c x e (s ∷ ss) a = go (on_lines (answer_of c s)) (driver-accepted c x e ss a.1)
  where
    go : (t : Bool) → Accepted (driver x (map (answer_of c) ss)) → Accepted (cond t (answer_of c s) (driver x (map (answer_of c) ss)))
    go true later = a.0
    go false later = later

nobody_accepted : (t : Bool) → Accepted (silent (cond t Aborted Ignored) false)
nobody_accepted true = refl
nobody_accepted false = refl

pub kind_accepted : (c : Cycle) (ss : List Seat) → Every (λ s. Accepted (answer_of c s)) ss → number_in (kind_of (map (answer_of c) ss)) ≡ none
unfolding kind_of
kind_accepted c ss a =
    let xs : List Answer = map (answer_of c) ss in
    by_accepted (some_of (is_kind Reset) xs) (some_of (is_kind Acknowledge) xs) (some_of (is_kind Command) xs)
    (driver (silent (nobody_drives xs) false) xs).kind
    (driver-accepted c (silent (nobody_drives xs) false) (nobody_accepted (some_of (is_kind Aborted) xs)) ss a)

-- where the verdict is none, no unit refuses
pub none_own : (o : Option Refusal) (x y : Bool) → verdict_by o x y ≡ none → o ≡ none
none_own none x y e = refl
none_own (some r) x y e = e

-- nor do two drive
pub none_clash : (o : Option Refusal) (x y : Bool) → verdict_by o x y ≡ none → x ≡ false
none_clash none true y e = let z : ◌≡◌ {A = ℕ} 0 1 = cc in absurd (omega arith)
none_clash none false y e = refl
none_clash (some r) x y e = let z : ◌≡◌ {A = ℕ} 0 1 = cc in absurd (omega arith)

pub verdict_none : (c : Cycle) (ss : List Seat) → verdict c ss ≡ none → Every (λ s. Accepted (answer_of c s)) ss
unfolding verdict
verdict_none c ss e = own_none c 0 ss (none_own _ _ _ e)

pub seats_number : (c : Cycle) (ss : List Seat) → number_in (seats_answer c ss).answer.kind ≡ Option.map (λ r. r.number) (verdict c ss)
unfolding seats_answer joined
seats_number c ss = go (verdict c ss) refl
  where
    go : (v : Option Refusal) → verdict c ss ≡ v → number_in (answer_by v c ss).answer.kind ≡ Option.map (λ r. r.number) v
    go (some r) e = refl
    go none e = kind_accepted c ss (verdict_none c ss e)

pub board_numbers_exactly : BoardNumbersExactly
unfolding board_answer
board_numbers_exactly b c = go (wrong_count b.count)
  where
    go : (t : Bool) → number_in (board_answer_by t b c).answer.kind ≡ Option.map (λ r. r.number) (expected_by t c.cycle (seats_of b c.selects))
    go true = refl
    go false = rw (← verdict_is c.cycle (seats_of b c.selects)) (seats_number c.cycle (seats_of b c.selects))

pub named_exactly : NamedExactly
unfolding board_answer seats_answer
named_exactly b c r e = go (wrong_count b.count) e
  where
    go : (t : Bool) → expected_by t c.cycle (seats_of b c.selects) ≡ some r → (board_answer_by t b c).named ≡ r.named
    go true e = cc
    go false e = rw (verdict_is c.cycle (seats_of b c.selects) ∙ e)

-- 11, 12 and 13, each alone

small : (two one three four : Bool) (n : ℕ) → earliest two one three four ≡ some n → n ≤ 4
small true one three four n e = let q : 2 ≡ n = cc in omega arith
small false true three four n e = let q : 1 ≡ n = cc in omega arith
small false false true four n e = let q : 3 ≡ n = cc in omega arith
small false false false true n e = let q : 4 ≡ n = cc in omega arith
small false false false false n e = let z : ◌≡◌ {A = ℕ} 0 1 = cc in absurd (omega arith)

own_small : (c : Cycle) (s : Seat) (n : ℕ) → seat_number c s ≡ some n → n ≤ 4
own_small c s n e =
    small (damaged s.unit.registers) (out_of_range (seen_by s.select c)) (unlisted (seen_by s.select c)) (wrong_way (seen_by s.select c)) n e

pub lowest_small : (c : Cycle) (i : ℕ) (ss : List Seat) (r : Refusal) → lowest_from i (map (seat_number c) ss) ≡ some r → r.number ≤ 4
unfolding lowest_from
lowest_small c i [] r e = let z : ◌≡◌ {A = ℕ} 0 1 = cc in absurd (omega arith)
lowest_small c i (s ∷ ss) r e = go (seat_number c s) refl e (lowest_small c (suc i) ss r)
  where
    go : (o : Option ℕ) → seat_number c s ≡ o → lowest_from i (o ∷ map (seat_number c) ss) ≡ some r
        → (lowest_from (suc i) (map (seat_number c) ss) ≡ some r → r.number ≤ 4) → r.number ≤ 4
    go none q e later = later e
    go (some n) q e later =
        let k : n ≡ r.number = cc in
        let l : n ≤ 4 = own_small c s n q in
        omega arith

twelve : (wrong : Bool) (o : Option Refusal) (x y : Bool) → ((r : Refusal) → o ≡ some r → r.number ≤ 4)
    → Option.map (λ r. r.number) (in_order wrong o x y) ≡ some 12 → (wrong ≡ false) × (o ≡ none) × (x ≡ true)
twelve true o x y l e = let q : ◌≡◌ {A = ℕ} 11 12 = cc in absurd (omega arith)
twelve false (some r) x y l e =
    let q : r.number ≡ 12 = cc in
    let m : r.number ≤ 4 = l r refl in
    absurd (omega arith)
twelve false none true y l e = (refl, refl, refl)
twelve false none false true l e = let q : ◌≡◌ {A = ℕ} 13 12 = cc in absurd (omega arith)
twelve false none false false l e = let z : ◌≡◌ {A = ℕ} 0 1 = cc in absurd (omega arith)

pub twelve_exactly : TwelveExactly
twelve_exactly b c =
    let ss : List Seat = seats_of b c.selects in (
      (λ e. twelve (wrong_count b.count) (own_of c.cycle ss) (two_drive c.cycle ss) (two_read c.cycle ss)
          (lowest_small c.cycle 0 ss) (sym (board_numbers_exactly b c) ∙ e)),
      (λ h. board_numbers_exactly b c
          ∙ ap (λ (w : Bool). Option.map (λ r. r.number) (expected_by w c.cycle ss)) h.0
          ∙ ap (λ (o : Option Refusal). Option.map (λ r. r.number) (in_order false o (two_drive c.cycle ss) (two_read c.cycle ss))) h.1
          ∙ ap (λ (x : Bool). Option.map (λ r. r.number) (in_order false none x (two_read c.cycle ss))) h.2),
    )

thirteen : (wrong : Bool) (o : Option Refusal) (x y : Bool) → ((r : Refusal) → o ≡ some r → r.number ≤ 4)
    → Option.map (λ r. r.number) (in_order wrong o x y) ≡ some 13 → (wrong ≡ false) × (o ≡ none) × (x ≡ false) × (y ≡ true)
thirteen true o x y l e = let q : ◌≡◌ {A = ℕ} 11 13 = cc in absurd (omega arith)
thirteen false (some r) x y l e =
    let q : r.number ≡ 13 = cc in
    let m : r.number ≤ 4 = l r refl in
    absurd (omega arith)
thirteen false none true y l e = let q : ◌≡◌ {A = ℕ} 12 13 = cc in absurd (omega arith)
thirteen false none false true l e = (refl, refl, refl, refl)
thirteen false none false false l e = let z : ◌≡◌ {A = ℕ} 0 1 = cc in absurd (omega arith)

pub thirteen_exactly : ThirteenExactly
thirteen_exactly b c =
    let ss : List Seat = seats_of b c.selects in (
      (λ e. thirteen (wrong_count b.count) (own_of c.cycle ss) (two_drive c.cycle ss) (two_read c.cycle ss)
          (lowest_small c.cycle 0 ss) (sym (board_numbers_exactly b c) ∙ e)),
      (λ h. board_numbers_exactly b c
          ∙ ap (λ (w : Bool). Option.map (λ r. r.number) (expected_by w c.cycle ss)) h.0
          ∙ ap (λ (o : Option Refusal). Option.map (λ r. r.number) (in_order false o (two_drive c.cycle ss) (two_read c.cycle ss))) h.1
          ∙ ap (λ (x : Bool). Option.map (λ r. r.number) (in_order false none x (two_read c.cycle ss))) h.2
          ∙ ap (λ (y : Bool). Option.map (λ r. r.number) (in_order false none false y)) h.3),
    )

pub good_count : CountGood
good_count b = (
  (λ e. (
    (let n : b.count ≢ 0 = eqb-false b.count 0 (or_l (eqb b.count 0) (ltb 16 b.count) e) in omega arith),
    ltb-false 16 b.count (or_r (eqb b.count 0) (ltb 16 b.count) e),
  )),
  (λ h. rw (ne_eqb b.count 0 (λ e. omega arith), le-ltb 16 b.count h.1)),
)

eleven : (wrong : Bool) (o : Option Refusal) (x y : Bool) → ((r : Refusal) → o ≡ some r → r.number ≤ 4)
    → Option.map (λ r. r.number) (in_order wrong o x y) ≡ some 11 → wrong ≡ true
eleven true o x y l e = refl
eleven false (some r) x y l e =
    let q : r.number ≡ 11 = cc in
    let m : r.number ≤ 4 = l r refl in
    absurd (omega arith)
eleven false none true y l e = let q : ◌≡◌ {A = ℕ} 12 11 = cc in absurd (omega arith)
eleven false none false true l e = let q : ◌≡◌ {A = ℕ} 13 11 = cc in absurd (omega arith)
eleven false none false false l e = let z : ◌≡◌ {A = ℕ} 0 1 = cc in absurd (omega arith)

pub eleven_exactly : ElevenExactly
eleven_exactly b c =
    let ss : List Seat = seats_of b c.selects in (
      (λ e h. false≢true
          (sym ((good_count b).1 h)
          ∙ eleven (wrong_count b.count) (own_of c.cycle ss) (two_drive c.cycle ss) (two_read c.cycle ss)
          (lowest_small c.cycle 0 ss) (sym (board_numbers_exactly b c) ∙ e))),
      (λ h. board_numbers_exactly b c
          ∙ ap (λ (w : Bool). Option.map (λ r. r.number) (expected_by w c.cycle ss)) (wrong (wrong_count b.count) refl h)),
    )
  where
    wrong : (t : Bool) → wrong_count b.count ≡ t → (((1 ≤ b.count) × (b.count ≤ 16)) → ⊥) → t ≡ true
    wrong true w h = refl
    wrong false w h = absurd (h ((good_count b).0 w))
