-- What a board answers that does not refuse: who is named, whose address it shows, and what is joined.
-- Assumes nothing.
use mathlib.Core.Path.{◌≡◌, refl, sym, ◌∙◌, ap}
use mathlib.Core.Bool.{Bool, true, false, cond, ◌&&◌, ◌||◌, true≢false}
use mathlib.Core.List.{List, [], ◌∷◌, map}
use mathlib.Core.Option.{none}
use Prim.Native.Nat.{ℕ, zero, suc, ◌+◌, ◌^◌, ◌<◌, ◌≤◌}
use native.Mathlib.Nat.{not-suc-le-zero, le_of_suc-le-suc}
use native.Mathlib.Omega.{arith}
use lib.ListN.{length, get_or, length-map}
use Rattle.std.specs.Prelude.{Some, None}
use Rattle.rules.specs.Flags.{has}
use Rattle.rules.specs.PowerOn.{power_on}
use Rattle.rules.specs.declared.Answer.{Answer}
use Rattle.rules.specs.declared.Kind.TheVariants.{Ignored}
use Rattle.theorems_runs.specs.Cycles.{memory_cycle}
use Rattle.theorems_runs.specs.Sequences.{Every}
use Rattle.theorems_runs.proofs.Bits.{has_or}
use Rattle.board_rules.specs.Board.{seats_of, seen_by, answer_of, some_of, two_of, on_lines, silent, verdict}
use Rattle.board_rules.specs.Board.{own_from, clash, several_read, driver, driver_from, joined_byte, joined, board_answer}
use Rattle.board_rules.specs.declared.Board.{Board}
use Rattle.board_rules.specs.declared.BoardAnswer.{BoardAnswer}
use Rattle.board_rules.specs.declared.BoardCycle.{BoardCycle}
use Rattle.theorems_boards.specs.Seats.{live, unit_at, alone_at, refusal_of}
use Rattle.theorems_boards.specs.Said.{ready, NamesDriver, DriverNamed, AnyOf, LinesJoined}
use Rattle.theorems_boards.proofs.Forms.{Accepted, accepted_form}
use Rattle.theorems_boards.proofs.Lists.{every_imp, some_ext, some_and, some_map, some_at, some_none}
use Rattle.theorems_boards.proofs.Lists.{seats_length, seats_some, seated_at, every_seated_at}
use Rattle.theorems_boards.proofs.Numbers.{none_clash, verdict_none}
use Rattle.theorems_boards.proofs.Units.{unrefused}

-- Answers one after another: j is the number of the first

-- a unit that is named comes at or after the first
above : (xs : List Answer) (j m : ℕ) → driver_from j xs ≡ Some m → j ≤ m
unfolding driver_from
above [] j m e = let z : ◌≡◌ {A = ℕ} 0 1 = cc in absurd (omega arith)
above (x ∷ xs) j m e = go (on_lines x) e (above xs (suc j) m)
  where
    go : (t : Bool) → cond t (Some j) (driver_from (suc j) xs) ≡ Some m → (driver_from (suc j) xs ≡ Some m → suc j ≤ m) → j ≤ m
    go true e later = let q : j ≡ m = cc in omega arith
    go false e later = let q : suc j ≤ m = later e in omega arith

-- the unit that is named is one of them, drives the address, and its answer is the driver's, whatever stands for no driver
module _ (d : Answer) where
  pub named_on : (z : Answer) (xs : List Answer) (j i m : ℕ) → i + j ≡ m → driver_from j xs ≡ Some m
      → (i < length xs) × (on_lines (get_or xs i d) ≡ true) × (driver z xs ≡ get_or xs i d)
  unfolding driver_from driver
  named_on z [] j i m s e = let z : ◌≡◌ {A = ℕ} 0 1 = cc in absurd (omega arith)
  named_on z (x ∷ xs) j zero m s e = go (on_lines x) refl e
    where
      go : (t : Bool) → on_lines x ≡ t → cond t (Some j) (driver_from (suc j) xs) ≡ Some m
          → (0 < suc (length xs)) × (on_lines x ≡ true) × (cond t x (driver z xs) ≡ x)
      go true q e = (omega arith, q, refl)
      go false q e = let l : suc j ≤ m = above xs (suc j) m e in absurd (omega arith)
  named_on z (x ∷ xs) j (suc i) m s e = go (on_lines x) e (named_on z xs (suc j) i m (omega arith))
    where
      go : (t : Bool) → cond t (Some j) (driver_from (suc j) xs) ≡ Some m
          → (driver_from (suc j) xs ≡ Some m → (i < length xs) × (on_lines (get_or xs i d) ≡ true) × (driver z xs ≡ get_or xs i d))
          → (suc i < suc (length xs)) × (on_lines (get_or xs i d) ≡ true) × (cond t x (driver z xs) ≡ get_or xs i d)
      go true e later = let q : j ≡ m = cc in absurd (omega arith)
      go false e later = let l = later e in let k : i < length xs = l.0 in (omega arith, l.1, l.2)

  -- a unit that drives the address is named, where no other does
  pub on_named : (xs : List Answer) (j i m : ℕ) → i + j ≡ m → i < length xs → two_of on_lines xs ≡ false → on_lines (get_or xs i d) ≡ true
      → driver_from j xs ≡ Some m
  unfolding driver_from two_of
  on_named [] j i m s h n e = absurd (not-suc-le-zero h)
  on_named (x ∷ xs) j zero m s h n e = let q : j ≡ m = omega arith in rw (e, q)
  on_named (x ∷ xs) j (suc i) m s h n e = go (on_lines x) n (λ q. on_named xs (suc j) i m (omega arith) (le_of_suc-le-suc h) q e)
    where
      go : (t : Bool) → cond t (some_of on_lines xs) (two_of on_lines xs) ≡ false
          → (two_of on_lines xs ≡ false → driver_from (suc j) xs ≡ Some m) → cond t (Some j) (driver_from (suc j) xs) ≡ Some m
      go true n later = absurd (true≢false (sym (some_at on_lines xs i d (le_of_suc-le-suc h) e) ∙ n))
      go false n later = later n

-- nobody is named exactly where none drives, and then the driver's answer is what stands for no driver
pub nobody_on : (xs : List Answer) (j : ℕ) → driver_from j xs ≡ None → some_of on_lines xs ≡ false
unfolding driver_from some_of
nobody_on [] j e = refl
nobody_on (x ∷ xs) j e = go (on_lines x) e (nobody_on xs (suc j))
  where
    go : (t : Bool) → cond t (Some j) (driver_from (suc j) xs) ≡ None → (driver_from (suc j) xs ≡ None → some_of on_lines xs ≡ false)
        → (t || some_of on_lines xs) ≡ false
    go true e later = let z : ◌≡◌ {A = ℕ} 0 1 = cc in absurd (omega arith)
    go false e later = later e

pub none_on : (z : Answer) (xs : List Answer) (j : ℕ) → some_of on_lines xs ≡ false → (driver_from j xs ≡ None) × (driver z xs ≡ z)
unfolding driver_from driver some_of
none_on z [] j e = (refl, refl)
none_on z (x ∷ xs) j e = go (on_lines x) e (none_on z xs (suc j))
  where
    go : (t : Bool) → (t || some_of on_lines xs) ≡ false → (some_of on_lines xs ≡ false → (driver_from (suc j) xs ≡ None) × (driver z xs ≡ z))
        → (cond t (Some j) (driver_from (suc j) xs) ≡ None) × (cond t x (driver z xs) ≡ z)
    go true e later = absurd (true≢false e)
    go false e later = later e

-- The answers of the units of a board, each alone

abbrev pub told : Board → BoardCycle → List Answer
told b c = map (answer_of c.cycle) (seats_of b c.selects)

abbrev pub nothing : Answer
nothing = silent Ignored false

module _ (b : Board) (c : BoardCycle) where
  pub told-length : length (told b c) ≡ length (live b)
  told-length = length-map (seats_of b c.selects) (answer_of c.cycle) ∙ seats_length (live b) c.selects

  pub told_at : (i : ℕ) → i < length (live b) → get_or (told b c) i nothing ≡ (alone_at i b c).answer
  told_at i h = seated_at (answer_of c.cycle) (live b) c.selects i power_on nothing h

module _ (b : Board) (c : BoardCycle) (e : refusal_of b c ≡ none) where
  pub all-accepted : Every (λ s. Accepted (answer_of c.cycle s)) (seats_of b c.selects)
  all-accepted = verdict_none c.cycle (seats_of b c.selects) (unrefused b c e).accepts

  -- a unit drives the address exactly where the cycle is a memory cycle and it may
  each_drives : Every (λ s. on_lines (answer_of c.cycle s) ≡ (memory_cycle c.cycle && ready c.cycle s.unit)) (seats_of b c.selects)
  unfolding seen_by
  each_drives =
      every_imp _ _ (λ s a. (accepted_form s.unit (seen_by s.select c.cycle) a).address) (seats_of b c.selects) all-accepted

  drives_at : (i : ℕ) → i < length (live b) → on_lines (get_or (told b c) i nothing) ≡ (memory_cycle c.cycle && ready c.cycle (unit_at i b))
  drives_at i h = ap (λ (x : Answer). on_lines x) (told_at b c i h) ∙ every_seated_at _ (live b) c.selects i power_on h each_drives

  pub some_drives : some_of on_lines (told b c) ≡ (memory_cycle c.cycle && some_of (ready c.cycle) (live b))
  some_drives =
      some_map on_lines (answer_of c.cycle) (seats_of b c.selects)
      ∙ some_ext _ _ (seats_of b c.selects) each_drives
      ∙ some_and (memory_cycle c.cycle) (λ s. ready c.cycle s.unit) (seats_of b c.selects)
      ∙ ap (λ (t : Bool). memory_cycle c.cycle && t) (seats_some (ready c.cycle) (live b) c.selects)

  pub names : (board_answer b c).named ≡ driver_from 0 (told b c)
  unfolding joined
  names = ap (λ (x : BoardAnswer). x.named) (unrefused b c e).answer

  no_clash : two_of on_lines (told b c) ≡ false
  unfolding verdict
  no_clash = none_clash (own_from 0 (told b c)) (clash (told b c)) (several_read c.cycle (told b c)) (unrefused b c e).accepts

  names_driver : NamesDriver b c
  names_driver =
      record {
        unit = λ i. (
          (λ n.
              let k = named_on nothing nothing (told b c) 0 i i (omega arith) (sym names ∙ n) in
              let l : i < length (live b) = rw (told-length b c) at k.0 in
              (l, sym (drives_at i l) ∙ k.1)),
          (λ h.
              names
              ∙ on_named nothing (told b c) 0 i i (omega arith) (rw (told-length b c) h.0) no_clash (drives_at i h.0 ∙ h.1)),
        );
        nobody = (
          (λ n. sym some_drives ∙ nobody_on (told b c) 0 (sym names ∙ n)),
          (λ h. names ∙ (none_on nothing (told b c) 0 (some_drives ∙ h)).0),
        );
      }

pub driver-named : DriverNamed
driver-named = names_driver

-- Joined lines

any_of : (b : Board) (c : BoardCycle) (line : Answer → Bool) → line (board_answer b c).answer ≡ some_of line (told b c) → AnyOf line b c
any_of b c line s =
    record {
      on = λ i h o. s ∙ some_at line (told b c) i nothing (rw (told-length b c) h) (ap (λ (x : Answer). line x) (told_at b c i h) ∙ o);
      off = λ o.
          s
          ∙ some_none line (told b c) nothing
          (λ i h. let l : i < length (live b) = rw (told-length b c) at h in ap (λ (x : Answer). line x) (told_at b c i l) ∙ o i l);
    }

byte_lines : (k : ℕ) (l : List Answer) → has (joined_byte l) (2 ^ k) ≡ some_of (λ x. has x.byte (2 ^ k)) l
unfolding joined_byte some_of
byte_lines k [] = refl
byte_lines k (x ∷ l) = has_or k x.byte (joined_byte l) ∙ ap (λ (t : Bool). has x.byte (2 ^ k) || t) (byte_lines k l)

pub lines_joined : LinesJoined
unfolding joined
lines_joined b c e =
    let a : board_answer b c ≡ joined (told b c) = (unrefused b c e).answer in
    record {
      sup = any_of b c (λ x. x.sup) (ap (λ (x : BoardAnswer). x.answer.sup) a);
      trap = any_of b c (λ x. x.trap) (ap (λ (x : BoardAnswer). x.answer.trap) a);
      drives = any_of b c (λ x. x.drives) (ap (λ (x : BoardAnswer). x.answer.drives) a);
      byte = λ k. any_of b c (λ x. has x.byte (2 ^ k)) (ap (λ (x : BoardAnswer). has x.answer.byte (2 ^ k)) a ∙ byte_lines k (told b c));
    }
