-- One answer more, and what all answers come to.
-- Assumes nothing.
use mathlib.Core.Path.{◌≡◌, refl, sym, ◌∙◌, ap}
use mathlib.Core.Bool.{Bool, true, false, cond, ◌||◌, or-false, or_assoc}
use mathlib.Core.List.{List, [], ◌∷◌, map}
use Prim.Native.Nat.{ℕ, suc}
use native.Mathlib.Omega.{arith}
use lib.Bits.{or_zero_l, or_zero_r}
use Rattle.std.specs.Option.{option_or}
use Rattle.std.specs.Prelude.{Some, None}
use Rattle.std.specs.Prelude.{Option as Optional}
use Rattle.rules.specs.declared.Answer.{Answer}
use Rattle.rules.specs.declared.Cycle.{Cycle}
use Rattle.rules.specs.declared.Kind.{Kind}
use Rattle.rules.specs.declared.Kind.TheVariants.{Reset, Acknowledge, Command, Aborted, Ignored}
use Rattle.theorems_runs.proofs.Bits as bits
use Rattle.theorems_runs.specs.Answers.{is_aborted}
use Rattle.theorems_runs.specs.Cycles.{acknowledge}
use Rattle.theorems_runs.specs.Sequences.{Every}
use Rattle.board_rules.specs.Board.{Seat, seen_by, answer_of, is_kind, some_of, silent, on_lines, driver, driver_from, joined_byte, kind_by, nobody_drives, kind_of, joined, Named}
use Rattle.theorems_boards.specs.Numbers.{seat_commanded}
use Rattle.theorems_boards.proofs.Exactly.{letter-aborted, some_same}
use Rattle.theorems_boards.proofs.Forms.{Accepted, accepted_form}
use Rattle.theorems_boards.proofs.Lists.{every_imp, some_ext, some_map}
use Rattle.board_answers.specs.Joint.{nothing, driving, joining, quietly, nobody_in, kind_in, address_in, distance_in, named_in, told, driver_in, ahead}
use Rattle.board_answers.specs.declared.Driver.{Driver}
use Rattle.board_answers.specs.declared.Joint.{Joint}

or_later : (a b later : Optional Driver) → option_or (option_or a b) later ≡ option_or a (option_or b later)
or_later None b later = refl
or_later (Some d) b later = refl

or_none : (o : Optional Driver) → option_or o None ≡ o
or_none None = refl
or_none (Some d) = refl

-- one answer more is joined as the next of the answers
pub joined_turn : (t : Joint) (i : ℕ) (x : Answer) (xs : List Answer) → ahead (joining t i x) (suc i) xs ≡ ahead t i (x ∷ xs)
unfolding joining ahead some_of driver_in joined_byte
joined_turn t i x xs =
    let any : Bool = some_of (is_kind Aborted) xs in
    let driver = or_later t.driver (driving i x) (driver_in (suc i) xs) in
    let aborted = or_assoc t.aborted (is_aborted x.kind) any ∙ ap (λ (b : Bool). t.aborted || (b || any)) (sym (letter-aborted x.kind)) in
    let sup = or_assoc t.sup x.sup (some_of (λ (y : Answer). y.sup) xs) in
    let trap = or_assoc t.trap x.trap (some_of (λ (y : Answer). y.trap) xs) in
    let drives = or_assoc t.drives x.drives (some_of (λ (y : Answer). y.drives) xs) in
    let byte = bits.or_assoc t.byte x.byte (joined_byte xs) in
    λ j. record {
      driver = driver j;
      block = t.block;
      distance = t.distance;
      aborted = aborted j;
      sup = sup j;
      trap = trap j;
      drives = drives j;
      byte = byte j;
    }

-- a unit that shows its request and nothing else
pub quiet_turn : (t : Joint) (i : ℕ) (request : Bool) → joining t i (silent Ignored request) ≡ quietly t request
unfolding joining
quiet_turn t i request = rw (or_none t.driver, or-false t.aborted, or-false t.sup, or-false t.drives, or_zero_r t.byte) refl

-- what is kept of the unit that drives is what the rules say of it, k being the kind where nobody does
record Kept (o : Optional Driver) (k : Kind) (x : Answer) (n : Named) : Type 0 where
  pub kind : kind_in o k ≡ x.kind
  pub address : address_in o 0 ≡ x.address
  pub distance : distance_in o 0 ≡ x.distance
  pub named : named_in o ≡ n

kept : (k : Kind) (i : ℕ) (xs : List Answer) → Kept (driver_in i xs) k (driver (silent k false) xs) (driver_from i xs)
unfolding driver driver_from driver_in
kept k i [] = record { kind = refl; address = refl; distance = refl; named = refl }
kept k i (x ∷ xs) = go (on_lines x) (kept k (suc i) xs)
  where
    here : Optional Driver
    here = Some (record { unit = i; kind = x.kind; address = x.address; distance = x.distance })

    go : (t : Bool) → Kept (driver_in (suc i) xs) k (driver (silent k false) xs) (driver_from (suc i) xs)
        → Kept (option_or (cond t here None) (driver_in (suc i) xs)) k (cond t x (driver (silent k false) xs)) (cond t (Some i) (driver_from (suc i) xs))
    go true later = record { kind = refl; address = refl; distance = refl; named = refl }
    go false later = later

-- All of them

module _ (c : Cycle) (s : Seat) (ss : List Seat) (a : Every (λ z. Accepted (answer_of c z)) (s ∷ ss)) where
  abbrev all : List Seat
  all = s ∷ ss

  -- a kind's test of the answers is the test of the seats that `accepted_form` gives
  tested : (k : Kind) (p : Seat → Bool) → ((z : Seat) → Accepted (answer_of c z) → is_kind k (answer_of c z) ≡ p z)
      → some_of (is_kind k) (map (answer_of c) all) ≡ some_of p all
  tested k p f = some_map (is_kind k) (answer_of c) all ∙ some_ext _ p all (every_imp _ _ f all a)

  resets_is : some_of (is_kind Reset) (map (answer_of c) all) ≡ c.reset
  unfolding seen_by
  resets_is = tested Reset (λ z. c.reset) (λ z e. (accepted_form z.unit (seen_by z.select c) e).resets) ∙ some_same all c.reset (omega arith)

  acknowledges_is : some_of (is_kind Acknowledge) (map (answer_of c) all) ≡ acknowledge c
  unfolding seen_by
  acknowledges_is =
      tested Acknowledge (λ z. acknowledge c) (λ z e. (accepted_form z.unit (seen_by z.select c) e).acks) ∙ some_same all (acknowledge c) (omega arith)

  commands_is : some_of (is_kind Command) (map (answer_of c) all) ≡ some_of (seat_commanded c) all
  commands_is = tested Command (seat_commanded c) (λ z e. (accepted_form z.unit (seen_by z.select c) e).command)

  pub told_is : (t : Joint) (i : ℕ) (command : Bool) → ahead t i [] ≡ ahead nothing 0 (map (answer_of c) all)
      → command ≡ some_of (seat_commanded c) all → told t c command ≡ joined (map (answer_of c) all)
  unfolding ahead some_of driver_in joined_byte joined kind_of
  told_is t i command e q =
      let xs : List Answer = map (answer_of c) all in
      let driver : t.driver ≡ driver_in 0 xs = sym (or_none t.driver) ∙ ap (λ (w : Joint). w.driver) e in
      let aborted = sym (or-false t.aborted) ∙ ap (λ (w : Joint). w.aborted) e in
      let one = kept (nobody_drives xs) 0 xs in
      let two = kept Ignored 0 xs in
      let kind = ap (λ (b : Bool). kind_in t.driver (nobody_in b)) aborted ∙ ap (λ (o : Optional Driver). kind_in o (nobody_drives xs)) driver ∙ one.kind in
      let address =
      ap (λ (w : Joint). address_in t.driver w.block) e ∙ ap (λ (o : Optional Driver). address_in o 0) driver ∙ two.address in
      let distance =
      ap (λ (w : Joint). distance_in t.driver w.distance) e ∙ ap (λ (o : Optional Driver). distance_in o 0) driver ∙ two.distance in
      let named = ap named_in driver ∙ two.named in
      let sup = sym (or-false t.sup) ∙ ap (λ (w : Joint). w.sup) e in
      let trap = sym (or-false t.trap) ∙ ap (λ (w : Joint). w.trap) e in
      let drives = sym (or-false t.drives) ∙ ap (λ (w : Joint). w.drives) e in
      let byte = sym (or_zero_r t.byte) ∙ ap (λ (w : Joint). w.byte) e ∙ or_zero_l (joined_byte xs) in
      let r = sym resets_is in
      let k = sym acknowledges_is in
      let m = q ∙ sym commands_is in
      λ j. record {
        answer = record {
          kind = kind_by (r j) (k j) (m j) (kind j);
          address = address j;
          sup = sup j;
          trap = trap j;
          drives = drives j;
          byte = byte j;
          distance = distance j;
        };
        named = named j;
      }
