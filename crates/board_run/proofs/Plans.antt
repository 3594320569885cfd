-- What each class of cycles is planned to do, said of all seats of a board.
-- Assumes nothing.
use mathlib.Core.Path.{◌≡◌, refl, sym, ap, ◌∙◌}
use mathlib.Core.Bool.{Bool, true, false, cond, ◌&&◌, ◌||◌, false≢true}
use mathlib.Core.List.{List, [], ◌∷◌, map}
use mathlib.Core.Option.{Option, none}
use Prim.Native.Nat.{ℕ, zero, suc, ◌+◌, ◌*◌, ◌/◌, ◌%◌, ◌≤◌}
use native.Mathlib.Nat.{not-suc-le-zero, le_of_suc-le-suc}
use native.Mathlib.Omega.{arith}
use lib.Dec.{eqb}
use lib.ListN.{length}
use Rattle.std.specs.Prelude.{Some, None, is_some, unwrap_or}
use Rattle.std.specs.Prelude.{Option as Optional}
use Rattle.rules.specs.Refusals.{out_of_range}
use Rattle.rules.specs.declared.Cycle.{Cycle}
use Rattle.rules.specs.declared.Unit.{Unit}
use Rattle.theorems_runs.specs.Cycles.{memory_cycle}
use Rattle.theorems_runs.specs.Sequences.{Every}
use Rattle.board_rules.specs.Board.{Seat, seated, Refusal, some_of, two_of, requests}
use Rattle.theorems_boards.specs.Numbers.{seat_number, seat_drives, seat_commanded, lowest_from}
use Rattle.board_refusals.specs.Judged.{asking, own_verdict, given_or, given}
use Rattle.board_refusals.specs.declared.Judged.{Judged}
use Rattle.board_refusals.specs.declared.Verdict.{Verdict}
use Rattle.board_refusals.proofs.Laws.{Known}
use Rattle.board_run.specs.Plan.{any_on, several_on, first_on, Off, Healthy, first_verdict, judged_with}
use Rattle.board_run.proofs.Classes.{Class, command-concerns, other-concerns, own-next, uncommanded, commanded}

-- Lists

some_none : {A : Type 0} (p : A → Bool) → ((x : A) → p x ≡ false) → (l : List A) → some_of p l ≡ false
unfolding some_of
some_none p h [] = refl
some_none p h (x ∷ l) = rw (h x) (some_none p h l)

two_none : {A : Type 0} (p : A → Bool) → ((x : A) → p x ≡ false) → (l : List A) → two_of p l ≡ false
unfolding two_of
two_none p h [] = refl
two_none p h (x ∷ l) = rw (h x) (two_none p h l)

two_same : {A : Type 0} (p q : A → Bool) → ((x : A) → p x ≡ q x) → (l : List A) → (some_of p l ≡ some_of q l) × (two_of p l ≡ two_of q l)
unfolding some_of two_of
two_same p q h [] = (refl, refl)
two_same p q h (x ∷ l) = let t = two_same p q h l in (rw (h x, t.0), rw (h x, t.0, t.1))

-- Units to look at

-- every unit
abbrev pub ones : ℕ → ℕ
ones zero = 0
ones (suc n) = ones n * 2 + 1

pub all-off : (c : Cycle) (n : ℕ) (ss : List Seat) → length ss ≤ n → Off c (ones n) ss
unfolding Off
all-off c n [] h = refl
all-off c zero (s ∷ ss) h = absurd (not-suc-le-zero h)
all-off c (suc n) (s ∷ ss) h =
    let half : (ones n * 2 + 1) / 2 ≡ ones n = omega arith in
    let odd : (ones n * 2 + 1) % 2 ≡ 1 = omega arith in
    ((λ e. absurd (false≢true (sym (rw odd at e)))), rw half (all-off c n ss (le_of_suc-le-suc h)))

-- those that are selected
pub command-off : (c : Cycle) → Class c false true false → (us : List Unit) (left : ℕ) → Off c left (seated us left)
unfolding Off seated
command-off c k [] left = refl
command-off c k (u ∷ us) left = ((λ e. command-concerns c u.registers (eqb (left % 2) 1) k e), command-off c k us (left / 2))

-- none
pub other-off : (c : Cycle) → Class c false false false → (mask : ℕ) (ss : List Seat) → Off c mask ss
unfolding Off
other-off c k mask [] = refl
other-off c k mask (s ∷ ss) = ((λ e. other-concerns c s.unit.registers s.select k), other-off c k (mask / 2) ss)

-- What the board refuses

module _ (c : Cycle) (in_range : out_of_range c ≡ false) where
  own_none : (asking c).command ≡ false → (i : ℕ) (ss : List Seat) → Every Healthy ss → lowest_from i (map (seat_number c) ss) ≡ none
  unfolding lowest_from
  own_none e i [] h = refl
  own_none e i (s ∷ ss) h = own-next c in_range i s ss h.0 ∙ rw e (own_none e (suc i) ss h.1)

  -- where no unit is commanded, only two that drive have the board refuse
  pub uncommanded_known : (asking c).command ≡ false → (j : Judged) (stood : Bool) (ss : List Seat) → Every Healthy ss
      → j.own ≡ None → j.command ≡ false → j.several ≡ false → j.clash ≡ two_of (λ s. memory_cycle c && seat_drives c s) ss
      → stood ≡ some_of requests ss → Known (judged_with j stood) c ss
  uncommanded_known e j stood ss h no-own no_command no-several clash asks = record {
    own = rw no-own (sym (own_none e 0 ss h));
    clash = clash;
    command = no_command ∙ sym (some_none (seat_commanded c) (uncommanded c e) ss);
    several = no-several ∙ sym (two_none (seat_commanded c) (uncommanded c e) ss);
    stood = asks;
  }

  pub clash_none : (asking c).memory ≡ false → (ss : List Seat) → false ≡ two_of (λ s. memory_cycle c && seat_drives c s) ss
  clash_none e ss = sym (two_none (λ s. memory_cycle c && seat_drives c s) (λ s. ap (λ (b : Bool). b && seat_drives c s) e) ss)

  pub clash_is : (asking c).memory ≡ true → (ss : List Seat) → two_of (seat_drives c) ss ≡ two_of (λ s. memory_cycle c && seat_drives c s) ss
  clash_is e ss =
      (two_same (seat_drives c) (λ s. memory_cycle c && seat_drives c s) (λ s. sym (ap (λ (b : Bool). b && seat_drives c s) e)) ss).1

  module _ (e : (asking c).command ≡ true) where
    abbrev why : Optional ℕ
    why = (asking c).number

    -- the first that is selected gives the command's refusal
    abbrev firsts : (i n left : ℕ) → Option Refusal
    firsts i n left = given (cond (any_on n left) (own_verdict (first_on i n left) why) None)

    own_first : (i : ℕ) (us : List Unit) (left : ℕ) → Every Healthy (seated us left)
        → lowest_from i (map (seat_number c) (seated us left)) ≡ firsts i (length us) left
    unfolding lowest_from seated any_on first_on
    own_first i [] left h = refl
    own_first i (u ∷ us) left h =
        own-next c in_range i (record { unit = u; select = eqb (left % 2) 1 }) (seated us (left / 2)) h.0
        ∙ rw (e, own_first (suc i) us (left / 2) h.1) (go (eqb (left % 2) 1) why (any_on (length us) (left / 2)))
      where
        go : (on : Bool) (o : Optional ℕ) (more : Bool)
            → given_or (own_verdict i (cond on o None)) (given (cond more (own_verdict (first_on (suc i) (length us) (left / 2)) o) None))
            ≡ given (cond (on || more) (own_verdict (cond on i (first_on (suc i) (length us) (left / 2))) o) None)
        go true None true = refl
        go true None false = refl
        go true (Some x) more = refl
        go false o true = refl
        go false o false = refl

    picked : (us : List Unit) (left : ℕ) → (some_of (λ s. s.select) (seated us left) ≡ any_on (length us) left)
        × (two_of (λ s. s.select) (seated us left) ≡ several_on (length us) left)
    unfolding some_of two_of seated any_on several_on
    picked [] left = (refl, refl)
    picked (u ∷ us) left = let t = picked us (left / 2) in (rw t.0, rw (t.0, t.1))

    pub command_known : (us : List Unit) (selects count : ℕ) → length us ≡ count → Every Healthy (seated us selects)
        → (first : Optional ℕ) (several : Bool) (own : Optional Verdict) (stood : Bool)
        → is_some first ≡ any_on count selects → several ≡ several_on count selects → unwrap_or first count ≡ first_on 0 count selects
        → own ≡ first_verdict first why → stood ≡ some_of requests (seated us selects) → (asking c).memory ≡ false
        → Known (record { own = own; drives = false; clash = false; command = is_some first; several = several; stood = stood }) c (seated us selects)
    command_known us selects count long h first several own stood one two three held asks no_memory =
        let same = two_same (seat_commanded c) (λ s. s.select) (commanded c e) (seated us selects) in
        let t = picked us selects in
        record {
          own =
              rw held (go first why one three)
              ∙ ap (λ (n : ℕ). firsts 0 n selects) (sym long)
              ∙ sym (own_first 0 us selects h);
          clash = clash_none no_memory (seated us selects);
          command = one ∙ ap (λ (n : ℕ). any_on n selects) (sym long) ∙ sym (same.0 ∙ t.0);
          several = two ∙ ap (λ (n : ℕ). several_on n selects) (sym long) ∙ sym (same.1 ∙ t.1);
          stood = asks;
        }
      where
        go : (f : Optional ℕ) (o : Optional ℕ) → is_some f ≡ any_on count selects → unwrap_or f count ≡ first_on 0 count selects
            → given (first_verdict f o) ≡ given (cond (any_on count selects) (own_verdict (first_on 0 count selects) o) None)
        go None o a b = rw (← a)
        go (Some i) o a b = rw (← a, ← b)
