-- What a cycle asks, by its class: a memory cycle, a command to the units that are selected, one for all units, and any other.
-- Assumes nothing.
use mathlib.Core.Path.{◌≡◌, refl, sym, ap, ◌∙◌}
use mathlib.Core.Bool.{Bool, true, false, not, cond, ◌&&◌, ◌||◌}
use mathlib.Core.List.{List, ◌∷◌, map}
use Prim.Native.Nat.{ℕ, suc, ◌≤◌}
use native.Mathlib.Omega.{arith}
use lib.Dec.{eqb, leb}
use borrow.Author.Tests.{leb-true, eqb-true, ne_eqb, not-true}
use Rattle.std.specs.Prelude.{Some, None}
use Rattle.std.specs.Prelude.{Option as Optional}
use Rattle.rules.specs.Bus.{cpu}
use Rattle.rules.specs.Refusals.{damaged, out_of_range}
use Rattle.rules.specs.declared.Cycle.{Cycle}
use Rattle.rules.specs.declared.Registers.{Registers}
use Rattle.theorems_runs.specs.Cycles.{acknowledge}
use Rattle.theorems_runs.proofs.Tests.{and_l, and_r}
use Rattle.board_rules.specs.Board.{Seat}
use Rattle.theorems_boards.specs.Numbers.{may_drive, seat_number, lowest_from, seat_commanded}
use Rattle.board_refusals.specs.Judged.{Judgement, asking, concerns, own_verdict, given_or, unjudged, judging, ahead}
use Rattle.board_refusals.proofs.Laws.{judged_turn, commanded_is}

module _ (c : Cycle) where
  -- the three classes exclude each other
  pub record Class (all command memory : Bool) : Type 0 where
    pub all_is : (c.reset || acknowledge c) ≡ all
    pub command_is : (asking c).command ≡ command
    pub memory_is : (asking c).memory ≡ memory

  classes : (reset x : Bool) (status : ℕ) (m : Bool) → (m ≡ true → 8 ≤ status)
      → (reset || (not reset && eqb status 4 && x)) ≡ true → ((not reset && eqb status 3 && x) ≡ false) × ((not reset && m) ≡ false)
  classes true x status m h e = (refl, refl)
  classes false x status m h e =
      let four : status ≡ 4 = eqb-true status 4 (and_l (eqb status 4) x e) in
      (rw (ne_eqb status 3 (λ q. omega arith)), go m refl)
    where
      go : (b : Bool) → m ≡ b → (true && m) ≡ false
      go false q = q
      go true q = let four : status ≡ 4 = eqb-true status 4 (and_l (eqb status 4) x e) in let l : 8 ≤ status = h q in absurd (omega arith)

  at_least : (leb 8 c.status && leb c.status 13) ≡ true → 8 ≤ c.status
  at_least e = leb-true 8 c.status (and_l (leb 8 c.status) (leb c.status 13) e)

  pub all_class : (c.reset || acknowledge c) ≡ true → Class true false false
  all_class e =
      let h = classes c.reset (cpu c) c.status (leb 8 c.status && leb c.status 13) at_least e in
      record { all_is = e; command_is = h.0; memory_is = h.1 }

  pub memory_class : (asking c).memory ≡ true → Class false false true
  memory_class e =
      let line : c.reset ≡ false = not-true c.reset (and_l (not c.reset) (leb 8 c.status && leb c.status 13) e) in
      let l : 8 ≤ c.status = at_least (and_r (not c.reset) (leb 8 c.status && leb c.status 13) e) in
      record {
        all_is = rw (line, ne_eqb c.status 4 (λ q. omega arith));
        command_is = rw (line, ne_eqb c.status 3 (λ q. omega arith));
        memory_is = e;
      }

  pub command_class : (asking c).command ≡ true → Class false true false
  command_class e =
      let first : (not c.reset && eqb c.status 3) ≡ true = and_l (not c.reset && eqb c.status 3) (cpu c) e in
      let line : c.reset ≡ false = not-true c.reset (and_l (not c.reset) (eqb c.status 3) first) in
      let three : c.status ≡ 3 = eqb-true c.status 3 (and_r (not c.reset) (eqb c.status 3) first) in
      record { all_is = rw (line, three); command_is = e; memory_is = rw (line, three) }

  -- which units each class concerns
  module _ (r : Registers) (s : Bool) where
    abbrev looks : Bool
    looks = (r.notes.awaits || (r.notes.own || r.notes.hold)) || may_drive r.control.mr c

    pub memory-concerns : Class false false true → concerns r s c (asking c) ≡ looks
    memory-concerns k = rw (k.all_is, k.command_is, k.memory_is)

    pub command-concerns : Class false true false → s ≡ false → concerns r s c (asking c) ≡ false
    command-concerns k e = rw (k.all_is, k.command_is, k.memory_is, e)

    pub other-concerns : Class false false false → concerns r s c (asking c) ≡ false
    other-concerns k = rw (k.all_is, k.command_is, k.memory_is)

  -- a healthy unit's own refusal, where the cycle is in range, is the command's
  module _ (in_range : out_of_range c ≡ false) where
    abbrev told : (select : Bool) → Optional ℕ
    told select = cond ((asking c).command && select) (asking c).number None

    pub own-next : (i : ℕ) (s : Seat) (ss : List Seat) → damaged s.unit.registers ≡ false
        → lowest_from i (map (seat_number c) (s ∷ ss)) ≡ given_or (own_verdict i (told s.select)) (lowest_from (suc i) (map (seat_number c) ss))
    unfolding judging ahead
    own-next i s ss sound =
        sym (ap (λ (k : Judgement). k.own) (judged_turn unjudged i c s ss))
        ∙ ap (λ (o : Optional ℕ). given_or (own_verdict i o) (lowest_from (suc i) (map (seat_number c) ss)))
        (ap (λ (b : Bool). cond b (Some 2) (cond (out_of_range c) (Some 1) (told s.select))) sound
        ∙ ap (λ (b : Bool). cond b (Some 1) (told s.select)) in_range)

  -- no command: no unit takes one
  pub uncommanded : (asking c).command ≡ false → (s : Seat) → seat_commanded c s ≡ false
  uncommanded e s = sym (commanded_is c s) ∙ ap (λ (b : Bool). b && s.select) e

  pub commanded : (asking c).command ≡ true → (s : Seat) → seat_commanded c s ≡ s.select
  commanded e s = sym (commanded_is c s) ∙ ap (λ (b : Bool). b && s.select) e
