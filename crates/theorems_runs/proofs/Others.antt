-- Ticket 12: one cycle in two units that differ outside a set, and then every run of them.
-- Assumes nothing.
use mathlib.Core.Path.{◌≡◌, refl, sym, ◌∙◌, ap, ap₂, subst}
use mathlib.Core.Bool.{Bool, true, false, not, ◌&&◌, ◌||◌, false≢true}
use mathlib.Core.List.{List, [], ◌∷◌}
use Prim.Native.Nat.{ℕ, ◌%◌, ◌<◌}
use native.Mathlib.Omega.{arith}
use lib.Dec.{eqb, leb}
use lib.ListN.{get_or}
use borrow.Author.Tests.{ne_eqb}
use Rattle.rules.proofs.Blind.{Kindred, keep, put, raise, Unseen, unseen_refl, decided_unseen, own-segment}
use Rattle.rules.specs.PowerOn.{blank}
use Rattle.rules.specs.Refusals.{damaged, out_of_range}
use Rattle.rules.specs.Runs.{answers, units}
use Rattle.rules.specs.Step.{decided, place_of, place, with_flags, changed, decision, after}
use Rattle.rules.specs.declared.Change.{Change}
use Rattle.rules.specs.declared.Cycle.{Cycle}
use Rattle.rules.specs.declared.Registers.{Registers}
use Rattle.rules.specs.declared.Unit.{Unit}
use Rattle.theorems_runs.specs.Cycles.{memory_cycle, meets_conditions, descriptor_command, descriptor_read}
use Rattle.theorems_runs.specs.Others.{Alike, Sized, ByTicket, LooksInside, Ticket12, LooksAlone}
use Rattle.theorems_runs.specs.Sequences.{Both, Along}
use Rattle.theorems_runs.proofs.Looks.{looks_told}
use Rattle.theorems_runs.proofs.Tables.{set_both, at_map}
use Rattle.theorems_runs.proofs.Tests.{and_l, and_r}
use Rattle.theorems_runs.proofs.Undamaged.{size_after}

-- One cycle

module _ (inside : ℕ → Bool) (a b : Unit) (c : Cycle) (h : Alike inside a b) (may : LooksInside inside a c) where
  same_place : place b c ≡ place a c
  same_place = ap (λ (r : Registers). place_of r c % 64) (sym h.registers)

  -- either the cycle looks at a descriptor, which is the same in both units, or it looks at none
  step_unseen : Unseen (get_or a.table (place a c) blank) (get_or b.table (place a c) blank) (decision a c) (decision b c)
  unfolding decision decided
  step_unseen = rw (sym h.registers) (go (meets_conditions a c || descriptor_read c) refl)
    where
      go : (t : Bool) → (meets_conditions a c || descriptor_read c) ≡ t
          → Unseen (get_or a.table (place a c) blank) (get_or b.table (place a c) blank)
          (decided a.registers (get_or a.table (place a c) blank) c) (decided a.registers (get_or b.table (place a c) blank) c)
      go true e = rw (h.table (place a c) (omega arith) (may e)) (unseen_refl _)
      go false e = decided_unseen a.registers _ _ c (damaged a.registers) (out_of_range c) c.reset (looks_told a c e)

  -- a change keeps the descriptors in the set equal
  change_alike : Sized a → Sized b → (k l : Change) → Kindred (get_or a.table (place a c) blank) (get_or b.table (place a c) blank) k l
      → (j : ℕ) → j < 64 → inside j ≡ true → get_or (changed k (place a c) a.table) j blank ≡ get_or (changed l (place a c) b.table) j blank
  unfolding changed
  change_alike n m k l keep j low e = h.table j low e
  change_alike n m k l (put make) j low e =
      set_both (λ x y. x ≡ y) blank _ _ a.table b.table (place a c) j (n ∙ sym m) (h.table j low e)
      λ z. ap make (h.table (place a c) (omega arith) (subst (λ i. inside i ≡ true) z e))
  change_alike n m k l (raise mask) j low e =
      at_map (with_flags mask) a.table j blank (omega (arith, n))
      ∙ ap (with_flags mask) (h.table j low e)
      ∙ sym (at_map (with_flags mask) b.table j blank (omega (arith, m)))

  step_alike : Sized a → Sized b → Alike inside (after a c) (after b c)
  unfolding after
  step_alike n m =
      record { registers = step_unseen.registers; table = rw same_place (change_alike n m _ _ step_unseen.change) }

-- Runs

pub looks_alone : LooksAlone
unfolding Along answers units
looks_alone inside a b [] n m h may = (refl, refl)
looks_alone inside a b (c ∷ cs) n m h may =
    let later : (answers (after a c) cs ≡ answers (after b c) cs) × Both (Alike inside) (units (after a c) cs) (units (after b c) cs) =
    looks_alone inside (after a c) (after b c) cs (size_after a c ∙ n) (size_after b c ∙ m) (step_alike inside a b c h may.0 n m) may.1 in (
      ap₂ ◌∷◌ (step_unseen inside a b c h may.0).answer later.0,
      (step_alike inside a b c h may.0 n m, later.1),
    )

-- What the ticket asks of a cycle is more than that: one that meets the translation conditions is no command, so it looks at its own segment

no_command : (u : Unit) (c : Cycle) → meets_conditions u c ≡ true → eqb c.status 3 ≡ false
no_command u c e =
    let memory : memory_cycle c ≡ true = and_r (not (out_of_range c)) _ (and_l (not (out_of_range c) && memory_cycle c) _ e) in
    let high : leb 8 c.status ≡ true = and_l (leb 8 c.status) _ (and_r (not c.reset) _ memory) in
    ne_eqb c.status 3 (λ q. false≢true (rw q at high))

ticket_looks : (inside : ℕ → Bool) (u : Unit) (c : Cycle) → ByTicket inside u c → LooksInside inside u c
ticket_looks inside u c may e = go (meets_conditions u c) refl e
  where
    go : (t : Bool) → meets_conditions u c ≡ t → (t || descriptor_read c) ≡ true → inside (place u c) ≡ true
    go true q e = rw (own-segment u.registers c (no_command u c q)) (may.0 q)
    go false q e = absurd (false≢true (sym may.1 ∙ and_l (descriptor_command c) c.read e))

ticket_along : (inside : ℕ → Bool) (u : Unit) (cs : List Cycle) → Along (ByTicket inside) u cs → Along (LooksInside inside) u cs
unfolding Along
ticket_along inside u [] may = refl
ticket_along inside u (c ∷ cs) may = (ticket_looks inside u c may.0, ticket_along inside (after u c) cs may.1)

pub ticket_12 : Ticket12
ticket_12 inside a b cs n m h may = looks_alone inside a b cs n.size m.size h (ticket_along inside a cs may)
