-- A table narrowed in a running unit: the writes leave MR and hold.
-- Assumes nothing.
use mathlib.Core.Path.{◌≡◌, refl, ◌∙◌, ap}
use mathlib.Core.Bool.{Bool, true, false, cond, not, ◌&&◌, ◌||◌, and-false}
use mathlib.Core.List.{List, [], ◌∷◌}
use Prim.Native.Nat.{ℕ}
use lib.Dec.{eqb, leb}
use borrow.Author.Tests.{eqb-true, not-true}
use Rattle.rules.specs.Bus.{cpu, write}
use Rattle.rules.specs.Refusals.{out_of_range}
use Rattle.rules.specs.Runs.{final}
use Rattle.rules.specs.Step.{stepped}
use Rattle.rules.specs.declared.Cycle.{Cycle}
use Rattle.rules.specs.declared.Unit.{Unit}
use Rattle.theorems_runs.specs.Answers.{SameMr, awaited, segment_of, breaks}
use Rattle.theorems_runs.specs.Cycles.{selected_command, acknowledge, memory_cycle, fetches, software_reset, translation_conditions, on_descriptor}
use Rattle.theorems_runs.specs.Hold.{holds}
use Rattle.theorems_runs.specs.Refusal.{admitted}
use Rattle.theorems_runs.specs.Sequences.{Every}
use Rattle.theorems_runs.specs.Unstopped.{table_write, TableWrite, NarrowedInPlace, NarrowedAndPutBack, NarrowingOpensNothing, NarrowingNears}
use Rattle.theorems_runs.proofs.Hold.{hold_exactly}
use Rattle.theorems_runs.proofs.Tests.{and_l, and_r, differs}
use Rattle.theorems_runs.proofs.Undamaged.{stays_undamaged}
use Rattle.theorems_runs.proofs.Unstopped.{mr_exactly, level, covers_unstopped, covers_with_writes, nearer_unstopped}

-- v has the MR and the hold of u
record Alike (u v : Unit) : Type 0 where
  mr : SameMr v u
  hold : holds v ≡ holds u

module _ (c : Cycle) (w : table_write c ≡ true) where
  command : selected_command c ≡ true
  command =
      and_r (not (out_of_range c)) _
      (and_l (not (out_of_range c) && selected_command c) _ (and_l (not (out_of_range c) && selected_command c && write c) _ w))

  -- software reset and MR have other codes
  other_code : (n : ℕ) → (eqb n 0x01 || on_descriptor n || eqb n 0x20) ≡ false → (selected_command c && write c && eqb c.offset n) ≡ false
  other_code n f =
      ap (λ (t : Bool). selected_command c && write c && t)
      (differs (λ n. eqb n 0x01 || on_descriptor n || eqb n 0x20) c.offset n
      (and_r (not (out_of_range c) && selected_command c && write c) _ w) f)
      ∙ and-false (selected_command c && write c)

  running : c.reset ≡ false
  running = not-true _ (and_l (not c.reset) _ (and_l (not c.reset && eqb c.status 3) _ command))

  three : c.status ≡ 3
  three = eqb-true c.status 3 (and_r (not c.reset) _ (and_l (not c.reset && eqb c.status 3) _ command))

  -- and acknowledges, memory cycles and fetches another status
  no_acknowledge : acknowledge c ≡ false
  no_acknowledge = ap (λ (s : ℕ). not c.reset && eqb s 4 && cpu c) three ∙ ap (λ (t : Bool). t && cpu c) (and-false (not c.reset))

  no_memory : memory_cycle c ≡ false
  no_memory = ap (λ (s : ℕ). not c.reset && (leb 8 s && leb s 13)) three ∙ and-false (not c.reset)

  no_fetch : fetches c ≡ false
  no_fetch =
      ap (λ (s : ℕ). not c.reset && (cpu c && c.read && eqb s 13)) three
      ∙ ap (λ (t : Bool). not c.reset && t) (and-false (cpu c && c.read))
      ∙ and-false (not c.reset)

  step_alike : (u : Unit) → Alike u (stepped u c).unit
  step_alike u =
      record {
        mr =
            mr_exactly u c
            ∙ same_mr (admitted u c) c.reset (software_reset c) (selected_command c && write c && eqb c.offset 0x00) _ _ _ running
            (other_code 0x10 refl) (other_code 0x00 refl);
        hold =
            hold_exactly u c
            ∙ same_hold (admitted u c) (memory_cycle c) c.reset (acknowledge c) (fetches c) (software_reset c) no_memory running no_acknowledge
            no_fetch (other_code 0x10 refl);
      }
    where
      same_mr : (a r s m : Bool) (x y k : ℕ) → r ≡ false → s ≡ false → m ≡ false → cond (a && r) x (cond (a && s) 0 (cond (a && m) y k)) ≡ k
      same_mr true r s m x y k p q t = rw (p, q, t)
      same_mr false r s m x y k p q t = refl

      same_hold : (a m r k f s : Bool) → m ≡ false → r ≡ false → k ≡ false → f ≡ false → s ≡ false
          → (a && m && not (awaited u c) && translation_conditions u.registers.control.mr c && breaks (segment_of u c) c && cpu c
          || not (a && (r || k || f || s)) && holds u)
          ≡ holds u
      same_hold true m r k f s p q t v z = rw (p, q, t, v, z)
      same_hold false m r k f s p q t v z = refl

alike : (ws : List Cycle) (u : Unit) → Every TableWrite ws → Alike u (final u ws)
unfolding final
alike [] u w = record { mr = refl; hold = refl }
alike (c ∷ cs) u w =
    let now : Alike u (stepped u c).unit = step_alike c w.0 u in
    let later : Alike (stepped u c).unit (final (stepped u c).unit cs) = alike cs (stepped u c).unit w.1 in
    record { mr = later.mr ∙ now.mr; hold = later.hold ∙ now.hold }

pub narrowed_in_place : NarrowedInPlace
narrowed_in_place u ws h w t =
    let k : Alike u (final u ws) = alike ws u w in
    record { first = stays_undamaged u ws h; second = h; table = t; mr = k.mr; hold = λ z. k.hold ∙ z }

pub narrowed_and_put_back : NarrowedAndPutBack
narrowed_and_put_back u ws h w t = record { narrower = narrowed_in_place u ws h w t.0; sar = t.1; dscr = t.2 }

pub narrowing_opens_nothing : NarrowingOpensNothing
narrowing_opens_nothing = (
  λ u ws h w t cs f. covers_unstopped (final u ws) u cs (narrowed_in_place u ws h w t) f,
  λ u ws h w t cs f. covers_with_writes (final u ws) u cs (narrowed_and_put_back u ws h w t) f,
)

pub narrowing_nears : NarrowingNears
narrowing_nears = (
  λ u ws h w t. nearer_unstopped.0 (final u ws) u (level (narrowed_in_place u ws h w t)),
  λ u ws h w t. nearer_unstopped.1 (final u ws) u (level (narrowed_in_place u ws h w t.0)) t.1 t.2,
)
