-- What a function has done where its test went one way or the other.
-- Assumes nothing.
use mathlib.Core.Path.{◌≡◌, sym, ap, subst, ◌∙◌}
use mathlib.Core.Bool.{Bool}
use mathlib.Core.List.{List}
use Prim.Native.Nat.{ℕ}
use Rattle.rules.specs.declared.Cycle.{Cycle}
use Rattle.distantarm.specs.Interface.{no_unit, start_number, start_bytes, PoweredOn, no_room}
use Rattle.unit_bytes.specs.Cycled.{Cycled}

-- power-on, by its one test
pub powered : {l m : List ℕ} {number : ℕ} (b : Bool) → no_unit l ≡ b → number ≡ start_number b → m ≡ start_bytes b l → PoweredOn l m number
powered {l} b e says leaves = record {
  says = says ∙ ap start_number (sym e);
  leaves = leaves ∙ ap (λ (s : Bool). start_bytes s l) (sym e);
}

-- a cycle, by the test of both lengths
pub roomy : {c : Cycle} {l o m p : List ℕ} {number : ℕ} (b : Bool) → no_room l o ≡ b → Cycled b c l o m p number
    → Cycled (no_room l o) c l o m p number
roomy {c} {l} {o} {m} {p} {number} b e w = subst (λ (s : Bool). Cycled s c l o m p number) (sym e) w
