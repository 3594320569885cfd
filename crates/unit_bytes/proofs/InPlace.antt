-- A cycle in place is a cycle of the unit that the bytes hold; it leaves what stands behind them, and notes that are never strange.
-- Assumes nothing.
use mathlib.Core.Path.{◌≡◌, sym, ap, ◌∙◌}
use mathlib.Core.Bool.{false}
use mathlib.Core.List.{List}
use Prim.Native.Nat.{ℕ, ◌<◌, ◌≤◌}
use native.Mathlib.Nat.{mod-lt}
use native.Mathlib.Omega.{arith}
use lib.Dec.{ltb}
use lib.ListN.{length, drop}
use Rattle.rules.specs.PowerOn.{blank}
use Rattle.rules.specs.Step.{decided, place_of, changed, decision, after, stepped}
use Rattle.rules.specs.declared.Cycle.{Cycle}
use Rattle.rules.specs.declared.Decision.{Decision}
use Rattle.rules.specs.declared.Descriptor.{Descriptor}
use Rattle.rules.specs.declared.Registers.{Registers}
use Rattle.unit_bytes.specs.Cycled.{strange}
use Rattle.unit_bytes.specs.InPlace.{looked_at, decided_in, put_registers, in_place}
use Rattle.unit_bytes.specs.Snapshot.{notes_at, segments, unit_size, LAST_NOTES, table_in, registers_in, unit_in}
use Rattle.unit_bytes.proofs.Found.{notes_small}
use Rattle.unit_bytes.proofs.Tables.{table_at_lem}
use Rattle.unit_bytes.proofs.Stored.{change-length, change-drop, change-other, change_table}
use Rattle.unit_bytes.proofs.Stored.{registers-length, registers-drop, registers_table, registers-found, registers_notes, registers_same}

-- ---- what is decided, from one descriptor, is what the unit decides
looked_below : (l : List ℕ) (c : Cycle) → looked_at l c < segments
unfolding looked_at
looked_below l c = mod-lt (place_of (registers_in l) c) (omega arith)

pub in_place_decides : (l : List ℕ) (c : Cycle) → decided_in l c ≡ decision (unit_in l) c
unfolding decided_in looked_at decision unit_in
in_place_decides l c =
    ap (λ (d : Descriptor). decided (registers_in l) d c) (sym (table_at_lem l segments (looked_at l c) blank (looked_below l c)))

pub in_place_answers : (l : List ℕ) (c : Cycle) → (decided_in l c).answer ≡ (stepped (unit_in l) c).answer
in_place_answers l c = ap (λ (p : Decision). p.answer) (in_place_decides l c)

-- ---- the whole
module _ (l : List ℕ) (c : Cycle) where
  pub in_place-length : length (in_place l c) ≡ length l
  unfolding in_place
  in_place-length =
      let p : Decision = decided_in l c in
      change-length (put_registers p.registers l) (looked_at l c) (looked_below l c) p.change ∙ registers-length p.registers l

  pub in_place_behind : drop unit_size (in_place l c) ≡ drop unit_size l
  unfolding in_place
  in_place_behind =
      let p : Decision = decided_in l c in
      change-drop (put_registers p.registers l) (looked_at l c) (looked_below l c) p.change ∙ registers-drop p.registers l

  pub in_place_never_strange : unit_size ≤ length l → strange (in_place l c) ≡ false
  unfolding in_place
  in_place_never_strange room =
      let p : Decision = decided_in l c in
      let r : Registers = p.registers in
      ap (ltb LAST_NOTES)
      (change-other (put_registers r l) (looked_at l c) (looked_below l c) p.change notes_at (λ from to. omega arith)
      ∙ registers_notes r l room)
      ∙ notes_small r.notes

  pub in_place_steps : unit_size ≤ length l → unit_in (in_place l c) ≡ (stepped (unit_in l) c).unit
  unfolding in_place unit_in after looked_at
  in_place_steps room =
      let p : Decision = decided_in l c in
      let r : Registers = p.registers in
      let m : List ℕ = put_registers r l in
      let i : ℕ = looked_at l c in
      let below : i < segments = looked_below l c in
      let wide : unit_size ≤ length m = omega (arith, registers-length r l) in
      let table : table_in (in_place l c) segments ≡ changed p.change i (table_in l segments) =
      change_table m i below p.change wide ∙ ap (changed p.change i) (registers_table r l) in
      let registers : registers_in (in_place l c) ≡ r =
      registers_same m (in_place l c) (change-other m i below p.change) ∙ registers-found r l room in
      (λ k. record { table = table k; registers = registers k })
      ∙ ap (λ (q : Decision). record { table = changed q.change i (table_in l segments); registers = q.registers }) (in_place_decides l c)
