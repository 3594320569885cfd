-- One turn stores one descriptor more; after all of them, and the low byte, the unit's bytes stand there.
use Rattle.std.proofs.Common.{ℕ, List, [], ◌∷◌, ◌++◌, take, sym, ap, ◌∙◌, append_assoc, arith}
use lib.ListN.{set}
use lib.Seq.{sets, take_all}
use Rattle.rules.specs.declared.Descriptor.{Descriptor}
use Rattle.unit_stores.proofs.Laws.{sets-append}
use Rattle.unit_bytes.specs.Snapshot.{table_at, low_at, descriptor_at, table_bytes, register_bytes, unit_bytes}
use Rattle.unit_bytes.proofs.Tables.{descriptor_stored, low_stored}
use Rattle.unit_bytes.proofs.snapshot.put_unit.Goals as goal

pub loop-i-preserved : goal.loop-i-preserved
loop-i-preserved c =
    let at = c.loop-i in
    let o : List ℕ = sets c.args.out.now 0 (register_bytes c.args.u.registers) in
    c.store-in-loop-i.ensures
    ∙ ap (λ (m : List ℕ). sets m (descriptor_at at.i) c.descriptor_bytes.result) at.invariant
    ∙ ap (λ (b : List ℕ). sets (sets o table_at (table_bytes (take at.i c.args.u.table))) (descriptor_at at.i) b) c.descriptor_bytes.ensures
    ∙ descriptor_stored o c.args.u.table at.i (omega arith)

pub returns : goal.returns
unfolding unit_bytes register_bytes
returns c =
    let t : List Descriptor = c.args.u.table in
    let low : ℕ = c.args.u.registers.low in
    let first : List ℕ = register_bytes c.args.u.registers in
    let o : List ℕ = sets c.args.out.now 0 first in
    ap (λ (l : List ℕ). set l low_at low) (c.loop-i.invariant ∙ ap (λ (r : List Descriptor). sets o table_at (table_bytes r)) (take_all c.loop-i.i t (omega arith)))
    ∙ low_stored o t low (omega arith)
    ∙ sets-append c.args.out.now 0 first (table_bytes t ++ (low ∷ []))
    ∙ ap (sets c.args.out.now 0) (sym (append_assoc first (table_bytes t) (low ∷ [])))
