-- Each descriptor of the table is the one that the closure reads.
use Rattle.std.proofs.Common.{ℕ, List, sym, arith, rules}
use Rattle.rules.specs.PowerOn.{blank}
use Rattle.unit_bytes.specs.Snapshot.{segments, descriptor_at, descriptor_in, unit_in}
use Rattle.unit_bytes.proofs.Made.{made_of}
use Rattle.unit_bytes.proofs.Tables.{table_is}
use Rattle.unit_bytes.proofs.snapshot.unit_in.Goals as goal

pub returns : goal.returns
unfolding unit_in
returns c =
    let l : List ℕ = c.args.bytes.now in
    let made = c.from_fn.ensures.items in
    let table = table_is l segments c.from_fn.result blank made.long
    (λ k h. sym (made_of _ (λ i. descriptor_in l (descriptor_at i)) _ (λ i y q ran. search rules) c.from_fn.result 0 segments made.each k blank (omega arith) (omega arith))) in
    λ i. record { table = sym table i; registers = c.registers_in.ensures i }
