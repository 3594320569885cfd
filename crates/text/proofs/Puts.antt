-- What is put into a line after what was put.
-- Assumes nothing.
use mathlib.Core.Path.{◌≡◌, refl, ◌∙◌}
use mathlib.Core.Bool.{Bool, true, false}
use mathlib.Core.List.{List, ◌++◌}
use Prim.Native.Nat.{ℕ, ◌+◌}
use native.Mathlib.Omega.{arith}
use Rattle.unit_stores.proofs.Laws.{then}
use Rattle.text.specs.Fields.{address_text, byte_text}
use Rattle.text.specs.Puts.{Puts}
use Rattle.text.specs.declared.numbers.Line.{Line}

pub and_then : {l m k : Line} {r s : ℕ} {a b : List ℕ} → Puts l r a m → Puts m s b k → Puts l (r + s) (a ++ b) k
and_then f g = record {
  put = then f.put g.put;
  within = omega (arith, f.within, g.within);
  long = g.long ∙ f.long;
  same = g.same ∙ f.same;
}

-- the address lines are two bytes, both driven or neither
pub address_bytes : (driven : Bool) (high low : ℕ) → byte_text driven high ++ byte_text driven low ≡ address_text driven high low
unfolding byte_text address_text
address_bytes true high low = refl
address_bytes false high low = refl
