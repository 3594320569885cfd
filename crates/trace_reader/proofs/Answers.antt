-- An answer's number and values fix it, so no second answer fits the promise of a reader. Assumes nothing.
use mathlib.Core.List.{List}
use mathlib.Core.Path.{◌≡◌, sym, ap, ◌∙◌}
use Prim.Native.Nat.{ℕ}
use native.Mathlib.Omega.{arith}
use lib.ListN.{length, get_or}
use Rattle.std.specs.Prelude.{Result, Ok, Err}
use Rattle.rules.proofs.Numbers.{refusal_by_number}
use Rattle.rules.specs.declared.Cycle.{Cycle}
use Rattle.rules.specs.declared.refusal.Refusal.{Refusal}
use Rattle.trace_reader.specs.Reading.{step_number, step_values, Answers, Finds}
use Rattle.trace_reader.specs.declared.Found.{Found}

same : (x y : Result Cycle Refusal) → step_number x ≡ step_number y → step_values x ≡ step_values y → x ≡ y
same (Ok c) (Ok d) n v = ap (λ (cs : List Cycle). Ok (get_or cs 0 c)) v
same (Ok c) (Err m) n v = absurd (omega (arith, ap length v))
same (Err k) (Ok d) n v = absurd (omega (arith, ap length v))
same (Err k) (Err m) n v = ap Err (refusal_by_number k m n)

pub answers_only : (t : List ℕ) (n : ℕ) (x y : Result Cycle Refusal) → Answers t n x → Answers t n y → x ≡ y
answers_only t n x y p q = same x y (p.0 ∙ sym q.0) (p.1 ∙ sym q.1)

abbrev found : Result Cycle Refusal → ℕ → Found
found s m = record { step = s; next = m }

pub finds_only : (t : List ℕ) (n : ℕ) (x y : Found) → Finds t n x → Finds t n y → x ≡ y
finds_only t n x y p q =
    let s = answers_only t n x.step y.step p.0 q.0 in
    let m : x.next ≡ y.next = p.1 ∙ sym q.1 in
    λ i. found (s i) (m i)
