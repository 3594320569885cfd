-- Which number a cycle is given, and what a refusal leaves.
-- Assumes nothing.
use mathlib.Core.Path.{◌≡◌, refl, sym, ◌∙◌, ap}
use mathlib.Core.Bool.{Bool, true, false}
use mathlib.Core.Option.{Option, none, some}
use Prim.Native.Nat.{ℕ}
use native.Mathlib.Omega.{arith}
use Rattle.rules.specs.Kinds.{number_in}
use Rattle.rules.specs.Replies.{plain, refused}
use Rattle.rules.specs.Step.{changed, decision, after}
use Rattle.rules.specs.declared.Decision.{Decision}
use Rattle.rules.specs.declared.Kind.{Kind}
use Rattle.rules.specs.declared.Kind.TheVariants.{Refused}
use Rattle.rules.specs.declared.Registers.{Registers}
use Rattle.theorems_runs.specs.Answers.{kind_by}
use Rattle.theorems_runs.specs.Refusal.{NumbersExactly, RefusalLeaves}
use Rattle.theorems_runs.proofs.Answers.{Judged, refuses, accepts, kind_exactly, says, says_kind}

number_of : (o : Option ℕ) (r a k m w t p : Bool) → number_in (kind_by o r a k m w t p) ≡ o
number_of (some n) r a k m w t p = refl
number_of none true a k m w t p = refl
number_of none false true k m w t p = refl
number_of none false false true m w t p = refl
number_of none false false false true true t p = refl
number_of none false false false true false true p = refl
number_of none false false false true false false true = refl
number_of none false false false true false false false = refl
number_of none false false false false w t p = refl

pub numbers_exactly : NumbersExactly
numbers_exactly u c = ap number_in (kind_exactly u c) ∙ number_of _ _ _ _ _ _ _ _

refusal_of_lem : {r : Registers} {x : Decision} {k : Kind} (n : ℕ) → Judged r x k → k ≡ Refused n → x ≡ refused n r
refusal_of_lem {r} n (refuses m e) q = e ∙ ap (λ (n : ℕ). refused n r) (cc)
refusal_of_lem n (accepts e) q =
    let other : none ≡ some n = sym e ∙ ap number_in q in
    let z : ◌≡◌ {A = ℕ} 0 1 = cc in absurd (omega arith)

pub refusal-leaves : RefusalLeaves
unfolding refused plain after changed
refusal-leaves u c n k =
    let e : decision u c ≡ refused n u.registers = refusal_of_lem n (says u c).left (sym (says_kind u c) ∙ k) in
    record { address = rw e; sup = rw e; trap = rw e; drives = rw e; byte = rw e; distance = rw e; unit = rw e }
