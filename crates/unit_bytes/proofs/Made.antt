-- An array that a closure makes, one item of each index, where the closure stays as it is.
-- Assumes nothing.
use mathlib.Core.Path.{◌≡◌, sym, ap, subst, ◌∙◌}
use mathlib.Core.List.{List}
use mathlib.Core.Logic.{⊎_elim}
use Prim.Native.Nat.{ℕ, zero, suc, ◌+◌, ◌<◌, ◌≤◌}
use native.Mathlib.Nat.{eq-or-lt_of_le}
use native.Mathlib.Omega.{arith}
use denote.Param.Members.{Mut, Called}
use lib.ListN.{get_or}
use Rattle.std.specs.Array.{IsFromFnResultFrom}

pub made_of : {F B : Type 0} (g : Mut F (ℕ × Unit {0}) B) (v : ℕ → B) (f : F)
    → ((i : ℕ) (y : B) (q : F) → Called g f (i, tt) y q → (y ≡ v i) × (q ≡ f))
    → (ys : List B) (i n : ℕ) → IsFromFnResultFrom g f ys i n → (k : ℕ) (d : B) → i ≤ k → k < i + n → get_or ys k d ≡ v k
made_of g v f call ys i zero r k d from to = absurd (omega arith)
made_of g v f call ys i (suc n) r k d from to =
    let one = call i r.1 r.0 r.3 in
    ⊎_elim
    (λ (e : i ≡ k). ap (λ (j : ℕ). get_or ys j d) (sym e) ∙ r.2.1 d ∙ one.0 ∙ ap v e)
    (λ (less : i < k).
    made_of g v f call ys (i + 1) n (subst (λ q. IsFromFnResultFrom g q ys (i + 1) n) one.1 r.4) k d (omega arith) (omega arith))
    (eq-or-lt_of_le from)
