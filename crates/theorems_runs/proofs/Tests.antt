-- Laws of tests and of lists of facts.
-- Assumes nothing.
use mathlib.Core.Path.{◌≡◌, refl, sym, ◌∙◌, ap, subst}
use mathlib.Core.Bool.{Bool, true, false, cond, ◌&&◌, ◌||◌, beq, false≢true}
use mathlib.Core.List.{List, [], ◌∷◌}
use Prim.Native.Nat.{ℕ, zero, suc, ◌≤◌, ◌<◌}
use native.Mathlib.Nat.{not-suc-le-zero, le_of_suc-le-suc}
use lib.Dec.{ltb, eqb}
use borrow.Author.Tests.{ltb-true, lt-ltb, eqb-true}
use Rattle.theorems_runs.specs.Sequences.{◌⇒◌, Every, among, all}

pub or-⇒ : (a b x y : Bool) → a ⇒ b → x ⇒ y → (a || x) ⇒ (b || y)
or-⇒ true b x y h k e = rw (h refl)
or-⇒ false true x y h k e = refl
or-⇒ false false x y h k e = k e

pub and-⇒ : (a b x : Bool) → a ⇒ b → (a && x) ⇒ (b && x)
and-⇒ true b x h e = rw (h refl) e
and-⇒ false true x h e = cc
and-⇒ false false x h e = e

pub ltb-⇒ : (a b x y : ℕ) → (a < b → x < y) → ltb a b ⇒ ltb x y
ltb-⇒ a b x y h e = lt-ltb x y (h (ltb-true a b e))

pub and_l : (a b : Bool) → (a && b) ≡ true → a ≡ true
and_l true b e = refl
and_l false b e = e

pub and_r : (a b : Bool) → (a && b) ≡ true → b ≡ true
and_r true b e = e
and_r false b e = cc

pub or_l : (a b : Bool) → (a || b) ≡ false → a ≡ false
or_l true b e = e
or_l false b e = refl

pub or_r : (a b : Bool) → (a || b) ≡ false → b ≡ false
or_r true b e = cc
or_r false b e = e

pub same : (a b : Bool) → beq a b ≡ true → a ≡ b
same true true e = refl
same true false e = sym e
same false true e = e
same false false e = refl

pub cond_le : {x y n : ℕ} (t : Bool) → x ≤ n → y ≤ n → cond t x y ≤ n
cond_le true h k = h
cond_le false h k = k

-- a number of which a test holds is not one of which it fails
pub differs : (p : ℕ → Bool) (s n : ℕ) → p s ≡ true → p n ≡ false → eqb s n ≡ false
differs p s n h f = go (eqb s n) refl
  where
    go : (t : Bool) → eqb s n ≡ t → t ≡ false
    go true e = absurd (false≢true (sym f ∙ sym (ap p (eqb-true s n e)) ∙ h))
    go false e = refl

-- a test that antt computes at each number below n
abbrev pub each : ℕ → (ℕ → Bool) → Bool
each zero p = true
each (suc n) p = p 0 && each n (λ k. p (suc k))

pub at : (n : ℕ) (p : ℕ → Bool) → each n p ≡ true → (k : ℕ) → k < n → p k ≡ true
at zero p e k h = absurd (not-suc-le-zero h)
at (suc n) p e zero h = and_l (p 0) _ e
at (suc n) p e (suc k) h = at n (λ j. p (suc j)) (and_r (p 0) _ e) k (le_of_suc-le-suc h)

-- two facts of each element give a third
pub every_both : {A : Type 0} (P Q R : A → Type 0) → ((x : A) → P x → Q x → R x) → (l : List A) → Every P l → Every Q l → Every R l
every_both P Q R f [] p q = refl
every_both P Q R f (x ∷ l) p q = (f x p.0 q.0, every_both P Q R f l p.1 q.1)

-- what holds of each number in a list holds of a number that is in it
pub of_each : (P : ℕ → Type 0) (l : List ℕ) → Every P l → (n : ℕ) → among n l ≡ true → P n
of_each P [] h n e = absurd (false≢true e)
of_each P (k ∷ l) h n e = go (eqb n k) refl e (of_each P l h.1 n)
  where
    go : (t : Bool) → eqb n k ≡ t → (t || among n l) ≡ true → (among n l ≡ true → P n) → P n
    go true f g later = subst P (sym (eqb-true n k f)) h.0
    go false f g later = later g

pub all_true : {A : Type 0} (p : A → Bool) (l : List A) → all p l ≡ true → Every (λ x. p x ≡ true) l
all_true p [] e = refl
all_true p (x ∷ l) e = (and_l (p x) _ e, all_true p l (and_r (p x) _ e))

pub of_all : (p : ℕ → Bool) (l : List ℕ) → all p l ≡ true → (n : ℕ) → among n l ≡ true → p n ≡ true
of_all p l e = of_each (λ n. p n ≡ true) l (all_true p l e)
