-- Laws of lists, element by element: of one list, and of two.
-- Assumes nothing.
use mathlib.Core.Path.{◌≡◌, refl}
use mathlib.Core.Bool.{Bool, true, false, ◌&&◌}
use mathlib.Core.List.{List, [], ◌∷◌, map}
use Rattle.theorems_runs.specs.Sequences.{◌⇒◌, Every, Both}
use Rattle.theorems_runs.proofs.Tests.{or-⇒, or_l, or_r}
use Rattle.board_rules.specs.Board.{some_of, two_of}

module _ {A : Type 0} where
  pub two_none : (p : A → Bool) (l : List A) → some_of p l ≡ false → two_of p l ≡ false
  unfolding some_of two_of
  two_none p [] e = refl
  two_none p (x ∷ l) e = rw (or_l (p x) _ e) (two_none p l (or_r (p x) _ e))

  pub none_false : (p : A → Bool) (l : List A) → some_of p l ≡ false → Every (λ x. p x ≡ false) l
  unfolding some_of
  none_false p [] e = refl
  none_false p (x ∷ l) e = (or_l (p x) _ e, none_false p l (or_r (p x) _ e))

  pub none_of_both : (p q : A → Bool) (l : List A) → some_of p l ≡ false → some_of (λ x. p x && q x) l ≡ false
  unfolding some_of
  none_of_both p q [] e = refl
  none_of_both p q (x ∷ l) e = rw (or_l (p x) _ e) (none_of_both p q l (or_r (p x) _ e))

  pub every_true : (l : List A) → Every (λ x. true ≡ true) l
  every_true [] = refl
  every_true (x ∷ l) = (refl, every_true l)

  pub map_every : {B : Type 0} (f g : A → B) (l : List A) → Every (λ x. f x ≡ g x) l → map f l ≡ map g l
  map_every f g [] h = refl
  map_every f g (x ∷ l) h = rw (h.0, map_every f g l h.1)

module _ {A B : Type 0} (R : A → A → Type 0) where
  pub map_both : (f : A → B) → ((x y : A) → R x y → f x ≡ f y) → (l m : List A) → Both R l m → map f l ≡ map f m
  map_both f h [] [] e = refl
  map_both f h [] (y ∷ m) e = absurd e
  map_both f h (x ∷ l) [] e = absurd e
  map_both f h (x ∷ l) (y ∷ m) e = rw (h x y e.0, map_both f h l m e.1)

  pub both_map : (S : B → B → Type 0) (P : A → Type 0) (f : A → B) → ((x y : A) → R x y → P x → S (f x) (f y)) → (l m : List A) → Both R l m
      → Every P l → Both S (map f l) (map f m)
  both_map S P f h [] [] e p = refl
  both_map S P f h [] (y ∷ m) e p = absurd e
  both_map S P f h (x ∷ l) [] e p = absurd e
  both_map S P f h (x ∷ l) (y ∷ m) e p = (h x y e.0 p.0, both_map S P f h l m e.1 p.1)

module _ {A : Type 0} (R : A → A → Type 0) where
  pub both_imp : (S : A → A → Type 0) → ((x y : A) → R x y → S x y) → (l m : List A) → Both R l m → Both S l m
  both_imp S h [] [] e = refl
  both_imp S h [] (y ∷ m) e = absurd e
  both_imp S h (x ∷ l) [] e = absurd e
  both_imp S h (x ∷ l) (y ∷ m) e = (h x y e.0, both_imp S h l m e.1)

  pub some_both : (p : A → Bool) → ((x y : A) → R x y → p x ≡ p y) → (l m : List A) → Both R l m → some_of p l ≡ some_of p m
  unfolding some_of
  some_both p h [] [] e = refl
  some_both p h [] (y ∷ m) e = absurd e
  some_both p h (x ∷ l) [] e = absurd e
  some_both p h (x ∷ l) (y ∷ m) e = rw (h x y e.0, some_both p h l m e.1)

  pub two_both : (p : A → Bool) → ((x y : A) → R x y → p x ≡ p y) → (l m : List A) → Both R l m → two_of p l ≡ two_of p m
  unfolding two_of
  two_both p h [] [] e = refl
  two_both p h [] (y ∷ m) e = absurd e
  two_both p h (x ∷ l) [] e = absurd e
  two_both p h (x ∷ l) (y ∷ m) e = rw (h x y e.0, some_both p h l m e.1, two_both p h l m e.1)

  pub some-⇒ : (p : A → Bool) → ((x y : A) → R x y → p y ⇒ p x) → (l m : List A) → Both R l m → some_of p m ⇒ some_of p l
  unfolding some_of
  some-⇒ p h [] [] e z = z
  some-⇒ p h [] (y ∷ m) e z = absurd e
  some-⇒ p h (x ∷ l) [] e z = absurd e
  some-⇒ p h (x ∷ l) (y ∷ m) e z = or-⇒ (p y) (p x) (some_of p m) (some_of p l) (h x y e.0) (some-⇒ p h l m e.1) z
