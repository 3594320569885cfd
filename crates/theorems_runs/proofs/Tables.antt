-- Laws of a table's entries after a store or a map.
-- Assumes nothing.
use mathlib.Core.Path.{◌≡◌, refl, ap}
use mathlib.Core.List.{List, [], ◌∷◌, map}
use Prim.Native.Nat.{ℕ, zero, suc, ◌<◌}
use native.Mathlib.Omega.{arith}
use lib.ListN.{length, get_or, set}

module _ {A : Type 0} where
  pub set_at : (P : A → Type 0) (l : List A) (i j : ℕ) (x d : A) → P (get_or l j d) → (j ≡ i → P x) → P (get_or (set l i x) j d)
  set_at P [] i j x d h k = h
  set_at P (a ∷ l) zero zero x d h k = k refl
  set_at P (a ∷ l) zero (suc j) x d h k = h
  set_at P (a ∷ l) (suc i) zero x d h k = h
  set_at P (a ∷ l) (suc i) (suc j) x d h k = set_at P l i j x d h (λ e. k (ap suc e))

  -- the same of a store in each of two tables
  pub set_both : (R : A → A → Type 0) (d x y : A) (s t : List A) (i j : ℕ) → length s ≡ length t → R (get_or s j d) (get_or t j d)
      → (j ≡ i → R x y) → R (get_or (set s i x) j d) (get_or (set t i y) j d)
  set_both R d x y [] [] i j e h k = h
  set_both R d x y [] (b ∷ t) i j e h k = absurd (omega arith)
  set_both R d x y (a ∷ s) [] i j e h k = absurd (omega arith)
  set_both R d x y (a ∷ s) (b ∷ t) zero zero e h k = k refl
  set_both R d x y (a ∷ s) (b ∷ t) zero (suc j) e h k = h
  set_both R d x y (a ∷ s) (b ∷ t) (suc i) zero e h k = h
  set_both R d x y (a ∷ s) (b ∷ t) (suc i) (suc j) e h k = set_both R d x y s t i j (omega arith) h (λ z. k (ap suc z))

  -- an entry that there is
  pub at_map : (f : A → A) (l : List A) (i : ℕ) (d : A) → i < length l → get_or (map f l) i d ≡ f (get_or l i d)
  at_map f [] i d h = absurd (omega arith)
  at_map f (x ∷ l) zero d h = refl
  at_map f (x ∷ l) (suc i) d h = at_map f l i d (omega arith)

  pub map-set : (f : A → A) (l : List A) (i : ℕ) (x : A) → map f (set l i x) ≡ set (map f l) i (f x)
  map-set f [] i x = refl
  map-set f (a ∷ l) zero x = refl
  map-set f (a ∷ l) (suc i) x = ap (λ (l : List A). f a ∷ l) (map-set f l i x)

  -- where f then g is h, entry by entry
  pub map-map : (f g h : A → A) → ((x : A) → g (f x) ≡ h x) → (l : List A) → map g (map f l) ≡ map h l
  map-map f g h e [] = refl
  map-map f g h e (x ∷ l) = rw (e x, map-map f g h e l)
