-- Laws of lists and seats.
-- Assumes nothing.
use mathlib.Core.Path.{◌≡◌, refl, sym, ◌∙◌, ap}
use mathlib.Core.Bool.{Bool, true, false, ◌&&◌, ◌||◌}
use mathlib.Core.List.{List, [], ◌∷◌, ◌++◌, map}
use Prim.Native.Nat.{ℕ, zero, suc, ◌/◌, ◌%◌, ◌^◌, ◌<◌}
use native.Mathlib.Nat.{not-suc-le-zero, le_of_suc-le-suc, div-one, div-div-eq-div-mul, pow-succ'}
use native.Mathlib.Omega.{arith}
use lib.Dec.{eqb}
use lib.ListN.{length, get_or, take, drop, replicate}
use Rattle.rules.specs.declared.Unit.{Unit}
use Rattle.theorems_runs.specs.Sequences.{Every}
use Rattle.board_rules.specs.Board.{Seat, seated, unit_of, some_of, two_of}
use Rattle.theorems_boards.specs.Seats.{select_of}

module _ {A : Type 0} where
  pub front_take : (n : ℕ) (l xs : List A) → length xs ≡ length (take n l) → take n (xs ++ drop n l) ≡ xs
  front_take zero l [] e = refl
  front_take zero l (x ∷ xs) e = absurd (omega arith)
  front_take (suc n) [] [] e = refl
  front_take (suc n) [] (x ∷ xs) e = absurd (omega arith)
  front_take (suc n) (y ∷ l) [] e = absurd (omega arith)
  front_take (suc n) (y ∷ l) (x ∷ xs) e = ap {B = List A} (λ t. x ∷ t) (front_take n l xs (omega arith))

  pub front_drop : (n : ℕ) (l xs : List A) → length xs ≡ length (take n l) → drop n (xs ++ drop n l) ≡ drop n l
  front_drop zero l [] e = refl
  front_drop zero l (x ∷ xs) e = absurd (omega arith)
  front_drop (suc n) [] [] e = refl
  front_drop (suc n) [] (x ∷ xs) e = absurd (omega arith)
  front_drop (suc n) (y ∷ l) [] e = absurd (omega arith)
  front_drop (suc n) (y ∷ l) (x ∷ xs) e = front_drop n l xs (omega arith)

  pub every_imp : (P Q : A → Type 0) → ((x : A) → P x → Q x) → (l : List A) → Every P l → Every Q l
  every_imp P Q h [] e = refl
  every_imp P Q h (x ∷ l) e = (h x e.0, every_imp P Q h l e.1)

  pub every_take : (P : A → Type 0) (n m : ℕ) (x : A) → P x → Every P (take n (replicate m x))
  every_take P zero m x p = refl
  every_take P (suc n) zero x p = refl
  every_take P (suc n) (suc m) x p = (p, every_take P n m x p)

  pub some_ext : (p q : A → Bool) (l : List A) → Every (λ x. p x ≡ q x) l → some_of p l ≡ some_of q l
  unfolding some_of
  some_ext p q [] e = refl
  some_ext p q (x ∷ l) e = rw (e.0, some_ext p q l e.1)

  pub two_ext : (p q : A → Bool) (l : List A) → Every (λ x. p x ≡ q x) l → two_of p l ≡ two_of q l
  unfolding two_of
  two_ext p q [] e = refl
  two_ext p q (x ∷ l) e = rw (e.0, some_ext p q l e.1, two_ext p q l e.1)

  pub some_and : (b : Bool) (p : A → Bool) (l : List A) → some_of (λ x. b && p x) l ≡ (b && some_of p l)
  unfolding some_of
  some_and true p l = refl
  some_and false p [] = refl
  some_and false p (x ∷ l) = some_and false p l

  pub two_and : (b : Bool) (p : A → Bool) (l : List A) → two_of (λ x. b && p x) l ≡ (b && two_of p l)
  unfolding two_of
  two_and true p l = refl
  two_and false p [] = refl
  two_and false p (x ∷ l) = two_and false p l

  pub some_at : (p : A → Bool) (l : List A) (i : ℕ) (d : A) → i < length l → p (get_or l i d) ≡ true → some_of p l ≡ true
  unfolding some_of
  some_at p [] i d h e = absurd (not-suc-le-zero h)
  some_at p (x ∷ l) zero d h e = rw e
  some_at p (x ∷ l) (suc i) d h e = rw (some_at p l i d (le_of_suc-le-suc h) e) (or-true (p x))
    where
      or-true : (t : Bool) → (t || true) ≡ true
      or-true true = refl
      or-true false = refl

  pub some_none : (p : A → Bool) (l : List A) (d : A) → ((i : ℕ) → i < length l → p (get_or l i d) ≡ false) → some_of p l ≡ false
  unfolding some_of
  some_none p [] d h = refl
  some_none p (x ∷ l) d h = rw (h 0 (omega arith)) (some_none p l d (λ i q. h (suc i) (omega arith)))

module _ {A B : Type 0} where
  pub every_map : (P : B → Type 0) (f : A → B) (l : List A) → Every (λ x. P (f x)) l → Every P (map f l)
  every_map P f [] e = refl
  every_map P f (x ∷ l) e = (e.0, every_map P f l e.1)

  pub some_map : (p : B → Bool) (f : A → B) (l : List A) → some_of p (map f l) ≡ some_of (λ x. p (f x)) l
  unfolding some_of
  some_map p f [] = refl
  some_map p f (x ∷ l) = rw (some_map p f l)

  pub two-map : (p : B → Bool) (f : A → B) (l : List A) → two_of p (map f l) ≡ two_of (λ x. p (f x)) l
  unfolding two_of
  two-map p f [] = refl
  two-map p f (x ∷ l) = rw (some_map p f l, two-map p f l)

-- Seats

pub seats_length : (us : List Unit) (k : ℕ) → length (seated us k) ≡ length us
unfolding seated
seats_length [] k = refl
seats_length (u ∷ us) k = ap suc (seats_length us (k / 2))

pub seats_units : (us : List Unit) (k : ℕ) → map unit_of (seated us k) ≡ us
unfolding seated
seats_units [] k = refl
seats_units (u ∷ us) k = ap {B = List Unit} (λ t. u ∷ t) (seats_units us (k / 2))

pub seats_some : (p : Unit → Bool) (us : List Unit) (k : ℕ) → some_of (λ s. p s.unit) (seated us k) ≡ some_of p us
seats_some p us k = sym (some_map p unit_of (seated us k)) ∙ ap (λ (l : List Unit). some_of p l) (seats_units us k)

pub seats_every : (P : Unit → Type 0) (us : List Unit) (k : ℕ) → Every P us → Every (λ s. P s.unit) (seated us k)
unfolding seated
seats_every P [] k e = refl
seats_every P (u ∷ us) k e = (e.0, seats_every P us (k / 2) e.1)

pub select_first : (k : ℕ) → select_of 0 k ≡ eqb (k % 2) 1
select_first k = ap (λ (n : ℕ). eqb (n % 2) 1) (div-one k)

pub select_later : (i k : ℕ) → select_of (suc i) k ≡ select_of i (k / 2)
select_later i k = ap (λ (n : ℕ). eqb (n % 2) 1) (ap (λ (m : ℕ). k / m) (pow-succ' 2 i) ∙ sym (div-div-eq-div-mul k 2 (2 ^ i)))

pub seated_at : {B : Type 0} (f : Seat → B) (us : List Unit) (k i : ℕ) (d : Unit) (e : B) → i < length us
    → get_or (map f (seated us k)) i e ≡ f (record { unit = get_or us i d; select = select_of i k })
unfolding seated
seated_at f [] k i d e h = absurd (not-suc-le-zero h)
seated_at f (u ∷ us) k zero d e h = rw (select_first k)
seated_at f (u ∷ us) k (suc i) d e h = rw (select_later i k) (seated_at f us (k / 2) i d e (le_of_suc-le-suc h))

pub every_seated_at : (P : Seat → Type 0) (us : List Unit) (k i : ℕ) (d : Unit) → i < length us → Every P (seated us k)
    → P (record { unit = get_or us i d; select = select_of i k })
unfolding seated
every_seated_at P [] k i d h e = absurd (not-suc-le-zero h)
every_seated_at P (u ∷ us) k zero d h e = rw (select_first k) e.0
every_seated_at P (u ∷ us) k (suc i) d h e = rw (select_later i k) (every_seated_at P us (k / 2) i d (le_of_suc-le-suc h) e.1)
