-- Words about lists, runs and tests that the claims are written in.
-- Assumes nothing.
use Rattle.std.specs.Prelude.{◌≡◌, Bool, true, false, ◌&&◌, ◌||◌, List, [], ◌∷◌, ℕ, eqb}
use Rattle.rules.specs.Step.{stepped}
use Rattle.rules.specs.declared.Cycle.{Cycle}
use Rattle.rules.specs.declared.Unit.{Unit}

-- where the first test holds, the second does
infixr 20 ◌⇒◌
abbrev pub ◌⇒◌ : Bool → Bool → Type 0
x ⇒ y = x ≡ true → y ≡ true

-- each element of a list is as said
abbrev pub Every : {A : Type 0} → (A → Type 0) → List A → Type 0
Every P [] = true ≡ true
Every P (x ∷ xs) = P x × Every P xs

-- two lists have one length, and the elements at each place stand in a relation
abbrev pub Both : {A : Type 0} → (A → A → Type 0) → List A → List A → Type 0
Both R [] [] = true ≡ true
Both R [] (y ∷ ys) = ⊥
Both R (x ∷ xs) [] = ⊥
Both R (x ∷ xs) (y ∷ ys) = R x y × Both R xs ys

-- each cycle of a run is as said of it and of the unit that it meets
unfoldable pub Along : (May : Unit → Cycle → Type 0) → Unit → List Cycle → Type 0
Along May u [] = true ≡ true
Along May u (c ∷ cs) = May u c × Along May (stepped u c).unit cs

-- a number is in a list
abbrev pub among : ℕ → List ℕ → Bool
among n [] = false
among n (k ∷ ks) = eqb n k || among n ks

-- a test holds of each element of a list
abbrev pub all : {A : Type 0} → (A → Bool) → List A → Bool
all p [] = true
all p (x ∷ l) = p x && all p l
