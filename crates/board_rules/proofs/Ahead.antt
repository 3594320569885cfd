-- What a loop over the seats of a board has done after i turns: the first i are mapped, and the others are still to come.
-- Assumes nothing.
use mathlib.Core.Path.{◌≡◌, refl, sym, ap, ◌∙◌}
use mathlib.Core.List.{List, [], ◌∷◌, ◌++◌, map, append_assoc, append-nil}
use Prim.Native.Nat.{ℕ, zero, suc, ◌+◌, ◌<◌, ◌≤◌, ◌/◌, ◌%◌, ◌^◌}
use native.Mathlib.Nat.{le_of_suc-le-suc, not-suc-le-zero, div-div-eq-div-mul, pow-suc}
use native.Mathlib.Numerals.{add-one, unary_clauses}
use native.Mathlib.Omega.{arith}
use lib.Dec.{eqb}
use lib.ListN.{length, get_or, take, drop, set, length-take}
use lib.Seq.{drop-cons, get_or-take, take-suc-set, get_or-drop, drop-drop, drop-set-lt}
use Rattle.rules.specs.declared.Unit.{Unit}
use Rattle.board_rules.specs.Board.{Seat, seated}

-- the seats that are still to come after i of them
abbrev pub rest : List Unit → (count i left : ℕ) → List Seat
rest us count i left = seated (drop i (take count us)) left

-- one of them
pub rest_next : (us : List Unit) (count i left : ℕ) (d : Unit) → i < count → count ≤ length us
    → rest us count i left ≡ record { unit = get_or us i d; select = eqb (left % 2) 1 } ∷ rest us count (i + 1) (left / 2)
unfolding seated
rest_next us count i left d h fits =
    let long : i < length (take count us) = simp length-take (omega arith) in
    ap (λ (l : List Unit). seated l left) (drop-cons (take count us) i d long)
    ∙ ap (λ (u : Unit). record { unit = u; select = eqb (left % 2) 1 } ∷ seated (drop (suc i) (take count us)) (left / 2)) (get_or-take count us i d h)
    ∙ ap (λ (k : ℕ). record { unit = get_or us i d; select = eqb (left % 2) 1 } ∷ seated (drop k (take count us)) (left / 2)) (sym (add-one i))

drop_none : {A : Type 0} (n : ℕ) (l : List A) → length l ≤ n → drop n l ≡ []
drop_none zero [] h = refl
drop_none zero (x ∷ xs) h = absurd (not-suc-le-zero h)
drop_none (suc n) [] h = refl
drop_none (suc n) (x ∷ xs) h = drop_none n xs (le_of_suc-le-suc h)

-- the select bits behind those of i + 1 seats
pub select_next : (i selects : ℕ) → selects / 2 ^ i / 2 ≡ selects / 2 ^ (i + 1)
select_next i selects =
    div-div-eq-div-mul selects (2 ^ i) 2 ∙ ap (λ (k : ℕ). selects / k) (sym (pow-suc 2 i)) ∙ ap (λ (k : ℕ). selects / 2 ^ k) (sym (add-one i))

-- none is left
pub rest_none : (us : List Unit) (count left : ℕ) → rest us count count left ≡ []
unfolding seated
rest_none us count left = let short : length (take count us) ≤ count = simp length-take (omega arith) in rw (drop_none count (take count us) short)

-- one more of them is mapped
pub mapped_turn : {A : Type 0} (f : Seat → A) (out : List A) (i : ℕ) (a : A) (s : Seat) (now next : List Seat) → i < length out → a ≡ f s
    → now ≡ s ∷ next → take (i + 1) (set out i a) ++ map f next ≡ take i out ++ map f now
mapped_turn {A} f out i a s now next room e here =
    ap (λ (k : ℕ). take k (set out i a) ++ map f next) (add-one i)
    ∙ ap (λ (l : List A). l ++ map f next) (take-suc-set out i a room)
    ∙ append_assoc (take i out) (a ∷ []) (map f next)
    ∙ ap (λ (x : A). take i out ++ (x ∷ map f next)) e
    ∙ ap (λ (l : List Seat). take i out ++ map f l) (sym here)

module _ {A : Type 0} (f : Seat → A) (us : List Unit) (count selects : ℕ) where
  -- the first i elements, and what the others will be
  abbrev pub Ahead : (out : List A) → (i left : ℕ) → Type 0
  Ahead out i left = take i out ++ map f (rest us count i left) ≡ map f (seated (take count us) selects)

  pub ahead_turn : (out : List A) (i left : ℕ) (d : Unit) (a : A) → i < count → count ≤ length us → i < length out
      → a ≡ f (record { unit = get_or us i d; select = eqb (left % 2) 1 }) → Ahead out i left → Ahead (set out i a) (i + 1) (left / 2)
  ahead_turn out i left d a h fits room e before =
      mapped_turn f out i a (record { unit = get_or us i d; select = eqb (left % 2) 1 }) (rest us count i left) (rest us count (i + 1) (left / 2))
      room e (rest_next us count i left d h fits)
      ∙ before

-- two lists that agree from i on
pub agree_at : {A : Type 0} (l m : List A) (i : ℕ) (d : A) → drop i l ≡ drop i m → get_or l i d ≡ get_or m i d
agree_at {A} l m i d e =
    let h : get_or l (i + 0) d ≡ get_or m (i + 0) d = sym (get_or-drop i l 0 d) ∙ ap (λ (k : List A). get_or k 0 d) e ∙ get_or-drop i m 0 d in
    simp unary_clauses at h

pub agree_turn : {A : Type 0} (l m : List A) (i : ℕ) (a : A) → drop i l ≡ drop i m → drop (i + 1) (set l i a) ≡ drop (i + 1) m
agree_turn {A} l m i a e = drop-set-lt (i + 1) l i a (omega arith) ∙ sym (drop-drop 1 i l) ∙ ap (λ (k : List A). drop 1 k) e ∙ drop-drop 1 i m

-- after the last turn
module _ {A : Type 0} (f : Seat → A) (us : List Unit) (count selects : ℕ) where
  pub ended : (out : List A) (i left : ℕ) → i ≡ count → Ahead f us count selects out i left
      → take count out ≡ map f (seated (take count us) selects)
  ended out i left e h =
      sym (append-nil (take count out))
      ∙ ap (λ (l : List Seat). take count out ++ map f l) (sym (rest_none us count left))
      ∙ rw e at h
