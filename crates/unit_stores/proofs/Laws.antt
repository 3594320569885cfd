-- How stores follow one another.
-- Assumes nothing.
use mathlib.Core.Path.{◌≡◌, refl, sym, ap, ◌∙◌}
use mathlib.Core.List.{List, [], ◌∷◌, ◌++◌}
use Prim.Native.Nat.{ℕ, suc, ◌+◌}
use native.Mathlib.Nat.{add-zero, add-suc, suc-add, add_assoc}
use lib.ListN.{length, set, length-append}
use lib.Seq.{sets}
use Rattle.unit_stores.specs.Put.{Put}

-- two runs of stores, the second where the first ends, are one
pub sets-append : (l : List ℕ) (i : ℕ) (a b : List ℕ) → sets (sets l i a) (i + length a) b ≡ sets l i (a ++ b)
sets-append l i [] b = ap (λ (k : ℕ). sets l k b) (add-zero i)
sets-append l i (v ∷ a) b =
    ap (λ (k : ℕ). sets (sets (set l i v) (suc i) a) k b) (add-suc i (length a) ∙ sym (suc-add i (length a)))
    ∙ sets-append (set l i v) (suc i) a b

-- what is put after what was put
pub then : {l a m b k : List ℕ} {at p q : ℕ} → Put l at a m p → Put m p b k q → Put l at (a ++ b) k q
then {l} {a} {m} {b} {k} {at} {p} {q} f g = record {
  stored =
      g.stored
      ∙ ap (λ (x : List ℕ). sets x p b) f.stored
      ∙ ap (λ (x : ℕ). sets (sets l at a) x b) f.ends
      ∙ sets-append l at a b;
  ends =
      g.ends
      ∙ ap (λ (x : ℕ). x + length b) f.ends
      ∙ add_assoc at (length a) (length b)
      ∙ ap (λ (x : ℕ). at + x) (sym (length-append a b));
}

-- nothing put
pub nothing : (l : List ℕ) (at : ℕ) → Put l at [] l at
nothing l at = record { stored = refl; ends = sym (add-zero at) }

-- what is left to put, once its first part has been put
pub onward : {l a m b k : List ℕ} {at p q : ℕ} → Put l at (a ++ b) k q → Put l at a m p → Put m p b k q
onward {l} {a} {m} {b} {k} {at} {p} {q} w f = record {
  stored =
      w.stored
      ∙ sym (sets-append l at a b)
      ∙ ap (λ (x : ℕ). sets (sets l at a) x b) (sym f.ends)
      ∙ ap (λ (x : List ℕ). sets x p b) (sym f.stored);
  ends =
      w.ends
      ∙ ap (λ (x : ℕ). at + x) (length-append a b)
      ∙ sym (add_assoc at (length a) (length b))
      ∙ ap (λ (x : ℕ). x + length b) (sym f.ends);
}

-- all is still to be put; nothing is left to be put
pub before-all : (l : List ℕ) (at : ℕ) (vs : List ℕ) → Put l at vs (sets l at vs) (at + length vs)
before-all l at vs = record { stored = refl; ends = refl }

pub after-all : {l m : List ℕ} {at : ℕ} {vs : List ℕ} {p : ℕ} → Put m p [] (sets l at vs) (at + length vs) → Put l at vs m p
after-all {l} {m} {at} {vs} {p} w = record { stored = sym w.stored; ends = sym (w.ends ∙ add-zero p) }
