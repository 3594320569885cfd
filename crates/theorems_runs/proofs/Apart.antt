-- Why no other pair may change places or be left out: one unit in which every set and clear command has something to do, and antt computes
-- what each pair leaves of it.
-- Assumes nothing.
use mathlib.Core.Path.{◌≡◌, refl, sym, ◌∙◌, ap, ap₂, subst}
use mathlib.Core.Bool.{Bool, true, false, not, ◌&&◌, ◌||◌, beq, cond, false≢true}
use mathlib.Core.List.{List, [], ◌∷◌}
use Prim.Native.Nat.{ℕ}
use lib.Dec.{eqb}
use borrow.Author.Tests.{eq-eqb, eqb-true, eqb-false}
use Rattle.rules.specs.Refusals.{damaged, out_of_range}
use Rattle.rules.specs.Runs.{answers, final}
use Rattle.rules.specs.declared.Answer.{Answer}
use Rattle.theorems_runs.specs.Apart.{standing, put, seen, Row, rows, differs, EachApart, beside, apart}
use Rattle.theorems_runs.specs.Cycles.{sets_and_clears, set_or_clear, writes}
use Rattle.theorems_runs.specs.Exchange.{Exchange, FirstAlone, SameAnswers, part, clears_trap}
use Rattle.theorems_runs.specs.Sequences.{among, all}
use Rattle.theorems_runs.specs.Undamaged.{Undamaged}
use Rattle.theorems_runs.proofs.Computed.{computed}
use Rattle.theorems_runs.proofs.Tests.{and_l, and_r, same, of_all}

-- The unit and the writes

standing_undamaged : Undamaged standing
unfolding damaged
standing_undamaged = record { size = refl; sound = refl }

put-writes : (n : ℕ) → writes n (put n) ≡ true
unfolding out_of_range
put-writes n = eq-eqb n n refl

-- Commands that may not change places

pub each_apart : EachApart
unfolding computed
each_apart = refl

-- what is seen after two writes
abbrev after_two : (x y : ℕ) → ℕ
after_two x y = seen (final standing (put x ∷ put y ∷ []))

three : (a b c : Bool) → (a && b && not c) ≡ true → (a ≡ true) × ((b ≡ true) × (c ≡ false))
three true true true e = absurd (false≢true e)
three true true false e = (refl, (refl, refl))
three true false c e = absurd (false≢true e)
three false b c e = absurd (false≢true e)

row_unlike : (r : Row) → differs r ≡ true → after_two r.acts r.other ≡ after_two r.other r.acts → ⊥
row_unlike r e alike =
    let t : (eqb (after_two r.acts r.other) r.thus ≡ true)
    × ((eqb (after_two r.other r.acts) r.turned ≡ true) × (eqb r.thus r.turned ≡ false)) =
    three _ _ _ e in
    eqb-false _ _ t.1.1 (sym (eqb-true _ _ t.0) ∙ alike ∙ eqb-true _ _ t.1.0)

rows_unlike : (x y : ℕ) (l : List Row) → all differs l ≡ true → among y (beside x l) ≡ true → after_two x y ≡ after_two y x → ⊥
rows_unlike x y [] e m alike = false≢true m
rows_unlike x y (r ∷ l) e m alike = go (eqb x r.acts) (eqb y r.other) refl refl m (λ m. rows_unlike x y l (and_r (differs r) _ e) m alike)
  where
    go : (s t : Bool) → eqb x r.acts ≡ s → eqb y r.other ≡ t → among y (cond s (r.other ∷ beside x l) (beside x l)) ≡ true
        → (among y (beside x l) ≡ true → ⊥) → ⊥
    go true true f g m later =
        row_unlike r (and_l (differs r) _ e)
        (ap₂ after_two (sym (eqb-true _ _ f)) (sym (eqb-true _ _ g)) ∙ alike ∙ ap₂ after_two (eqb-true _ _ g) (eqb-true _ _ f))
    go true false f g m later = later (subst (λ (t : Bool). (t || among y (beside x l)) ≡ true) g m)
    go false t f g m later = later m

pub not_exchanged : (x y : ℕ) → among y (apart x) ≡ true → Exchange x y → ⊥
not_exchanged x y m claim =
    rows_unlike x y rows each_apart m (ap seen (claim standing (put x) (put y) standing_undamaged (put-writes x) (put-writes y)))

-- Commands that may not be left out

-- y is part of x, or something is seen of it after x
abbrev needed : (x y : ℕ) → Bool
needed x y = part y x || not (eqb (after_two x y) (seen (final standing (put x ∷ []))))

each_needed : all (λ x. all (needed x) sets_and_clears) sets_and_clears ≡ true
unfolding computed
each_needed = refl

pub only_part : (x y : ℕ) → set_or_clear x ≡ true → set_or_clear y ≡ true → FirstAlone x y → part y x ≡ true
only_part x y h k claim =
    go (part y x) _ (of_all (needed x) sets_and_clears (of_all (λ x. all (needed x) sets_and_clears) sets_and_clears each_needed x h) y k)
    (eq-eqb _ _ (ap seen (claim standing (put x) (put y) standing_undamaged (put-writes x) (put-writes y))))
  where
    go : (s t : Bool) → (s || not t) ≡ true → t ≡ true → s ≡ true
    go true t e f = refl
    go false true e f = e
    go false false e f = f

-- Answers that differ

-- the trap line is off in the first answer
abbrev taken : List Answer → Bool
taken [] = false
taken (x ∷ xs) = not x.trap

each_trap : all (λ x. beq (taken (answers standing (put x ∷ []))) (clears_trap x)) sets_and_clears ≡ true
unfolding computed
each_trap = refl

trap_taken : (x : ℕ) → set_or_clear x ≡ true → taken (answers standing (put x ∷ [])) ≡ clears_trap x
trap_taken x h = same _ _ (of_all (λ x. beq (taken (answers standing (put x ∷ []))) (clears_trap x)) sets_and_clears each_trap x h)

pub only_alike : (x y : ℕ) → set_or_clear x ≡ true → set_or_clear y ≡ true → SameAnswers x y → clears_trap x ≡ clears_trap y
unfolding answers
only_alike x y h k claim =
    sym (trap_taken x h) ∙ ap taken (claim standing (put x) (put y) standing_undamaged (put-writes x) (put-writes y)) ∙ trap_taken y k
