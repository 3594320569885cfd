-- Ticket 3: the order of undamaged units does not matter but for the number of the unit that is named.
-- Assumes nothing.
use Rattle.std.specs.Prelude.{◌≡◌, Bool, true, false, List, [], ◌∷◌, map, ℕ, zero, suc, ◌/◌, ◌%◌, eqb, length, replicate, Some, None}
use Rattle.std.proofs.Math.Option.{some}
use Rattle.rules.specs.PowerOn.{stored_of, unit_of, blank, quiet, power_on}
use Rattle.rules.specs.declared.Unit.{Unit}
use Rattle.theorems_runs.specs.Cycles.{written}
use Rattle.theorems_runs.specs.Sequences.{Every, Both}
use Rattle.theorems_runs.specs.Undamaged.{Undamaged}
use Rattle.board_rules.specs.Board.{board_answers, board_final, Named}
use Rattle.board_rules.specs.declared.Board.{Board}
use Rattle.board_rules.specs.declared.BoardCycle.{BoardCycle}
use Rattle.theorems_boards.specs.Seats.{live, refusal_of}

-- the elements at i and i + 1 exchanged
unfoldable pub exchange : {A : Type 0} → ℕ → List A → List A
exchange i [] = []
exchange zero (x ∷ []) = x ∷ []
exchange zero (x ∷ y ∷ l) = y ∷ x ∷ l
exchange (suc i) (x ∷ l) = x ∷ exchange i l

-- a permutation, as exchanges of neighbours one after another: so every one can be written
unfoldable pub permuted : {A : Type 0} → List ℕ → List A → List A
permuted [] l = l
permuted (i ∷ p) l = permuted p (exchange i l)

-- the select bits of the first n units
unfoldable pub bits : (n selects : ℕ) → List Bool
bits zero k = []
bits (suc n) k = eqb (k % 2) 1 ∷ bits n (k / 2)

-- one cycle for two boards of n units, its select bits permuted
pub record Alike (n : ℕ) (p : List ℕ) (c d : BoardCycle) : Type 0 where
  pub cycle : c.cycle ≡ d.cycle
  pub selects : bits n d.selects ≡ permuted p (bits n c.selects)

abbrev pub is_nobody : Named → Bool
is_nobody None = true
is_nobody (Some i) = false

-- two boards with units and select bits permuted alike give the same answers but for the number of the unit that is named, name nobody at the same
-- cycles, and stay permuted alike, whatever cycles come; with what is said of the units left open. Units past the count, and whether the count
-- is good, are not looked at.
abbrev pub OrderBy : (Units : Unit → Type 0) → Type 0
OrderBy Units =
    (a b : Board) (p : List ℕ) (cs ds : List BoardCycle)
    → Every Units (live a)
    → a.count ≡ b.count
    → live b ≡ permuted p (live a)
    → Both (Alike (length (live a)) p) cs ds
    → (map (λ x. x.answer) (board_answers a cs) ≡ map (λ x. x.answer) (board_answers b ds))
    × (map (λ x. is_nobody x.named) (board_answers a cs) ≡ map (λ x. is_nobody x.named) (board_answers b ds))
    × (live (board_final b ds) ≡ permuted p (live (board_final a cs)))

-- CLAIM: of undamaged units.
abbrev pub OrderNeverMatters : Type 0
OrderNeverMatters = OrderBy Undamaged

-- a unit with SAR 64, all else as at power-on
abbrev pub broken : Unit
broken = unit_of (replicate 64 blank) 0 64 0 (stored_of 0 0 0 0 0) 0 0 quiet

abbrev pub pair_of : (u v : Unit) → Board
pair_of u v = record { units = u ∷ v ∷ []; count = 2 }

-- a write with code %FF, which is not listed: record 8300FF00
abbrev pub unlisted_code : (selects : ℕ) → BoardCycle
unlisted_code selects = record { cycle = written 3 0xFF 0 false; selects = selects }

-- CLAIM: with a damaged unit it does: unit 0 with SAR 64 and unit 1 selected with code %FF are refused with 2, exchanged with 3.
abbrev pub OrderMattersDamaged : Type 0
OrderMattersDamaged =
    (refusal_of (pair_of broken power_on) (unlisted_code 2) ≡ some 2) × (refusal_of (pair_of power_on broken) (unlisted_code 1) ≡ some 3)

-- CLAIM: so it can't be left out that they are undamaged.
abbrev pub OrderNeedsUndamaged : Type 0
OrderNeedsUndamaged = OrderBy (λ u. true ≡ true) → ⊥
