-- The units that bytes hold: one with strange notes answers as a damaged unit does, so where the board does not refuse there is none.
-- Assumes nothing.
use mathlib.Core.Path.{◌≡◌, refl, sym, ap, ◌∙◌}
use mathlib.Core.Bool.{Bool, true, false}
use mathlib.Core.List.{List, [], ◌∷◌, map}
use mathlib.Core.Option.{Option, none, some}
use Prim.Native.Nat.{ℕ, zero, suc, ◌/◌, ◌%◌}
use native.Mathlib.Omega.{arith}
use lib.Dec.{eqb}
use lib.ListN.{length, take, drop, length-map}
use lib.Seq.{take_all}
use Rattle.rules.specs.Kinds.{number_in}
use Rattle.rules.specs.Refusals.{damaged}
use Rattle.rules.specs.Replies.{plain, refused}
use Rattle.rules.specs.Step.{decided, decision, stepped}
use Rattle.rules.specs.declared.Answer.{Answer}
use Rattle.rules.specs.declared.Cycle.{Cycle}
use Rattle.rules.specs.declared.Unit.{Unit}
use Rattle.theorems_runs.specs.Sequences.{Every}
use Rattle.theorems_boards.proofs.Forms.{Accepted}
use Rattle.unit_bytes.specs.Cycled.{strange, answer_by}
use Rattle.unit_bytes.specs.Cycled.{answer_of as answer_in}
use Rattle.unit_bytes.specs.Snapshot.{unit_size, unit_in}
use Rattle.board_rules.specs.Board.{Seat, seated, seen_by, answer_of}
use Rattle.board_bytes.specs.Boarded.{parts_in, held_registers, held_in, units_in}

-- As many as they are counted

pub parts_length : (l : List ℕ) (count : ℕ) → length (parts_in l count) ≡ count
unfolding parts_in
parts_length l zero = refl
parts_length l (suc n) = ap suc (parts_length (drop unit_size l) n)

pub units-length : (l : List ℕ) (count : ℕ) → length (units_in l count) ≡ count
units-length l count = length-map (parts_in l count) held_in ∙ parts_length l count

pub units-take : (l : List ℕ) (count : ℕ) → take count (units_in l count) ≡ units_in l count
units-take l count = take_all count (units_in l count) (omega (arith, units-length l count))

-- Strange notes

pub held_plain : (p : List ℕ) → strange p ≡ false → held_in p ≡ unit_in p
unfolding held_in held_registers unit_in
held_plain p e = rw e

-- the answer of the unit that bytes hold is that of a call on these bytes, strange or not
pub held_answers : (p : List ℕ) (c : Cycle) → (stepped (held_in p) c).answer ≡ answer_in p c
unfolding held_in held_registers decision decided damaged refused plain
held_answers p c = go (strange p) refl
  where
    go : (b : Bool) → strange p ≡ b → (stepped (held_in p) c).answer ≡ answer_in p c
    go true e = rw e refl
    go false e = ap (λ (u : Unit). (stepped u c).answer) (held_plain p e) ∙ sym (ap (λ (b : Bool). answer_by b p c) e)

accepted-plain : (p : List ℕ) (c : Cycle) → Accepted (stepped (held_in p) c).answer → strange p ≡ false
unfolding refused plain
accepted-plain p c a = go (strange p) refl
  where
    go : (b : Bool) → strange p ≡ b → strange p ≡ false
    go false e = e
    go true e =
        let two : ◌≡◌ {A = Option ℕ} (some 2) none = sym (ap (λ (x : Answer). number_in x.kind) (held_answers p c ∙ ap (λ (b : Bool). answer_by b p c) e)) ∙ a in
        let z : ◌≡◌ {A = ℕ} 0 1 = cc in
        absurd (omega arith)

pub all_plain : (c : Cycle) (ps : List (List ℕ)) (k : ℕ) → Every (λ s. Accepted (answer_of c s)) (seated (map held_in ps) k)
    → seated (map held_in ps) k ≡ seated (map unit_in ps) k
unfolding seated
all_plain c [] k a = refl
all_plain c (p ∷ ps) k a =
    let here : held_in p ≡ unit_in p = held_plain p (accepted-plain p (seen_by (eqb (k % 2) 1) c) a.0) in
    ap (λ (u : Unit). record { unit = u; select = eqb (k % 2) 1 } ∷ seated (map held_in ps) (k / 2)) here
    ∙ ap (λ (ss : List Seat). record { unit = unit_in p; select = eqb (k % 2) 1 } ∷ ss) (all_plain c ps (k / 2) a.1)
