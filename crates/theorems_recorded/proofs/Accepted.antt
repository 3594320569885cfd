-- Which cycles a recording accepts: the first of those within their numbers, as many as are allowed and have room.
-- Assumes nothing.
use mathlib.Core.Path.{◌≡◌, refl, sym, ap, ◌∙◌}
use mathlib.Core.Bool.{Bool, true, false, cond}
use mathlib.Core.List.{List, [], ◌∷◌}
use Prim.Native.Nat.{ℕ, suc, ◌+◌, ◌-◌, ◌<◌, ◌≤◌}
use native.Mathlib.Omega.{arith}
use lib.Dec.{eqb, ltb}
use lib.ListN.{length, take}
use lib.Seq.{sets, length-sets, take-nil}
use borrow.Author.Tests.{ltb-true, ltb-false, le-ltb, eq-eqb, ne_eqb}
use Rattle.rules.specs.Refusals.{out_of_range}
use Rattle.rules.specs.declared.Cycle.{Cycle}
use Rattle.trace_header.specs.Header.{format1, record_start}
use Rattle.trace_writer.proofs.Ends.{fits}
use Rattle.trace_writer.specs.Writing.{head_bytes, record_bytes, start_number, record_number, headed, buffer_started}
use Rattle.theorems_recorded.specs.Recorded.{Recording, started, number_for, next_of, accepted_by, accepted}
use Rattle.theorems_recorded.specs.Recorded.{room_in, least_of, kept_by, within, AcceptedExactly}
use Rattle.theorems_recorded.proofs.Recording.{next_taken, next-refused, recording-refusal-leaves}

-- how many records a buffer of so many bytes may have
abbrev allowed : (bytes : ℕ) → ℕ
allowed bytes = least_of format1.most (room_in bytes)

by_least : (a b : ℕ) → (least_of a b ≤ a) × (least_of a b ≤ b) × ((n : ℕ) → n < a → least_of a b ≤ n → b ≤ n)
by_least a b = by (ltb a b) refl
  where
    by : (t : Bool) → ltb a b ≡ t → (cond t a b ≤ a) × (cond t a b ≤ b) × ((n : ℕ) → n < a → cond t a b ≤ n → b ≤ n)
    by true e = let l = ltb-true a b e in (omega arith, omega arith, λ n less more. absurd (omega arith))
    by false e = let l = ltb-false a b e in (omega arith, omega arith, λ n less more. more)

-- ---- below that number a cycle within its numbers is accepted, and at it none
fits_below : (bytes n : ℕ) (c : Cycle) → out_of_range c ≡ false → n < allowed bytes → record_number bytes n c ≡ 0
unfolding record_number
fits_below bytes n c inside less =
    let least = by_least format1.most (room_in bytes) in
    let most : n + 1 ≤ format1.most = omega (arith, least.0) in
    let space : n + 1 ≤ room_in bytes = omega (arith, least.1) in
    let wide : record_start format1 (n + 1) ≤ bytes = omega (arith, space) in
    simp (inside, le-ltb format1.most (n + 1) most, le-ltb bytes (record_start format1 (n + 1)) wide)

full : (bytes n : ℕ) (c : Cycle) → allowed bytes ≤ n → record_number bytes n c ≡ 0 → ⊥
full bytes n c more none =
    let least = by_least format1.most (room_in bytes) in
    let m = fits bytes n c none in
    let space : room_in bytes ≤ n = least.2 n m.1 more in
    omega (arith, space, m.2)

-- ---- cycles one after another
longer : (w : Recording) (c : Cycle) → length (next_of w c).buffer ≡ length w.buffer
longer w c = by (eqb (number_for w c) 0) refl
  where
    by : (b : Bool) → eqb (number_for w c) 0 ≡ b → length (next_of w c).buffer ≡ length w.buffer
    by true e =
        ap (λ (v : Recording). length v.buffer) (next_taken w c e)
        ∙ length-sets (sets w.buffer (record_start format1 w.count) (record_bytes c)) 0 (head_bytes format1 (w.count + 1))
        ∙ length-sets w.buffer (record_start format1 w.count) (record_bytes c)
    by false e = ap (λ (v : Recording). length v.buffer) (next-refused w c e)

-- what is left of the number
abbrev left : Recording → ℕ
left w = allowed (length w.buffer) - w.count

-- one cycle, by the tests; what comes behind it is `later`
module _ (w : Recording) (c : Cycle) (rest later : List Cycle) where
  -- a cycle that is refused leaves as many
  same_left : eqb (number_for w c) 0 ≡ false → later ≡ take (left (next_of w c)) rest → later ≡ take (left w) rest
  same_left said is = is ∙ ap (λ (v : Recording). take (left v) rest) (next-refused w c said)

  outside : out_of_range c ≡ true → later ≡ take (left (next_of w c)) rest
      → accepted_by (eqb (number_for w c) 0) c later ≡ take (left w) (kept_by (out_of_range c) c rest)
  outside e is =
      let said : eqb (number_for w c) 0 ≡ false = ap (λ (n : ℕ). eqb n 0) ((recording-refusal-leaves w c).0 e) in
      ap (λ (b : Bool). accepted_by b c later) said ∙ same_left said is ∙ ap (λ (b : Bool). take (left w) (kept_by b c rest)) (sym e)

  inside : out_of_range c ≡ false → later ≡ take (left (next_of w c)) rest
      → accepted_by (eqb (number_for w c) 0) c later ≡ take (left w) (kept_by (out_of_range c) c rest)
  inside e is =
      by (ltb w.count (allowed (length w.buffer))) refl ∙ ap (λ (b : Bool). take (left w) (kept_by b c rest)) (sym e)
    where
      by : (b : Bool) → ltb w.count (allowed (length w.buffer)) ≡ b
          → accepted_by (eqb (number_for w c) 0) c later ≡ take (left w) (c ∷ rest)
      by true less =
          let below = ltb-true w.count (allowed (length w.buffer)) less in
          let yes : eqb (number_for w c) 0 ≡ true = eq-eqb (number_for w c) 0 (fits_below (length w.buffer) w.count c e below) in
          let count : (next_of w c).count ≡ w.count + 1 = ap (λ (v : Recording). v.count) (next_taken w c yes) in
          let one : left w ≡ suc (left (next_of w c)) =
          (let more : allowed (length w.buffer) - w.count ≡ suc (allowed (length w.buffer) - (w.count + 1)) = omega (arith, below) in
          more ∙ sym (λ i. suc (allowed (longer w c i) - count i))) in
          ap (λ (b : Bool). accepted_by b c later) yes ∙ ap (λ (l : List Cycle). c ∷ l) is ∙ ap (λ (k : ℕ). take k (c ∷ rest)) (sym one)
      by false more =
          let at = ltb-false w.count (allowed (length w.buffer)) more in
          let said : eqb (number_for w c) 0 ≡ false = ne_eqb (number_for w c) 0 (full (length w.buffer) w.count c at) in
          let none : left w ≡ 0 = omega (arith, at) in
          ap (λ (b : Bool). accepted_by b c later) said
          ∙ same_left said is
          ∙ ap (λ (k : ℕ). take k rest) none
          ∙ ap (λ (k : ℕ). take k (c ∷ rest)) (sym none)

exactly : (cs : List Cycle) (w : Recording) → accepted w cs ≡ take (left w) (within cs)
unfolding accepted within
exactly [] w = sym (take-nil (left w))
exactly (c ∷ cs) w =
    by (out_of_range c) refl (exactly cs (next_of w c))
  where
    by : (b : Bool) → out_of_range c ≡ b → accepted (next_of w c) cs ≡ take (left (next_of w c)) (within cs)
        → accepted_by (eqb (number_for w c) 0) c (accepted (next_of w c) cs) ≡ take (left w) (kept_by (out_of_range c) c (within cs))
    by true e is = outside w c (within cs) (accepted (next_of w c) cs) e is
    by false e is = inside w c (within cs) (accepted (next_of w c) cs) e is

start_long : (l : List ℕ) → length (started l).buffer ≡ length l
unfolding buffer_started
start_long l = by (eqb (start_number (length l)) 0)
  where
    by : (b : Bool) → length (cond b (headed format1 l 0) l) ≡ length l
    by true = length-sets l 0 (head_bytes format1 0)
    by false = refl

pub accepted_exactly : AcceptedExactly
accepted_exactly l cs =
    let all : left (started l) ≡ allowed (length l) = ap (λ (n : ℕ). allowed n - 0) (start_long l) ∙ omega arith in
    exactly cs (started l) ∙ ap (λ (k : ℕ). take k (within cs)) all
