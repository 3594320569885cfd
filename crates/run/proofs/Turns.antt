-- What one turn of the run does: one record more, answered and applied.
-- Assumes nothing.
use mathlib.Core.Path.{◌≡◌, refl, sym, ap, ◌∙◌}
use mathlib.Core.List.{List, [], ◌∷◌, ◌++◌}
use Prim.Native.Nat.{ℕ, zero, suc, ◌+◌, ◌-◌, ◌*◌, ◌<◌}
use native.Mathlib.Omega.{arith}
use native.Mathlib.Numerals.{add-one}
use lib.ListN.{length, length-append, get_or, take, drop}
use lib.Seq.{sets, drop-drop}
use Rattle.std.proofs.lemmas.List.{take_rest}
use Rattle.std.specs.Simd.{first_chunks}
use Rattle.rules.specs.PowerOn.{power_on}
use Rattle.rules.specs.Runs.{answers, final}
use Rattle.rules.specs.Step.{changed, place, decision, after}
use Rattle.rules.specs.declared.Answer.{Answer}
use Rattle.rules.specs.declared.Cycle.{Cycle}
use Rattle.rules.specs.declared.Decision.{Decision}
use Rattle.rules.specs.declared.Descriptor.{Descriptor}
use Rattle.rules.specs.declared.Unit.{Unit}
use Rattle.trace_header.specs.Header.{head_size}
use Rattle.trace_records.specs.Trace.{record_at, cycle_of, cycles_to}
use Rattle.unit_stores.proofs.Laws.{sets-append}
use Rattle.unit_packed.specs.Packed.{width, packed, packed_all}
use Rattle.run.specs.Run.{ran_to}

-- ---- one cycle more
answers_more : (cs : List Cycle) (u : Unit) (c : Cycle)
    → answers u (cs ++ (c ∷ [])) ≡ answers u cs ++ ((decision (final u cs) c).answer ∷ [])
unfolding answers final
answers_more [] u c = refl
answers_more (x ∷ cs) u c = ap (λ (r : List Answer). (decision u x).answer ∷ r) (answers_more cs (after u x) c)

final_more : (cs : List Cycle) (u : Unit) (c : Cycle) → final u (cs ++ (c ∷ [])) ≡ after (final u cs) c
unfolding final
final_more [] u c = refl
final_more (x ∷ cs) u c = final_more cs (after u x) c

packed_more : (rest : List Answer) (a : Answer) → packed_all (rest ++ (a ∷ [])) ≡ packed_all rest ++ packed a
unfolding packed_all packed
packed_more [] a = refl
packed_more (x ∷ rest) a = ap (λ (r : List ℕ). packed x ++ r) (packed_more rest a)

-- ---- lengths
pub packed-length : (cs : List Cycle) (u : Unit) → length (packed_all (answers u cs)) ≡ width * length cs
unfolding packed_all packed answers
packed-length [] u = refl
packed-length (c ∷ cs) u =
    let h : length (packed_all (answers (after u c) cs)) ≡ width * length cs = packed-length cs (after u c) in
    omega (arith, h)

pub cycles_length : (t : List ℕ) (n : ℕ) → length (cycles_to t n) ≡ n
unfolding cycles_to
cycles_length t zero = refl
cycles_length t (suc n) =
    length-append (cycles_to t n) (cycle_of (record_at t n) ∷ []) ∙ let h : length (cycles_to t n) ≡ n = cycles_length t n in omega (arith, h)

-- ---- record n, among the records as arrays behind the header
record_among : (d : List ℕ) (n m : ℕ) (xs : List ℕ) → n < m → get_or (first_chunks 4 m xs) n d ≡ take 4 (drop (4 * n) xs)
record_among d n zero xs l = absurd (omega (arith, l))
record_among d zero (suc m) xs l = refl
record_among d (suc n) (suc m) xs l =
    record_among d n m (drop 4 xs) (omega (arith, l)) ∙ ap (take 4) (drop-drop (4 * n) 4 xs ∙ ap (λ (k : ℕ). drop k xs) (omega arith))

pub record_shown : (t d : List ℕ) (n m : ℕ) → n < m
    → get_or (first_chunks 4 m (take (length t - head_size) (drop head_size t))) n d ≡ record_at t n
record_shown t d n m l =
    ap (λ (xs : List ℕ). get_or (first_chunks 4 m xs) n d) (take_rest t head_size)
    ∙ record_among d n m (drop head_size t) l
    ∙ ap (take 4) (drop-drop (4 * n) head_size t)

-- ---- a turn: the unit after n records, and what it decides for record n
abbrev pub unit_at : List ℕ → ℕ → Unit
unit_at t n = final power_on (cycles_to t n)

abbrev pub cycle_at : List ℕ → ℕ → Cycle
cycle_at t n = cycle_of (record_at t n)

turn_bytes : (t o : List ℕ) (n : ℕ)
    → sets (ran_to t n o) (width * n) (packed (decision (unit_at t n) (cycle_at t n)).answer) ≡ ran_to t (n + 1) o
unfolding ran_to cycles_to
turn_bytes t o n =
    let cs : List Cycle = cycles_to t n in
    let a : Answer = (decision (unit_at t n) (cycle_at t n)).answer in
    let long : length (packed_all (answers power_on cs)) ≡ width * n =
    packed-length cs power_on ∙ ap (λ (k : ℕ). width * k) (cycles_length t n) in
    ap (λ (k : ℕ). sets (ran_to t n o) k (packed a)) (omega (arith, long))
    ∙ sets-append o 0 (packed_all (answers power_on cs)) (packed a)
    ∙ ap (λ (bs : List ℕ). sets o 0 bs) (sym (ap packed_all (answers_more cs power_on (cycle_at t n)) ∙ packed_more (answers power_on cs) a))
    ∙ ap (λ (k : ℕ). sets o 0 (packed_all (answers power_on (cycles_to t k)))) (sym (add-one n))

turn_unit : (t : List ℕ) (n : ℕ) → after (unit_at t n) (cycle_at t n) ≡ unit_at t (n + 1)
unfolding cycles_to
turn_unit t n = sym (final_more (cycles_to t n) power_on (cycle_at t n)) ∙ ap (λ (k : ℕ). unit_at t k) (sym (add-one n))

-- what is decided in the turn, applied
pub unit_turned : (t : List ℕ) (n : ℕ) (u : Unit) (p : Decision) (l : List Descriptor) → u ≡ unit_at t n → p ≡ decision u (cycle_at t n)
    → l ≡ changed p.change (place u (cycle_at t n)) u.table
    → ◌≡◌ {A = Unit} (record { table = l; registers = p.registers }) (unit_at t (n + 1))
unfolding after
unit_turned t n u p l e q h =
    let c : Cycle = cycle_at t n in
    let f : List Descriptor → Decision → Unit = λ m d. record { table = m; registers = d.registers } in
    ap (λ (m : List Descriptor). f m p) h
    ∙ ap (λ (d : Decision). f (changed d.change (place u c) u.table) d) q
    ∙ ap (λ (v : Unit). after v c) e
    ∙ turn_unit t n

-- and its answer, stored
pub answer_stored : (t o out : List ℕ) (n : ℕ) (u : Unit) (p : Decision) → out ≡ ran_to t n o → u ≡ unit_at t n → p ≡ decision u (cycle_at t n)
    → sets out (width * n) (packed p.answer) ≡ ran_to t (n + 1) o
answer_stored t o out n u p h e q =
    ap (λ (m : List ℕ). sets m (width * n) (packed p.answer)) h
    ∙ ap (λ (d : Decision). sets (ran_to t n o) (width * n) (packed d.answer)) q
    ∙ ap (λ (v : Unit). sets (ran_to t n o) (width * n) (packed (decision v (cycle_at t n)).answer)) e
    ∙ turn_bytes t o n
