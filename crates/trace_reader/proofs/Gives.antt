-- A reader gives the cycles of a trace, the same that a run takes, each once and in order; past them its number stays.
-- Assumes nothing.
use mathlib.Core.Path.{◌≡◌, refl, ap, ◌∙◌}
use mathlib.Core.Bool.{Bool, true, false, not, cond}
use mathlib.Core.List.{List, [], ◌∷◌}
use Prim.Native.Nat.{ℕ, zero, suc, ◌+◌, ◌<◌, ◌≤◌}
use native.Mathlib.Numerals.{add-one}
use native.Mathlib.Omega.{arith}
use lib.Dec.{eqb, leb}
use denote.Ref.{Bor}
use borrow.Author.Tests.{eq-eqb, ne_eqb, lt-leb}
use Rattle.trace_header.specs.Header.{count_of, refusal_of}
use Rattle.trace_records.specs.Trace.{record_refusal_by, record_refusal_in, part_in, given_in}
use Rattle.trace_records.specs.Trace.{given_of, record_refusal_of, record_at, cycle_of, cycles_to}
use Rattle.trace_reader.specs.Reading.{given_at, after_of, moved_of, reader_after, given_to}
use Rattle.trace_reader.specs.declared.Reader.{Reader}

not_refused : (t : List ℕ) (n : ℕ) (taken : Bool) → eqb (refusal_of t) 0 ≡ taken → n < cond taken (count_of t) 0
    → record_refusal_by (not (eqb (refusal_of t) 0)) (leb (count_of t) n) (refusal_of t) ≡ 0
not_refused t n true e l = simp (e, lt-leb _ _ l)
not_refused t n false e l = absurd (omega (arith, l))

-- a record below the count is given, and adds 1
pub gives : (t : List ℕ) (n : ℕ) → n < given_of t
    → (record_refusal_of t n ≡ 0) × (given_at t n ≡ cycle_of (record_at t n) ∷ []) × (after_of t n ≡ n + 1)
unfolding given_at after_of part_in record_refusal_in given_in
gives t n l =
    let none : record_refusal_of t n ≡ 0 = not_refused t n (eqb (refusal_of t) 0) refl l in
    let e : eqb (record_refusal_of t n) 0 ≡ true = eq-eqb _ 0 none in
    (none, simp e, simp e)

-- a number that says no gives none, and leaves the number
pub stays : (t : List ℕ) (n : ℕ) → (record_refusal_of t n ≡ 0 → ⊥) → (given_at t n ≡ []) × (after_of t n ≡ n)
unfolding given_at after_of
stays t n ne = (simp (ne_eqb _ 0 ne), simp (ne_eqb _ 0 ne))

abbrev pub reader_at : Bor (List ℕ) → ℕ → Reader
reader_at t n = record { trace = t; next = n }

-- asked so many times, up to its count, a reader stands at that number and has given so many cycles
pub gives_all : (t : Bor (List ℕ)) (k : ℕ) → k ≤ given_of t.now → (reader_after t k ≡ reader_at t k) × (given_to t k ≡ cycles_to t.now k)
unfolding reader_after given_to cycles_to
gives_all t zero l = (refl, refl)
gives_all t (suc k) l =
    let before = gives_all t k (omega (arith, l)) in
    let here = gives t.now k (omega (arith, l)) in
    let given = ap (λ (r : Reader). given_at r.trace.now r.next) before.0 ∙ here.1 in
    (ap moved_of before.0 ∙ ap (reader_at t) (here.2 ∙ add-one k), simp (before.1, given))
