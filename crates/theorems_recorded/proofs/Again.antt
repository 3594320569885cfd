-- And back: a good trace is the trace of its cycles, and recorded again it gives its bytes.
-- Assumes nothing.
use mathlib.Core.Path.{◌≡◌, refl, sym, ap, subst, ◌∙◌}
use mathlib.Core.Bool.{Bool, true, false, cond, ◌&&◌}
use mathlib.Core.List.{List, [], ◌∷◌, ◌++◌, flat_map}
use Prim.Native.Nat.{ℕ, zero, suc, ◌+◌, ◌-◌, ◌*◌, ◌<◌, ◌≤◌}
use native.Mathlib.Numerals.{add-one}
use native.Mathlib.Omega.{arith}
use lib.Dec.{eqb, ltb}
use lib.ListN.{length, get_or, take, drop, length-append, length-drop}
use lib.Seq.{drop-cons, drop-drop, take_all, take-add, length-take-le, get_or-take, get_or-drop}
use borrow.Author.Tests.{le-ltb, eqb-true}
use Rattle.rules.specs.Refusals.{out_of_range}
use Rattle.rules.specs.declared.Cycle.{Cycle}
use Rattle.theorems_kept.specs.Kept.{Bytes}
use Rattle.theorems_runs.proofs.Tests.{and_l, and_r}
use Rattle.trace_header.proofs.Taken.{opened, taken}
use Rattle.trace_header.specs.Header.{version_at, count_at, head_size, format1, record_start, marked, count_of, refusal_of}
use Rattle.trace_records.proofs.Within.{all-given}
use Rattle.trace_records.specs.Trace.{given_of, record_at, cycle_of, cycles_to, cycles_of}
use Rattle.trace_writer.specs.Writing.{head_bytes, record_bytes, start_number}
use Rattle.unit_stores.proofs.Words.{high_back, low_back}
use Rattle.unit_stores.specs.Word.{byte_values, word_at, high_of, low_of}
use Rattle.theorems_recorded.specs.Recorded.{trace_of, taken_of, kept_by, within, room_in, least_of, RecordedAgain}
use Rattle.theorems_recorded.proofs.Accepted.{accepted_exactly}
use Rattle.theorems_recorded.proofs.Made.{one_more}
use Rattle.theorems_recorded.proofs.Recording.{sized}
use Rattle.theorems_recorded.proofs.RoundTrip.{trace_is}
use Rattle.theorems_recorded.proofs.Told.{within_numbers, told-again}

-- ---- the header of a trace that no number refuses
module _ (t : List ℕ) (good : refusal_of t ≡ 0) (bytes : Bytes t) where
  -- the bytes of the mark
  letters : (get_or t 0 0 ≡ 77) × (get_or t 1 0 ≡ 66) × (get_or t 2 0 ≡ 84)
  unfolding marked
  letters =
      let first : Bool = eqb (get_or t 0 0) 77 in
      let second : Bool = eqb (get_or t 1 0) 66 in
      let third : Bool = eqb (get_or t 2 0) 84 in
      let two : (first && second) ≡ true = and_l (first && second) third (opened format1 t good).1 in (
        eqb-true (get_or t 0 0) 77 (and_l first second two),
        eqb-true (get_or t 1 0) 66 (and_r first second two),
        eqb-true (get_or t 2 0) 84 (and_r (first && second) third (opened format1 t good).1),
      )

  -- a number of 16 bits, by its two bytes
  high : (k n : ℕ) → word_at t k ≡ n → get_or t k 0 ≡ high_of n
  unfolding word_at
  high k n e = sym (high_back (get_or t k 0) (get_or t (k + 1) 0) (bytes (k + 1))) ∙ ap high_of e

  low : (k n : ℕ) → word_at t k ≡ n → get_or t (k + 1) 0 ≡ low_of n
  unfolding word_at
  low k n e = sym (low_back (get_or t k 0) (get_or t (k + 1) 0) (bytes (k + 1))) ∙ ap low_of e

  -- the first seven bytes one by one
  seven : t ≡ get_or t 0 0 ∷ get_or t 1 0 ∷ get_or t 2 0 ∷ get_or t 3 0 ∷ get_or t 4 0 ∷ get_or t 5 0 ∷ get_or t 6 0 ∷ drop 7 t
  seven =
      let here : (k : ℕ) → k < head_size → drop k t ≡ get_or t k 0 ∷ drop (suc k) t = λ k h. drop-cons t k 0 (omega (arith, h, (opened format1 t good).0)) in
      here 0 (omega arith)
      ∙ ap (λ (l : List ℕ). get_or t 0 0 ∷ l) (here 1 (omega arith)
      ∙ ap (λ (l : List ℕ). get_or t 1 0 ∷ l) (here 2 (omega arith)
      ∙ ap (λ (l : List ℕ). get_or t 2 0 ∷ l) (here 3 (omega arith)
      ∙ ap (λ (l : List ℕ). get_or t 3 0 ∷ l) (here 4 (omega arith)
      ∙ ap (λ (l : List ℕ). get_or t 4 0 ∷ l) (here 5 (omega arith)
      ∙ ap (λ (l : List ℕ). get_or t 5 0 ∷ l) (here 6 (omega arith)))))))

  headed_so : t ≡ head_bytes format1 (count_of t) ++ drop head_size t
  headed_so =
      seven
      ∙ (λ i.
      letters.0 i ∷ letters.1 i ∷ letters.2 i ∷ high version_at format1.version (opened format1 t good).2 i ∷ low version_at format1.version (opened format1 t good).2 i
      ∷ high count_at (count_of t) refl i ∷ low count_at (count_of t) refl i ∷ drop head_size t)

-- ---- its records
of_four : (p : List ℕ) → length p ≡ format1.record_size → get_or p 0 0 < byte_values → get_or p 1 0 < byte_values
    → (record_bytes (cycle_of p) ≡ p) × (out_of_range (cycle_of p) ≡ false)
of_four [] e h0 h1 = absurd (omega arith)
of_four (a ∷ []) e h0 h1 = absurd (omega arith)
of_four (a ∷ b ∷ []) e h0 h1 = absurd (omega arith)
of_four (a ∷ b ∷ c ∷ []) e h0 h1 = absurd (omega arith)
of_four (a ∷ b ∷ c ∷ d ∷ []) e h0 h1 = (told-again a b c d h0 h1, within_numbers a b c d h0 h1)
of_four (a ∷ b ∷ c ∷ d ∷ x ∷ p) e h0 h1 = absurd (omega arith)

one-within : (cs : List Cycle) (c : Cycle) → out_of_range c ≡ false → within (cs ++ (c ∷ [])) ≡ within cs ++ (c ∷ [])
unfolding within
one-within [] c e = ap (λ (b : Bool). kept_by b c []) e
one-within (d ∷ cs) c e = by (out_of_range d) (one-within cs c e)
  where
    by : (b : Bool) → within (cs ++ (c ∷ [])) ≡ within cs ++ (c ∷ []) → kept_by b d (within (cs ++ (c ∷ []))) ≡ kept_by b d (within cs) ++ (c ∷ [])
    by true is = is
    by false is = ap (λ (l : List Cycle). d ∷ l) is

module _ (t : List ℕ) (bytes : Bytes t) where
  -- a record within the trace
  of_record : (n : ℕ) → record_start format1 (suc n) ≤ length t
      → (record_bytes (cycle_of (record_at t n)) ≡ record_at t n) × (out_of_range (cycle_of (record_at t n)) ≡ false)
  of_record n room =
      let start : ℕ = record_start format1 n in
      let long : length (drop start t) ≡ length t - start = length-drop start t in
      let byte : (k : ℕ) → k < format1.record_size → get_or (record_at t n) k 0 < byte_values =
      λ k h. subst (λ (x : ℕ). x < byte_values) (sym (get_or-take format1.record_size (drop start t) k 0 h ∙ get_or-drop start t k 0)) (bytes (start + k)) in
      of_four (record_at t n) (length-take-le format1.record_size (drop start t) (omega (arith, long, room))) (byte 0 (omega arith)) (byte 1 (omega arith))

  body : (n : ℕ) → record_start format1 n ≤ length t → flat_map record_bytes (cycles_to t n) ≡ take (format1.record_size * n) (drop head_size t)
  unfolding cycles_to flat_map
  body zero room = refl
  body (suc n) room =
      let size : ℕ = format1.record_size in
      let ends : size * n + size ≡ size * suc n = omega arith in
      one_more format1 record_bytes sized (cycles_to t n) (cycle_of (record_at t n))
      ∙ (λ i. body n (omega (arith, room)) i ++ (of_record n room).0 i)
      ∙ ap (λ (l : List ℕ). take (size * n) (drop head_size t) ++ take size l) (sym (drop-drop (size * n) head_size t))
      ∙ sym (take-add (size * n) size (drop head_size t))
      ∙ ap (λ (k : ℕ). take k (drop head_size t)) ends

  inside : (n : ℕ) → record_start format1 n ≤ length t → within (cycles_to t n) ≡ cycles_to t n
  unfolding cycles_to within
  inside zero room = refl
  inside (suc n) room =
      one-within (cycles_to t n) (cycle_of (record_at t n)) (of_record n room).1
      ∙ ap (λ (cs : List Cycle). cs ++ (cycle_of (record_at t n) ∷ [])) (inside n (omega (arith, room)))

  many : (n : ℕ) → length (cycles_to t n) ≡ n
  unfolding cycles_to
  many zero = refl
  many (suc n) = length-append (cycles_to t n) (cycle_of (record_at t n) ∷ []) ∙ ap (λ (k : ℕ). k + 1) (many n) ∙ add-one n

-- ---- the trace of its cycles
module _ (t : List ℕ) (good : refusal_of t ≡ 0) (bytes : Bytes t) where
  given : given_of t ≡ count_of t
  given = all-given format1 t good

  trace-again : trace_of (cycles_of t) ≡ t
  trace-again =
      let length-told = (taken format1 t good).1 in
      let count : length (cycles_of t) ≡ count_of t = many t bytes (given_of t) ∙ given in
      let rest : length (drop head_size t) ≡ length t - head_size = length-drop head_size t in
      (λ i. head_bytes format1 (count i) ++ body t bytes (given_of t) (omega (arith, length-told, given)) i)
      ∙ ap (λ (l : List ℕ). head_bytes format1 (count_of t) ++ l)
      (take_all (format1.record_size * given_of t) (drop head_size t) (omega (arith, rest, length-told, given)))
      ∙ sym (headed_so t good bytes)

at_least : (n a b : ℕ) → n ≤ a → n ≤ b → n ≤ least_of a b
at_least n a b x y = by (ltb a b)
  where
    by : (t : Bool) → n ≤ cond t a b
    by true = x
    by false = y

pub recorded-again : RecordedAgain
unfolding start_number
recorded-again t l good bytes room =
    let told = taken format1 t good in
    let cs : List Cycle = cycles_of t in
    let wide : head_size ≤ length l = omega (arith, told.1, room) in
    let startable : start_number (length l) ≡ 0 = simp (le-ltb (length l) head_size wide) in
    let count : length cs ≡ count_of t = many t bytes (given_of t) ∙ given t good bytes in
    let fits : length cs ≤ least_of format1.most (room_in (length l)) =
    at_least (length cs) format1.most (room_in (length l)) (omega (arith, told.0, count)) (omega (arith, told.1, count, room)) in
    let all : taken_of l cs ≡ cs =
    accepted_exactly l cs
    ∙ ap (take (least_of format1.most (room_in (length l)))) (inside t bytes (given_of t) (omega (arith, told.1, given t good bytes)))
    ∙ take_all (least_of format1.most (room_in (length l))) cs fits in
    (trace_is l cs startable ∙ ap trace_of all ∙ trace-again t good bytes, all)
