-- A recording, call after call: it holds the trace of the accepted cycles, and behind it what stood there; and which cycles are accepted.
-- Assumes nothing.
use mathlib.Core.Path.{◌≡◌, refl, sym, ap, ◌∙◌}
use mathlib.Core.Bool.{Bool, true, false, cond}
use mathlib.Core.List.{List, [], ◌∷◌, ◌++◌, flat_map, append_assoc, append-nil}
use Prim.Native.Nat.{ℕ, suc, ◌+◌, ◌*◌, ◌<◌, ◌≤◌}
use native.Mathlib.Omega.{arith}
use lib.Dec.{eqb, ltb}
use lib.ListN.{length, drop, length-append}
use lib.Seq.{sets-eq, drop-drop}
use borrow.Author.Tests.{eqb-true, ltb-false, ne_eqb}
use Rattle.rules.specs.Refusals.{out_of_range}
use Rattle.rules.specs.declared.Cycle.{Cycle}
use Rattle.theorems_runs.specs.Sequences.{Every}
use Rattle.trace_header.specs.Header.{head_size, format1, record_start}
use Rattle.trace_writer.proofs.Ends.{fits}
use Rattle.trace_writer.specs.Writing.{head_bytes, record_bytes, start_number, record_number, number_by, extended, headed, buffer_after, count_after, buffer_started}
use Rattle.theorems_recorded.specs.Recorded.{Recording, started, number_for, next_of, after, accepted_by, accepted, trace_of, RecordingRefusalLeaves}
use Rattle.theorems_recorded.proofs.Made.{extends, made_long}

pub sized : (c : Cycle) → length (record_bytes c) ≡ format1.record_size
unfolding record_bytes
sized c = refl

-- a recording of the cycles, with the bytes behind its trace
abbrev pub holding : List Cycle → List ℕ → Recording
holding done rest = record { buffer = trace_of done ++ rest; count = length done }

pub trace_long : (cs : List Cycle) → length (trace_of cs) ≡ record_start format1 (length cs)
trace_long cs = made_long format1 record_bytes sized cs

-- ---- one call
module _ (w : Recording) (c : Cycle) where
  pub next_taken : eqb (number_for w c) 0 ≡ true
      → next_of w c ≡ record { buffer = extended format1 w.buffer w.count (record_bytes c); count = w.count + 1 }
  unfolding buffer_after count_after
  next_taken e = λ i. record {
    buffer = cond (e i) (extended format1 w.buffer w.count (record_bytes c)) w.buffer;
    count = cond (e i) (w.count + 1) w.count;
  }

  pub next-refused : eqb (number_for w c) 0 ≡ false → next_of w c ≡ w
  unfolding buffer_after count_after
  next-refused e = λ i. record {
    buffer = cond (e i) (extended format1 w.buffer w.count (record_bytes c)) w.buffer;
    count = cond (e i) (w.count + 1) w.count;
  }

  -- what is accepted is within its numbers, below the most, and has room
  pub met : eqb (number_for w c) 0 ≡ true
      → (out_of_range c ≡ false) × (w.count < format1.most) × (record_start format1 (w.count + 1) ≤ length w.buffer)
  met e = fits (length w.buffer) w.count c (eqb-true (number_for w c) 0 e)

pub recording-refusal-leaves : RecordingRefusalLeaves
unfolding record_number
recording-refusal-leaves w c = (
  λ outside. simp outside,
  λ not-zero. next-refused w c (ne_eqb (number_for w c) 0 not-zero),
)

-- of a recording that holds cycles
module _ (done : List Cycle) (rest : List ℕ) (c : Cycle) where
  one_more : (w : Recording) → w ≡ holding done rest → eqb (number_for w c) 0 ≡ true
      → next_of w c ≡ holding (done ++ (c ∷ [])) (drop format1.record_size rest)
  one_more w is e =
      let room = (met w c e).2 in
      let long : length w.buffer ≡ length (trace_of done) + length rest =
      ap (λ (v : Recording). length v.buffer) is ∙ length-append (trace_of done) rest in
      let count : w.count ≡ length done = ap (λ (v : Recording). v.count) is in
      let wide : format1.record_size ≤ length rest = omega (arith, long, trace_long done, count, room) in
      next_taken w c e
      ∙ ap (λ (v : Recording). record { buffer = extended format1 v.buffer v.count (record_bytes c); count = v.count + 1 }) is
      ∙ (λ i. record {
        buffer = extends format1 record_bytes sized done c rest wide i;
        count = sym (length-append done (c ∷ [])) i;
      })

-- ---- calls one after another
further : (rest : List ℕ) (n : ℕ) → drop (format1.record_size * n) (drop format1.record_size rest) ≡ drop (format1.record_size * suc n) rest
further rest n =
    let ends : format1.record_size + format1.record_size * n ≡ format1.record_size * suc n = omega arith in
    drop-drop (format1.record_size * n) format1.record_size rest ∙ ap (λ (k : ℕ). drop k rest) ends

-- the recording that cycles come to, where some were accepted before
abbrev comes_to : List Cycle → List ℕ → (accepted : List Cycle) → Recording
comes_to done rest taken = holding (done ++ taken) (drop (format1.record_size * length taken) rest)

pub whole : (cs : List Cycle) (w : Recording) (done : List Cycle) (rest : List ℕ) → w ≡ holding done rest
    → after w cs ≡ comes_to done rest (accepted w cs)
unfolding after accepted
whole [] w done rest is = is ∙ ap (λ (l : List Cycle). holding l rest) (sym (append-nil done))
whole (c ∷ cs) w done rest is = by (eqb (number_for w c) 0) refl (λ d r e. whole cs (next_of w c) d r e)
  where
    by : (b : Bool) → eqb (number_for w c) 0 ≡ b
        → ((d : List Cycle) (r : List ℕ) → next_of w c ≡ holding d r → after (next_of w c) cs ≡ comes_to d r (accepted (next_of w c) cs))
        → after (next_of w c) cs ≡ comes_to done rest (accepted_by b c (accepted (next_of w c) cs))
    by true e goes =
        goes (done ++ (c ∷ [])) (drop format1.record_size rest) (one_more done rest c w is e)
        ∙ (λ i. holding (append_assoc done (c ∷ []) (accepted (next_of w c) cs) i) (further rest (length (accepted (next_of w c) cs)) i))
    by false e goes = goes done rest (next-refused w c e ∙ is)

-- ---- the start
pub started-holds : (l : List ℕ) → start_number (length l) ≡ 0 → (head_size ≤ length l) × (started l ≡ holding [] (drop head_size l))
unfolding start_number buffer_started flat_map
started-holds l e = by (ltb (length l) head_size) refl e
  where
    by : (b : Bool) → ltb (length l) head_size ≡ b → number_by false false b ≡ 0
        → (head_size ≤ length l) × (started l ≡ holding [] (drop head_size l))
    by true s z = absurd (omega (arith, z))
    by false s z =
        let room : head_size ≤ length l = ltb-false (length l) head_size s in (
          room,
          (λ i. record { buffer = cond (eqb (number_by false false (s i)) 0) (headed format1 l 0) l; count = 0 })
              ∙ (λ i. record { buffer = sets-eq (head_bytes format1 0) l 0 room i; count = 0 }),
        )

-- ---- what is accepted
pub all-within : (cs : List Cycle) (w : Recording) → Every (λ c. out_of_range c ≡ false) (accepted w cs)
unfolding accepted
all-within [] w = refl
all-within (c ∷ cs) w = by (eqb (number_for w c) 0) refl (all-within cs (next_of w c))
  where
    by : (b : Bool) → eqb (number_for w c) 0 ≡ b → Every (λ c. out_of_range c ≡ false) (accepted (next_of w c) cs)
        → Every (λ c. out_of_range c ≡ false) (accepted_by b c (accepted (next_of w c) cs))
    by true e later = ((met w c e).0, later)
    by false e later = later

pub few : (cs : List Cycle) (w : Recording) → w.count ≤ format1.most → (after w cs).count ≤ format1.most
unfolding after
few [] w h = h
few (c ∷ cs) w h = few cs (next_of w c) (by (eqb (number_for w c) 0) refl)
  where
    by : (b : Bool) → eqb (number_for w c) 0 ≡ b → (next_of w c).count ≤ format1.most
    by true e = let n = ap (λ (v : Recording). v.count) (next_taken w c e) in let m = (met w c e).1 in omega arith
    by false e = let n = ap (λ (v : Recording). v.count) (next-refused w c e) in omega arith
