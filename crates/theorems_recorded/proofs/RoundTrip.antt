-- There: what a recording holds, what its reader gives back, and what `mmurun` prints of it.
-- Assumes nothing.
use mathlib.Core.Path.{◌≡◌, refl, sym, ap, subst, ◌∙◌}
use mathlib.Core.Bool.{false}
use mathlib.Core.List.{List, [], ◌∷◌, ◌++◌, map, map-append}
use Prim.Native.Nat.{ℕ, zero, suc, ◌*◌, ◌<◌, ◌≤◌}
use native.Mathlib.Omega.{arith}
use lib.ListN.{length, get_or, take, drop}
use lib.Seq.{take_at, take-suc, take-length, drop-drop}
use borrow.Author.Tests.{eq-eqb, le-leb}
use Rattle.rules.specs.PowerOn.{power_on}
use Rattle.rules.specs.Refusals.{out_of_range}
use Rattle.rules.specs.Runs.{answers, units}
use Rattle.rules.specs.declared.Cycle.{Cycle}
use Rattle.text.proofs.Whole.{printed_taken}
use Rattle.text.specs.Fields.{head_text}
use Rattle.text.specs.Text.{answer_lines}
use Rattle.theorems_runs.proofs.LowByte.{low_unread}
use Rattle.theorems_runs.specs.LowByte.{bare_cycle, AlikeUnits, AlikeCycles}
use Rattle.theorems_runs.specs.Sequences.{Every, Both}
use Rattle.trace_header.specs.Header.{head_size, format1, record_start, count_of, refusal_of}
use Rattle.trace_reader.proofs.Gives.{gives_all}
use Rattle.trace_reader.specs.declared.Reader.{Reader}
use Rattle.trace_records.proofs.Within.{all-given}
use Rattle.trace_records.specs.Trace.{given_of, record_refusal_in, record_refusal_of, record_at, cycle_of, cycles_to, cycles_of}
use Rattle.trace_writer.specs.Writing.{record_bytes}
use Rattle.theorems_recorded.specs.Recorded.{Recording, started, trace_in, recording_of, taken_of, trace_of, Startable}
use Rattle.theorems_recorded.specs.Recorded.{RoundTrip, ReaderGivesBack, BufferExactly, RecordedRun}
use Rattle.theorems_recorded.proofs.Made.{good, counted, found}
use Rattle.theorems_recorded.proofs.Recording.{sized, holding, trace_long, whole, started-holds, all-within, few}
use Rattle.theorems_recorded.proofs.Told.{says}

-- ---- the trace of cycles that are within their numbers, 16,000 at most
abbrev Within : List Cycle → Type 0
Within cs = Every (λ c. out_of_range c ≡ false) cs

at_place : (cs : List Cycle) (i : ℕ) (d : Cycle) → Within cs → i < length cs → out_of_range (get_or cs i d) ≡ false
at_place [] i d all less = absurd (omega arith)
at_place (c ∷ cs) zero d all less = all.0
at_place (c ∷ cs) (suc i) d all less = at_place cs i d all.1 (omega arith)

module _ (cs : List Cycle) (in_range : Within cs) (least : length cs ≤ format1.most) where
  pub taken : refusal_of (trace_of cs) ≡ 0
  taken = good format1 record_bytes sized cs least

  pub count-told : count_of (trace_of cs) ≡ length cs
  count-told = counted format1 record_bytes sized cs

  pub given : given_of (trace_of cs) ≡ length cs
  given = all-given format1 (trace_of cs) taken ∙ count-told

  -- any cycle, for what stands past a list's end
  abbrev none : Cycle
  none = cycle_of []

  told_at : (n : ℕ) → n < length cs → cycle_of (record_at (trace_of cs) n) ≡ bare_cycle (get_or cs n none)
  told_at n less = ap cycle_of (found format1 record_bytes sized cs n none less) ∙ says (get_or cs n none) (at_place cs n none in_range less)

  told_to : (n : ℕ) → n ≤ length cs → cycles_to (trace_of cs) n ≡ map bare_cycle (take n cs)
  unfolding cycles_to
  told_to zero h = refl
  told_to (suc n) h =
      (λ i. told_to n (omega (arith, h)) i ++ (told_at n (omega (arith, h)) i ∷ []))
      ∙ sym (map-append bare_cycle (take n cs) (get_or cs n none ∷ []))
      ∙ ap (map bare_cycle) (sym (take-suc cs n none (omega (arith, h))))

  pub cycles_told : cycles_of (trace_of cs) ≡ map bare_cycle cs
  cycles_told =
      ap (cycles_to (trace_of cs)) given
      ∙ told_to (length cs) (omega arith)
      ∙ ap (map bare_cycle) (take-length cs)

-- ---- a recording
module _ (l : List ℕ) (cs : List Cycle) (startable : Startable l) where
  abbrev acc : List Cycle
  acc = taken_of l cs

  abbrev behind : List ℕ
  behind = drop (format1.record_size * length acc) (drop head_size l)

  pub is_held : recording_of l cs ≡ holding acc behind
  is_held = whole cs (started l) [] (drop head_size l) (started-holds l startable).1

  pub count_is : (recording_of l cs).count ≡ length acc
  count_is = ap (λ (w : Recording). w.count) is_held

  pub at_most : length acc ≤ format1.most
  at_most = let n = few cs (started l) (omega arith) in omega (arith, count_is, n)

  pub in_numbers : Within acc
  in_numbers = all-within cs (started l)

  pub trace_is : trace_in (recording_of l cs) ≡ trace_of acc
  trace_is = ap trace_in is_held ∙ take_at (trace_of acc) behind (record_start format1 (length acc)) (trace_long acc)

  buffer_is : (recording_of l cs).buffer ≡ trace_of acc ++ drop (record_start format1 (length acc)) l
  buffer_is = ap (λ (w : Recording). w.buffer) is_held ∙ ap (λ (r : List ℕ). trace_of acc ++ r) (drop-drop (format1.record_size * length acc) head_size l)

pub buffer_exactly : BufferExactly
buffer_exactly l cs startable = (trace_is l cs startable, buffer_is l cs startable)

pub round_trip : RoundTrip
round_trip l cs startable =
    let e = trace_is l cs startable in
    let ok = in_numbers l cs startable in
    let n = at_most l cs startable in (
      ap refusal_of e ∙ taken (taken_of l cs) ok n,
      ap given_of e ∙ given (taken_of l cs) ok n,
      count_is l cs startable,
      ap cycles_of e ∙ cycles_told (taken_of l cs) ok n,
    )

-- ---- a reader of it
pub reader_gives_back : ReaderGivesBack
unfolding record_refusal_in
reader_gives_back l cs t startable is =
    let told = round_trip l cs startable in
    let n : ℕ = length (taken_of l cs) in
    let good : refusal_of t.now ≡ 0 = ap refusal_of is ∙ told.0 in
    let given : given_of t.now ≡ n = ap given_of is ∙ told.1 in
    let count : count_of t.now ≡ n = sym (all-given format1 t.now good) ∙ given in
    let stands = gives_all t n (omega (arith, given)) in (
      stands.1 ∙ sym (ap (cycles_to t.now) given) ∙ ap cycles_of is ∙ told.3,
      ap (λ (r : Reader). record_refusal_of t.now r.next) stands.0
          ∙ simp (eq-eqb (refusal_of t.now) 0 good, le-leb (count_of t.now) n (omega (arith, count))),
    )

-- ---- the run of it
alike : (cs : List Cycle) → Both AlikeCycles (map bare_cycle cs) cs
alike [] = refl
alike (c ∷ cs) = (refl, alike cs)

pub recorded-run : RecordedRun
recorded-run l cs startable =
    let told = round_trip l cs startable in
    let t : List ℕ = trace_in (recording_of l cs) in
    let cycles : cycles_of t ≡ map bare_cycle (taken_of l cs) = told.3 in
    let count : count_of t ≡ length (taken_of l cs) = sym (all-given format1 t told.0) ∙ told.1 in
    let run = low_unread power_on power_on (map bare_cycle (taken_of l cs)) (taken_of l cs) refl (alike (taken_of l cs)) in
    let same : answers power_on (cycles_of t) ≡ answers power_on (taken_of l cs) = ap (answers power_on) cycles ∙ run.0 in (
      printed_taken t told.0
          ∙ (λ i. head_text (count i) ++ answer_lines 0 (same i)),
      same,
      subst (λ (ds : List Cycle). Both AlikeUnits (units power_on ds) (units power_on (taken_of l cs))) (sym cycles) run.1,
    )
