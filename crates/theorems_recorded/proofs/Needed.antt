-- What the round trip needs: the low byte dropped, and a start that was not refused. What it hangs on: nothing that stood in the buffer. And what
-- comes of a start that was refused: nothing.
-- Assumes nothing.
use mathlib.Core.Path.{◌≡◌, refl, sym, ap, ◌∙◌}
use mathlib.Core.Bool.{Bool, true, false}
use mathlib.Core.List.{List, [], ◌∷◌}
use Prim.Native.Nat.{ℕ, ◌<◌}
use native.Mathlib.Omega.{arith}
use lib.Dec.{ltb}
use lib.ListN.{length, get_or, replicate, take}
use borrow.Author.Tests.{ltb-true}
use Rattle.rules.specs.Seen.{cycle_with}
use Rattle.rules.specs.declared.Cycle.{Cycle}
use Rattle.trace_header.specs.Header.{head_size, format1}
use Rattle.trace_records.specs.Computed.{trace_computed}
use Rattle.trace_writer.proofs.Ends.{fits}
use Rattle.trace_writer.specs.Computed.{writer_computed}
use Rattle.trace_writer.specs.Writing.{start_number, buffer_started}
use Rattle.theorems_recorded.specs.Recorded.{Recording, started, number_for, recording_of, after, accepted, within, room_in, least_of, trace_of}
use Rattle.theorems_recorded.specs.Recorded.{LowDropped, StartNeeded, SameBytes, NoStart}
use Rattle.theorems_recorded.proofs.Accepted.{accepted_exactly}
use Rattle.theorems_recorded.proofs.Recording.{recording-refusal-leaves}
use Rattle.theorems_recorded.proofs.RoundTrip.{trace_is}

-- a data read of segment 0, with the low byte 1
abbrev low_read : Cycle
low_read = cycle_with 8 true false false false 0 0 1 0 false

pub low_dropped : LowDropped
unfolding trace_computed writer_computed after accepted
low_dropped all =
    let one : ℕ = 1 in
    let none-is-one : 0 ≡ one = ap (λ (cs : List Cycle). (get_or cs 0 low_read).low) (all (replicate 11 0) (low_read ∷ []) refl) in
    omega (arith, none-is-one)

-- a buffer of no byte: there is no trace, so 5
pub start_needed : StartNeeded
unfolding trace_computed writer_computed after
start_needed all = let five : ℕ = 5 in let five-is-none : five ≡ 0 = all [] [] in omega (arith, five-is-none)

pub same_bytes : SameBytes
same_bytes l m cs ds = (
  λ long. accepted_exactly l cs ∙ ap (λ (n : ℕ). take (least_of format1.most (room_in n)) (within cs)) long ∙ sym (accepted_exactly m cs),
  λ left right same. trace_is l cs left ∙ ap trace_of same ∙ sym (trace_is m ds right),
)

-- a buffer that is too short for a header takes no cycle
stays : (cs : List Cycle) (w : Recording) → length w.buffer < head_size → after w cs ≡ w
unfolding after
stays [] w short = refl
stays (c ∷ cs) w short =
    let refused : number_for w c ≡ 0 → ⊥ = λ none. (let room = (fits (length w.buffer) w.count c none).2 in omega (arith, short, room)) in
    ap (λ (v : Recording). after v cs) ((recording-refusal-leaves w c).1 refused) ∙ stays cs w short

pub no_start : NoStart
unfolding buffer_started start_number
no_start l cs refused = by (ltb (length l) head_size) refl
  where
    by : (b : Bool) → ltb (length l) head_size ≡ b → recording_of l cs ≡ record { buffer = l; count = 0 }
    by false e = absurd (refused (simp e))
    by true e =
        let same : started l ≡ record { buffer = l; count = 0 } = simp e in
        ap (λ (v : Recording). after v cs) same ∙ stays cs (record { buffer = l; count = 0 }) (ltb-true (length l) head_size e)
