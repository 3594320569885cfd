-- The whole text: its two forms, and what stands in the buffer once it has been put.
-- Assumes nothing.
use mathlib.Core.Path.{◌≡◌, refl, sym, ap, ◌∙◌}
use mathlib.Core.Bool.{Bool}
use mathlib.Core.List.{List, ◌++◌}
use Prim.Native.Nat.{ℕ, ◌+◌, ◌*◌, ◌<◌, ◌≤◌}
use native.Mathlib.Nat.{zero-add}
use native.Mathlib.Omega.{arith}
use lib.ListN.{length, take, drop}
use lib.Seq.{sets, sets-eq, length-sets, length-take-le, take_at, drop_at}
use borrow.Author.Tests.{lt-ltb, le-ltb, eq-eqb, ne_eqb}
use Rattle.trace_header.specs.Header.{format1, count_of, refusal_of}
use Rattle.text.specs.Fields.{head_text, refusal_text}
use Rattle.text.specs.Lines.{lines_of}
use Rattle.unit_packed.specs.Packed.{width, packed_all}
use Rattle.rules.specs.PowerOn.{power_on}
use Rattle.rules.specs.Runs.{answers}
use Rattle.unit_stores.specs.Put.{Put}
use Rattle.trace_records.specs.Trace.{given_of, cycles_of}
use Rattle.trace_records.proofs.Within.{all-given}
use Rattle.text.specs.Text.{answer_lines, text_by, printed}
use Rattle.text.proofs.ReadBack.{ran_back}
use Rattle.text.specs.Listed.{text_room, filled, length_of, Listed, Counts}

-- the text of a trace that is taken, and of one that is refused
pub printed_taken : (t : List ℕ) → refusal_of t ≡ 0 → printed t ≡ head_text (count_of t) ++ answer_lines 0 (answers power_on (cycles_of t))
unfolding printed
printed_taken t e = ap (λ (b : Bool). text_by b t) (eq-eqb (refusal_of t) 0 e)

pub printed-refused : (t : List ℕ) → (refusal_of t ≡ 0 → ⊥) → printed t ≡ refusal_text (refusal_of t)
unfolding printed
printed-refused t ne = ap (λ (b : Bool). text_by b t) (ne_eqb (refusal_of t) 0 ne)

-- the head and the lines of the answers that a run left in a buffer with room for them
pub taken_text : (t z packed : List ℕ) (n : ℕ) → refusal_of t ≡ 0 → n ≡ given_of t
    → packed ≡ sets z 0 (packed_all (answers power_on (cycles_of t))) → width * n ≤ length z → head_text n ++ lines_of 0 n packed ≡ printed t
taken_text t z packed n e count stored room =
    let given = given_of t in
    let fits : width * given ≤ length z = rw count at room in
    ap (λ (k : ℕ). head_text k ++ lines_of 0 k packed) count
    ∙ ap (λ (p : List ℕ). head_text given ++ lines_of 0 given p) stored
    ∙ ap (λ (l : List ℕ). head_text given ++ l) (ran_back t z given fits)
    ∙ ap (λ (k : ℕ). head_text k ++ answer_lines 0 (answers power_on (cycles_of t))) (all-given format1 t e)
    ∙ sym (printed_taken t e)

module _ (t l : List ℕ) where
  -- a buffer that is too short
  pub too_short : length l < text_room → Listed t l l 0 × Counts 0 l
  too_short h = (
    record {
      text = ap (λ (b : Bool). filled b t l) (sym (lt-ltb (length l) text_room h));
      count = ap (λ (b : Bool). length_of b t) (sym (lt-ltb (length l) text_room h));
    },
    (omega arith, refl),
  )

  -- a buffer into which the text was put
  pub all-put : {m : List ℕ} {r : ℕ} → text_room ≤ length l → r ≤ length l → Put l 0 (printed t) m r → Listed t l m r × Counts r m
  all-put {m} {r} h fits w =
      let same : length m ≡ length l = ap length w.stored ∙ length-sets l 0 (printed t) in
      let within : r ≤ length m = omega arith in (
        record {
          text = w.stored ∙ ap (λ (b : Bool). filled b t l) (sym (le-ltb (length l) text_room h));
          count = w.ends ∙ zero-add (length (printed t)) ∙ ap (λ (b : Bool). length_of b t) (sym (le-ltb (length l) text_room h));
        },
        (within, sym (length-take-le r m within)),
      )

-- What the contract of `list` says, put plainly: in a buffer of `text_room` bytes or more the text stands at the start, whole, and what
-- follows it is as it was.
pub listed : (t l m : List ℕ) (r : ℕ) → text_room ≤ length l → Listed t l m r → r ≤ length m
    → (take r m ≡ printed t) × (drop r m ≡ drop r l)
listed t l m r h w within =
    let text : m ≡ sets l 0 (printed t) = w.text ∙ ap (λ (b : Bool). filled b t l) (le-ltb (length l) text_room h) in
    let size : r ≡ length (printed t) = w.count ∙ ap (λ (b : Bool). length_of b t) (le-ltb (length l) text_room h) in
    let same : length m ≡ length l = ap length text ∙ length-sets l 0 (printed t) in
    let fits : 0 + length (printed t) ≤ length l = omega arith in
    let parts : m ≡ printed t ++ drop (0 + length (printed t)) l = text ∙ sets-eq (printed t) l 0 fits in
    let at : 0 + length (printed t) ≡ r = zero-add (length (printed t)) ∙ sym size in (
      ap (take r) parts ∙ take_at (printed t) (drop (0 + length (printed t)) l) r (sym size),
      ap (drop r) parts ∙ drop_at (printed t) (drop (0 + length (printed t)) l) r (sym size) ∙ ap (λ (k : ℕ). drop k l) at,
    )
