-- A program reads into a buffer of its own, and an input may be longer than that. Where the buffer holds more than the longest good
-- trace, the text of what was read is the text of the whole input.
-- Assumes nothing.
use mathlib.Core.Path.{◌≡◌, refl, sym, ap, ◌∙◌}
use mathlib.Core.Bool.{Bool, true, false, not}
use mathlib.Core.List.{List}
use Prim.Native.Nat.{ℕ, ◌*◌, ◌≤◌, ◌<◌}
use native.Mathlib.Nat.{mul-le-mul_left}
use native.Mathlib.Omega.{arith}
use lib.Dec.{eqb, ltb}
use lib.ListN.{length, get_or, take}
use lib.Seq.{length-take-le, get_or-take, take_all}
use borrow.Author.Tests.{ltb-true, ltb-false, le-ltb, ne_eqb}
use Rattle.unit_stores.specs.Word.{word_at}
use Rattle.trace_header.specs.Header.{head_size, Format, format1, record_start, longest, marked, version_of, count_of, refusal_by}
use Rattle.trace_header.specs.Header.{refusal_in, refusal_of}
use Rattle.trace_header.proofs.Taken.{taken}
use Rattle.text.specs.Fields.{refusal_text}
use Rattle.text.specs.Text.{printed}
use Rattle.text.proofs.Whole.{printed-refused}

module _ (f : Format) where
  -- what refuses a trace by its header alone, where its length is not what the count asks for
  abbrev byHeader : List ℕ → ℕ
  byHeader t = refusal_by false (not (marked t)) (not (eqb (version_of t) f.version)) (ltb f.most (count_of t)) true

  -- of a trace that is longer than any good one, the length says nothing but that
  by_header : (t : List ℕ) → longest f < length t → refusal_in f t ≡ byHeader t
  unfolding refusal_in
  by_header t h =
      let other : Bool = not (eqb (version_of t) f.version) in
      let many : Bool = ltb f.most (count_of t) in
      let uneven : Bool = not (eqb (length t) (record_start f (count_of t))) in
      ap (λ (b : Bool). refusal_by b (not (marked t)) other many uneven) (le-ltb (length t) head_size (omega arith))
      ∙ by (not (marked t)) other many refl
    where
      by : (u o m : Bool) → ltb f.most (count_of t) ≡ m
          → refusal_by false u o m (not (eqb (length t) (record_start f (count_of t)))) ≡ refusal_by false u o m true
      by true o m e = refl
      by false true m e = refl
      by false false true e = refl
      by false false false e =
          let few : f.record_size * count_of t ≤ f.record_size * f.most =
          mul-le-mul_left f.record_size (ltb-false f.most (count_of t) e) in
          ap (λ (b : Bool). refusal_by false false false false (not b))
          (ne_eqb (length t) (record_start f (count_of t)) (λ (q : length t ≡ record_start f (count_of t)). omega arith))

  module _ (k : ℕ) (t : List ℕ) (h : longest f < k) (more : k < length t) where
    same : (i : ℕ) → i < head_size → get_or (take k t) i 0 ≡ get_or t i 0
    same i less = get_or-take k t i 0 (omega arith)

    same_header : byHeader (take k t) ≡ byHeader t
    unfolding marked word_at
    same_header =
        rw (
          same 0 (omega arith),
          same 1 (omega arith),
          same 2 (omega arith),
          same 3 (omega arith),
          same 4 (omega arith),
          same 5 (omega arith),
          same 6 (omega arith),
        )

    same_refusal : refusal_in f (take k t) ≡ refusal_in f t
    same_refusal =
        let whole : length (take k t) ≡ k = length-take-le k t (omega arith) in
        by_header (take k t) (omega arith) ∙ same_header ∙ sym (by_header t (omega arith))

    too_long : refusal_in f t ≡ 0 → ⊥
    too_long e =
        let few : f.record_size * count_of t ≤ f.record_size * f.most = mul-le-mul_left f.record_size (taken f t e).0 in
        omega (arith, (taken f t e).1)

module _ (k : ℕ) (t : List ℕ) (h : longest format1 < k) (more : k < length t) where
  printed-cut : printed (take k t) ≡ printed t
  printed-cut =
      let same = same_refusal format1 k t h more in
      let refused = too_long format1 k t h more in
      printed-refused (take k t) (λ (e : refusal_of (take k t) ≡ 0). refused (sym same ∙ e))
      ∙ ap refusal_text same
      ∙ sym (printed-refused t refused)

-- the text of the first k bytes of an input is the text of the input, where k is above the bytes of the longest trace
pub cut : (k : ℕ) (t : List ℕ) → longest format1 < k → printed (take k t) ≡ printed t
cut k t h = by (ltb k (length t)) refl
  where
    by : (b : Bool) → ltb k (length t) ≡ b → printed (take k t) ≡ printed t
    by true e = printed-cut k t h (ltb-true k (length t) e)
    by false e = ap printed (take_all k t (ltb-false k (length t) e))
