-- The text of the bytes that were read is the text of the whole input, where they reached its end or filled the buffer.
-- Assumes nothing.
use Rattle.std.proofs.Common.{◌≡◌, ℕ, ◌<◌, ◌≤◌, Bool, true, false, List, [], ◌++◌, None, Some, IfSome, Ok, Err, OnOk, refl, sym, ap, ◌∙◌, subst, length, take, append-nil, take_all}
use Rattle.std.specs.Io.KnownBytes.{Consumes, IsAtEnd, Appends}
use Rattle.std.specs.declared.option.Option.{Option}
use Rattle.std.specs.declared.result.Result.{Result}
use lib.Dec.{ltb}
use lib.Seq.{take_at}
use borrow.Author.Tests.{ltb-true, ltb-false}
use Rattle.trace_header.specs.Header.{format1, longest}
use Rattle.text.specs.Text.{printed}
use Rattle.text.proofs.Cut.{cut}

module _ (buffer : List ℕ) (n : ℕ) (most : longest format1 < length buffer) (within : n ≤ length buffer) where
  abbrev pub read : List ℕ
  read = take n buffer

  same : (input rest : List ℕ) → input ≡ read ++ rest → (n < length buffer → rest ≡ []) → printed read ≡ printed input
  same input rest e end = by (ltb n (length buffer)) refl
    where
      by : (b : Bool) → ltb n (length buffer) ≡ b → printed read ≡ printed input
      by true t = ap printed (sym (e ∙ ap (λ l. read ++ l) (end (ltb-true n (length buffer) t)) ∙ append-nil read))
      by false t =
          let full : read ≡ buffer = take_all n buffer (ltb-false n (length buffer) t) in
          let first : take (length buffer) input ≡ read = ap (take (length buffer)) e ∙ take_at read rest (length buffer) (ap length full) in
          ap printed (sym first) ∙ cut (length buffer) input most

  whole_input : (a b c d : Option (List ℕ)) → Consumes a b read → (n < length buffer → IsAtEnd b) → Appends c d (printed read)
      → IfSome a (λ trace. Appends c d (printed trace))
  whole_input None b c d p end q = tt
  whole_input (Some xs) None c d p end q = absurd p
  whole_input (Some xs) (Some ys) c d p end q = subst (Appends c d) (same xs ys p end) q

  -- what was written of them, where an input and an output know their bytes, and a write may fail
  pub whole_written : {E : Type 0} (a b c d : Option (List ℕ)) (r : Result (Unit {0}) E) → Consumes a b read → (n < length buffer → IsAtEnd b)
      → OnOk r (Appends c d (printed read)) → OnOk r (IfSome a (λ trace. Appends c d (printed trace)))
  whole_written a b c d (Ok u) p end q = whole_input a b c d p end q
  whole_written a b c d (Err e) p end q = q
