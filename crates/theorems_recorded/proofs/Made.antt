-- A trace made of records, in any version and of whatever the records are of: it is good, each record is found in it, and a record more makes a trace of
-- one record more.
-- Assumes nothing.
use mathlib.Core.Path.{◌≡◌, sym, ap, ◌∙◌}
use mathlib.Core.List.{List, [], ◌∷◌, ◌++◌, flat_map, append_assoc, append-nil}
use Prim.Native.Nat.{ℕ, zero, suc, ◌+◌, ◌*◌, ◌<◌, ◌≤◌}
use native.Mathlib.Nat.{mul-zero, mul-suc}
use native.Mathlib.Omega.{arith}
use lib.ListN.{length, get_or, take, drop, length-append}
use lib.Seq.{sets, sets-eq, take_at, drop-append-add}
use borrow.Author.Tests.{le-ltb, eq-eqb}
use Rattle.trace_header.specs.Header.{head_size, Format, record_start, marked, version_of, count_of, refusal_in}
use Rattle.trace_records.specs.Trace.{record_in}
use Rattle.trace_writer.specs.Writing.{head_bytes, headed, extended}
use Rattle.unit_stores.proofs.Words.{word-found}
use Rattle.unit_stores.specs.Word.{word_at}

module _ (f : Format) {A : Type 0} (e : A → List ℕ) (sized : (a : A) → length (e a) ≡ f.record_size) where
  -- the bytes of a trace
  abbrev pub made : List A → List ℕ
  made xs = head_bytes f (length xs) ++ flat_map e xs

  -- ---- its length
  body_long : (xs : List A) → length (flat_map e xs) ≡ f.record_size * length xs
  unfolding flat_map
  body_long [] = sym (mul-zero f.record_size)
  body_long (a ∷ xs) =
      let whole = length-append (e a) (flat_map e xs) in
      omega (arith, whole, sized a, body_long xs, mul-suc f.record_size (length xs))

  pub made_long : (xs : List A) → length (made xs) ≡ record_start f (length xs)
  made_long xs = omega (arith, body_long xs)

  -- ---- a record more
  pub one_more : (xs : List A) (a : A) → flat_map e (xs ++ (a ∷ [])) ≡ flat_map e xs ++ e a
  unfolding flat_map
  one_more [] a = append-nil (e a)
  one_more (b ∷ xs) a = ap (λ (l : List ℕ). e b ++ l) (one_more xs a) ∙ sym (append_assoc (e b) (flat_map e xs) (e a))

  pub extends : (xs : List A) (a : A) (rest : List ℕ) → f.record_size ≤ length rest
      → extended f (made xs ++ rest) (length xs) (e a) ≡ made (xs ++ (a ∷ [])) ++ drop f.record_size rest
  extends xs a rest room =
      let n : ℕ = length xs in
      let start : ℕ = record_start f n in
      let left : List ℕ = drop f.record_size rest in
      let wide : start + length (e a) ≤ length (made xs ++ rest) = omega (arith, length-append (made xs) rest, made_long xs, sized a) in
      let ends : start + length (e a) ≡ length (made xs) + f.record_size = omega (arith, made_long xs, sized a) in
      let behind : drop (start + length (e a)) (made xs ++ rest) ≡ left =
      ap (λ (k : ℕ). drop k (made xs ++ rest)) ends ∙ drop-append-add (made xs) rest f.record_size in
      let stored : sets (made xs ++ rest) start (e a) ≡ made xs ++ e a ++ left =
      sets-eq (e a) (made xs ++ rest) start wide
      ∙ ap (λ (l : List ℕ). l ++ e a ++ drop (start + length (e a)) (made xs ++ rest)) (take_at (made xs) rest start (made_long xs))
      ∙ ap (λ (l : List ℕ). made xs ++ e a ++ l) behind in
      let count : n + 1 ≡ length (xs ++ (a ∷ [])) = sym (length-append xs (a ∷ [])) in
      ap (λ (l : List ℕ). headed f l (n + 1)) stored
      ∙ ap (λ (k : ℕ). head_bytes f k ++ (flat_map e xs ++ e a ++ left)) count
      ∙ ap (λ (l : List ℕ). head_bytes f (length (xs ++ (a ∷ []))) ++ (l ++ left)) (sym (one_more xs a))

  -- ---- what it says of itself
  pub counted : (xs : List A) → count_of (made xs) ≡ length xs
  unfolding word_at
  counted xs = word-found (length xs)

  pub good : (xs : List A) → length xs ≤ f.most → refusal_in f (made xs) ≡ 0
  unfolding refusal_in marked word_at
  good xs few =
      let long = made_long xs in
      let count = word-found (length xs) in
      simp (
        le-ltb (length (made xs)) head_size (omega (arith, long)),
        eq-eqb (version_of (made xs)) f.version (word-found f.version),
        le-ltb f.most (count_of (made xs)) (omega (arith, count, few)),
        eq-eqb (length (made xs)) (record_start f (count_of (made xs))) (long ∙ ap (record_start f) (sym count)),
      )

  -- ---- its records
  in_body : (xs : List A) (i : ℕ) (d : A) → i < length xs → take f.record_size (drop (f.record_size * i) (flat_map e xs)) ≡ e (get_or xs i d)
  unfolding flat_map
  in_body [] i d less = absurd (omega arith)
  in_body (a ∷ xs) zero d less =
      ap (λ (k : ℕ). take f.record_size (drop k (e a ++ flat_map e xs))) (mul-zero f.record_size)
      ∙ take_at (e a) (flat_map e xs) f.record_size (sized a)
  in_body (a ∷ xs) (suc i) d less =
      let next : f.record_size * suc i ≡ length (e a) + f.record_size * i = omega (arith, mul-suc f.record_size i, sized a) in
      ap (λ (k : ℕ). take f.record_size (drop k (e a ++ flat_map e xs))) next
      ∙ ap (take f.record_size) (drop-append-add (e a) (flat_map e xs) (f.record_size * i))
      ∙ in_body xs i d (omega arith)

  pub found : (xs : List A) (i : ℕ) (d : A) → i < length xs → record_in f (made xs) i ≡ e (get_or xs i d)
  found xs i d less = ap (take f.record_size) (drop-append-add (head_bytes f (length xs)) (flat_map e xs) (f.record_size * i)) ∙ in_body xs i d less
