-- What one turn does in the loop that stores a table, and the byte behind it; and a table by its descriptors.
-- Assumes nothing.
use mathlib.Core.Path.{◌≡◌, refl, sym, ap, ◌∙◌}
use mathlib.Core.List.{List, [], ◌∷◌, ◌++◌}
use mathlib.Core.Logic.{⊎_elim}
use Prim.Native.Nat.{ℕ, zero, suc, ◌+◌, ◌*◌, ◌<◌}
use native.Mathlib.Nat.{le_of_suc-le-suc, not-suc-le-zero, eq-or-lt_of_le}
use native.Mathlib.Numerals.{add-one}
use native.Mathlib.Omega.{arith}
use lib.ListN.{length, get_or, set, take, length-append, get_or-append}
use lib.Seq.{sets, take-suc, length-take-le, get_or_at, ext_get_or}
use Rattle.rules.specs.PowerOn.{blank}
use Rattle.rules.specs.declared.Descriptor.{Descriptor}
use Rattle.unit_stores.proofs.Laws.{sets-append}
use Rattle.unit_bytes.specs.Snapshot.{table_at, descriptor_size, segments, descriptor_at, low_at}
use Rattle.unit_bytes.specs.Snapshot.{descriptor_in, table_in, descriptor_bytes, table_bytes}

pub table_more : (t : List Descriptor) (d : Descriptor) → table_bytes (t ++ (d ∷ [])) ≡ table_bytes t ++ descriptor_bytes d
unfolding table_bytes descriptor_bytes
table_more [] d = refl
table_more (x ∷ t) d = ap (λ (r : List ℕ). descriptor_bytes x ++ r) (table_more t d)

pub table_length : (t : List Descriptor) → length (table_bytes t) ≡ descriptor_size * length t
unfolding table_bytes descriptor_bytes
table_length [] = refl
table_length (x ∷ t) = let h : length (table_bytes t) ≡ descriptor_size * length t = table_length t in omega (arith, h)

-- the same of a table whose length is known
pub table_of : (t : List Descriptor) (n : ℕ) → length t ≡ n → length (table_bytes t) ≡ descriptor_size * n
table_of t n size = table_length t ∙ ap (λ (k : ℕ). descriptor_size * k) size

-- one descriptor more is stored
pub descriptor_stored : (o : List ℕ) (t : List Descriptor) (i : ℕ) → i < length t
    → sets (sets o table_at (table_bytes (take i t))) (descriptor_at i) (descriptor_bytes (get_or t i blank))
    ≡ sets o table_at (table_bytes (take (i + 1) t))
descriptor_stored o t i h =
    let d : Descriptor = get_or t i blank in
    let first : List ℕ = table_bytes (take i t) in
    let long : length first ≡ descriptor_size * i = table_of (take i t) i (length-take-le i t (omega arith)) in
    ap (λ (k : ℕ). sets (sets o table_at first) (table_at + k) (descriptor_bytes d)) (sym long)
    ∙ sets-append o table_at first (descriptor_bytes d)
    ∙ ap (sets o table_at) (sym (ap table_bytes (take-suc t i blank h) ∙ table_more (take i t) d))
    ∙ ap (λ (k : ℕ). sets o table_at (table_bytes (take k t))) (sym (add-one i))

-- the low byte is stored behind them all
pub low_stored : (o : List ℕ) (t : List Descriptor) (low : ℕ) → length t ≡ segments
    → set (sets o table_at (table_bytes t)) low_at low ≡ sets o table_at (table_bytes t ++ (low ∷ []))
low_stored o t low size =
    ap (λ (k : ℕ). set (sets o table_at (table_bytes t)) (table_at + k) low) (sym (table_of t segments size))
    ∙ sets-append o table_at (table_bytes t) (low ∷ [])

-- ---- a table by its descriptors: how many, and which
pub table_long : (l : List ℕ) (n : ℕ) → length (table_in l n) ≡ n
unfolding table_in
table_long l zero = refl
table_long l (suc n) =
    let h : length (table_in l n) ≡ n = table_long l n in
    length-append (table_in l n) (descriptor_in l (descriptor_at n) ∷ []) ∙ omega (arith, h)

pub table_at_lem : (l : List ℕ) (n k : ℕ) (d : Descriptor) → k < n → get_or (table_in l n) k d ≡ descriptor_in l (descriptor_at k)
unfolding table_in
table_at_lem l zero k d h = absurd (not-suc-le-zero h)
table_at_lem l (suc n) k d h =
    let last : Descriptor = descriptor_in l (descriptor_at n) in
    let long : length (table_in l n) ≡ n = table_long l n in
    ⊎_elim
    (λ (e : k ≡ n). get_or_at (table_in l n) last [] d k (long ∙ sym e) ∙ ap (λ (i : ℕ). descriptor_in l (descriptor_at i)) (sym e))
    (λ (less : k < n). get_or-append (table_in l n) (last ∷ []) d k (omega arith) ∙ table_at_lem l n k d less)
    (eq-or-lt_of_le (le_of_suc-le-suc h))

-- it is any list of as many that has them in the same places
pub table_is : (l : List ℕ) (n : ℕ) (t : List Descriptor) (d : Descriptor) → length t ≡ n
    → ((k : ℕ) → k < n → descriptor_in l (descriptor_at k) ≡ get_or t k d) → table_in l n ≡ t
table_is l n t d size each =
    let long : length (table_in l n) ≡ n = table_long l n in
    ext_get_or d (table_in l n) t (long ∙ sym size)
    (λ k h. let less : k < n = omega arith in table_at_lem l n k d less ∙ each k less)
