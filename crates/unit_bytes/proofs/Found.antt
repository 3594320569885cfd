-- What is stored among bytes is found there again, and what is not stored stays: the notes, a descriptor, a byte elsewhere.
-- Assumes nothing.
use mathlib.Core.Path.{◌≡◌, refl, ap, ◌∙◌}
use mathlib.Core.Bool.{Bool, false}
use mathlib.Core.List.{List, [], ◌∷◌, ◌++◌, append_assoc}
use Prim.Native.Nat.{ℕ, suc, ◌+◌, ◌<◌, ◌≤◌}
use native.Mathlib.Nat.{add_assoc, le_of_suc-le-suc}
use native.Mathlib.Omega.{arith}
use lib.Dec.{ltb}
use lib.ListN.{length, get_or, set, take, drop}
use lib.Seq.{sets, sets-eq, length-take-le, get_or-append-add, get_or-set_other, drop-set-lt}
use borrow.Author.Tests.{le-ltb}
use Rattle.rules.specs.declared.Descriptor.{Descriptor}
use Rattle.rules.specs.declared.Notes.{Notes}
use Rattle.unit_stores.proofs.Bits.{flag_found, flags_less}
use Rattle.unit_stores.proofs.Words.{word-found}
use Rattle.unit_stores.specs.Word.{word_at, word}
use Rattle.unit_bytes.specs.Snapshot.{descriptor_size, LAST_NOTES, descriptor_in, notes_in, descriptor_bytes, notes_byte}

-- ---- the notes: found again, and never strange
abbrev in_order : Notes → List Bool
in_order n = n.request ∷ n.awaits ∷ n.own ∷ n.hold ∷ []

pub notes_found : (n : Notes) → notes_in (notes_byte n) ≡ n
unfolding notes_in notes_byte
notes_found n =
    let l : List Bool = in_order n in
    λ i. record { request = flag_found l 0 i; awaits = flag_found l 1 i; own = flag_found l 2 i; hold = flag_found l 3 i }

pub notes_small : (n : Notes) → ltb LAST_NOTES (notes_byte n) ≡ false
unfolding notes_byte
notes_small n = le-ltb LAST_NOTES (notes_byte n) (le_of_suc-le-suc (flags_less (in_order n)))

-- ---- a descriptor: behind other bytes, at the start of its own, and where it was stored
pub descriptor_past : (xs rest : List ℕ) (k : ℕ) → descriptor_in (xs ++ rest) (length xs + k) ≡ descriptor_in rest k
unfolding word_at descriptor_in
descriptor_past xs rest k = simp (add_assoc, get_or-append-add)

pub descriptor-found : (d : Descriptor) (rest : List ℕ) → descriptor_in (descriptor_bytes d ++ rest) 0 ≡ d
unfolding word_at descriptor_in descriptor_bytes
descriptor-found d rest = ap (λ (b : ℕ). record { base = b; limit = d.limit; attributes = d.attributes }) (word-found d.base)

pub descriptor_there : (l : List ℕ) (k : ℕ) (d : Descriptor) → k + descriptor_size ≤ length l
    → descriptor_in (sets l k (descriptor_bytes d)) k ≡ d
unfolding descriptor_bytes
descriptor_there l k d room =
    let rest : List ℕ = descriptor_bytes d ++ drop (k + descriptor_size) l in
    let long : length (take k l) ≡ k = length-take-le k l (omega arith) in
    let here : k ≡ length (take k l) + 0 = omega arith in
    ap (λ (m : List ℕ). descriptor_in m k)
    (sets-eq (descriptor_bytes d) l k room ∙ append_assoc (take k l) (descriptor_bytes d) (drop (k + descriptor_size) l))
    ∙ ap (descriptor_in (take k l ++ rest)) here
    ∙ descriptor_past (take k l) rest 0
    ∙ descriptor-found d (drop (k + descriptor_size) l)

-- a descriptor of the same four bytes
pub descriptor_same : (l m : List ℕ) (k : ℕ) → ((j : ℕ) → k ≤ j → j < k + descriptor_size → get_or m j 0 ≡ get_or l j 0)
    → descriptor_in m k ≡ descriptor_in l k
unfolding word_at descriptor_in
descriptor_same l m k same =
    let high : get_or m k 0 ≡ get_or l k 0 = same k (omega arith) (omega arith) in
    let low : get_or m (k + 1) 0 ≡ get_or l (k + 1) 0 = same (k + 1) (omega arith) (omega arith) in
    let limit : get_or m (k + 2) 0 ≡ get_or l (k + 2) 0 = same (k + 2) (omega arith) (omega arith) in
    let attributes : get_or m (k + 3) 0 ≡ get_or l (k + 3) 0 = same (k + 3) (omega arith) (omega arith) in
    λ i. record { base = word (high i) (low i); limit = limit i; attributes = attributes i }

-- ---- a byte at none of the places where bytes are stored, and all bytes behind those
pub elsewhere : (vs l : List ℕ) (i j : ℕ) → ((e : ℕ) → e < length vs → j ≡ i + e → ⊥) → get_or (sets l i vs) j 0 ≡ get_or l j 0
elsewhere [] l i j apart = refl
elsewhere (v ∷ vs) l i j apart =
    elsewhere vs (set l i v) (suc i) j (λ e less same. apart (suc e) (omega arith) (omega arith))
    ∙ get_or-set_other l i j v 0 (λ same. apart 0 (omega arith) (omega arith))

pub sets-drop : (vs l : List ℕ) (i n : ℕ) → i + length vs ≤ n → drop n (sets l i vs) ≡ drop n l
sets-drop [] l i n h = refl
sets-drop (v ∷ vs) l i n h = sets-drop vs (set l i v) (suc i) n (omega arith) ∙ drop-set-lt n l i v (omega arith)
