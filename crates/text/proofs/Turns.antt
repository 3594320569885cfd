-- The lines that are left to put at each turn.
-- Assumes nothing.
use mathlib.Core.Path.{◌≡◌, refl, ap, subst, ◌∙◌}
use mathlib.Core.List.{List, [], ◌++◌}
use Prim.Native.Nat.{ℕ, zero, suc, ◌+◌, ◌*◌, ◌<◌, ◌≤◌}
use native.Mathlib.Omega.{arith}
use lib.ListN.{length, take, drop, length-append}
use lib.Seq.{take_at, drop_at}
use Rattle.unit_stores.specs.Put.{Put}
use Rattle.unit_stores.proofs.Laws.{onward}
use Rattle.unit_packed.specs.Packed.{width}
use Rattle.text.specs.Lines.{line_of, lines_of}

-- the line of record n, and the lines behind it
next : (n k j : ℕ) (p answer rest : List ℕ) → j + 1 ≡ k → p ≡ answer ++ rest → length answer ≡ width
    → lines_of n k p ≡ line_of n answer ++ lines_of (n + 1) j rest
unfolding lines_of
next n k j p answer rest fewer split size =
    let more : k ≡ suc j = omega (arith, fewer) in
    ap (λ (i : ℕ). lines_of n i p) more
    ∙ ap (λ (l : List ℕ). line_of n (take width l) ++ lines_of (n + 1) j (drop width l)) split
    ∙ ap (λ (l : List ℕ). line_of n l ++ lines_of (n + 1) j (drop width (answer ++ rest))) (take_at answer rest width size)
    ∙ ap (λ (l : List ℕ). line_of n answer ++ lines_of (n + 1) j l) (drop_at answer rest width size)

module _ (n k j : ℕ) (p answer rest : List ℕ) (fewer : j + 1 ≡ k) (split : p ≡ answer ++ rest) (size : length answer ≡ width) where
  -- a turn: the line of record n was put, and those behind it are left
  pub turn : {l m z : List ℕ} {at q r : ℕ} → Put l at (lines_of n k p) z r → Put l at (line_of n answer) m q
      → Put m q (lines_of (n + 1) j rest) z r
  turn {l} {m} {z} {at} {q} {r} w g = onward (subst (λ (vs : List ℕ). Put l at vs z r) (next n k j p answer rest fewer split size) w) g

  -- and there are bytes for them
  pub enough_left : width * k ≤ length p → width * j ≤ length rest
  enough_left enough = omega (arith, fewer, size, enough, ap length split ∙ length-append answer rest)

-- at the end: no answer is left, since the chunks end only where there are no bytes, and so no line
no_more : (k bytes : ℕ) → width * k ≤ bytes → (0 < k → bytes ≡ 0) → k ≡ 0
no_more zero bytes enough none = refl
no_more (suc k) bytes enough none = absurd (omega (arith, none (omega arith)))

pub at_end : (n k : ℕ) (p : List ℕ) → width * k ≤ length p → (0 < k → length p ≡ 0) → lines_of n k p ≡ []
unfolding lines_of
at_end n k p enough none = ap (λ (i : ℕ). lines_of n i p) (no_more k (length p) enough none)
