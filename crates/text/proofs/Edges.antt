-- What is printed at the edges, computed: "A refused trace prints one line, as X6, and nothing else.", by each of the numbers 5 to 8; a trace of
-- no record prints its first line alone; and distances of three digits, two and one.
-- Assumes nothing.
use mathlib.Core.Path.{◌≡◌, refl}
use mathlib.Core.List.{List, [], ◌∷◌, map}
use Prim.Native.Nat.{ℕ}
use Rattle.rules.specs.Computed.{computed}
use Rattle.trace_records.specs.Computed.{trace_computed}
use Rattle.text.specs.Computed.{text_computed}
use Rattle.text.specs.Text.{printed}

-- 830000C0 830009FF 18000000 18009B00 18009C00 1800F500 1800F600: MSEN and TRNS, segment 0 with the limit %FF, and reads in it 255, 100, 99, 10
-- and 9 blocks from its edge
abbrev reads : List ℕ
reads =
    77 ∷ 66 ∷ 84 ∷ 0 ∷ 1 ∷ 0 ∷ 7
    ∷ 131 ∷ 0 ∷ 0 ∷ 192
    ∷ 131 ∷ 0 ∷ 9 ∷ 255
    ∷ 24 ∷ 0 ∷ 0 ∷ 0
    ∷ 24 ∷ 0 ∷ 155 ∷ 0
    ∷ 24 ∷ 0 ∷ 156 ∷ 0
    ∷ 24 ∷ 0 ∷ 245 ∷ 0
    ∷ 24 ∷ 0 ∷ 246 ∷ 0 ∷ []

abbrev reads_text : List ℕ
reads_text =
    77 ∷ 66 ∷ 84 ∷ 32 ∷ 49 ∷ 32 ∷ 55 ∷ 10
    ∷ 48 ∷ 32 ∷ 67 ∷ 32 ∷ 45 ∷ 45 ∷ 45 ∷ 45 ∷ 32 ∷ 48 ∷ 32 ∷ 48 ∷ 32 ∷ 45 ∷ 45 ∷ 32 ∷ 48 ∷ 10
    ∷ 49 ∷ 32 ∷ 67 ∷ 32 ∷ 45 ∷ 45 ∷ 45 ∷ 45 ∷ 32 ∷ 48 ∷ 32 ∷ 48 ∷ 32 ∷ 45 ∷ 45 ∷ 32 ∷ 48 ∷ 10
    ∷ 50 ∷ 32 ∷ 84 ∷ 32 ∷ 48 ∷ 48 ∷ 48 ∷ 48 ∷ 32 ∷ 48 ∷ 32 ∷ 48 ∷ 32 ∷ 45 ∷ 45 ∷ 32 ∷ 50 ∷ 53 ∷ 53 ∷ 10
    ∷ 51 ∷ 32 ∷ 84 ∷ 32 ∷ 48 ∷ 48 ∷ 57 ∷ 66 ∷ 32 ∷ 48 ∷ 32 ∷ 48 ∷ 32 ∷ 45 ∷ 45 ∷ 32 ∷ 49 ∷ 48 ∷ 48 ∷ 10
    ∷ 52 ∷ 32 ∷ 84 ∷ 32 ∷ 48 ∷ 48 ∷ 57 ∷ 67 ∷ 32 ∷ 48 ∷ 32 ∷ 48 ∷ 32 ∷ 45 ∷ 45 ∷ 32 ∷ 57 ∷ 57 ∷ 10
    ∷ 53 ∷ 32 ∷ 84 ∷ 32 ∷ 48 ∷ 48 ∷ 70 ∷ 53 ∷ 32 ∷ 48 ∷ 32 ∷ 48 ∷ 32 ∷ 45 ∷ 45 ∷ 32 ∷ 49 ∷ 48 ∷ 10
    ∷ 54 ∷ 32 ∷ 84 ∷ 32 ∷ 48 ∷ 48 ∷ 70 ∷ 54 ∷ 32 ∷ 48 ∷ 32 ∷ 48 ∷ 32 ∷ 45 ∷ 45 ∷ 32 ∷ 57 ∷ 10 ∷ []

-- a trace, and its text: 88 is X, 53 to 56 are 5 to 8, 10 a line feed
abbrev pub edge_rows : List (List ℕ × List ℕ)
edge_rows =
    ([], 88 ∷ 53 ∷ 10 ∷ [])
    ∷ (109 ∷ 98 ∷ 116 ∷ 0 ∷ 1 ∷ 0 ∷ 0 ∷ [], 88 ∷ 53 ∷ 10 ∷ [])
    ∷ (77 ∷ 66 ∷ 84 ∷ 0 ∷ 2 ∷ 0 ∷ 0 ∷ [], 88 ∷ 54 ∷ 10 ∷ [])
    ∷ (77 ∷ 66 ∷ 84 ∷ 0 ∷ 1 ∷ 62 ∷ 129 ∷ [], 88 ∷ 55 ∷ 10 ∷ [])
    ∷ (77 ∷ 66 ∷ 84 ∷ 0 ∷ 1 ∷ 0 ∷ 0 ∷ 0 ∷ [], 88 ∷ 56 ∷ 10 ∷ [])
    ∷ (77 ∷ 66 ∷ 84 ∷ 0 ∷ 1 ∷ 0 ∷ 0 ∷ [], 77 ∷ 66 ∷ 84 ∷ 32 ∷ 49 ∷ 32 ∷ 48 ∷ 10 ∷ [])
    ∷ (reads, reads_text)
    ∷ []

pub edges_hold : map (λ r. printed r.0) edge_rows ≡ map (λ r. r.1) edge_rows
unfolding computed trace_computed text_computed
edges_hold = refl
