-- Document 01's sample, computed: the input's bytes, and the text that it shows, with ticket 5's seventh field: 11 blocks are left where %15 is
-- read and written in a segment with the limit %20.
-- Assumes nothing.
use mathlib.Core.Path.{◌≡◌, refl}
use mathlib.Core.List.{List, [], ◌∷◌}
use Prim.Native.Nat.{ℕ}
use Rattle.rules.specs.Computed.{computed}
use Rattle.trace_records.specs.Computed.{trace_computed}
use Rattle.text.specs.Computed.{text_computed}
use Rattle.text.specs.Text.{printed}

-- "4D 42 54 00 01 00 09, then 830000C0 83000B23 83000B11 83000B20 83000B01 18001500 28001500 93000200 14000000"
abbrev pub input : List ℕ
input =
    77 ∷ 66 ∷ 84 ∷ 0 ∷ 1 ∷ 0 ∷ 9
    ∷ 131 ∷ 0 ∷ 0 ∷ 192
    ∷ 131 ∷ 0 ∷ 11 ∷ 35
    ∷ 131 ∷ 0 ∷ 11 ∷ 17
    ∷ 131 ∷ 0 ∷ 11 ∷ 32
    ∷ 131 ∷ 0 ∷ 11 ∷ 1
    ∷ 24 ∷ 0 ∷ 21 ∷ 0
    ∷ 40 ∷ 0 ∷ 21 ∷ 0
    ∷ 147 ∷ 0 ∷ 2 ∷ 0
    ∷ 20 ∷ 0 ∷ 0 ∷ 0 ∷ []

-- the ten lines, each with its line feed
abbrev pub output : List ℕ
output =
    77 ∷ 66 ∷ 84 ∷ 32 ∷ 49 ∷ 32 ∷ 57 ∷ 10
    ∷ 48 ∷ 32 ∷ 67 ∷ 32 ∷ 45 ∷ 45 ∷ 45 ∷ 45 ∷ 32 ∷ 48 ∷ 32 ∷ 48 ∷ 32 ∷ 45 ∷ 45 ∷ 32 ∷ 48 ∷ 10
    ∷ 49 ∷ 32 ∷ 67 ∷ 32 ∷ 45 ∷ 45 ∷ 45 ∷ 45 ∷ 32 ∷ 48 ∷ 32 ∷ 48 ∷ 32 ∷ 45 ∷ 45 ∷ 32 ∷ 48 ∷ 10
    ∷ 50 ∷ 32 ∷ 67 ∷ 32 ∷ 45 ∷ 45 ∷ 45 ∷ 45 ∷ 32 ∷ 48 ∷ 32 ∷ 48 ∷ 32 ∷ 45 ∷ 45 ∷ 32 ∷ 48 ∷ 10
    ∷ 51 ∷ 32 ∷ 67 ∷ 32 ∷ 45 ∷ 45 ∷ 45 ∷ 45 ∷ 32 ∷ 48 ∷ 32 ∷ 48 ∷ 32 ∷ 45 ∷ 45 ∷ 32 ∷ 48 ∷ 10
    ∷ 52 ∷ 32 ∷ 67 ∷ 32 ∷ 45 ∷ 45 ∷ 45 ∷ 45 ∷ 32 ∷ 48 ∷ 32 ∷ 48 ∷ 32 ∷ 45 ∷ 45 ∷ 32 ∷ 48 ∷ 10
    ∷ 53 ∷ 32 ∷ 84 ∷ 32 ∷ 50 ∷ 51 ∷ 50 ∷ 54 ∷ 32 ∷ 48 ∷ 32 ∷ 48 ∷ 32 ∷ 45 ∷ 45 ∷ 32 ∷ 49 ∷ 49 ∷ 10
    ∷ 54 ∷ 32 ∷ 84 ∷ 32 ∷ 50 ∷ 51 ∷ 50 ∷ 54 ∷ 32 ∷ 49 ∷ 32 ∷ 49 ∷ 32 ∷ 45 ∷ 45 ∷ 32 ∷ 49 ∷ 49 ∷ 10
    ∷ 55 ∷ 32 ∷ 67 ∷ 32 ∷ 45 ∷ 45 ∷ 45 ∷ 45 ∷ 32 ∷ 48 ∷ 32 ∷ 49 ∷ 32 ∷ 48 ∷ 49 ∷ 32 ∷ 48 ∷ 10
    ∷ 56 ∷ 32 ∷ 65 ∷ 32 ∷ 45 ∷ 45 ∷ 45 ∷ 45 ∷ 32 ∷ 48 ∷ 32 ∷ 48 ∷ 32 ∷ 48 ∷ 49 ∷ 32 ∷ 48 ∷ 10
    ∷ []

pub sample : printed input ≡ output
unfolding computed trace_computed text_computed
sample = refl
