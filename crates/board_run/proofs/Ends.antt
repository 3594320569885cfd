-- How many records are run.
-- Assumes nothing.
use mathlib.Core.Path.{◌≡◌, refl, ap, ◌∙◌}
use mathlib.Core.Bool.{Bool, true, false, cond}
use Prim.Native.Nat.{ℕ, ◌/◌, ◌<◌, ◌≤◌}
use native.Mathlib.Omega.{arith}
use lib.Dec.{ltb}
use borrow.Author.Tests.{ltb-true, ltb-false}
use Rattle.std.specs.Prelude.{min}
use Rattle.board_packed.specs.BoardPacked.{board_width}
use Rattle.board_run.specs.BoardRun.{record_size, most, lesser, cycles_for}

pub lesser_is : (a b : ℕ) → min b a ≡ lesser a b
lesser_is a b = go (ltb a b) refl
  where
    go : (t : Bool) → ltb a b ≡ t → min b a ≡ cond t a b
    go true e = let h : a < b = ltb-true a b e in omega (arith, h)
    go false e = let h : b ≤ a = ltb-false a b e in omega (arith, h)

pub cycles_are : (records buffer : ℕ) → min (min (records / record_size) (buffer / board_width)) most ≡ cycles_for records buffer
cycles_are records buffer =
    lesser_is most (min (records / record_size) (buffer / board_width)) ∙ ap (lesser most) (lesser_is (buffer / board_width) (records / record_size))
