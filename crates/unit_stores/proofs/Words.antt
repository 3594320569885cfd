-- Two bytes are one number of 16 bits, and that number is those two bytes.
-- Assumes nothing.
use mathlib.Core.Path.{◌≡◌}
use Prim.Native.Nat.{ℕ, ◌<◌}
use native.Mathlib.Nat.{div-add-mod'}
use native.Mathlib.Omega.{arith}
use Rattle.unit_stores.specs.Word.{byte_values, word, high_of, low_of}

pub word-found : (n : ℕ) → word (high_of n) (low_of n) ≡ n
word-found n = div-add-mod' n byte_values

pub high_back : (high low : ℕ) → low < byte_values → high_of (word high low) ≡ high
high_back high low h = omega arith

pub low_back : (high low : ℕ) → low < byte_values → low_of (word high low) ≡ low
low_back high low h = omega arith
