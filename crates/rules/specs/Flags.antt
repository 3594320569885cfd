-- Flags of a byte, tested, set and cleared by masks. `FlagLaws` (proofs/) shows that a mask of one bit asks for that bit.
use Rattle.std.specs.Prelude.{Bool, not, cond, ℕ, ◌-◌, eqb}
use Rattle.std.specs.Int.Bits.{bit_and, bit_or}

-- a flag of the mask m stands in x
abbrev pub has : ℕ → ℕ → Bool
has x m = not (eqb (bit_and x m) 0)

-- no flag of the mask m stands in x
abbrev pub lacks : ℕ → ℕ → Bool
lacks x m = eqb (bit_and x m) 0

-- x with the flags of m set
abbrev pub with : ℕ → ℕ → ℕ
with x m = bit_or x m

-- the byte x with the flags of m cleared
abbrev pub without : ℕ → ℕ → ℕ
without x m = bit_and x (255 - m)

-- the flags of m where the condition holds, else none
abbrev pub flag_if : Bool → ℕ → ℕ
flag_if on m = cond on m 0
