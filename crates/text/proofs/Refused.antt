-- "A refused cycle leaves the run going, and its other fields are ----, 0, the request, --."; ticket 5: and 0
-- Assumes nothing.
use mathlib.Core.Path.{◌≡◌, refl}
use mathlib.Core.List.{[], ◌∷◌, ◌++◌}
use Prim.Native.Nat.{ℕ}
use Rattle.text.specs.Digits.{decimal}
use Rattle.text.specs.Fields.{opening, bit_text, address_text, byte_text, signals, ending}
use Rattle.rules.specs.Replies.{plain, refused}
use Rattle.rules.specs.declared.Registers.{Registers}
use Rattle.text.specs.Text.{answer_line}

-- the line of a refused cycle: 88 is X, 45 a dash, 48 is 0, 32 a space and 10 a line feed
pub refused-line : (n number : ℕ) (r : Registers) → answer_line n (refused number r).answer
    ≡ opening n 88 number ++ (45 ∷ 45 ∷ 45 ∷ 45 ∷ 32 ∷ 48 ∷ 32 ∷ bit_text r.notes.request ∷ 32 ∷ 45 ∷ 45 ∷ 32 ∷ 48 ∷ 10 ∷ [])
unfolding answer_line address_text byte_text signals ending decimal plain refused
refused-line n number r = refl
