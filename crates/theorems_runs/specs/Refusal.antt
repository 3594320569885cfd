-- Document 01, "Numbers that say no": which number a cycle is given, and what a refusal leaves.
-- Assumes nothing.
use Rattle.std.specs.Prelude.{◌≡◌, Bool, true, false, not, ◌&&◌, ◌||◌, ℕ}
use Rattle.std.proofs.Math.Option.{Option, none, some}
use Rattle.rules.specs.Bus.{write}
use Rattle.rules.specs.Kinds.{number_in}
use Rattle.rules.specs.Refusals.{damaged, out_of_range}
use Rattle.rules.specs.Replies.{off}
use Rattle.rules.specs.Step.{stepped}
use Rattle.rules.specs.declared.Cycle.{Cycle}
use Rattle.rules.specs.declared.Kind.TheVariants.{Refused}
use Rattle.rules.specs.declared.Stepped.{Stepped}
use Rattle.rules.specs.declared.Unit.{Unit}
use Rattle.theorems_runs.specs.Cycles.{selected_command, read_only, set_or_clear, listed}

-- "3: selected command with a code not listed"
abbrev pub unlisted : Cycle → Bool
unlisted c = selected_command c && not (listed c.offset)

-- "4: write to a read-only register, or read of a set or clear command"
abbrev pub wrong_way : Cycle → Bool
wrong_way c = selected_command c && (write c && read_only c.offset || c.read && set_or_clear c.offset)

-- "Each is given exactly under its condition, and the earliest in the order 2, 1, 3, 4 [..] wins."
abbrev pub earliest : (two one three four : Bool) → Option ℕ
earliest true one three four = some 2
earliest false true three four = some 1
earliest false false true four = some 3
earliest false false false true = some 4
earliest false false false false = none

abbrev pub refusal_of : Unit → Cycle → Option ℕ
refusal_of u c = earliest (damaged u.registers) (out_of_range c) (unlisted c) (wrong_way c)

-- refused neither by 2 nor by 1, which any cycle may meet; 3 and 4 are for selected commands alone
abbrev pub admitted : Unit → Cycle → Bool
admitted u c = not (damaged u.registers) && not (out_of_range c)

-- CLAIM: of every unit and every cycle, the answer gives the number whose condition is met, and no number where none is.
abbrev pub NumbersExactly : Type 0
NumbersExactly = (u : Unit) (c : Cycle) → number_in (stepped u c).answer.kind ≡ refusal_of u c

-- "address and data not driven, SUP off, trap line as the request stood; unit unchanged"; "An address or data byte that isn't driven
-- is marked so and has the value 0."; ticket 5: it carries no distance
pub record AsItStood (u : Unit) (s : Stepped) : Type 0 where
  pub address : s.answer.address ≡ off
  pub sup : s.answer.sup ≡ false
  pub trap : s.answer.trap ≡ u.registers.notes.request
  pub drives : s.answer.drives ≡ false
  pub byte : s.answer.byte ≡ 0
  pub distance : s.answer.distance ≡ 0
  pub unit : s.unit ≡ u

-- CLAIM: a refusal leaves all as it stood, in every unit, damaged or not.
abbrev pub RefusalLeaves : Type 0
RefusalLeaves = (u : Unit) (c : Cycle) (n : ℕ) → (stepped u c).answer.kind ≡ Refused n → AsItStood u (stepped u c)
