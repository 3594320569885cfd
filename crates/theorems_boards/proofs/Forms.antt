-- What the answer of a single unit looks like that does not refuse: when it drives the address, when it is a command's, a reset's or an
-- acknowledge's, and that a board of it alone answers it.
-- Assumes nothing.
use mathlib.Core.Path.{◌≡◌, refl, sym, ◌∙◌, ap}
use mathlib.Core.Bool.{Bool, true, false, not, cond, ◌&&◌, ◌||◌, beq, or-false}
use mathlib.Core.List.{[], ◌∷◌}
use mathlib.Core.Option.{none}
use Prim.Native.Nat.{ℕ}
use native.Mathlib.Omega.{arith}
use lib.Bits.{or_zero_r}
use lib.Dec.{eqb}
use Rattle.rules.specs.Bus.{cpu}
use Rattle.rules.specs.Flags.{has}
use Rattle.rules.specs.Kinds.{letter_of, number_in}
use Rattle.rules.specs.Masks.{NMS, MST, URS, TRNS, MSEN, UPPER}
use Rattle.rules.specs.Refusals.{damaged, out_of_range}
use Rattle.rules.specs.Replies.{off}
use Rattle.rules.specs.Status.{purpose_of}
use Rattle.rules.specs.Step.{stepped}
use Rattle.rules.specs.declared.Answer.{Answer}
use Rattle.rules.specs.declared.Cycle.{Cycle}
use Rattle.rules.specs.declared.Kind.{Kind}
use Rattle.rules.specs.declared.Purpose.{Purpose}
use Rattle.rules.specs.declared.Unit.{Unit}
use Rattle.rules.specs.declared.Kind.TheVariants as kind
use Rattle.rules.specs.declared.Purpose.TheVariants as purpose
use Rattle.theorems_runs.specs.Answers.{awaited, kind_by, driven, block_driven, segment_of, blocks_left}
use Rattle.theorems_runs.specs.Cycles.{selected_command, memory_cycle, acknowledge, passing_conditions, translation_conditions}
use Rattle.theorems_runs.specs.Refusal.{earliest, unlisted, wrong_way, admitted, refusal_of}
use Rattle.theorems_runs.proofs.Answers.{kind_exactly, address_exactly, distance_exactly}
use Rattle.theorems_runs.proofs.Refusal.{numbers_exactly}
use Rattle.theorems_runs.proofs.Purposes.{is_command, is_memory, is_acknowledge, acknowledge_status, command_status, memory_status}
use Rattle.board_rules.specs.Board.{is_kind, kind_by as joinedBy, some_of, on_lines, silent, driver, joined_byte, kind_of, joined}
use Rattle.theorems_boards.specs.Numbers.{may_drive}

abbrev pub Accepted : Answer → Type 0
Accepted x = number_in x.kind ≡ none

pub record Form (drives commands restarts replies : Bool) (x : Answer) : Type 0 where
  pub address : on_lines x ≡ drives
  pub command : is_kind kind.Command x ≡ commands
  pub resets : is_kind kind.Reset x ≡ restarts
  pub acks : is_kind kind.Acknowledge x ≡ replies
  pub one : (joined (x ∷ [])).answer ≡ x

one_of : (x : Answer) → kind_of (x ∷ []) ≡ x.kind → (driver (silent kind.Ignored false) (x ∷ [])).address ≡ x.address
    → (driver (silent kind.Ignored false) (x ∷ [])).distance ≡ x.distance → (joined (x ∷ [])).answer ≡ x
unfolding joined some_of joined_byte
one_of x k l n = rw (k, l, n, or-false x.sup, or-false x.trap, or-false x.drives, or_zero_r x.byte)

-- a kind's letter is that of another
abbrev is_of : Kind → Kind → Bool
is_of k l = eqb (letter_of l) (letter_of k)

-- what a board of one unit makes of a kind
abbrev kind_alone : (drives : Bool) → Kind → Kind
kind_alone d k =
    joinedBy (is_of kind.Reset k || false) (is_of kind.Acknowledge k || false) (is_of kind.Command k || false)
    (cond d k (cond (is_of kind.Aborted k || false) kind.Aborted kind.Ignored))

module _ (x : Answer) (k : Kind) (e : x.kind ≡ k) where
  undriven_form : x.address ≡ off → x.distance ≡ 0 → kind_alone false k ≡ k
      → Form false (is_of kind.Command k) (is_of kind.Reset k) (is_of kind.Acknowledge k) x
  unfolding kind_of some_of driver
  undriven_form l n q = record {
    address = rw l;
    command = rw e;
    resets = rw e;
    acks = rw e;
    one = one_of x (rw (l, e) q) (rw l) (rw (l, n));
  }

  driven_form : (b : ℕ) → x.address ≡ driven b → kind_alone true k ≡ k
      → Form true (is_of kind.Command k) (is_of kind.Reset k) (is_of kind.Acknowledge k) x
  unfolding kind_of some_of driver
  driven_form b l q = record {
    address = rw l;
    command = rw e;
    resets = rw e;
    acks = rw e;
    one = one_of x (rw (l, e) q) (rw l) (rw l);
  }

-- the answer, by what the cycle is: the reset line, the purpose of its status, and of a memory cycle its way
form_of : (x : Answer) (r : Bool) (p : Purpose) (y z w t q : Bool) (b n : ℕ)
    → x.kind ≡ kind_by none r (not r && is_acknowledge p && y) (not r && is_command p && z) (not r && is_memory p) w t q
    → x.address ≡ cond (not r && is_memory p && (q || t)) (driven b) off
    → x.distance ≡ cond (not r && is_memory p && not w && t) n 0
    → Form (not r && is_memory p && (q || t)) (not r && is_command p && z) r (not r && is_acknowledge p && y) x
form_of x true p y z w t q b n e l m = undriven_form x kind.Reset e l m refl
form_of x false purpose.Acknowledge true z w t q b n e l m = undriven_form x kind.Acknowledge e l m refl
form_of x false purpose.Acknowledge false z w t q b n e l m = undriven_form x kind.Ignored e l m refl
form_of x false purpose.Command y true w t q b n e l m = undriven_form x kind.Command e l m refl
form_of x false purpose.Command y false w t q b n e l m = undriven_form x kind.Ignored e l m refl
form_of x false purpose.Memory y z true t true b n e l m = driven_form x kind.Aborted e b l refl
form_of x false purpose.Memory y z true true false b n e l m = driven_form x kind.Aborted e b l refl
form_of x false purpose.Memory y z true false false b n e l m = undriven_form x kind.Aborted e l m refl
form_of x false purpose.Memory y z false true true b n e l m = driven_form x kind.Translated e b l refl
form_of x false purpose.Memory y z false true false b n e l m = driven_form x kind.Translated e b l refl
form_of x false purpose.Memory y z false false true b n e l m = driven_form x kind.Passed e b l refl
form_of x false purpose.Memory y z false false false b n e l m = undriven_form x kind.Ignored e l m refl
form_of x false purpose.Other y z w t q b n e l m = undriven_form x kind.Ignored e l m refl

-- passed or translated
pub may_drive_lem : (mr : ℕ) (c : Cycle) → (passing_conditions mr || translation_conditions mr c) ≡ may_drive mr c
may_drive_lem mr c =
    go (has mr MSEN) (has mr TRNS) (beq (has mr URS) (has c.segment UPPER)) (has mr MST) (beq (has mr NMS) c.normal)
  where
    go : (on translates half multi mode : Bool)
        → (on && not translates || on && translates && half && (not multi || mode)) ≡ (on && (not translates || half && (not multi || mode)))
    go true true half multi mode = refl
    go true false half multi mode = refl
    go false translates half multi mode = refl

-- a unit that gives no number was refused neither by 2 nor by 1
pub earliest_none : (two one three four : Bool) → earliest two one three four ≡ none → (not two && not one) ≡ true
earliest_none true one three four e = let z : ◌≡◌ {A = ℕ} 0 1 = cc in absurd (omega arith)
earliest_none false true three four e = let z : ◌≡◌ {A = ℕ} 0 1 = cc in absurd (omega arith)
earliest_none false false three four e = refl

pub accepted-admitted : (u : Unit) (c : Cycle) → Accepted (stepped u c).answer → admitted u c ≡ true
accepted-admitted u c h =
    earliest_none (damaged u.registers) (out_of_range c) (unlisted c) (wrong_way c) (sym (numbers_exactly u c) ∙ h)

pub accepted_form : (u : Unit) (c : Cycle) → Accepted (stepped u c).answer
    → Form (memory_cycle c && may_drive u.registers.control.mr c) (selected_command c) c.reset (acknowledge c) (stepped u c).answer
accepted_form u c h =
    let mr : ℕ = u.registers.control.mr in
    let none-met : refusal_of u c ≡ none = sym (numbers_exactly u c) ∙ h in
    let known : Form (memory_cycle c && (passing_conditions mr || translation_conditions mr c)) (selected_command c) c.reset (acknowledge c)
    (stepped u c).answer = go none-met (accepted-admitted u c h) in
    rw (← may_drive_lem mr c) known
  where
    go : refusal_of u c ≡ none → admitted u c ≡ true
        → Form (memory_cycle c && (passing_conditions u.registers.control.mr || translation_conditions u.registers.control.mr c))
        (selected_command c) c.reset (acknowledge c) (stepped u c).answer
    go q a =
        rw (← command_status c.status, ← memory_status c.status, ← acknowledge_status c.status)
        (form_of (stepped u c).answer c.reset (purpose_of c.status) (cpu c) (cpu c && c.select) (awaited u c)
        (translation_conditions u.registers.control.mr c) (passing_conditions u.registers.control.mr) (block_driven u c)
        (blocks_left (segment_of u c) c.offset)
        (rw (command_status c.status, memory_status c.status, acknowledge_status c.status, ← q) (kind_exactly u c))
        (rw (memory_status c.status)
        (address_exactly u c
        ∙ ap (λ (t : Bool). cond (t && memory_cycle c
        && (passing_conditions u.registers.control.mr || translation_conditions u.registers.control.mr c))
        (driven (block_driven u c)) off) a))
        (rw (memory_status c.status)
        (distance_exactly u c
        ∙ ap (λ (t : Bool). cond (t && memory_cycle c && not (awaited u c) && translation_conditions u.registers.control.mr c)
        (blocks_left (segment_of u c) c.offset) 0) a)))
