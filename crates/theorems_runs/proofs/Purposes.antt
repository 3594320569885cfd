-- What the status asks for, told by its number.
-- Assumes nothing.
use mathlib.Core.Path.{◌≡◌, refl, sym, ◌∙◌, ap}
use mathlib.Core.Bool.{Bool, true, false, cond, ◌&&◌}
use Prim.Native.Nat.{ℕ}
use lib.Dec.{eqb, leb}
use borrow.Author.Tests.{eqb-true}
use Rattle.rules.specs.Status.{purpose_of}
use Rattle.rules.specs.declared.Purpose.{Purpose}
use Rattle.rules.specs.declared.Purpose.TheVariants.{Command, Acknowledge, Memory, Other}

abbrev pub is_command : Purpose → Bool
is_command Command = true
is_command Acknowledge = false
is_command Memory = false
is_command Other = false

abbrev pub is_acknowledge : Purpose → Bool
is_acknowledge Command = false
is_acknowledge Acknowledge = true
is_acknowledge Memory = false
is_acknowledge Other = false

abbrev pub is_memory : Purpose → Bool
is_memory Command = false
is_memory Acknowledge = false
is_memory Memory = true
is_memory Other = false

module _ (s : ℕ) where
  pub command_status : is_command (purpose_of s) ≡ eqb s 3
  unfolding purpose_of
  command_status = go (eqb s 4) (eqb s 3) (leb 8 s && leb s 13) refl refl
    where
      go : (four three memory : Bool) → eqb s 4 ≡ four → eqb s 3 ≡ three
          → is_command (cond four Acknowledge (cond three Command (cond memory Memory Other))) ≡ three
      go true three memory p q = sym (ap (λ (n : ℕ). eqb n 3) (eqb-true s 4 p)) ∙ q
      go false true memory p q = refl
      go false false true p q = refl
      go false false false p q = refl

  pub acknowledge_status : is_acknowledge (purpose_of s) ≡ eqb s 4
  unfolding purpose_of
  acknowledge_status = go (eqb s 4) (eqb s 3) (leb 8 s && leb s 13)
    where
      go : (four three memory : Bool) → is_acknowledge (cond four Acknowledge (cond three Command (cond memory Memory Other))) ≡ four
      go true three memory = refl
      go false true memory = refl
      go false false true = refl
      go false false false = refl

  pub memory_status : is_memory (purpose_of s) ≡ (leb 8 s && leb s 13)
  unfolding purpose_of
  memory_status = go (eqb s 4) (eqb s 3) (leb 8 s && leb s 13) refl refl refl
    where
      low : (n : ℕ) → eqb s n ≡ true → (leb 8 n && leb n 13) ≡ false → false ≡ (leb 8 s && leb s 13)
      low n q e = sym e ∙ sym (ap (λ (k : ℕ). leb 8 k && leb k 13) (eqb-true s n q))

      go : (four three memory : Bool) → eqb s 4 ≡ four → eqb s 3 ≡ three → (leb 8 s && leb s 13) ≡ memory
          → is_memory (cond four Acknowledge (cond three Command (cond memory Memory Other))) ≡ memory
      go true three memory p q m = low 4 p refl ∙ m
      go false true memory p q m = low 3 q refl ∙ m
      go false false true p q m = refl
      go false false false p q m = refl
