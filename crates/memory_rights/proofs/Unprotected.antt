-- Where no protection flag stands, no right is violated.
-- Assumes nothing.
use mathlib.Core.Path.{◌≡◌, sym, ◌∙◌}
use mathlib.Core.Bool.{false, true}
use Prim.Native.Nat.{ℕ, ◌/◌, ◌%◌}
use native.Mathlib.Omega.{arith}
use lib.Bits.{bit_and, and_mask}
use borrow.Author.Tests.{eqb-true, ne_eqb}
use Rattle.rules.specs.Checks.{rights_of}
use Rattle.rules.specs.Flags.{has, lacks}
use Rattle.rules.specs.declared.Cycle.{Cycle}
use Rattle.rules.proofs.FlagLaws.{has-bit}

pub unprotected : (a : ℕ) (c : Cycle) → lacks a 31 ≡ true → rights_of a c ≡ 0
unfolding rights_of
unprotected a c h =
    let z : a % 32 ≡ 0 = sym (and_mask a 5) ∙ eqb-true (bit_and a 31) 0 h in
    let rd : has a 1 ≡ false = has-bit a 0 ∙ ne_eqb (a / 1 % 2) 1 (λ e. omega (arith, z, e)) in
    let sys : has a 2 ≡ false = has-bit a 1 ∙ ne_eqb (a / 2 % 2) 1 (λ e. omega (arith, z, e)) in
    let cpui : has a 4 ≡ false = has-bit a 2 ∙ ne_eqb (a / 4 % 2) 1 (λ e. omega (arith, z, e)) in
    let exc : has a 8 ≡ false = has-bit a 3 ∙ ne_eqb (a / 8 % 2) 1 (λ e. omega (arith, z, e)) in
    let dmai : has a 16 ≡ false = has-bit a 4 ∙ ne_eqb (a / 16 % 2) 1 (λ e. omega (arith, z, e)) in
    simp (rd, sys, cpui, exc, dmai)
