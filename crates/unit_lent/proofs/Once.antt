-- No second answer fits what `step_by_lending` promises: what a caller learns of two answers to one call makes them equal. No other
-- crate's proof uses this contract, so its law stands here, where an edit can weaken the contract beside it.
-- Assumes nothing.
use mathlib.Core.Path.{◌≡◌}
use contract.Lifetimes.{Lfts}
use borrow.Fn.Kinds.{Dens, ended_of}
use denote.Triple.Clauses.{AtExit}
use Rattle.rules.specs.declared.Stepped.{Stepped}
use Rattle.unit_lent.proofs.step_by_lending.Kinds as step-by-lending-k
use Rattle.unit_lent.proofs.step_by_lending.Reads as step-by-lending

pub step_by_lending_only : (κs : Lfts 0) (a b : Dens κs step-by-lending-k.ps) (x y : Stepped)
    (e f : AtExit (ended_of 0 step-by-lending-k.ps step-by-lending-k.r) κs)
    → a ≡ b → step-by-lending.Learnt κs a x e → step-by-lending.Learnt κs b y f → x ≡ y
step_by_lending_only κs a b x y e f s p q = cc
