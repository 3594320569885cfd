-- No second answer fits what `step_board` promises: what a caller learns of two answers to one call makes them equal. No other crate's proof
-- uses this contract, so its law stands here, where an edit can weaken the contract beside it.
-- Assumes nothing.
use mathlib.Core.Path.{◌≡◌}
use contract.Lifetimes.{Lfts}
use borrow.Fn.Kinds.{Dens, ended_of}
use denote.Triple.Clauses.{AtExit}
use Rattle.board_rules.specs.declared.BoardStepped.{BoardStepped}
use Rattle.board_step.proofs.step_board.Kinds as step-board-k
use Rattle.board_step.proofs.step_board.Reads as step-board

pub step_board_only : (κs : Lfts 0) (a b : Dens κs step-board-k.ps) (x y : BoardStepped)
    (e f : AtExit (ended_of 0 step-board-k.ps step-board-k.r) κs)
    → a ≡ b → step-board.Learnt κs a x e → step-board.Learnt κs b y f → x ≡ y
step_board_only κs a b x y e f s p q = cc
