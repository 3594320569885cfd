-- No second answer fits what an exported function promises: what a caller learns of two answers to one call makes them equal, and every lent
-- buffer and count too. A buffer counts by its contents and a count by its value, wherever they stand. The laws of the other public calls stand
-- in `theorems_promises`; those of the exported functions, which no proof uses, stand here, so that an edit can weaken a contract beside them.
-- Assumes nothing.
use mathlib.Core.Path.{◌≡◌}
use Prim.Native.Nat.{ℕ}
use contract.Lifetimes.{Lfts}
use borrow.Fn.Kinds.{Dens, ended_of}
use denote.Triple.Clauses.{AtExit}
use Rattle.distantarm.proofs.distantarm_power_on.Kinds as distantarm-power-on-k
use Rattle.distantarm.proofs.distantarm_power_on.Reads as distantarm-power-on
use Rattle.distantarm.proofs.distantarm_cycle.Kinds as distantarm-cycle-k
use Rattle.distantarm.proofs.distantarm_cycle.Reads as distantarm-cycle
use Rattle.distantarm.proofs.distantarm_board_cycle.Kinds as distantarm-board-cycle-k
use Rattle.distantarm.proofs.distantarm_board_cycle.Reads as distantarm-board-cycle
use Rattle.distantarm.proofs.distantarm_record_start.Kinds as distantarm-record-start-k
use Rattle.distantarm.proofs.distantarm_record_start.Reads as distantarm-record-start
use Rattle.distantarm.proofs.distantarm_record.Kinds as distantarm-record-k
use Rattle.distantarm.proofs.distantarm_record.Reads as distantarm-record
use Rattle.distantarm.proofs.distantarm_list.Kinds as distantarm-list-k
use Rattle.distantarm.proofs.distantarm_list.Reads as distantarm-list

pub distantarm_power_on_only : (κs : Lfts 1) (a b : Dens κs distantarm-power-on-k.ps) (x y : ℕ)
    (e f : AtExit (ended_of 1 distantarm-power-on-k.ps distantarm-power-on-k.r) κs)
    → a.0.now ≡ b.0.now
    → distantarm-power-on.Learnt κs a x e → distantarm-power-on.Learnt κs b y f
    → (x ≡ y) × (e.0.now ≡ f.0.now)
distantarm_power_on_only κs a b x y e f s p q = (cc, cc)

-- the unit, the packed answer, and the cycle
pub distantarm_cycle_only : (κs : Lfts 2) (a b : Dens κs distantarm-cycle-k.ps) (x y : ℕ)
    (e f : AtExit (ended_of 2 distantarm-cycle-k.ps distantarm-cycle-k.r) κs)
    → (a.0.now ≡ b.0.now) × (a.1.0.now ≡ b.1.0.now) × (a.1.1 ≡ b.1.1)
    → distantarm-cycle.Learnt κs a x e → distantarm-cycle.Learnt κs b y f
    → (x ≡ y) × (e.0.now ≡ f.0.now) × (e.1.0.now ≡ f.1.0.now)
distantarm_cycle_only κs a b x y e f s p q = (cc, cc, cc)

-- the units, the packed answer, and the count with the cycle and its selects
pub distantarm_board_cycle_only : (κs : Lfts 2) (a b : Dens κs distantarm-board-cycle-k.ps) (x y : ℕ)
    (e f : AtExit (ended_of 2 distantarm-board-cycle-k.ps distantarm-board-cycle-k.r) κs)
    → (a.0.now ≡ b.0.now) × (a.1.0.now ≡ b.1.0.now) × (a.1.1 ≡ b.1.1)
    → distantarm-board-cycle.Learnt κs a x e → distantarm-board-cycle.Learnt κs b y f
    → (x ≡ y) × (e.0.now ≡ f.0.now) × (e.1.0.now ≡ f.1.0.now)
distantarm_board_cycle_only κs a b x y e f s p q = (cc, cc, cc)

-- the buffer alone: what the count was before the start is looked at by nothing
pub distantarm_record_start_only : (κs : Lfts 2) (a b : Dens κs distantarm-record-start-k.ps) (x y : ℕ)
    (e f : AtExit (ended_of 2 distantarm-record-start-k.ps distantarm-record-start-k.r) κs)
    → a.0.now ≡ b.0.now
    → distantarm-record-start.Learnt κs a x e → distantarm-record-start.Learnt κs b y f
    → (x ≡ y) × (e.0.now ≡ f.0.now) × (e.1.0.now ≡ f.1.0.now)
distantarm_record_start_only κs a b x y e f s p q = (cc, cc, cc)

-- the buffer, the count, and the cycle
pub distantarm_record_only : (κs : Lfts 2) (a b : Dens κs distantarm-record-k.ps) (x y : ℕ)
    (e f : AtExit (ended_of 2 distantarm-record-k.ps distantarm-record-k.r) κs)
    → (a.0.now ≡ b.0.now) × (a.1.0.now ≡ b.1.0.now) × (a.1.1 ≡ b.1.1)
    → distantarm-record.Learnt κs a x e → distantarm-record.Learnt κs b y f
    → (x ≡ y) × (e.0.now ≡ f.0.now) × (e.1.0.now ≡ f.1.0.now)
distantarm_record_only κs a b x y e f s p q = (cc, cc, cc)

-- the trace, and the buffer of the text
pub distantarm_list_only : (κs : Lfts 2) (a b : Dens κs distantarm-list-k.ps) (x y : ℕ)
    (e f : AtExit (ended_of 2 distantarm-list-k.ps distantarm-list-k.r) κs)
    → (a.0.now ≡ b.0.now) × (a.1.0.now ≡ b.1.0.now)
    → distantarm-list.Learnt κs a x e → distantarm-list.Learnt κs b y f
    → (x ≡ y) × (e.1.0.now ≡ f.1.0.now)
distantarm_list_only κs a b x y e f s p q = (cc, cc)
