-- No second answer fits what `read_at` and `shown_at` promise: what a caller learns of two answers to one call makes them equal. A trace
-- counts by its bytes, wherever it stands. No other crate's proof uses these contracts, so their laws stand here, where an edit can weaken
-- a contract beside them.
-- Assumes nothing.
use mathlib.Core.List.{List}
use mathlib.Core.Path.{◌≡◌, subst}
use Prim.Native.Nat.{ℕ}
use contract.Lifetimes.{Lfts}
use borrow.Fn.Kinds.{Dens, ended_of}
use denote.Ref.{Bor}
use denote.Triple.Clauses.{AtExit}
use Rattle.trace_reader.specs.Reading.{Finds}
use Rattle.trace_reader.specs.declared.Found.{Found}
use Rattle.trace_reader.proofs.Answers.{finds_only}
use Rattle.trace_reader.proofs.read_at.Kinds as read-at-k
use Rattle.trace_reader.proofs.read_at.Reads as read_at
use Rattle.trace_reader.proofs.shown_at.Kinds as shown-at-k
use Rattle.trace_reader.proofs.shown_at.Reads as shown-at

pub read_at_only : (κs : Lfts 1) (a b : Dens κs read-at-k.ps) (x y : Found) (e f : AtExit (ended_of 1 read-at-k.ps read-at-k.r) κs)
    → (a.0.now ≡ b.0.now) × (a.1.0 ≡ b.1.0)
    → read_at.Learnt κs a x e → read_at.Learnt κs b y f
    → x ≡ y
read_at_only κs a b x y e f s p q =
    let p' : Finds b.0.now b.1.0 x =
    subst (λ (n : ℕ). Finds b.0.now n x) s.1 (subst (λ (t : List ℕ). Finds t a.1.0 x) s.0 p) in
    finds_only b.0.now b.1.0 x y p' q

-- the part's bytes, and its place where the trace stands in one place
pub shown_at_only : (κs : Lfts 1) (a b : Dens κs shown-at-k.ps) (x y : Bor (List ℕ))
    (e f : AtExit (ended_of 1 shown-at-k.ps shown-at-k.r) κs)
    → (a.0.now ≡ b.0.now) × (a.1.0 ≡ b.1.0)
    → shown-at.Learnt κs a x e → shown-at.Learnt κs b y f
    → (x.now ≡ y.now) × (a.0.ref_ptr ≡ b.0.ref_ptr → x.ref_ptr ≡ y.ref_ptr)
shown_at_only κs a b x y e f s p q = (cc, λ same. cc)
