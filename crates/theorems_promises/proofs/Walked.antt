-- No second answer, of the contracts that are proved by hand: what two answers to one call ensure makes them equal. The law is about the
-- exported clauses, in every model of the logic. Assumes nothing.
use mathlib.Core.Path.{◌≡◌, subst}
use seplogic.Ra.Ura.{Ura}
use base.Logic.{SProp, ent, sep, fst∗, snd∗}
use prog.Memory.{Memory}
use prog.Routine.{Routine}
use types.Logic.{Logic}
use contract.Lifetimes.{Lfts}
use contract.Monad.{Fun, fact, fact_i, fact_use}
use denote.Triple.Clauses.{Ended, Clauses, AtExit}
use denote.Triple.Entry.{Args, Res}
use Rattle.unit_lent.specs.contracts.step_in_place as step-in-place
use Rattle.trace_reader.specs.Reading.{Answers}
use Rattle.trace_reader.specs.declared.Reader.{Reader}
use Rattle.trace_reader.proofs.Answers.{answers_only}
use Rattle.trace_reader.specs.contracts.start as start
use Rattle.trace_reader.specs.contracts.next as next
use Rattle.trace_reader.specs.contracts.shown as shown

both : {M : Type 1} (𝓤 : Ura M) {φ ψ χ : Type 0} → (φ → ψ → χ) → ent 𝓤 (sep 𝓤 (fact 𝓤 φ) (fact 𝓤 ψ)) (fact 𝓤 χ)
both 𝓤 {φ} {ψ} {χ} h =
    fact_use 𝓤 φ (fst∗ 𝓤 (fact 𝓤 φ) (fact 𝓤 ψ)) (λ p.
    fact_use 𝓤 ψ (snd∗ 𝓤 (fact 𝓤 φ) (fact 𝓤 ψ)) (λ q.
    fact_i 𝓤 χ (sep 𝓤 (fact 𝓤 φ) (fact 𝓤 ψ)) (h p q)))

module _ {M : Type 1} (𝓤 : Ura M) where
  -- two answers to one call, each with what stands in the lent places after it
  abbrev pub Two : (T : Ended) → Clauses 𝓤 T
      → ((κs : Lfts T.signature.lifetimes) (a b : Args T.signature κs) → Type 0)
      → ((κs : Lfts T.signature.lifetimes) (x y : Res T.signature κs) (e f : AtExit T κs) → Type 0) → Type 1
  Two T c Alike Same =
      (κs : Lfts T.signature.lifetimes) (a b : Args T.signature κs) (g : (c κs a).ghost) (h : (c κs b).ghost)
      (x y : Res T.signature κs) (e f : AtExit T κs) → Alike κs a b
      → ent 𝓤 (sep 𝓤 ((c κs a).ensures g x e) ((c κs b).ensures h y f)) (fact 𝓤 (Same κs x y e f))

module _ {M : Type 1} {𝓤 : Ura M} (𝓛 : Logic 𝓤) (mem : Memory → SProp 𝓤) (run : Routine → Fun 𝓤) where
  pub step_in_place_only : Two 𝓤 step-in-place.ended (step-in-place.clauses 𝓛 mem run)
      (λ κs a b. (a.0.now ≡ b.0.now) × (a.1.0 ≡ b.1.0))
      (λ κs x y e f. (x ≡ y) × (e.0.now ≡ f.0.now))
  step_in_place_only κs a b g h x y e f s = both 𝓤 (λ p q. (cc, cc))

  pub start_only : Two 𝓤 start.ended (start.clauses 𝓛 mem run) (λ κs a b. a ≡ b) (λ κs x y e f. x ≡ y)
  start_only κs a b g h x y e f s = both 𝓤 (λ p q. cc)

  pub next_only : Two 𝓤 next.ended (next.clauses 𝓛 mem run)
      (λ κs a b. a.0.now ≡ b.0.now)
      (λ κs x y e f. (x ≡ y) × (e.0.now ≡ f.0.now))
  next_only κs a b g h x y e f s =
      both 𝓤 (λ p q. (
        answers_only b.0.now.trace.now b.0.now.next x y
            (subst (λ (r : Reader). Answers r.trace.now r.next x) s p.0) q.0,
        cc,
      ))

  pub shown_only : Two 𝓤 shown.ended (shown.clauses 𝓛 mem run)
      (λ κs a b. a ≡ b)
      (λ κs x y e f. (x.now ≡ y.now) × (x.ref_ptr ≡ y.ref_ptr))
  shown_only κs a b g h x y e f s = both 𝓤 (λ p q. (cc, cc))
