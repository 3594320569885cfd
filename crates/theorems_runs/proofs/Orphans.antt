-- No cycle makes an orphan; every cycle on one is refused with 2; and what rules say of orphans is not seen.
-- Assumes nothing.
use mathlib.Core.Path.{◌≡◌, refl, ◌∙◌, ap}
use mathlib.Core.Bool.{Bool, true, false, ◌&&◌, ◌||◌, beq, or-true, true≢false}
use mathlib.Core.List.{List, [], ◌∷◌}
use Prim.Native.Nat.{ℕ, ◌-◌, ◌%◌, ◌<◌}
use native.Mathlib.Omega.{arith}
use lib.Bits.{bit_and}
use lib.Dec.{eqb}
use Rattle.rules.specs.Flags.{has, lacks, with}
use Rattle.rules.specs.Masks.{SWW, FATL, PRIMARY}
use Rattle.rules.specs.PowerOn.{power_on}
use Rattle.rules.specs.Refusals.{orphan, damaged}
use Rattle.rules.specs.Replies.{plain, refused}
use Rattle.rules.specs.Runs.{answers}
use Rattle.rules.specs.Status.{quieted}
use Rattle.rules.specs.Recording.{first_entry, added, raised, recorded}
use Rattle.rules.specs.Memory.{begun, noted, resumed}
use Rattle.rules.specs.Commands.{restarted}
use Rattle.rules.specs.Step.{decided, decision, after, stepped}
use Rattle.rules.specs.declared.Answer.{Answer}
use Rattle.rules.specs.declared.Cycle.{Cycle}
use Rattle.rules.specs.declared.Registers.{Registers}
use Rattle.rules.specs.declared.Unit.{Unit}
use Rattle.theorems_runs.specs.Orphans.{vtr_of, NoOrphan, OrphanRefused, ZeroExactly, OrphansUnseen}
use Rattle.theorems_runs.proofs.Bits.{has_and, lacks_or, lacks_and, lacks_small}
use Rattle.theorems_runs.proofs.Runs.{always}
use Rattle.theorems_runs.proofs.Tests.{at, same}
use Rattle.theorems_runs.proofs.Ways.{Became, stayed, controls, empties, clears, restarts, quiets, resumes, begins}
use Rattle.theorems_runs.proofs.Ways.{records, by_row, made}

-- no orphan stands
abbrev pub Rooted : Registers → Type 0
Rooted r = orphan r.faults.vtr ≡ false

-- a VTR with a primary flag is none, whatever is added to it
or-rooted : (a b : ℕ) → (lacks a PRIMARY && lacks b PRIMARY) ≡ false → orphan (with a b) ≡ false
or-rooted a b h = ap (λ (none : Bool). none && (has (with a b) SWW || has (with a b) FATL)) (lacks_or a b ∙ h)

-- fewer flags beside the same primary flags
fewer : (p s f x y : Bool) → (p && (s || f)) ≡ false → (p && (s && x || f && y)) ≡ false
fewer true true f x y e = absurd (true≢false e)
fewer true false true x y e = absurd (true≢false e)
fewer true false false x y e = refl
fewer false s f x y e = refl

and-rooted : (v m : ℕ) → m % 64 ≡ 63 → orphan v ≡ false → orphan (bit_and v m) ≡ false
and-rooted v m h e =
    rw (lacks_and v m h, has_and 6 v m, has_and 7 v m) (fewer (lacks v PRIMARY) (has v SWW) (has v FATL) (has m SWW) (has m FATL) e)

recorded_rooted : (r : Registers) (c : Cycle) (event : ℕ) → event < 64 → Rooted r → Rooted (recorded r c event)
unfolding first_entry added raised
recorded_rooted r c event small h =
    let v : ℕ = r.faults.vtr in
    by_row Rooted r c event h
    (λ n p. or-rooted v event (rw (p, lacks_small event small) n))
    (λ p. or-rooted v event (rw p)) (λ flag p. or-rooted v flag (rw p))

pub became_rooted : {back wiped : Bool} {c : Cycle} {r s : Registers} → Became back wiped c r s → Rooted r → Rooted s
unfolding restarted quieted resumed begun noted
became_rooted stayed h = h
became_rooted (controls k f) h = h
became_rooted (empties w) h = refl
became_rooted {r} (clears flag f) h = and-rooted r.faults.vtr (255 - flag) f h
became_rooted (restarts mr f w) h = refl
became_rooted (quiets f) h = h
became_rooted resumes h = h
became_rooted (begins starts) h = h
became_rooted {c} {r} (records starts event small stores holds w) h = recorded_rooted (begun r starts) c event small h

rooted_after : (u : Unit) (c : Cycle) → Rooted u.registers → Rooted (stepped u c).unit.registers
unfolding after
rooted_after u c = became_rooted (made u c).became

pub no_orphan : NoOrphan
no_orphan cs = always (λ u. Rooted u.registers) rooted_after power_on cs refl

-- Damage

is_damaged : (u : Unit) → orphan (vtr_of u) ≡ true → damaged u.registers ≡ true
unfolding damaged
is_damaged u h = simp (h, or-true)

pub orphan-refused : OrphanRefused
unfolding decision decided refused plain
orphan-refused u c h = rw (is_damaged u h)

-- What is not seen

-- an orphan, or the two tests alike: computed of each byte
abbrev alike : (vtr : ℕ) → Bool
alike v = orphan v || beq (lacks v PRIMARY) (eqb v 0)

pub zero_exactly : ZeroExactly
zero_exactly v small h =
    let e : alike v ≡ true = at 256 alike refl v (omega arith) in
    same _ _ (rw h at e)

pub orphans_unseen : OrphansUnseen
unfolding answers
orphans_unseen other e u [] h = refl
orphans_unseen other e u (c ∷ cs) h =
    rw (e u c h) (ap (λ (l : List Answer). (stepped u c).answer ∷ l) (orphans_unseen other e (stepped u c).unit cs (rooted_after u c h)))
