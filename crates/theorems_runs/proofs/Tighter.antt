-- Demand 3, and from a weaker start: what holds with no stop (`Unstopped`), cut off at the stop.
-- Assumes nothing.
use mathlib.Core.Path.{◌≡◌, refl, ap, subst}
use mathlib.Core.Bool.{Bool, true, false, cond, ◌||◌}
use mathlib.Core.List.{List, [], ◌∷◌}
use Rattle.rules.specs.Runs.{answers}
use Rattle.rules.specs.Step.{stepped}
use Rattle.rules.specs.declared.Cycle.{Cycle}
use Rattle.rules.specs.declared.Control.{Control}
use Rattle.rules.specs.declared.Unit.{Unit}
use Rattle.theorems_runs.specs.Answers.{aborted_fetch}
use Rattle.theorems_runs.specs.Narrower.{WritesNone, Level, Narrower, AlongBoth, NarrowerKept, InStepKept, NarrowerCovers, WritesCover}
use Rattle.theorems_runs.specs.Sequences.{Every, Both}
use Rattle.theorems_runs.specs.Tighter.{Loosened, Covers, Nearer, EachLine, in_first, before, NoDescriptorWrite, TighterBy, Demand3, StopInFirst}
use Rattle.theorems_runs.specs.Undamaged.{Undamaged}
use Rattle.theorems_runs.specs.Unstopped.{of_aborted, CoversBut}
use Rattle.theorems_runs.proofs.Tests.{or_l}
use Rattle.theorems_runs.proofs.Unstopped.{level, step_level, hold_step, covers_unstopped}
use Rattle.theorems_runs.proofs.Unstopped.{Abreast, abreast, step_abreast, covers_with_writes, nearer_unstopped}

none : (cs : List Cycle) (a b : Unit) → Every NoDescriptorWrite cs → AlongBoth WritesNone a b cs
unfolding AlongBoth
none [] a b f = refl
none (c ∷ cs) a b f = (f.0, none cs (stepped a c).unit (stepped b c).unit f.1)

-- what holds of the distance throughout holds up to any stop
nearer_cut : (stop : Unit → Unit → Cycle → Bool) (cs : List Cycle) (a b : Unit)
    → Both Nearer (answers a cs) (answers b cs) → Both Nearer (answers a (before stop a b cs)) (answers b (before stop a b cs))
unfolding answers before
nearer_cut stop [] a b h = refl
nearer_cut stop (c ∷ cs) a b h = go (stop a b c) (nearer_cut stop cs (stepped a c).unit (stepped b c).unit h.1)
  where
    rest : List Cycle
    rest = before stop (stepped a c).unit (stepped b c).unit cs

    go : (t : Bool) → Both Nearer (answers (stepped a c).unit rest) (answers (stepped b c).unit rest)
        → Both Nearer (answers a (cond t [] (c ∷ rest))) (answers b (cond t [] (c ∷ rest)))
    go true ih = refl
    go false ih = (h.0, ih)

narrower : {a b : Unit} → Undamaged a → Undamaged b → Loosened a b → Narrower a b
narrower sa sb l =
    record { first = sa; second = sb; table = l.table; mr = ap (λ r. r.control.mr) l.registers; hold = rw l.registers (λ z. z) }

-- any stop that comes before an aborted fetch in the first unit
module _ (stop : Unit → Unit → Cycle → Bool) (stops : (a b : Unit) (c : Cycle) → stop a b c ≡ false → aborted_fetch a c ≡ false) where
  cut : (cs : List Cycle) (a b : Unit) → CoversBut of_aborted false a b cs
      → Both Covers (answers a (before stop a b cs)) (answers b (before stop a b cs))
  unfolding answers before CoversBut
  cut [] a b h = refl
  cut (c ∷ cs) a b h =
      go (stop a b c) refl λ x.
      cut cs (stepped a c).unit (stepped b c).unit
      (subst (λ (t : Bool). CoversBut of_aborted t (stepped a c).unit (stepped b c).unit cs) x h.2)
    where
      rest : List Cycle
      rest = before stop (stepped a c).unit (stepped b c).unit cs

      go : (t : Bool) → stop a b c ≡ t
          → ((aborted_fetch a c || false) ≡ false → Both Covers (answers (stepped a c).unit rest) (answers (stepped b c).unit rest))
          → Both Covers (answers a (cond t [] (c ∷ rest))) (answers b (cond t [] (c ∷ rest)))
      go true e ih = refl
      go false e ih =
          let x : (aborted_fetch a c || false) ≡ false = ap (λ (t : Bool). t || false) (stops a b c e) in
          (record { address = h.0; sup = h.1 x }, ih x)

  tighter : EachLine λ Line. TighterBy Line NoDescriptorWrite stop
  tighter = (
    λ a b cs sa sb l f. cut cs a b (covers_unstopped a b cs (narrower sa sb l) (none cs a b f)),
    λ a b cs sa sb l f. nearer_cut stop cs a b (nearer_unstopped.0 a b (level (narrower sa sb l)) cs (none cs a b f)),
  )

pub demand_3 : Demand3
demand_3 = tighter _ λ a b c. or_l (aborted_fetch a c) (aborted_fetch b c)

pub stop_in_first : StopInFirst
stop_in_first = tighter _ λ a b c e. e

-- From a weaker start

pub narrower_kept : NarrowerKept
narrower_kept a b c h f x =
    let k : Level (stepped a c).unit (stepped b c).unit = step_level a b c (level h) f in
    record { first = k.first; second = k.second; table = k.table; mr = k.mr; hold = hold_step a b c (level h) x (λ e. h.hold) }

pub in_step_kept : InStepKept
in_step_kept a b c h f x =
    let k : Abreast (stepped a c).unit (stepped b c).unit = step_abreast a b c (abreast h) f in
    record {
      narrower =
          record {
            first = k.levels.first;
            second = k.levels.second;
            table = k.levels.table;
            mr = k.levels.mr;
            hold = hold_step a b c (level h.narrower) x (λ e. h.narrower.hold);
          };
      sar = ap (λ (o : Control). o.sar) k.control;
      dscr = ap (λ (o : Control). o.dscr) k.control;
    }

pub narrower_covers : NarrowerCovers
narrower_covers = (
  λ a b cs h f. cut in_first (λ a b c e. e) cs a b (covers_unstopped a b cs h f),
  λ a b cs h f. nearer_cut in_first cs a b (nearer_unstopped.0 a b (level h) cs f),
)

pub writes_cover : WritesCover
writes_cover = (
  λ a b cs h f. cut in_first (λ a b c e. e) cs a b (covers_with_writes a b cs h f),
  λ a b cs h f. nearer_cut in_first cs a b (nearer_unstopped.1 a b (level h.narrower) h.sar h.dscr cs f),
)
