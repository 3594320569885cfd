-- Settings that never collide: exactly those by which no two units may drive, and what keeps them.
-- Assumes nothing.
use mathlib.Core.Path.{◌≡◌, refl, sym, ◌∙◌, ap}
use mathlib.Core.Bool.{Bool, true, false, not, cond, ◌&&◌, ◌||◌, beq, true≢false, false≢true, and-false}
use mathlib.Core.List.{List, [], ◌∷◌, map, map-map}
use mathlib.Core.Option
use mathlib.Core.Option.{Option, none, some}
use Prim.Native.Nat.{ℕ, suc}
use native.Mathlib.Omega.{arith}
use lib.Dec.{eqb, ltb}
use lib.ListN.{replicate, take}
use Rattle.rules.specs.Bus.{write}
use Rattle.rules.specs.Flags.{has}
use Rattle.rules.specs.Kinds.{number_in}
use Rattle.rules.specs.Masks.{NMS, MST, URS, TRNS, MSEN, UPPER}
use Rattle.rules.specs.PowerOn.{blank, power_on}
use Rattle.rules.specs.Refusals.{damaged, out_of_range}
use Rattle.rules.specs.Seen.{cycle_with, command}
use Rattle.rules.specs.declared.Cycle.{Cycle}
use Rattle.rules.specs.declared.Unit.{Unit}
use Rattle.theorems_runs.specs.Cycles.{selected_command, memory_cycle, software_reset, writes}
use Rattle.theorems_runs.specs.Refusal.{earliest, unlisted, wrong_way, admitted}
use Rattle.theorems_runs.specs.Sequences.{Every, all}
use Rattle.theorems_runs.proofs.Examples.{unit_of_three}
use Rattle.theorems_runs.proofs.Refusal.{numbers_exactly}
use Rattle.theorems_runs.proofs.Unstopped.{mr_exactly}
use Rattle.theorems_runs.proofs.Tests.{and_l, and_r, or_l, or_r}
use Rattle.board_rules.specs.Board.{Seat, seated, seats_of, seen_by, unit_of, answer_of, afterwards, some_of, two_of, Refusal, wrong_count, verdict}
use Rattle.board_rules.specs.Board.{units_by, seats_after, board_after, board_answers}
use Rattle.board_rules.specs.declared.Board.{Board}
use Rattle.board_rules.specs.declared.BoardAnswer.{BoardAnswer}
use Rattle.board_rules.specs.declared.BoardCycle.{BoardCycle}
use Rattle.theorems_boards.specs.Numbers.{may_drive, seat_number, seat_drives, lowest_from, own_of}
use Rattle.theorems_boards.specs.Seats.{live, refusal_of}
use Rattle.theorems_boards.specs.Settings.{mr_of, settings, apart, pairwise, never_collide, NeverTwelve, Sound, ApartNeverTwelve, SettingsExactly}
use Rattle.theorems_boards.specs.Settings.{resets_two, SettingsKept, ResetsTwoCollide, AlongBoard, NeverTwelveThroughout, SettingsNeed}
use Rattle.theorems_boards.specs.Settings.{BothExcepted, two, resetting, writing_both, ResetCollides, ResetSettings, NeverTwelveFromPowerOn}
use Rattle.theorems_boards.proofs.Computed.{computed}
use Rattle.theorems_boards.proofs.Elements.{two_none, none_false, map_every}
use Rattle.theorems_boards.proofs.Lists.{two-map, seats_units, seats_every, every_imp, every_take}
use Rattle.theorems_boards.proofs.Forms.{Accepted, earliest_none}
use Rattle.theorems_boards.proofs.Live.{live_right, live_wrong, answer_right}
use Rattle.theorems_boards.proofs.Numbers.{twelve_exactly, verdict_none, seats_number}
use Rattle.theorems_boards.proofs.Units.{unrefused}

-- Pairs of a list

-- where no element of a pair that the test passes has another's property, no two have it
module _ {A : Type 0} (p : A → Bool) (q : A → A → Bool) (never : (x y : A) → q x y ≡ true → p x ≡ true → p y ≡ false) where
  some_apart : (x : A) → p x ≡ true → (l : List A) → all (q x) l ≡ true → some_of p l ≡ false
  unfolding some_of
  some_apart x h [] e = refl
  some_apart x h (y ∷ l) e = rw (never x y (and_l (q x y) _ e) h) (some_apart x h l (and_r (q x y) _ e))

  two-apart : (l : List A) → pairwise q l ≡ true → two_of p l ≡ false
  unfolding pairwise two_of
  two-apart [] e = refl
  two-apart (x ∷ l) e = go (p x) refl (two-apart l (and_r (all (q x) l) _ e))
    where
      go : (t : Bool) → p x ≡ t → two_of p l ≡ false → cond t (some_of p l) (two_of p l) ≡ false
      go true h later = some_apart x h l (and_l (all (q x) l) _ e)
      go false h later = later

-- where each pair that the test fails has some property that both have, and no property is one of two, the test passes every pair
module _ {A C : Type 0} (p : C → A → Bool) (q : A → A → Bool)
    (found : (x y : A) → q x y ≡ false → (c : C) × (p c x ≡ true) × (p c y ≡ true)) where
  all-passed : (x : A) (l : List A) → ((c : C) → p c x ≡ true → some_of (p c) l ≡ false) → all (q x) l ≡ true
  unfolding some_of
  all-passed x [] h = refl
  all-passed x (y ∷ l) h = go (q x y) refl (all-passed x l (λ c e. or_r (p c y) _ (h c e)))
    where
      go : (t : Bool) → q x y ≡ t → all (q x) l ≡ true → (t && all (q x) l) ≡ true
      go true e later = later
      go false e later =
          let f = found x y e in
          absurd (true≢false (sym f.2 ∙ or_l (p f.0 y) _ (h f.0 f.1)))

  pairs_passed : (l : List A) → ((c : C) → two_of (p c) l ≡ false) → pairwise q l ≡ true
  unfolding pairwise two_of
  pairs_passed [] h = refl
  pairs_passed (x ∷ l) h = rw (all-passed x l first) (pairs_passed l later)
    where
      first : (c : C) → p c x ≡ true → some_of (p c) l ≡ false
      first c e = ap (λ (t : Bool). cond t (some_of (p c) l) (two_of (p c) l)) (sym e) ∙ h c

      go : (c : C) (t : Bool) → cond t (some_of (p c) l) (two_of (p c) l) ≡ false → two_of (p c) l ≡ false
      go c true e = two_none (p c) l e
      go c false e = e

      later : (c : C) → two_of (p c) l ≡ false
      later c = go c (p c x) (h c)

-- Two MRs

beq_self : (b : Bool) → beq b b ≡ true
beq_self true = refl
beq_self false = refl

-- two units whose MST and NMS keep them apart do not both drive
modes-apart : (s s' o o' mode : Bool) → (s && s' && not (beq o o')) ≡ true → (not s || beq o mode) ≡ true
    → (not s' || beq o' mode) ≡ false
modes-apart true true true true mode a d = absurd (false≢true a)
modes-apart true true true false true a d = refl
modes-apart true true true false false a d = absurd (false≢true d)
modes-apart true true false true true a d = absurd (false≢true d)
modes-apart true true false true false a d = refl
modes-apart true true false false mode a d = absurd (false≢true a)
modes-apart true false o o' mode a d = absurd (false≢true a)
modes-apart false s' o o' mode a d = absurd (false≢true a)

-- nor two with TRNS set whose URS do, or these
halves_apart : (u u' half s s' o o' mode : Bool) → (not (beq u u') || s && s' && not (beq o o')) ≡ true
    → (beq u half && (not s || beq o mode)) ≡ true → (beq u' half && (not s' || beq o' mode)) ≡ false
halves_apart true true true s s' o o' mode a d = modes-apart s s' o o' mode a d
halves_apart true true false s s' o o' mode a d = absurd (false≢true d)
halves_apart true false true s s' o o' mode a d = refl
halves_apart true false false s s' o o' mode a d = absurd (false≢true d)
halves_apart false true true s s' o o' mode a d = absurd (false≢true d)
halves_apart false true false s s' o o' mode a d = refl
halves_apart false false true s s' o o' mode a d = absurd (false≢true d)
halves_apart false false false s s' o o' mode a d = modes-apart s s' o o' mode a d

driving-apart : (c : Cycle) (m n : ℕ) → apart m n ≡ true → may_drive m c ≡ true → may_drive n c ≡ false
driving-apart c m n =
    go (has m MSEN) (has n MSEN) (has m TRNS) (has n TRNS)
    (halves_apart (has m URS) (has n URS) (has c.segment UPPER) (has m MST) (has n MST) (has m NMS) (has n NMS) c.normal)
  where
    go : (e e' t t' : Bool) {x y z : Bool} → (x ≡ true → y ≡ true → z ≡ false) → (not (e && e') || t && t' && x) ≡ true
        → (e && (not t || y)) ≡ true → (e' && (not t' || z)) ≡ false
    go false e' t t' h a d = absurd (false≢true d)
    go true false t t' h a d = refl
    go true true true true h a d = h a d
    go true true true false h a d = absurd (false≢true a)
    go true true false t' h a d = absurd (false≢true a)

-- a memory cycle by segment bit 6 and the mode
record Place : Type 0 where
  upper : Bool
  normal : Bool

at : Place → Cycle
at q = cycle_with 8 true q.normal false false (cond q.upper 64 0) 0 0 0 false

upper-bit : (t : Bool) → has (cond t 64 0) UPPER ≡ t
upper-bit true = refl
upper-bit false = refl

-- the one that two units that are not apart both drive, if any: that of one that translates
shared : (m n : ℕ) → Place
shared m n = record { upper = cond (has m TRNS) (has m URS) (has n URS); normal = cond (has m TRNS && has m MST) (has m NMS) (has n NMS) }

shared-first : (u s o o' : Bool) → (beq u u && (not s || beq o (cond s o o'))) ≡ true
shared-first u true o o' = rw (beq_self u, beq_self o)
shared-first u false o o' = rw (beq_self u)

shared-mode : (s s' o o' : Bool) → (s && s' && not (beq o o')) ≡ false → (not s' || beq o' (cond s o o')) ≡ true
shared-mode s false o o' a = refl
shared-mode false true o o' a = beq_self o'
shared-mode true true true true a = refl
shared-mode true true true false a = absurd (true≢false a)
shared-mode true true false true a = absurd (true≢false a)
shared-mode true true false false a = refl

shared_second : (u u' s s' o o' : Bool) → (not (beq u u') || s && s' && not (beq o o')) ≡ false
    → (beq u' u && (not s' || beq o' (cond s o o'))) ≡ true
shared_second true true s s' o o' a = shared-mode s s' o o' a
shared_second true false s s' o o' a = absurd (true≢false a)
shared_second false true s s' o o' a = absurd (true≢false a)
shared_second false false s s' o o' a = shared-mode s s' o o' a

shared-alone : (u s o : Bool) → (beq u u && (not s || beq o o)) ≡ true
shared-alone u true o = rw (beq_self u, beq_self o)
shared-alone u false o = rw (beq_self u)

both_drive : (m n : ℕ) → apart m n ≡ false → (q : Place) × (may_drive m (at q) ≡ true) × (may_drive n (at q) ≡ true)
unfolding shared at
both_drive m n e =
    let q : Place = shared m n in
    let d =
    go (has m MSEN) (has n MSEN) (has m TRNS) (has n TRNS) (has m URS) (has n URS) (has m MST) (has n MST) (has m NMS) (has n NMS) e in
    (q, rw (upper-bit q.upper) d.0, rw (upper-bit q.upper) d.1)
  where
    go : (e e' t t' u u' s s' o o' : Bool)
        → (not (e && e') || t && t' && (not (beq u u') || s && s' && not (beq o o'))) ≡ false
        → ((e && (not t || beq u (cond t u u') && (not s || beq o (cond (t && s) o o')))) ≡ true)
        × ((e' && (not t' || beq u' (cond t u u') && (not s' || beq o' (cond (t && s) o o')))) ≡ true)
    go false e' t t' u u' s s' o o' a = absurd (true≢false a)
    go true false t t' u u' s s' o o' a = absurd (true≢false a)
    go true true true true u u' s s' o o' a = (shared-first u s o o', shared_second u u' s s' o o' a)
    go true true true false u u' s s' o o' a = (shared-first u s o o', refl)
    go true true false true u u' s s' o o' a = (refl, shared-alone u' s' o')
    go true true false false u u' s s' o o' a = (refl, refl)

-- The units of a board

two_drive_lem : (c : Cycle) (us : List Unit) (k : ℕ) → two_of (seat_drives c) (seated us k) ≡ two_of (λ m. may_drive m c) (map mr_of us)
two_drive_lem c us k =
    sym (two-map (λ u. may_drive (mr_of u) c) unit_of (seated us k))
    ∙ ap (λ (l : List Unit). two_of (λ u. may_drive (mr_of u) c) l) (seats_units us k)
    ∙ sym (two-map (λ m. may_drive m c) mr_of us)

pub apart_never_twelve : ApartNeverTwelve
apart_never_twelve b h c e =
    true≢false
    (sym (and_r (memory_cycle c.cycle) _ ((twelve_exactly b c).0 e).2)
    ∙ two_drive_lem c.cycle (live b) c.selects
    ∙ two-apart (λ m. may_drive m c.cycle) apart (driving-apart c.cycle) (settings b) h)

-- no unit that does not meet 2 refuses such a memory cycle
none_of : (c : Cycle) (i : ℕ) (ss : List Seat) → Every (λ s. seat_number c s ≡ none) ss → lowest_from i (map (seat_number c) ss) ≡ none
unfolding lowest_from
none_of c i [] h = refl
none_of c i (s ∷ ss) h = rw h.0 (none_of c (suc i) ss h.1)

no_number : (q : Place) (s : Seat) → Sound s.unit → seat_number (at q) s ≡ none
unfolding at seen_by out_of_range
no_number q s h = go q.upper (damaged s.unit.registers) h
  where
    go : (t d : Bool) → d ≡ false → earliest d (ltb 127 (cond t 64 0)) false false ≡ none
    go true d e = rw e
    go false d e = rw e

no_two : (b : Board) → wrong_count b.count ≡ false → Every Sound (live b) → NeverTwelve b → (q : Place)
    → two_of (λ m. may_drive m (at q)) (settings b) ≡ false
unfolding at seen_by
no_two b w h n q = go (two_of (λ m. may_drive m (at q)) (settings b)) refl
  where
    go : (t : Bool) → two_of (λ m. may_drive m (at q)) (settings b) ≡ t → t ≡ false
    go true e =
        absurd (n (record { cycle = at q; selects = 0 })
        ((twelve_exactly b (record { cycle = at q; selects = 0 })).1 (
          w,
          none_of (at q) 0 (seats_of b 0) (every_imp _ _ (no_number q) (seats_of b 0) (seats_every Sound (live b) 0 h)),
          two_drive_lem (at q) (live b) 0 ∙ e,
        )))
    go false e = refl

pub settings_exactly : SettingsExactly
settings_exactly b w h = (
  apart_never_twelve b,
  λ n. pairs_passed (λ q m. may_drive m (at q)) apart both_drive (settings b) (no_two b w h n),
)

-- What a cycle keeps

-- an MR after a cycle that drives nothing, or is what it was
abbrev Quieter : (m m' : ℕ) → Type 0
Quieter m m' = has m' MSEN ≡ true → m' ≡ m

apart_quieter : (m n m' n' : ℕ) → Quieter m m' → Quieter n n' → apart m n ≡ true → apart m' n' ≡ true
apart_quieter m n m' n' p q h = go (has m' MSEN) (has n' MSEN) refl refl
  where
    go : (x y : Bool) → has m' MSEN ≡ x → has n' MSEN ≡ y → apart m' n' ≡ true
    go true true e f = rw (p e, q f) h
    go true false e f = rw (e, f)
    go false y e f = rw e

module _ {A : Type 0} (f g : A → ℕ) where
  all_quieter : (m m' : ℕ) → Quieter m m' → (l : List A) → Every (λ x. Quieter (f x) (g x)) l → all (apart m) (map f l) ≡ true
      → all (apart m') (map g l) ≡ true
  all_quieter m m' q [] h e = refl
  all_quieter m m' q (x ∷ l) h e =
      rw (apart_quieter m (f x) m' (g x) q h.0 (and_l (apart m (f x)) _ e)) (all_quieter m m' q l h.1 (and_r (apart m (f x)) _ e))

  pairs_quieter : (l : List A) → Every (λ x. Quieter (f x) (g x)) l → never_collide (map f l) ≡ true → never_collide (map g l) ≡ true
  unfolding pairwise
  pairs_quieter [] h e = refl
  pairs_quieter (x ∷ l) h e =
      rw (all_quieter (f x) (g x) h.0 l h.1 (and_l (all (apart (f x)) (map f l)) _ e))
      (pairs_quieter l h.1 (and_r (all (apart (f x)) (map f l)) _ e))

module _ (c : Cycle) (s : Seat) where
  -- but for a reset and a selected write of %00
  mr_quieter : c.reset ≡ false → writes 0x00 (seen_by s.select c) ≡ false → Quieter (mr_of s.unit) (mr_of (afterwards c s))
  unfolding seen_by
  mr_quieter r w =
      let d : Cycle = seen_by s.select c in
      rw (mr_exactly s.unit d)
      (go (not (damaged s.unit.registers)) (out_of_range d) c.reset (software_reset d) (selected_command d) (write c) (eqb c.offset 0x00)
      _ _ _ r w)
    where
      go : (a o r z k w e : Bool) (x y m : ℕ) → r ≡ false → (not o && k && w && e) ≡ false
          → Quieter m (cond (a && not o && r) x (cond (a && not o && z) 0 (cond (a && not o && (k && w && e)) y m)))
      go false o r z k w e x y m p q = λ h. refl
      go true true r z k w e x y m p q = λ h. refl
      go true false r true k w e x y m p q = rw p (λ h. absurd (false≢true h))
      go true false r false k w e x y m p q = rw (p, q) (λ h. refl)

  mr_reset : c.reset ≡ true → Accepted (answer_of c s) → mr_of (afterwards c s) ≡ cond s.select 0x80 0
  unfolding seen_by
  mr_reset r h =
      let d : Cycle = seen_by s.select c in
      let a : admitted s.unit d ≡ true =
      earliest_none (damaged s.unit.registers) (out_of_range d) (unlisted d) (wrong_way d) (sym (numbers_exactly s.unit d) ∙ h) in
      rw (mr_exactly s.unit d, a, r)

-- a reset that selects at most one unit
all_quiet : (l : List ℕ) → all (apart 0) l ≡ true
all_quiet [] = refl
all_quiet (n ∷ l) = all_quiet l

none_selected : (ss : List Seat) → some_of (λ s. s.select) ss ≡ false → all (apart 0x80) (map (λ s. cond s.select 0x80 0) ss) ≡ true
unfolding some_of
none_selected [] e = refl
none_selected (s ∷ ss) e = rw (or_l s.select _ e) (none_selected ss (or_r s.select _ e))

one_selected : (ss : List Seat) → two_of (λ s. s.select) ss ≡ false → never_collide (map (λ s. cond s.select 0x80 0) ss) ≡ true
unfolding pairwise two_of
one_selected [] e = refl
one_selected (s ∷ ss) e = go s.select e (one_selected ss)
  where
    rest : List ℕ
    rest = map (λ s. cond s.select 0x80 0) ss

    go : (t : Bool) → cond t (some_of (λ s. s.select) ss) (two_of (λ s. s.select) ss) ≡ false
        → (two_of (λ s. s.select) ss ≡ false → never_collide rest ≡ true)
        → (all (apart (cond t 0x80 0)) rest && never_collide rest) ≡ true
    go true e later = rw (none_selected ss e) (later (two_none _ ss e))
    go false e later = rw (all_quiet rest) (later e)

module _ (c : Cycle) (ss : List Seat) where
  seats_kept : Every (λ s. Accepted (answer_of c s)) ss → some_of (λ s. writes 0x00 (seen_by s.select c)) ss ≡ false
      → (c.reset && two_of (λ s. s.select) ss) ≡ false → never_collide (map (λ s. mr_of s.unit) ss) ≡ true
      → never_collide (map (λ s. mr_of (afterwards c s)) ss) ≡ true
  seats_kept a w t h = go c.reset refl t
    where
      go : (r : Bool) → c.reset ≡ r → (r && two_of (λ s. s.select) ss) ≡ false → never_collide (map (λ s. mr_of (afterwards c s)) ss) ≡ true
      go true r t =
          rw (map_every (λ s. mr_of (afterwards c s)) (λ s. cond s.select 0x80 0) ss (every_imp _ _ (λ s. mr_reset c s r) ss a))
          (one_selected ss t)
      go false r t =
          pairs_quieter (λ s. mr_of s.unit) (λ s. mr_of (afterwards c s)) ss (every_imp _ _ (λ s. mr_quieter c s r) ss (none_false _ ss w)) h

settings-seated : (us : List Unit) (k : ℕ) → map mr_of us ≡ map (λ s. mr_of s.unit) (seated us k)
settings-seated us k = ap (λ (l : List Unit). map mr_of l) (sym (seats_units us k)) ∙ map-map mr_of unit_of (seated us k)

pub settings-kept : SettingsKept
unfolding seats_after
settings-kept b c may h = go (wrong_count b.count) refl
  where
    ss : List Seat
    ss = seats_of b c.selects

    number : (v : Option Refusal) → verdict c.cycle ss ≡ v → wrong_count b.count ≡ false → refusal_of b c ≡ Option.map (λ r. r.number) v
    number v e w =
        ap (λ (x : BoardAnswer). number_in x.answer.kind) (answer_right b c w) ∙ seats_number c.cycle ss
        ∙ ap (λ (v : Option Refusal). Option.map (λ r. r.number) v) e

    by : (v : Option Refusal) → verdict c.cycle ss ≡ v → wrong_count b.count ≡ false
        → never_collide (map mr_of (units_by v c.cycle ss)) ≡ true
    by (some r) e w = rw (seats_units (live b) c.selects) h
    by none e w =
        let q : (some_of (λ s. writes 0x00 (seen_by s.select c.cycle)) ss || resets_two b c) ≡ false =
        rw (number none e w) at may in
        rw (map-map mr_of (afterwards c.cycle) ss)
        (seats_kept c.cycle ss (verdict_none c.cycle ss e) (or_l _ (resets_two b c) q)
        (or_r (some_of (λ s. writes 0x00 (seen_by s.select c.cycle)) ss) _ q) (rw (settings-seated (live b) c.selects) at h))

    go : (t : Bool) → wrong_count b.count ≡ t → never_collide (settings (board_after b c)) ≡ true
    go true w = rw (live_wrong b c w) h
    go false w = rw (live_right b c w) (by (verdict c.cycle ss) refl w)

-- a reset that selects two
some_selected : (ss : List Seat) → some_of (λ s. s.select) ss ≡ true → all (apart 0x80) (map (λ s. cond s.select 0x80 0) ss) ≡ false
unfolding some_of
some_selected [] e = absurd (false≢true e)
some_selected (s ∷ ss) e = go s.select e (some_selected ss)
  where
    rest : List ℕ
    rest = map (λ s. cond s.select 0x80 0) ss

    go : (t : Bool) → (t || some_of (λ s. s.select) ss) ≡ true → (some_of (λ s. s.select) ss ≡ true → all (apart 0x80) rest ≡ false)
        → (apart 0x80 (cond t 0x80 0) && all (apart 0x80) rest) ≡ false
    go true e later = refl
    go false e later = later e

two_selected : (ss : List Seat) → two_of (λ s. s.select) ss ≡ true → never_collide (map (λ s. cond s.select 0x80 0) ss) ≡ false
unfolding pairwise two_of
two_selected [] e = absurd (false≢true e)
two_selected (s ∷ ss) e = go s.select e (two_selected ss)
  where
    rest : List ℕ
    rest = map (λ s. cond s.select 0x80 0) ss

    go : (t : Bool) → cond t (some_of (λ s. s.select) ss) (two_of (λ s. s.select) ss) ≡ true
        → (two_of (λ s. s.select) ss ≡ true → never_collide rest ≡ false)
        → (all (apart (cond t 0x80 0)) rest && never_collide rest) ≡ false
    go true e later = rw (some_selected ss e)
    go false e later = rw (later e) (and-false (all (apart 0) rest))

pub resets_two_collide : ResetsTwoCollide
resets_two_collide b c e h =
    let ss : List Seat = seats_of b c.selects in
    let u = unrefused b c e in
    rw (
      u.units,
      map-map mr_of (afterwards c.cycle) ss,
      map_every (λ s. mr_of (afterwards c.cycle s)) (λ s. cond s.select 0x80 0) ss
          (every_imp _ _ (λ s. mr_reset c.cycle s (and_l c.cycle.reset _ h)) ss (verdict_none c.cycle ss u.accepts)),
    )
    (two_selected ss (and_r c.cycle.reset _ h))

pub never_twelve_throughout : NeverTwelveThroughout
unfolding AlongBoard board_answers
never_twelve_throughout b [] h f = refl
never_twelve_throughout b (c ∷ cs) h f =
    (apart_never_twelve b h c, never_twelve_throughout (board_after b c) cs (settings-kept b c f.0 h) f.1)

-- What can't be left out: short runs that antt computes

-- two units with MSEN set and TRNS clear, by the first's SAR, of which 64 is damage
abbrev passing : (sar count : ℕ) → Board
passing sar n = record {
  units = unit_of_three 0x80 sar 0 false blank blank blank ∷ unit_of_three 0x80 0 0 false blank blank blank ∷ [];
  count = n;
}

pub settings_need : SettingsNeed
unfolding computed pairwise lowest_from
settings_need = (
  λ claim. false≢true
      ((claim (passing 0 17) refl (refl, (refl, refl))).1 λ c e. true≢false ((twelve_exactly (passing 0 17) c).0 e).0),
  λ claim. false≢true
      ((claim (passing 64 2) refl refl).1 λ c e.
      let own : own_of c.cycle (seats_of (passing 64 2) c.selects) ≡ none = ((twelve_exactly (passing 64 2) c).0 e).1 in
      let z : ◌≡◌ {A = ℕ} 0 1 = cc in omega arith),
)

-- %80 written to MR of both units at power-on: record 83000080
abbrev enabling : BoardCycle
enabling = record { cycle = command false 0x00 0x80; selects = 3 }

pub both_excepted : BothExcepted
unfolding computed pairwise
both_excepted = (λ claim. false≢true (claim two enabling refl refl), λ claim. false≢true (claim two (resetting 3) refl refl))

pub reset_collides : ResetCollides
unfolding computed
reset_collides = (refl, refl, refl, refl)

pub reset-settings : ResetSettings
unfolding computed pairwise
reset-settings =
    let one : Board = board_after two (resetting 2) in
    let then : Board = board_after one (writing_both 0x01 0x80) in
    let kept : never_collide (settings one) ≡ true = settings-kept two (resetting 2) refl refl in (
      apart_never_twelve one kept,
      apart_never_twelve (board_after then (writing_both 0x02 0x80))
          (settings-kept then (writing_both 0x02 0x80) refl (settings-kept one (writing_both 0x01 0x80) refl kept)),
      λ n. false≢true ((settings_exactly (board_after two (resetting 3)) refl (refl, (refl, refl))).1 n),
    )

-- From power-on

none_on : (us : List Unit) → Every (λ u. mr_of u ≡ 0) us → never_collide (map mr_of us) ≡ true
unfolding pairwise
none_on [] h = refl
none_on (u ∷ us) h = rw (h.0, all_quiet (map mr_of us)) (none_on us h.1)

pub never_twelve_from_power_on : NeverTwelveFromPowerOn
never_twelve_from_power_on size count cs f =
    never_twelve_throughout (record { units = replicate size power_on; count = count }) cs
    (none_on (take count (replicate size power_on)) (every_take (λ u. mr_of u ≡ 0) count size power_on refl)) f
