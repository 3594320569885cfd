-- Two descriptors, the second wider: what the cycles do to descriptors keeps them so, and a violation of the wider is one of the tighter.
-- Assumes nothing.
use mathlib.Core.Path.{◌≡◌, refl, sym, ◌∙◌, ap}
use mathlib.Core.Bool.{Bool, true, false, cond, not, ◌&&◌, ◌||◌, beq, or-false, true≢false, false≢true}
use Prim.Native.Nat.{ℕ, ◌+◌, ◌*◌, ◌-◌, ◌/◌, ◌%◌, ◌^◌, ◌≤◌, ◌<◌}
use native.Mathlib.Nat.{le_refl}
use native.Mathlib.Omega.{arith}
use lib.Dec.{eqb, ltb}
use borrow.Author.Tests.{eqb-true, ltb-true, not-true}
use Rattle.rules.specs.Bus.{cpu, write, program}
use Rattle.rules.specs.Entry.{replaced}
use Rattle.rules.specs.Flags.{has, with, flag_if}
use Rattle.rules.specs.Masks.{RD, SYS, CPUI, EXC, DMAI, DIRW, CHG, REF}
use Rattle.rules.specs.Memory.{touched}
use Rattle.rules.specs.Step.{with_flags}
use Rattle.rules.specs.declared.Cycle.{Cycle}
use Rattle.rules.specs.declared.Descriptor.{Descriptor}
use Rattle.theorems_runs.specs.Answers.{beyond_limit, breaks, blocks_left}
use Rattle.theorems_runs.specs.Descriptors.{SameRules}
use Rattle.theorems_runs.specs.Sequences.{◌⇒◌}
use Rattle.theorems_runs.specs.Tighter.{Wider}
use Rattle.theorems_runs.proofs.Bits.{has_or}
use Rattle.theorems_runs.proofs.Tests.{or-⇒, and-⇒, ltb-⇒, at}

-- Checks

six-⇒ : (a b c d e f a' b' c' d' e' f' : Bool) → a ⇒ a' → b ⇒ b' → c ⇒ c' → d ⇒ d' → e ⇒ e' → f ⇒ f'
    → (a || b || c || d || e || f) ⇒ (a' || b' || c' || d' || e' || f')
six-⇒ a b c d e f a' b' c' d' e' f' p q r s t u =
    or-⇒ (a || b || c || d || e) (a' || b' || c' || d' || e') f f'
    (or-⇒ (a || b || c || d) (a' || b' || c' || d') e e'
    (or-⇒ (a || b || c) (a' || b' || c') d d' (or-⇒ (a || b) (a' || b') c c' (or-⇒ a a' b b' p q) r) s) t) u

beyond-⇒ : (t s : Bool) (l m o : ℕ) → t ≡ s → (t ≡ false → l ≤ m) → (t ≡ true → m ≤ l) → cond s (ltb o m) (ltb m o) ⇒ cond t (ltb o l) (ltb l o)
beyond-⇒ false false l m o q up down = ltb-⇒ m o l o λ h. omega (arith, up refl)
beyond-⇒ true true l m o q up down = ltb-⇒ o m o l λ h. omega (arith, down refl)
beyond-⇒ false true l m o q up down = absurd (false≢true q)
beyond-⇒ true false l m o q up down = absurd (true≢false q)

-- a block beyond the wider's limit is beyond the tighter's
pub beyond_limit-⇒ : {x y : Descriptor} (o : ℕ) → Wider x y → beyond_limit y o ⇒ beyond_limit x o
beyond_limit-⇒ {x} {y} o w =
    beyond-⇒ (has x.attributes DIRW) (has y.attributes DIRW) x.limit y.limit o w.direction w.up w.down

-- a rule of the wider that is broken is one of the tighter
pub breaks-⇒ : {x y : Descriptor} (c : Cycle) → Wider x y → breaks y c ⇒ breaks x c
breaks-⇒ {x} {y} c w =
    let a : ℕ = x.attributes in
    let b : ℕ = y.attributes in
    six-⇒ (has b RD && write c) (has b SYS && c.normal) (has b EXC && not (program c)) (beyond_limit y c.offset) (has b CPUI && cpu c)
    (has b DMAI && c.dma) (has a RD && write c) (has a SYS && c.normal) (has a EXC && not (program c)) (beyond_limit x c.offset)
    (has a CPUI && cpu c) (has a DMAI && c.dma)
    (and-⇒ _ _ (write c) w.rights.0) (and-⇒ _ _ c.normal w.rights.1.0) (and-⇒ _ _ (not (program c)) w.rights.1.1.1.0)
    (beyond_limit-⇒ c.offset w)
    (and-⇒ _ _ (cpu c) w.rights.1.1.0) (and-⇒ _ _ c.dma w.rights.1.1.1.1.0)

-- past the limit the difference is 0 as well
cut_off : (l o : ℕ) → cond (ltb l o) 0 (l - o) ≡ l - o
cut_off l o = go (ltb l o) refl
  where
    go : (t : Bool) → ltb l o ≡ t → cond t 0 (l - o) ≡ l - o
    go true e = omega (arith, ltb-true l o e)
    go false e = refl

-- in one direction the tighter is as near to its edge, or nearer
pub nearer_blocks : {x y : Descriptor} (o : ℕ) → Wider x y → blocks_left x o ≤ blocks_left y o
nearer_blocks {x} {y} o w = go (has x.attributes DIRW) (has y.attributes DIRW) w.direction w.up w.down
  where
    go : (t s : Bool) → t ≡ s → (t ≡ false → x.limit ≤ y.limit) → (t ≡ true → y.limit ≤ x.limit)
        → cond (cond t (ltb o x.limit) (ltb x.limit o)) 0 (cond t (o - x.limit) (x.limit - o))
        ≤ cond (cond s (ltb o y.limit) (ltb y.limit o)) 0 (cond s (o - y.limit) (y.limit - o))
    go false false q up down = rw (cut_off x.limit o, cut_off y.limit o) (omega (arith, up refl))
    go true true q up down = rw (cut_off o x.limit, cut_off o y.limit) (omega (arith, down refl))
    go false true q up down = absurd (false≢true q)
    go true false q up down = absurd (true≢false q)

-- REF and CHG

ref_high : (k : ℕ) → k < 6 → has REF (2 ^ k) ≡ false
ref_high k h = not-true _ (at 6 (λ j. not (has REF (2 ^ j))) refl k h)

chg_high : (t : Bool) (k : ℕ) → k < 6 → has (flag_if t CHG) (2 ^ k) ≡ false
chg_high true k h = not-true _ (at 6 (λ j. not (has CHG (2 ^ j))) refl k h)
chg_high false k h = not-true _ (at 6 (λ j. not (has 0 (2 ^ j))) refl k h)

pub touched_same : (c : Cycle) (x : Descriptor) → SameRules x (touched x c)
unfolding touched
touched_same c x =
    record {
      base = refl;
      limit = refl;
      flags = (
        flag 0 (omega arith),
        (
          flag 1 (omega arith),
          (flag 2 (omega arith), (flag 3 (omega arith), (flag 4 (omega arith), (flag 5 (omega arith), refl)))),
        ),
      );
    }
  where
    flag : (k : ℕ) → k < 6 → has (with (with x.attributes REF) (flag_if (write c) CHG)) (2 ^ k) ≡ has x.attributes (2 ^ k)
    flag k h =
        rw (has_or k (with x.attributes REF) (flag_if (write c) CHG), chg_high (write c) k h, has_or k x.attributes REF, ref_high k h)
        (or-false _ ∙ or-false _)

pub same_wider : {x x' y y' : Descriptor} → SameRules x x' → SameRules y y' → Wider x y → Wider x' y'
same_wider m n w =
    record {
      base = m.base ∙ w.base ∙ sym n.base;
      direction = m.flags.1.1.1.1.1.0 ∙ w.direction ∙ sym n.flags.1.1.1.1.1.0;
      rights = (
        λ e. m.flags.0 ∙ w.rights.0 (sym n.flags.0 ∙ e),
        (
          λ e. m.flags.1.0 ∙ w.rights.1.0 (sym n.flags.1.0 ∙ e),
          (
            λ e. m.flags.1.1.0 ∙ w.rights.1.1.0 (sym n.flags.1.1.0 ∙ e),
            (
              λ e. m.flags.1.1.1.0 ∙ w.rights.1.1.1.0 (sym n.flags.1.1.1.0 ∙ e),
              (λ e. m.flags.1.1.1.1.0 ∙ w.rights.1.1.1.1.0 (sym n.flags.1.1.1.1.0 ∙ e), refl),
            ),
          ),
        ),
      );
      up = λ e. rw (m.limit, n.limit) (w.up (sym m.flags.1.1.1.1.1.0 ∙ e));
      down = λ e. rw (m.limit, n.limit) (w.down (sym m.flags.1.1.1.1.1.0 ∙ e));
    }

-- Flags set in both

pub wider_refl : (x : Descriptor) → Wider x x
wider_refl x =
    record {
      base = refl;
      direction = refl;
      rights = (λ e. e, (λ e. e, (λ e. e, (λ e. e, (λ e. e, refl)))));
      up = λ e. le_refl _;
      down = λ e. le_refl _;
    }

pub raised_wider : (m : ℕ) → has m DIRW ≡ false → (x y : Descriptor) → Wider x y → Wider (with_flags m x) (with_flags m y)
raised_wider m n x y w =
    record {
      base = w.base;
      direction = same x.attributes ∙ w.direction ∙ sym (same y.attributes);
      rights = (
        flag 0 w.rights.0,
        (
          flag 1 w.rights.1.0,
          (flag 2 w.rights.1.1.0, (flag 3 w.rights.1.1.1.0, (flag 4 w.rights.1.1.1.1.0, refl))),
        ),
      );
      up = λ e. w.up (sym (same x.attributes) ∙ e);
      down = λ e. w.down (sym (same x.attributes) ∙ e);
    }
  where
    same : (a : ℕ) → has (with a m) DIRW ≡ has a DIRW
    same a = rw (has_or 5 a m, n) (or-false _)

    flag : (k : ℕ) → has y.attributes (2 ^ k) ⇒ has x.attributes (2 ^ k)
        → has (with y.attributes m) (2 ^ k) ⇒ has (with x.attributes m) (2 ^ k)
    flag k h e = has_or k x.attributes m ∙ or-⇒ _ _ _ _ h (λ z. z) (sym (has_or k y.attributes m) ∙ e)

-- The same byte put into two descriptors, where it turns none whose limits differ

pub replaced_wider : (k b : ℕ) (x y : Descriptor) → Wider x y
    → (beq (has (replaced x k b).attributes DIRW) (has x.attributes DIRW) || eqb x.limit y.limit) ≡ true
    → Wider (replaced x k b) (replaced y k b)
unfolding replaced
replaced_wider k b x y w = go (eqb k 0) (eqb k 1) (eqb k 2)
  where
    rep : (p q s : Bool) → Descriptor → Descriptor
    rep p q s d =
        cond p (record { base = b * 256 + d.base % 256; limit = d.limit; attributes = d.attributes })
        (cond q (record { base = d.base / 256 * 256 + b; limit = d.limit; attributes = d.attributes })
        (cond s (record { base = d.base; limit = b; attributes = d.attributes })
        (record { base = d.base; limit = d.limit; attributes = b })))

    -- t is DIRW after it, z before it
    up : (z t : Bool) → (z ≡ false → x.limit ≤ y.limit) → (beq t z || eqb x.limit y.limit) ≡ true → t ≡ false → x.limit ≤ y.limit
    up false t f h e = f refl
    up true true f h e = absurd (true≢false e)
    up true false f h e = omega (arith, eqb-true x.limit y.limit h)

    down : (z t : Bool) → (z ≡ true → y.limit ≤ x.limit) → (beq t z || eqb x.limit y.limit) ≡ true → t ≡ true → y.limit ≤ x.limit
    down true t f h e = f refl
    down false false f h e = absurd (false≢true e)
    down false true f h e = omega (arith, eqb-true x.limit y.limit h)

    go : (p q s : Bool)
        → (beq (has (rep p q s x).attributes DIRW) (has x.attributes DIRW) || eqb x.limit y.limit) ≡ true
        → Wider (rep p q s x) (rep p q s y)
    go true q s h =
        record {
          base = ap (λ (n : ℕ). b * 256 + n % 256) w.base;
          direction = w.direction;
          rights = w.rights;
          up = w.up;
          down = w.down;
        }
    go false true s h =
        record {
          base = ap (λ (n : ℕ). n / 256 * 256 + b) w.base;
          direction = w.direction;
          rights = w.rights;
          up = w.up;
          down = w.down;
        }
    go false false true h =
        record { base = w.base; direction = w.direction; rights = w.rights; up = λ e. le_refl _; down = λ e. le_refl _ }
    go false false false h =
        record {
          base = w.base;
          direction = refl;
          rights = (λ e. e, (λ e. e, (λ e. e, (λ e. e, (λ e. e, refl)))));
          up = up (has x.attributes DIRW) (has b DIRW) w.up h;
          down = down (has x.attributes DIRW) (has b DIRW) w.down h;
        }
