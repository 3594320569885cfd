-- What a caller may rely on that keeps a unit in bytes.
-- Assumes nothing.
use mathlib.Core.Path.{◌≡◌, refl, sym, ap, ◌∙◌}
use mathlib.Core.Bool.{Bool, true, false}
use mathlib.Core.List.{List, [], ◌∷◌, ◌++◌}
use Prim.Native.Nat.{ℕ, ◌+◌, ◌≤◌}
use native.Mathlib.Omega.{arith}
use lib.ListN.{length, get_or, drop}
use lib.Seq.{sets, sets-eq, length-sets, drop_at}
use borrow.Author.Tests.{ltb-false}
use Rattle.rules.specs.Runs.{answers, final}
use Rattle.rules.specs.Step.{stepped}
use Rattle.rules.specs.declared.Answer.{Answer}
use Rattle.rules.specs.declared.Cycle.{Cycle}
use Rattle.rules.specs.declared.Kind.TheVariants.{Refused}
use Rattle.rules.specs.declared.Unit.{Unit}
use Rattle.theorems_runs.proofs.Refusal.{refusal-leaves}
use Rattle.theorems_runs.proofs.Undamaged.{size_after}
use Rattle.unit_bytes.specs.Snapshot.{notes_at, segments, unit_size, LAST_NOTES, unit_in, unit_bytes}
use Rattle.unit_bytes.specs.Cycled.{strange, answer_by, answer_of, bytes_by, bytes_after}
use Rattle.theorems_kept.specs.Kept.{Bytes, RefusalKeeps, calls, left, CallsAreTheRun}
use Rattle.theorems_kept.proofs.PutBack.{put_back}
use Rattle.theorems_kept.proofs.FoundAgain.{unit-length, found-again, never_strange}

by : (b : Bool) (unit : List ℕ) (c : Cycle) (n : ℕ) → Bytes unit → strange unit ≡ b → (answer_by b unit c).kind ≡ Refused n
    → bytes_by b unit c ≡ unit
by true unit c n bytes e said = refl
by false unit c n bytes e said =
    ap (λ (v : Unit). sets unit 0 (unit_bytes v)) (refusal-leaves (unit_in unit) c n said).unit
    ∙ put_back unit bytes (ltb-false LAST_NOTES (get_or unit notes_at 0) e)

pub refusal-keeps : RefusalKeeps
refusal-keeps unit c n bytes said = by (strange unit) unit c n bytes refl said

-- a call on the bytes of a unit is a cycle of that unit
module _ (l : List ℕ) (u : Unit) (c : Cycle) (room : unit_size ≤ length l) (size : length u.table ≡ segments) where
  answers_as : answer_of (sets l 0 (unit_bytes u)) c ≡ (stepped u c).answer
  answers_as =
      ap (λ (b : Bool). answer_by b (sets l 0 (unit_bytes u)) c) (never_strange l u room size)
      ∙ ap (λ (v : Unit). (stepped v c).answer) (found-again l u room size)

  leaves_as : bytes_after (sets l 0 (unit_bytes u)) c ≡ sets (sets l 0 (unit_bytes u)) 0 (unit_bytes (stepped u c).unit)
  leaves_as =
      ap (λ (b : Bool). bytes_by b (sets l 0 (unit_bytes u)) c) (never_strange l u room size)
      ∙ ap (λ (v : Unit). sets (sets l 0 (unit_bytes u)) 0 (unit_bytes (stepped v c).unit)) (found-again l u room size)

-- as many bytes put over others leave nothing of those
put_over : (l a b : List ℕ) → length a ≤ length l → length b ≡ length a → sets (sets l 0 a) 0 b ≡ sets l 0 b
put_over l a b room same =
    let wide : 0 + length b ≤ length (sets l 0 a) = omega (arith, length-sets l 0 a) in
    let ends : 0 + length a ≡ 0 + length b = omega arith in
    let behind : drop (0 + length b) (sets l 0 a) ≡ drop (0 + length b) l =
    ap (drop (0 + length b)) (sets-eq a l 0 (omega arith))
    ∙ drop_at a (drop (0 + length a) l) (0 + length b) (omega arith)
    ∙ ap (λ (k : ℕ). drop k l) ends in
    sets-eq b (sets l 0 a) 0 wide ∙ ap (λ (r : List ℕ). b ++ r) behind ∙ sym (sets-eq b l 0 (omega arith))

pub calls_are_the_run : CallsAreTheRun
unfolding calls left answers final
calls_are_the_run l u [] room size = (refl, refl)
calls_are_the_run l u (c ∷ cs) room size =
    let v : Unit = (stepped u c).unit in
    let x : List ℕ = sets l 0 (unit_bytes u) in
    let size' : length v.table ≡ segments = size_after u c ∙ size in
    let over : bytes_after x c ≡ sets l 0 (unit_bytes v) =
    leaves_as l u c room size ∙ put_over l (unit_bytes u) (unit_bytes v) (omega (arith, unit-length u size)) (unit-length v size' ∙ sym (unit-length u size)) in
    let rest = calls_are_the_run l v cs room size' in (
      ap (λ (a : Answer). a ∷ calls (bytes_after x c) cs) (answers_as l u c room size)
          ∙ ap (λ (m : List ℕ). (stepped u c).answer ∷ calls m cs) over
          ∙ ap (λ (r : List Answer). (stepped u c).answer ∷ r) rest.0,
      ap (λ (m : List ℕ). left m cs) over ∙ rest.1,
    )
