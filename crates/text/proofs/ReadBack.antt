-- What was packed is read back: the lines of packed answers are the lines of the answers.
-- Assumes nothing.
use mathlib.Core.Path.{◌≡◌, refl, sym, ap, ◌∙◌}
use mathlib.Core.Bool.{Bool}
use mathlib.Core.List.{List, [], ◌∷◌, ◌++◌}
use Prim.Native.Nat.{ℕ, suc, ◌+◌, ◌*◌, ◌≤◌}
use native.Mathlib.Omega.{arith}
use lib.ListN.{length, drop}
use lib.Seq.{sets, sets-eq}
use Rattle.text.specs.Lines.{line_of, lines_of}
use Rattle.unit_packed.specs.Packed.{width, flags_of, packed, packed_all}
use Rattle.rules.specs.PowerOn.{power_on}
use Rattle.rules.specs.Runs.{answers}
use Rattle.rules.specs.Step.{after}
use Rattle.rules.specs.declared.Answer.{Answer}
use Rattle.rules.specs.declared.Cycle.{Cycle}
use Rattle.rules.specs.declared.Unit.{Unit}
use Rattle.unit_stores.proofs.Bits.{flag_found}
use Rattle.run.proofs.Turns.{packed-length, cycles_length}
use Rattle.trace_records.specs.Trace.{cycles_to}
use Rattle.text.specs.Text.{answer_line, answer_lines}

-- ---- a line, and lines
line_back : (n : ℕ) (a : Answer) → line_of n (packed a) ≡ answer_line n a
unfolding line_of answer_line packed flags_of
line_back n a =
    let l : List Bool = a.address.driven ∷ a.sup ∷ a.trap ∷ a.drives ∷ [] in
    simp (flag_found l 0, flag_found l 1, flag_found l 2, flag_found l 3)

pub lines_back : (n : ℕ) (xs : List Answer) (rest : List ℕ) → lines_of n (length xs) (packed_all xs ++ rest) ≡ answer_lines n xs
unfolding lines_of packed_all packed
lines_back n [] rest = refl
lines_back n (a ∷ xs) rest =
    ap (λ (l : List ℕ). l ++ lines_of (n + 1) (length xs) (packed_all xs ++ rest)) (line_back n a)
    ∙ ap (λ (l : List ℕ). answer_line n a ++ l) (lines_back (n + 1) xs rest)

answers-length : (u : Unit) (cs : List Cycle) → length (answers u cs) ≡ length cs
unfolding answers
answers-length u [] = refl
answers-length u (c ∷ cs) = ap suc (answers-length (after u c) cs)

-- the lines of the first n answers of a run, from the buffer that it left
pub ran_back : (t l : List ℕ) (n : ℕ) → width * n ≤ length l
    → lines_of 0 n (sets l 0 (packed_all (answers power_on (cycles_to t n)))) ≡ answer_lines 0 (answers power_on (cycles_to t n))
ran_back t l n h =
    let cs : List Cycle = cycles_to t n in
    let xs : List Answer = answers power_on cs in
    let count : length xs ≡ n = answers-length power_on cs ∙ cycles_length t n in
    let long : length (packed_all xs) ≡ width * length cs = packed-length cs power_on in
    let fits : 0 + length (packed_all xs) ≤ length l = omega (arith, cycles_length t n) in
    ap (λ (p : List ℕ). lines_of 0 n p) (sets-eq (packed_all xs) l 0 fits)
    ∙ ap (λ (k : ℕ). lines_of 0 k (packed_all xs ++ drop (0 + length (packed_all xs)) l)) (sym count)
    ∙ lines_back 0 xs (drop (0 + length (packed_all xs)) l)
