-- What one turn of the run does: one record more, answered, and the board after it.
-- Assumes nothing.
use mathlib.Core.Path.{◌≡◌, refl, sym, ap, ◌∙◌}
use mathlib.Core.Bool.{Bool, true, false}
use mathlib.Core.List.{List, [], ◌∷◌, ◌++◌}
use Prim.Native.Nat.{ℕ, zero, suc, ◌+◌, ◌*◌, ◌-◌, ◌/◌, ◌<◌, ◌≤◌}
use native.Mathlib.Nat.{zero-add, suc-add}
use native.Mathlib.Omega.{arith}
use native.Mathlib.Numerals.{add-one}
use lib.ListN.{length, get_or, take, drop, length-append, replicate}
use lib.Seq.{sets, length-sets, drop-drop, get_or-take, get_or-drop}
use Rattle.std.proofs.lemmas.List.{take-take}
use Rattle.std.specs.Simd.{first_chunks}
use Rattle.rules.specs.PowerOn.{blank, power_on}
use Rattle.rules.specs.declared.Descriptor.{Descriptor}
use Rattle.rules.specs.declared.Registers.{Registers}
use Rattle.rules.specs.declared.Unit.{Unit}
use Rattle.unit_stores.specs.Word.{word_at}
use Rattle.unit_stores.proofs.Laws.{sets-append}
use Rattle.unit_packed.specs.Packed.{packed}
use Rattle.board_rules.specs.Board.{nobodys, wrong_count, refusing, board_answer_by, board_answer, board_after, board_answers, board_final}
use Rattle.board_rules.specs.declared.Board.{Board}
use Rattle.board_rules.specs.declared.BoardAnswer.{BoardAnswer}
use Rattle.board_rules.specs.declared.BoardCycle.{BoardCycle}
use Rattle.board_packed.specs.BoardPacked.{board_width, board_packed, board_packed_all}
use Rattle.board_run.specs.BoardRun.{record_size, low_at, board_cycle_at, board_cycles_to, board_on, board_ran_to, refused_to}
use Rattle.board_run.specs.Plan.{table_of, unit_of, units_from}
use Rattle.board_run.proofs.Boards.{board_of}

-- one cycle more
answers_more : (cs : List BoardCycle) (b : Board) (c : BoardCycle)
    → board_answers b (cs ++ (c ∷ [])) ≡ board_answers b cs ++ (board_answer (board_final b cs) c ∷ [])
unfolding board_answers board_final
answers_more [] b c = refl
answers_more (x ∷ cs) b c = ap (λ (r : List BoardAnswer). board_answer b x ∷ r) (answers_more cs (board_after b x) c)

final_more : (cs : List BoardCycle) (b : Board) (c : BoardCycle) → board_final b (cs ++ (c ∷ [])) ≡ board_after (board_final b cs) c
unfolding board_final
final_more [] b c = refl
final_more (x ∷ cs) b c = final_more cs (board_after b x) c

packed_more : (rest : List BoardAnswer) (a : BoardAnswer) → board_packed_all (rest ++ (a ∷ [])) ≡ board_packed_all rest ++ board_packed a
unfolding board_packed_all board_packed packed
packed_more [] a = refl
packed_more (x ∷ rest) a = ap (λ (r : List ℕ). board_packed x ++ r) (packed_more rest a)

-- lengths
packed-length : (xs : List BoardAnswer) → length (board_packed_all xs) ≡ board_width * length xs
unfolding board_packed_all board_packed packed
packed-length [] = refl
packed-length (a ∷ xs) = let h : length (board_packed_all xs) ≡ board_width * length xs = packed-length xs in omega (arith, h)

answers-length : (cs : List BoardCycle) (b : Board) → length (board_answers b cs) ≡ length cs
unfolding board_answers
answers-length [] b = refl
answers-length (c ∷ cs) b = ap suc (answers-length cs (board_after b c))

cycles_length : (t : List ℕ) (n : ℕ) → length (board_cycles_to t n) ≡ n
unfolding board_cycles_to
cycles_length t zero = refl
cycles_length t (suc n) =
    length-append (board_cycles_to t n) (board_cycle_at t (record_size * n) ∷ [])
    ∙ let h : length (board_cycles_to t n) ≡ n = cycles_length t n in omega (arith, h)

-- a list of answers in the buffer, and one more
stored : (o : List ℕ) (xs : List BoardAnswer) (a : BoardAnswer) (n : ℕ) → length xs ≡ n
    → sets (sets o 0 (board_packed_all xs)) (board_width * n) (board_packed a) ≡ sets o 0 (board_packed_all (xs ++ (a ∷ [])))
stored o xs a n e =
    ap (λ (k : ℕ). sets (sets o 0 (board_packed_all xs)) k (board_packed a)) (omega (arith, packed-length xs, e))
    ∙ sets-append o 0 (board_packed_all xs) (board_packed a)
    ∙ ap (λ (bs : List ℕ). sets o 0 bs) (sym (packed_more xs a))

-- the board after n records, and the cycle of record n
abbrev pub board_at : List ℕ → (count n : ℕ) → Board
board_at t count n = board_final (board_on count) (board_cycles_to t n)

abbrev pub cycle_at : List ℕ → ℕ → BoardCycle
cycle_at t n = board_cycle_at t (record_size * n)

-- record n, among the records as arrays
record_among : (d : List ℕ) (n m : ℕ) (t : List ℕ) → n < m → get_or (first_chunks record_size m t) n d ≡ take record_size (drop (record_size * n) t)
record_among d n zero t l = absurd (omega (arith, l))
record_among d zero (suc m) t l = refl
record_among d (suc n) (suc m) t l =
    record_among d n m (drop record_size t) (omega (arith, l))
    ∙ ap (take record_size) (drop-drop (record_size * n) record_size t ∙ ap (λ (k : ℕ). drop k t) (omega arith))

byte_among : (t : List ℕ) (at k : ℕ) → k < record_size → get_or (take record_size (drop at t)) k 0 ≡ get_or t (at + k) 0
byte_among t at k h = get_or-take record_size (drop at t) k 0 h ∙ get_or-drop at t k 0

cycle_among : (t : List ℕ) (at : ℕ) → board_cycle_at (take record_size (drop at t)) 0 ≡ board_cycle_at t at
unfolding board_cycle_at word_at
cycle_among t at =
    let last : get_or (take record_size (drop at t)) 6 0 ≡ get_or t (at + 5 + 1) 0 =
    byte_among t at 6 (omega arith) ∙ ap (λ (k : ℕ). get_or t k 0) (omega arith) in
    rw (take-take low_at record_size (drop at t) (omega arith), byte_among t at 4 (omega arith), byte_among t at 5 (omega arith), last) refl

pub record_shown : (t d : List ℕ) (n count : ℕ) → n < count → record_size * count ≤ length t
    → board_cycle_at (get_or (take count (first_chunks record_size (length t / record_size) t)) n d) 0 ≡ cycle_at t n
record_shown t d n count h enough =
    ap (λ (p : List ℕ). board_cycle_at p 0)
    (get_or-take count (first_chunks record_size (length t / record_size) t) n d h
    ∙ record_among d n (length t / record_size) t (omega (arith, h, enough)))
    ∙ cycle_among t (record_size * n)

pub board_turned : (t : List ℕ) (count n : ℕ) → board_after (board_at t count n) (cycle_at t n) ≡ board_at t count (n + 1)
unfolding board_cycles_to
board_turned t count n = sym (final_more (board_cycles_to t n) (board_on count) (cycle_at t n)) ∙ ap (λ (k : ℕ). board_at t count k) (sym (add-one n))

pub answer_stored : (t o out : List ℕ) (count n : ℕ) (a : BoardAnswer) → out ≡ board_ran_to t count n o
    → a ≡ board_answer (board_at t count n) (cycle_at t n) → sets out (board_width * n) (board_packed a) ≡ board_ran_to t count (n + 1) o
unfolding board_ran_to board_cycles_to
answer_stored t o out count n a h e =
    let cs : List BoardCycle = board_cycles_to t n in
    ap (λ (m : List ℕ). sets m (board_width * n) (board_packed a)) h
    ∙ ap (λ (x : BoardAnswer). sets (board_ran_to t count n o) (board_width * n) (board_packed x)) e
    ∙ stored o (board_answers (board_on count) cs) (board_answer (board_at t count n) (cycle_at t n)) n
    (answers-length cs (board_on count) ∙ cycles_length t n)
    ∙ ap (λ (xs : List BoardAnswer). sets o 0 (board_packed_all xs)) (sym (answers_more cs (board_on count) (cycle_at t n)))
    ∙ ap (λ (k : ℕ). sets o 0 (board_packed_all (board_answers (board_on count) (board_cycles_to t k)))) (sym (add-one n))

-- a turn's answer stored, and the board after it
pub turn_ends : (t o out out' : List ℕ) (count n : ℕ) (rs rs' : List Registers) (ts ts' : List Descriptor) (b : BoardCycle) (a : BoardAnswer)
    → out ≡ board_ran_to t count n o → board_of rs ts count ≡ board_at t count n → b ≡ cycle_at t n
    → a ≡ board_answer (board_of rs ts count) b → board_after (board_of rs ts count) b ≡ board_of rs' ts' count
    → out' ≡ sets out (board_width * n) (board_packed a)
    → (length out' ≡ length out) × (out' ≡ board_ran_to t count (n + 1) o) × (board_of rs' ts' count ≡ board_at t count (n + 1))
turn_ends t o out out' count n rs rs' ts ts' b a h e k answer after stores = (
  ap length stores ∙ length-sets out (board_width * n) (board_packed a),
  stores
      ∙ answer_stored t o out count n a h
      (answer ∙ ap (λ (x : Board). board_answer x b) e ∙ ap (λ (x : BoardCycle). board_answer (board_at t count n) x) k),
  sym after ∙ ap (λ (x : Board). board_after x b) e ∙ ap (λ (x : BoardCycle). board_after (board_at t count n) x) k ∙ board_turned t count n,
)

-- Power-on

module _ {A : Type 0} (x : A) where
  drop_same : (a b : ℕ) → drop a (replicate (a + b) x) ≡ replicate b x
  drop_same zero b = ap (λ (n : ℕ). replicate n x) (zero-add b)
  drop_same (suc a) b = ap (λ (n : ℕ). drop (suc a) (replicate n x)) (suc-add a b) ∙ drop_same a b

  take_same : (a b : ℕ) → take a (replicate (a + b) x) ≡ replicate a x
  take_same zero b = refl
  take_same (suc a) b = ap (λ (n : ℕ). take (suc a) (replicate n x)) (suc-add a b) ∙ ap (λ (l : List A). x ∷ l) (take_same a b)

  at_same : (n i : ℕ) → get_or (replicate n x) i x ≡ x
  at_same zero i = refl
  at_same (suc n) zero = refl
  at_same (suc n) (suc i) = at_same n i

-- the arrays as they are filled hold units at power-on
units_on : (k n : ℕ) → k + n ≤ 16 → units_from (replicate 16 power_on.registers) (replicate 1024 blank) k n ≡ replicate n power_on
unfolding units_from
units_on k zero h = refl
units_on k (suc n) h =
    let room : 64 * k + (64 + (960 - 64 * k)) ≡ 1024 = omega arith in
    let table : table_of (replicate 1024 blank) k ≡ replicate 64 blank =
    ap (λ (m : ℕ). take 64 (drop (64 * k) (replicate m blank))) (sym room)
    ∙ ap (take 64) (drop_same blank (64 * k) (64 + (960 - 64 * k)))
    ∙ take_same blank 64 (960 - 64 * k) in
    let unit : unit_of (replicate 16 power_on.registers) (replicate 1024 blank) k ≡ power_on =
    ap (λ (t : List Descriptor). record { table = t; registers = get_or (replicate 16 power_on.registers) k power_on.registers }) table
    ∙ ap (λ (r : Registers). record { table = replicate 64 blank; registers = r }) (at_same power_on.registers 16 k) in
    ap (λ (u : Unit). u ∷ units_from (replicate 16 power_on.registers) (replicate 1024 blank) (suc k) n) unit
    ∙ ap (λ (l : List Unit). power_on ∷ l) (units_on (suc k) n (omega arith))

pub board_begins : (count : ℕ) (r : Registers) → count ≤ 16 → r ≡ power_on.registers
    → board_of (replicate 16 r) (replicate 1024 blank) count ≡ board_on count
board_begins count r h e =
    ap (λ (x : Registers). board_of (replicate 16 x) (replicate 1024 blank) count) e
    ∙ ap (λ (l : List Unit). record { units = l; count = count }) (units_on 0 count (omega arith))

-- Refusals by 11

abbrev eleven : BoardAnswer
eleven = refusing (nobodys 11) false

replicate_more : (n : ℕ) → replicate n eleven ++ (eleven ∷ []) ≡ replicate (suc n) eleven
replicate_more zero = refl
replicate_more (suc n) = ap (λ (r : List BoardAnswer). eleven ∷ r) (replicate_more n)

replicate-length : (n : ℕ) → length (replicate n eleven) ≡ n
replicate-length zero = refl
replicate-length (suc n) = ap suc (replicate-length n)

pub eleven_stored : (o out : List ℕ) (n : ℕ) (a : BoardAnswer) → out ≡ refused_to n o → a ≡ eleven
    → sets out (board_width * n) (board_packed a) ≡ refused_to (n + 1) o
unfolding refused_to
eleven_stored o out n a h e =
    ap (λ (m : List ℕ). sets m (board_width * n) (board_packed a)) h
    ∙ ap (λ (x : BoardAnswer). sets (refused_to n o) (board_width * n) (board_packed x)) e
    ∙ stored o (replicate n eleven) eleven n (replicate-length n)
    ∙ ap (λ (xs : List BoardAnswer). sets o 0 (board_packed_all xs)) (replicate_more n)
    ∙ ap (λ (k : ℕ). sets o 0 (board_packed_all (replicate k eleven))) (sym (add-one n))

all_eleven : (b : Board) → wrong_count b.count ≡ true → (cs : List BoardCycle) → board_answers b cs ≡ replicate (length cs) eleven
unfolding board_answers board_answer board_after
all_eleven b e [] = refl
all_eleven b e (c ∷ cs) =
    ap (λ (w : Bool). board_answer_by w b c ∷ board_answers (board_after b c) cs) e
    ∙ ap (λ (r : List BoardAnswer). eleven ∷ r) (all_eleven (board_after b c) e cs)

-- a board with a wrong count refuses all
pub refused_all : (t o : List ℕ) (count n : ℕ) → wrong_count count ≡ true → refused_to n o ≡ board_ran_to t count n o
unfolding refused_to board_ran_to
refused_all t o count n e =
    ap (λ (xs : List BoardAnswer). sets o 0 (board_packed_all xs))
    (ap (λ (k : ℕ). replicate k eleven) (sym (cycles_length t n)) ∙ sym (all_eleven (board_on count) e (board_cycles_to t n)))
