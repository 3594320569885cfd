-- The right answer, of the contracts themselves: what a caller learns of a call on known bytes is what document 01's sample has, computed
-- by the checker. Assumes nothing.
use mathlib.Core.Bool.{Bool, true, false}
use mathlib.Core.List.{List, [], ◌∷◌, ◌++◌}
use mathlib.Core.Path.{◌≡◌, refl, ap, ◌∙◌}
use Prim.Native.Nat.{ℕ, ◌+◌}
use base.Fml.{GName}
use contract.Lifetimes.{Lfts}
use borrow.Fn.Kinds.{ended_of}
use denote.MutBor.{MutBor}
use denote.Ref.{Bor}
use denote.Triple.Clauses.{AtExit}
use lib.Dec.{ltb}
use lib.ListN.{length, replicate}
use lib.Seq.{sets}
use Rattle.std.specs.Prelude.{Some}
use Rattle.text.proofs.Sample.{input, output}
use Rattle.text.specs.Listed.{filled, length_of}
use Rattle.trace_reader.specs.declared.Found.{Found}
use Rattle.std.specs.Prelude.{Ok, Err}
use Rattle.rules.specs.declared.refusal.Refusal.TheVariants.{PastTheCount}
use Rattle.rules.specs.Seen.{segment, translating, cycle_with, cycle, translated}
use Rattle.rules.specs.PowerOn.{power_on}
use Rattle.rules.specs.declared.Cycle.{Cycle}
use Rattle.board_rules.specs.declared.BoardCycle.{BoardCycle}
use Rattle.board_rules.specs.declared.BoardStepped.{BoardStepped}
use Rattle.rules.specs.declared.Stepped.{Stepped}
use Rattle.unit_lent.proofs.step_by_lending.Kinds as step-by-lending-k
use Rattle.unit_lent.proofs.step_by_lending.Reads as step-by-lending
use Rattle.trace_reader.proofs.Answers.{finds_only}
use Rattle.trace_reader.proofs.read_at.Kinds as read-at-k
use Rattle.trace_reader.proofs.read_at.Reads as read_at
use Rattle.trace_reader.proofs.shown_at.Kinds as shown-at-k
use Rattle.trace_reader.proofs.shown_at.Reads as shown-at
use Rattle.distantarm.proofs.distantarm_power_on.Kinds as distantarm-power-on-k
use Rattle.distantarm.proofs.distantarm_power_on.Reads as distantarm-power-on
use Rattle.distantarm.proofs.distantarm_cycle.Kinds as distantarm-cycle-k
use Rattle.distantarm.proofs.distantarm_cycle.Reads as distantarm-cycle
use Rattle.distantarm.proofs.distantarm_record_start.Kinds as distantarm-record-start-k
use Rattle.distantarm.proofs.distantarm_record_start.Reads as distantarm-record-start
use Rattle.distantarm.proofs.distantarm_record.Kinds as distantarm-record-k
use Rattle.distantarm.proofs.distantarm_record.Reads as distantarm-record
use Rattle.distantarm.proofs.distantarm_list.Kinds as distantarm-list-k
use Rattle.distantarm.proofs.distantarm_list.Reads as distantarm-list
use Rattle.board_step.proofs.step_board.Kinds as step-board-k
use Rattle.board_step.proofs.step_board.Reads as step-board
use Rattle.distantarm.proofs.distantarm_board_cycle.Kinds as distantarm-board-cycle-k
use Rattle.distantarm.proofs.distantarm_board_cycle.Reads as distantarm-board-cycle
use Rattle.theorems_promises.proofs.Agree.{handed, handed_board}
use Rattle.theorems_promises.proofs.Computed.{all_computed}

-- a lent buffer, wherever it stands
abbrev lent : ℕ × ℕ → GName → List ℕ → MutBor (List ℕ)
lent p g l = record { ref_ptr = p; ghost_name = g; now = l }

-- a lent trace, that is only read
abbrev shared : ℕ × ℕ → List ℕ → Bor (List ℕ)
shared p l = record { ref_ptr = p; now = l }

-- segment 0 with the attributes, the others blank, and a low byte: what stands behind a unit's notes
abbrev behind : (attributes low : ℕ) → List ℕ
behind a low = 35 ∷ 17 ∷ 32 ∷ a ∷ replicate 252 0 ++ (low ∷ [])

-- the unit after the first five cycles of the sample: MSEN and TRNS, and segment 0; with an older low byte, 99
abbrev turned_on : (attributes : ℕ) → List ℕ
turned_on a = 192 ∷ replicate 9 0 ++ behind a 99

-- a system data read and a normal data write in segment 0, at offset %15 and low byte 77
abbrev data_read : Cycle
data_read = cycle_with 8 true false false false 0 21 77 0 false

abbrev data_write : Cycle
data_write = cycle_with 8 false true false false 0 21 77 0 false

abbrev board_read : BoardCycle
board_read = record { cycle = data_read; selects = 0 }

-- record 5: a system data read, 11 blocks from the edge. The eighth byte of the lent answer is left
pub distantarm_cycle_known : (κs : Lfts 2) (p q : ℕ × ℕ) (g h : GName) (x : ℕ) (e : AtExit (ended_of 2 distantarm-cycle-k.ps distantarm-cycle-k.r) κs)
    → distantarm-cycle.Learnt κs (lent p g (turned_on 1), (lent q h (replicate 8 9), handed data_read)) x e
    → (x ≡ 0) × (e.0.now ≡ turned_on 129) × (e.1.0.now ≡ 84 ∷ 0 ∷ 35 ∷ 38 ∷ 1 ∷ 0 ∷ 11 ∷ 9 ∷ [])
unfolding all_computed
distantarm_cycle_known κs p q g h x e l = (l.says, l.leaves, l.shows)

-- record 6: a normal data write, which RD forbids. VTR, VOFF, BCSR and the notes are stored, and the low byte over the older one
pub distantarm_cycle_stores : (κs : Lfts 2) (p q : ℕ × ℕ) (g h : GName) (x : ℕ) (e : AtExit (ended_of 2 distantarm-cycle-k.ps distantarm-cycle-k.r) κs)
    → distantarm-cycle.Learnt κs (lent p g (turned_on 129), (lent q h (replicate 7 9), handed data_write)) x e
    → (x ≡ 0) × (e.0.now ≡ 192 ∷ 0 ∷ 0 ∷ 1 ∷ 0 ∷ 21 ∷ 40 ∷ 0 ∷ 0 ∷ 15 ∷ behind 129 77) × (e.1.0.now ≡ 84 ∷ 0 ∷ 35 ∷ 38 ∷ 7 ∷ 0 ∷ 11 ∷ [])
unfolding all_computed
distantarm_cycle_stores κs p q g h x e l = (l.says, l.leaves, l.shows)

-- notes that no unit has: refusal 2, and every byte of the unit is left
pub distantarm_cycle_strange : (κs : Lfts 2) (p q : ℕ × ℕ) (g h : GName) (x : ℕ) (e : AtExit (ended_of 2 distantarm-cycle-k.ps distantarm-cycle-k.r) κs)
    → distantarm-cycle.Learnt κs (lent p g (replicate 9 0 ++ (16 ∷ replicate 257 0)), (lent q h (replicate 7 9), handed data_read)) x e
    → (x ≡ 2) × (e.0.now ≡ replicate 9 0 ++ (16 ∷ replicate 257 0)) × (e.1.0.now ≡ 88 ∷ 2 ∷ 0 ∷ 0 ∷ 0 ∷ 0 ∷ 0 ∷ [])
unfolding all_computed
distantarm_cycle_strange κs p q g h x e l = (l.says, l.leaves, l.shows)

-- the least room, and a byte less of either
pub distantarm_cycle_room : (κs : Lfts 2) (p q : ℕ × ℕ) (g h : GName) (x y z : ℕ)
    (d e f : AtExit (ended_of 2 distantarm-cycle-k.ps distantarm-cycle-k.r) κs)
    → distantarm-cycle.Learnt κs (lent p g (replicate 267 0), (lent q h (replicate 7 9), handed data_read)) x d
    → distantarm-cycle.Learnt κs (lent p g (replicate 266 0), (lent q h (replicate 7 9), handed data_read)) y e
    → distantarm-cycle.Learnt κs (lent p g (replicate 267 0), (lent q h (replicate 6 9), handed data_read)) z f
    → (x ≡ 0) × ((y ≡ 255) × (e.0.now ≡ replicate 266 0) × (e.1.0.now ≡ replicate 7 9))
    × ((z ≡ 255) × (f.0.now ≡ replicate 267 0) × (f.1.0.now ≡ replicate 6 9))
unfolding all_computed
distantarm_cycle_room κs p q g h x y z d e f k l m = (k.says, (l.says, l.leaves, l.shows), (m.says, m.leaves, m.shows))

-- a board of two units, the second of them switched off: unit 0 translates the same read, and is named. The ninth byte of the lent answer and
-- the byte behind the units are left
pub distantarm_board_cycle_known : (κs : Lfts 2) (p q : ℕ × ℕ) (g h : GName) (x : ℕ)
    (e : AtExit (ended_of 2 distantarm-board-cycle-k.ps distantarm-board-cycle-k.r) κs)
    → distantarm-board-cycle.Learnt κs (lent p g (turned_on 1 ++ (replicate 267 0 ++ (7 ∷ []))), (lent q h (replicate 9 9), (2, handed_board board_read))) x e
    → (x ≡ 0) × (e.0.now ≡ turned_on 129 ++ (replicate 267 0 ++ (7 ∷ [])))
    × (e.1.0.now ≡ 84 ∷ 0 ∷ 35 ∷ 38 ∷ 1 ∷ 0 ∷ 11 ∷ 0 ∷ 9 ∷ [])
unfolding all_computed
distantarm_board_cycle_known κs p q g h x e l = (l.says, l.leaves, l.shows)

-- both units switched on: 12, nobody is named, and every byte is left. A count of 17 is 11, with no room asked of the units; seven bytes for an
-- answer, and a byte less of the units, are no room
pub distantarm_board_cycle_refuses : (κs : Lfts 2) (p q : ℕ × ℕ) (g h : GName) (w x y z : ℕ)
    (c d e f : AtExit (ended_of 2 distantarm-board-cycle-k.ps distantarm-board-cycle-k.r) κs)
    → distantarm-board-cycle.Learnt κs (lent p g (turned_on 1 ++ turned_on 1), (lent q h (replicate 8 9), (2, handed_board board_read))) w c
    → distantarm-board-cycle.Learnt κs (lent p g [], (lent q h (replicate 8 9), (17, handed_board board_read))) x d
    → distantarm-board-cycle.Learnt κs (lent p g (turned_on 1), (lent q h (replicate 7 9), (1, handed_board board_read))) y e
    → distantarm-board-cycle.Learnt κs (lent p g (replicate 533 0), (lent q h (replicate 8 9), (2, handed_board board_read))) z f
    → ((w ≡ 12) × (c.0.now ≡ turned_on 1 ++ turned_on 1) × (c.1.0.now ≡ 88 ∷ 12 ∷ 0 ∷ 0 ∷ 0 ∷ 0 ∷ 0 ∷ 255 ∷ []))
    × ((x ≡ 11) × (d.1.0.now ≡ 88 ∷ 11 ∷ 0 ∷ 0 ∷ 0 ∷ 0 ∷ 0 ∷ 255 ∷ []))
    × ((y ≡ 255) × (e.1.0.now ≡ replicate 7 9)) × ((z ≡ 255) × (f.0.now ≡ replicate 533 0))
unfolding all_computed
distantarm_board_cycle_refuses κs p q g h w x y z c d e f i j k l =
    ((i.says, i.leaves, i.shows), (j.says, j.shows), (k.says, k.shows), (l.says, l.leaves))

-- a lent count, wherever it stands
abbrev counted : ℕ × ℕ → GName → ℕ → MutBor ℕ
counted p g n = record { ref_ptr = p; ghost_name = g; now = n }

-- a byte more than a header has, as many, and a byte less; the count was 5, and is 0
pub distantarm_record_start_known : (κs : Lfts 2) (p q : ℕ × ℕ) (g h : GName) (x y z : ℕ)
    (d e f : AtExit (ended_of 2 distantarm-record-start-k.ps distantarm-record-start-k.r) κs)
    → distantarm-record-start.Learnt κs (lent p g (replicate 8 9), (counted q h 5, tt)) x d
    → distantarm-record-start.Learnt κs (lent p g (replicate 7 9), (counted q h 5, tt)) y e
    → distantarm-record-start.Learnt κs (lent p g (replicate 6 9), (counted q h 5, tt)) z f
    → ((x ≡ 0) × (d.1.0.now ≡ 0) × (d.0.now ≡ 77 ∷ 66 ∷ 84 ∷ 0 ∷ 1 ∷ 0 ∷ 0 ∷ 9 ∷ []))
    × ((y ≡ 0) × (e.1.0.now ≡ 0) × (e.0.now ≡ 77 ∷ 66 ∷ 84 ∷ 0 ∷ 1 ∷ 0 ∷ 0 ∷ []))
    × ((z ≡ 10) × (f.1.0.now ≡ 0) × (f.0.now ≡ replicate 6 9))
unfolding all_computed
distantarm_record_start_known κs p q g h x y z d e f k l m =
    ((k.says, k.counts, k.leaves), (l.says, l.counts, l.leaves), (m.says, m.counts, m.leaves))

-- the data write in a buffer of 9s, as the second record: the header says 2 records, the first and the byte behind are left, and the low byte,
-- 77, is nowhere
pub distantarm_record_known : (κs : Lfts 2) (p q : ℕ × ℕ) (g h : GName) (x : ℕ) (e : AtExit (ended_of 2 distantarm-record-k.ps distantarm-record-k.r) κs)
    → distantarm-record.Learnt κs (lent p g (replicate 16 9), (counted q h 1, handed data_write)) x e
    → (x ≡ 0) × (e.1.0.now ≡ 2)
    × (e.0.now ≡ 77 ∷ 66 ∷ 84 ∷ 0 ∷ 1 ∷ 0 ∷ 2 ∷ 9 ∷ 9 ∷ 9 ∷ 9 ∷ 40 ∷ 0 ∷ 21 ∷ 0 ∷ 9 ∷ [])
unfolding all_computed
distantarm_record_known κs p q g h x e l = (l.says, l.counts, l.leaves)

-- a status of 16, a full trace in a buffer without room, and a byte too few: 1, 7 and 10, and the buffer and the count are left
pub distantarm_record_refuses : (κs : Lfts 2) (p q : ℕ × ℕ) (g h : GName) (x y z : ℕ)
    (d e f : AtExit (ended_of 2 distantarm-record-k.ps distantarm-record-k.r) κs)
    → distantarm-record.Learnt κs (lent p g (replicate 15 9), (counted q h 1, handed (cycle_with 16 true false false false 0 21 77 0 true))) x d
    → distantarm-record.Learnt κs (lent p g (replicate 15 9), (counted q h 16000, handed data_write)) y e
    → distantarm-record.Learnt κs (lent p g (replicate 14 9), (counted q h 1, handed data_write)) z f
    → ((x ≡ 1) × (d.1.0.now ≡ 1) × (d.0.now ≡ replicate 15 9))
    × ((y ≡ 7) × (e.1.0.now ≡ 16000) × (e.0.now ≡ replicate 15 9))
    × ((z ≡ 10) × (f.1.0.now ≡ 1) × (f.0.now ≡ replicate 14 9))
unfolding all_computed
distantarm_record_refuses κs p q g h x y z d e f k l m =
    ((k.says, k.counts, k.leaves), (l.says, l.counts, l.leaves), (m.says, m.counts, m.leaves))

-- the text of the sample, in a buffer with room, and in one without
pub distantarm_list_known : (κs : Lfts 2) (p q : ℕ × ℕ) (h : GName) (x : ℕ) (l : List ℕ)
    (e : AtExit (ended_of 2 distantarm-list-k.ps distantarm-list-k.r) κs)
    → distantarm-list.Learnt κs (shared p input, (lent q h l, tt)) x e
    → (ltb (length l) 496012 ≡ false → (x ≡ 172) × (e.1.0.now ≡ sets l 0 output))
    × (ltb (length l) 496012 ≡ true → (x ≡ 0) × (e.1.0.now ≡ l))
unfolding all_computed
distantarm_list_known κs p q h x l e s = (
  λ wide. (s.count ∙ ap (λ (b : Bool). length_of b input) wide, s.text ∙ ap (λ (b : Bool). filled b input l) wide),
  λ short. (s.count ∙ ap (λ (b : Bool). length_of b input) short, s.text ∙ ap (λ (b : Bool). filled b input l) short),
)

-- a byte more than a unit has, as many, and a byte less
pub distantarm_power_on_known : (κs : Lfts 1) (p : ℕ × ℕ) (g : GName) (x y z : ℕ)
    (d e f : AtExit (ended_of 1 distantarm-power-on-k.ps distantarm-power-on-k.r) κs)
    → distantarm-power-on.Learnt κs (lent p g (replicate 268 9), tt) x d
    → distantarm-power-on.Learnt κs (lent p g (replicate 267 9), tt) y e
    → distantarm-power-on.Learnt κs (lent p g (replicate 266 9), tt) z f
    → ((x ≡ 0) × (d.0.now ≡ replicate 267 0 ++ (9 ∷ []))) × ((y ≡ 0) × (e.0.now ≡ replicate 267 0))
    × ((z ≡ 255) × (f.0.now ≡ replicate 266 9))
unfolding all_computed
distantarm_power_on_known κs p g x y z d e f k l m = ((k.says, k.leaves), (l.says, l.leaves), (m.says, m.leaves))

-- record 5 of the sample, and none past its count
pub shown_at_known : (κs : Lfts 1) (p : ℕ × ℕ) (x y : Bor (List ℕ)) (e f : AtExit (ended_of 1 shown-at-k.ps shown-at-k.r) κs)
    → shown-at.Learnt κs (shared p input, (5, tt)) x e → shown-at.Learnt κs (shared p input, (9, tt)) y f
    → (x.now ≡ 24 ∷ 0 ∷ 21 ∷ 0 ∷ []) × (x.ref_ptr ≡ (p.0, 27 + p.1)) × (y.now ≡ []) × (y.ref_ptr ≡ (p.0, 0 + p.1))
unfolding all_computed
shown_at_known κs p x y e f l m = (l.0, l.1, m.0, m.1)

pub read_at_known : (κs : Lfts 1) (p : ℕ × ℕ) (x y : Found) (e f : AtExit (ended_of 1 read-at-k.ps read-at-k.r) κs)
    → read_at.Learnt κs (shared p input, (5, tt)) x e → read_at.Learnt κs (shared p input, (9, tt)) y f
    → (x ≡ record { step = Ok (cycle_with 8 true false false false 0 21 0 0 false); next = 6 }) × (y ≡ record { step = Err PastTheCount; next = 9 })
unfolding all_computed
read_at_known κs p x y e f l m = (
  finds_only input 5 x (record { step = Ok (cycle_with 8 true false false false 0 21 0 0 false); next = 6 }) l ((refl, refl), refl),
  finds_only input 9 y (record { step = Err PastTheCount; next = 9 }) m ((refl, refl), refl),
)

-- the same cycle, on a board of two unit records, of which unit 1 has the segment
pub step_board_known : (κs : Lfts 0) (s : BoardStepped) (e : AtExit (ended_of 0 step-board-k.ps step-board-k.r) κs)
    → step-board.Learnt κs (
      record { units = power_on ∷ translating (segment 8977 32 1) ∷ []; count = 2 },
      (record { cycle = cycle false true false 8 0 21; selects = 0 }, tt),
    ) s e
    → s ≡ record {
      board = record { units = power_on ∷ translating (segment 8977 32 129) ∷ []; count = 2 };
      answer = record { answer = translated 8998 false false 11; named = Some 1 };
    }
unfolding all_computed
step_board_known κs s e l = l

-- the same cycle, on the unit record
pub step_by_lending_known : (κs : Lfts 0) (s : Stepped) (e : AtExit (ended_of 0 step-by-lending-k.ps step-by-lending-k.r) κs)
    → step-by-lending.Learnt κs (translating (segment 8977 32 1), (cycle false true false 8 0 21, tt)) s e
    → s ≡ record {
      unit = translating (segment 8977 32 129);
      answer = translated 8998 false false 11;
    }
unfolding all_computed
step_by_lending_known κs s e l = l
