-- The right answer, for every argument: a call that no other crate's proof uses agrees with the calls that it stands for, by what a caller
-- learns of each. Assumes nothing.
use mathlib.Core.Bool.{Bool, false, cond, ◌||◌}
use mathlib.Core.List.{List, [], ◌∷◌}
use mathlib.Core.Path.{◌≡◌, sym, ap, ◌∙◌}
use Prim.Native.Nat.{ℕ, ◌+◌}
use contract.Lifetimes.{Lfts}
use borrow.Fn.Kinds.{Dens, res_t, ended_of}
use denote.MutBor.{MutBor}
use denote.Ref.{Bor}
use denote.Triple.Clauses.{AtExit}
use lib.Dec.{eqb, ltb}
use lib.ListN.{length, get_or}
use lib.Seq.{sets}
use Rattle.distantarm.specs.Interface.{start_number, start_bytes, board_given}
use Rattle.unit_packed.specs.Packed.{width, packed}
use Rattle.trace_reader.specs.Reading.{step_number, step_values, given_by, given_at, after_of}
use Rattle.rules.specs.Kinds.{number_of}
use Rattle.rules.specs.declared.Cycle.{Cycle}
use Rattle.rules.specs.declared.Stepped.{Stepped}
use Rattle.rules.specs.declared.Unit.{Unit as UnitRec}
use Rattle.unit_bytes.specs.Snapshot.{notes_at, unit_size, LAST_NOTES, unit_in, unit_bytes}
use Rattle.trace_records.specs.Trace.{part_of, cycle_of}
use Rattle.unit_bytes.specs.Cycled.{cycle_number, cycle_answer, cycle_bytes, answer_by, bytes_by}
use Rattle.rules.specs.Runs.{answers, final}
use Rattle.board_rules.specs.Board.{board_answer, board_answers, board_final}
use Rattle.board_rules.specs.declared.BoardAnswer.{BoardAnswer}
use Rattle.board_rules.specs.declared.BoardCycle.{BoardCycle}
use Rattle.board_rules.specs.declared.BoardStepped.{BoardStepped}
use Rattle.rules.specs.Seen.{cycle_with}
use Rattle.board_bytes.specs.Boarded.{board_in, board_bytes, no_room, call_number, call_answer, call_units}
use Rattle.theorems_boards.specs.Alone.{as_boards, board_of_one}
use Rattle.theorems_boards.specs.Seats.{cycle_at}
use Rattle.theorems_boards.proofs.One.{one_is_the_unit}
use Rattle.board_bytes.proofs.cycle.Kinds as cycle-k
use Rattle.board_bytes.proofs.cycle.Reads as cycle
use Rattle.board_step.proofs.step_board.Kinds as step-board-k
use Rattle.board_step.proofs.step_board.Reads as step-board
use Rattle.distantarm.proofs.distantarm_board_cycle.Kinds as distantarm-board-cycle-k
use Rattle.distantarm.proofs.distantarm_board_cycle.Reads as distantarm-board-cycle
use Rattle.rules.proofs.Unit.power_on.Kinds as power-on-k
use Rattle.rules.proofs.Unit.power_on.Reads as power-on
use Rattle.unit_step.proofs.step.step.Kinds as step-k
use Rattle.unit_step.proofs.step.step.Reads as step
use Rattle.unit_lent.proofs.step_by_lending.Kinds as step-by-lending-k
use Rattle.unit_lent.proofs.step_by_lending.Reads as step-by-lending
use Rattle.trace_records.proofs.record_refusal.Kinds as record-refusal-k
use Rattle.trace_records.proofs.record_refusal.Reads as record-refusal
use Rattle.trace_records.proofs.decode.Kinds as decode-k
use Rattle.trace_records.proofs.decode.Reads as decode
use Rattle.trace_reader.proofs.read_at.Kinds as read-at-k
use Rattle.trace_reader.proofs.read_at.Reads as read_at
use Rattle.trace_records.proofs.part.Kinds as part-k
use Rattle.trace_records.proofs.part.Reads as part
use Rattle.trace_reader.proofs.shown_at.Kinds as shown-at-k
use Rattle.trace_reader.proofs.shown_at.Reads as shown-at
use Rattle.std.specs.Prelude.{Option, Result, unwrap_or}
use Rattle.rules.specs.Numbers.{number_of_outcome}
use Rattle.rules.specs.declared.refusal.Refusal.{Refusal}
use Rattle.trace_writer.specs.Writing.{recorded_by}
use Rattle.trace_writer.proofs.record_start.Kinds as record-start-k
use Rattle.trace_writer.proofs.record_start.Reads as record-start
use Rattle.trace_writer.proofs.record_cycle.Kinds as record-cycle-k
use Rattle.trace_writer.proofs.record_cycle.Reads as record-cycle
use Rattle.text.proofs.listing.list.Kinds as list-k
use Rattle.text.proofs.listing.list.Reads as list
use Rattle.distantarm.proofs.distantarm_power_on.Kinds as distantarm-power-on-k
use Rattle.distantarm.proofs.distantarm_power_on.Reads as distantarm-power-on
use Rattle.distantarm.proofs.distantarm_cycle.Kinds as distantarm-cycle-k
use Rattle.distantarm.proofs.distantarm_cycle.Reads as distantarm-cycle
use Rattle.distantarm.proofs.distantarm_record_start.Kinds as distantarm-record-start-k
use Rattle.distantarm.proofs.distantarm_record_start.Reads as distantarm-record-start
use Rattle.distantarm.proofs.distantarm_record.Kinds as distantarm-record-k
use Rattle.distantarm.proofs.distantarm_record.Reads as distantarm-record
use Rattle.distantarm.proofs.distantarm_list.Kinds as distantarm-list-k
use Rattle.distantarm.proofs.distantarm_list.Reads as distantarm-list

pub step_by_lending_agrees : (κs : Lfts 0) (a : Dens κs step-k.ps) (x y : (res_t step-k.r κs).Denot)
    (e : AtExit (ended_of 0 step-k.ps step-k.r) κs) (f : AtExit (ended_of 0 step-by-lending-k.ps step-by-lending-k.r) κs)
    → step.Learnt κs a x e → step-by-lending.Learnt κs a y f → x ≡ y
step_by_lending_agrees κs a x y e f p q = cc

-- a board of one unit is the unit, with bit 0 of the selects as its select; the units behind it stay
pub step_board_agrees : (κs : Lfts 0) (u : UnitRec) (us : List UnitRec) (c : BoardCycle) (s : Stepped) (t : BoardStepped)
    (e : AtExit (ended_of 0 step-k.ps step-k.r) κs) (f : AtExit (ended_of 0 step-board-k.ps step-board-k.r) κs)
    → step.Learnt κs (u, (cycle_at 0 c, tt)) s e
    → step-board.Learnt κs (record { units = u ∷ us; count = 1 }, (c, tt)) t f
    → (t.answer ≡ as_boards s.answer) × (t.board ≡ record { units = s.unit ∷ us; count = 1 })
unfolding board_answers board_final answers final
step_board_agrees κs u us c s t e f p q =
    let alone = one_is_the_unit u us (c ∷ []) in (
      ap (λ (b : BoardStepped). b.answer) q
          ∙ ap (λ (l : List BoardAnswer). get_or l 0 (as_boards s.answer)) alone.0
          ∙ ap (λ (x : Stepped). as_boards x.answer) (sym p),
      ap (λ (b : BoardStepped). b.board) q ∙ alone.1 ∙ ap (λ (x : Stepped). board_of_one x.unit us) (sym p),
    )

pub shown_at_agrees : (κs : Lfts 1) (a : Dens κs part-k.ps) (x y : (res_t part-k.r κs).Denot)
    (e : AtExit (ended_of 1 part-k.ps part-k.r) κs) (f : AtExit (ended_of 1 shown-at-k.ps shown-at-k.r) κs)
    → part.Learnt κs a x e → shown-at.Learnt κs a y f → (x.now ≡ y.now) × (x.ref_ptr ≡ y.ref_ptr)
shown_at_agrees κs a x y e f p q = (cc, cc)

-- a record's cycle, or the number that refuses it
pub read_at_agrees : (κs : Lfts 1) (a : Dens κs part-k.ps) (judged : Result (Unit {0}) Refusal) (p : Bor (List ℕ)) (c : Cycle)
    (x : (res_t read-at-k.r κs).Denot)
    (e : AtExit (ended_of 1 record-refusal-k.ps record-refusal-k.r) κs) (f : AtExit (ended_of 1 part-k.ps part-k.r) κs)
    (g : AtExit (ended_of 1 decode-k.ps decode-k.r) κs) (h : AtExit (ended_of 1 read-at-k.ps read-at-k.r) κs)
    → record-refusal.Learnt κs a judged e → part.Learnt κs a p f → decode.Learnt κs (p, tt) c g → read_at.Learnt κs a x h
    → (step_number x.step ≡ number_of_outcome judged) × (step_values x.step ≡ given_by (eqb (number_of_outcome judged) 0) c)
    × (x.next ≡ cond (eqb (number_of_outcome judged) 0) (a.1.0 + 1) a.1.0)
unfolding given_at after_of
read_at_agrees κs a judged p c x e f g h refuses shows decodes reads =
    let same : c ≡ cycle_of (part_of a.0.now a.1.0) = decodes ∙ ap cycle_of shows.0 in (
      reads.0.0 ∙ sym refuses,
      reads.0.1
          ∙ ap (λ (k : ℕ). given_by (eqb k 0) (cycle_of (part_of a.0.now a.1.0))) (sym refuses)
          ∙ ap (given_by (eqb (number_of_outcome judged) 0)) (sym same),
      reads.1 ∙ ap (λ (k : ℕ). cond (eqb k 0) (a.1.0 + 1) a.1.0) (sym refuses),
    )

-- a text's length, and 0 where there is none
pub distantarm_list_agrees : (κs : Lfts 2) (a : Dens κs list-k.ps) (x : Option ℕ) (y : ℕ)
    (e : AtExit (ended_of 2 list-k.ps list-k.r) κs) (f : AtExit (ended_of 2 distantarm-list-k.ps distantarm-list-k.r) κs)
    → list.Learnt κs a x e → distantarm-list.Learnt κs a y f → (unwrap_or x 0 ≡ y) × (e.1.0.now ≡ f.1.0.now)
distantarm_list_agrees κs a x y e f p q = (cc, cc)

-- a unit's bytes at power-on, where there is room
pub distantarm_power_on_agrees : (κs : Lfts 1) (κ₀ : Lfts 0) (a : Dens κs distantarm-power-on-k.ps) (u : UnitRec) (x : ℕ)
    (e : AtExit (ended_of 0 power-on-k.ps power-on-k.r) κ₀) (f : AtExit (ended_of 1 distantarm-power-on-k.ps distantarm-power-on-k.r) κs)
    → ltb (length a.0.now) unit_size ≡ false
    → power-on.Learnt κ₀ tt u e → distantarm-power-on.Learnt κs a x f
    → (x ≡ 0) × (f.0.now ≡ sets a.0.now 0 (unit_bytes u))
distantarm_power_on_agrees κs κ₀ a u x e f room p q = (
  q.says ∙ ap start_number room,
  q.leaves ∙ ap (λ (b : Bool). start_bytes b a.0.now) room ∙ ap (λ (v : UnitRec). sets a.0.now 0 (unit_bytes v)) (sym p),
)

-- a cycle as `distantarm_cycle` takes it
abbrev pub handed : Cycle → ℕ × (Bool × (Bool × (Bool × (Bool × (ℕ × (ℕ × (ℕ × (ℕ × (Bool × Unit {0})))))))))
handed c = (c.status, (c.read, (c.normal, (c.dma, (c.select, (c.segment, (c.offset, (c.low, (c.byte, (c.reset, tt))))))))))

-- a cycle of the unit in the bytes, where there is room and the notes are a unit's
pub distantarm_cycle_agrees : (κs : Lfts 2) (κ₀ : Lfts 0) (u v : MutBor (List ℕ)) (c : Cycle) (s : Stepped) (x : ℕ)
    (e : AtExit (ended_of 0 step-k.ps step-k.r) κ₀) (f : AtExit (ended_of 2 distantarm-cycle-k.ps distantarm-cycle-k.r) κs)
    → (ltb (length u.now) unit_size || ltb (length v.now) width) ≡ false → ltb LAST_NOTES (get_or u.now notes_at 0) ≡ false
    → step.Learnt κ₀ (unit_in u.now, (c, tt)) s e
    → distantarm-cycle.Learnt κs (u, (v, handed c)) x f
    → (x ≡ number_of s.answer.kind) × (f.0.now ≡ sets u.now 0 (unit_bytes s.unit))
    × (f.1.0.now ≡ sets v.now 0 (packed s.answer))
distantarm_cycle_agrees κs κ₀ u v c s x e f room sane p q = (
  q.says ∙ ap (λ (b : Bool). cycle_number b u.now c) room ∙ ap (λ (b : Bool). number_of (answer_by b u.now c).kind) sane
      ∙ ap (λ (t : Stepped). number_of t.answer.kind) (sym p),
  q.leaves ∙ ap (λ (b : Bool). cycle_bytes b u.now c) room ∙ ap (λ (b : Bool). bytes_by b u.now c) sane
      ∙ ap (λ (t : Stepped). sets u.now 0 (unit_bytes t.unit)) (sym p),
  q.shows ∙ ap (λ (b : Bool). cycle_answer b u.now v.now c) room
      ∙ ap (λ (b : Bool). sets v.now 0 (packed (answer_by b u.now c))) sane
      ∙ ap (λ (t : Stepped). sets v.now 0 (packed t.answer)) (sym p),
)

-- a cycle of a board as `distantarm_board_cycle` takes it, and as `board_bytes::cycle` does
abbrev pub handed_board : BoardCycle → ℕ × (Bool × (Bool × (Bool × (ℕ × (ℕ × (ℕ × (ℕ × (Bool × (ℕ × Unit {0})))))))))
handed_board c =
    let b : Cycle = c.cycle in
    (b.status, (b.read, (b.normal, (b.dma, (b.segment, (b.offset, (b.low, (b.byte, (b.reset, (c.selects, tt))))))))))

pub distantarm_board_cycle_agrees : (κs : Lfts 2) (u v : MutBor (List ℕ)) (count : ℕ) (c : BoardCycle) (x : Result (Unit {0}) Refusal) (y : ℕ)
    (e : AtExit (ended_of 2 cycle-k.ps cycle-k.r) κs) (f : AtExit (ended_of 2 distantarm-board-cycle-k.ps distantarm-board-cycle-k.r) κs)
    → c.cycle.select ≡ false
    → cycle.Learnt κs (u, (v, (count, (c.cycle, (c.selects, tt))))) x e
    → distantarm-board-cycle.Learnt κs (u, (v, (count, handed_board c))) y f
    → (number_of_outcome x ≡ y) × (e.0.now ≡ f.0.now) × (e.1.0.now ≡ f.1.0.now)
distantarm_board_cycle_agrees κs u v count c x y e f off p q =
    let b : Cycle = c.cycle in
    let short : Bool = no_room u.now v.now count in
    let same : c ≡ board_given b.status b.read b.normal b.dma b.segment b.offset b.low b.byte b.reset c.selects =
    λ i. record { cycle = cycle_with b.status b.read b.normal b.dma (off i) b.segment b.offset b.low b.byte b.reset; selects = c.selects } in (
      p.says ∙ ap (λ (k : BoardCycle). call_number short (board_answer (board_in u.now count) k)) same ∙ sym q.says,
      p.leaves ∙ ap (λ (k : BoardCycle). call_units short u.now (board_bytes u.now count k)) same ∙ sym q.leaves,
      p.shows ∙ ap (λ (k : BoardCycle). call_answer short v.now (board_answer (board_in u.now count) k)) same ∙ sym q.shows,
    )

-- the start of a recording, whatever the count was, and a cycle of it: the number, the count and the buffer
pub distantarm_record_start_agrees : (κs : Lfts 2) (κ₁ : Lfts 1) (t : MutBor (List ℕ)) (count : MutBor ℕ) (x : Result ℕ Refusal) (y : ℕ)
    (e : AtExit (ended_of 1 record-start-k.ps record-start-k.r) κ₁)
    (f : AtExit (ended_of 2 distantarm-record-start-k.ps distantarm-record-start-k.r) κs)
    → record-start.Learnt κ₁ (t, tt) x e
    → distantarm-record-start.Learnt κs (t, (count, tt)) y f
    → ((recorded_by 0 x).number ≡ y) × ((recorded_by 0 x).count ≡ f.1.0.now) × (e.0.now ≡ f.0.now)
distantarm_record_start_agrees κs κ₁ t count x y e f p q = (cc, cc, cc)

pub distantarm_record_agrees : (κs : Lfts 2) (κ₁ : Lfts 1) (t : MutBor (List ℕ)) (count : MutBor ℕ) (c : Cycle) (x : Result ℕ Refusal) (y : ℕ)
    (e : AtExit (ended_of 1 record-cycle-k.ps record-cycle-k.r) κ₁) (f : AtExit (ended_of 2 distantarm-record-k.ps distantarm-record-k.r) κs)
    → record-cycle.Learnt κ₁ (t, (count.now, (c, tt))) x e
    → distantarm-record.Learnt κs (t, (count, handed c)) y f
    → ((recorded_by count.now x).number ≡ y) × ((recorded_by count.now x).count ≡ f.1.0.now) × (e.0.now ≡ f.0.now)
distantarm_record_agrees κs κ₁ t count c x y e f p q = (p.says ∙ sym q.says, p.counts ∙ sym q.counts, p.leaves ∙ sym q.leaves)
