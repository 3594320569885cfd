-- No second answer, of the contracts themselves: what a caller learns of two answers to one call makes them equal. A lent buffer counts by
-- its contents, so the two calls may have been lent buffers at two places, and no promise hangs on an address. A call whose contract no
-- other crate's proof uses has its law in its own crate, in proofs/Once.antt, where an edit can weaken the contract beside it.
-- Assumes nothing.
use mathlib.Core.List.{List}
use mathlib.Core.Path.{◌≡◌, refl, sym, ap, subst}
use Prim.Native.Nat.{ℕ}
use contract.Lifetimes.{Lfts}
use borrow.Fn.Kinds.{ParamKind, ResultKind, Dens, Out, res_t, ended_of}
use denote.Triple.Clauses.{AtExit}
use Rattle.rules.proofs.Unit.power_on.Kinds as power-on-k
use Rattle.rules.proofs.Unit.power_on.Reads as power-on
use Rattle.unit_step.proofs.step.step.Kinds as step-k
use Rattle.unit_step.proofs.step.step.Reads as step
use Rattle.unit_decide.proofs.act.Kinds as act-k
use Rattle.unit_decide.proofs.act.Reads as act
use Rattle.unit_decide.proofs.place_of.Kinds as place-of-k
use Rattle.unit_decide.proofs.place_of.Reads as place_of
use Rattle.rules_answers.proofs.letter.Kinds as letter-k
use Rattle.rules_answers.proofs.letter.Reads as letter
use Rattle.rules_answers.proofs.number.Kinds as number-k
use Rattle.rules_answers.proofs.number.Reads as number
use Rattle.trace_header.proofs.refusal.Kinds as refusal-k
use Rattle.trace_header.proofs.refusal.Reads as refusal
use Rattle.trace_records.proofs.count.Kinds as count-k
use Rattle.trace_records.proofs.count.Reads as count
use Rattle.trace_records.proofs.record_refusal.Kinds as record-refusal-k
use Rattle.trace_records.proofs.record_refusal.Reads as record-refusal
use Rattle.trace_records.proofs.part.Kinds as part-k
use Rattle.trace_records.proofs.part.Reads as part
use Rattle.trace_records.proofs.decode.Kinds as decode-k
use Rattle.trace_records.proofs.decode.Reads as decode
use Rattle.std.specs.Prelude.{Option, Result, Ok, Err, Some, None, unwrap_or, IsSome, ◌↔◌, ◌≤◌, length}
use Rattle.std.proofs.lemmas.Bool.{false≢true}
use Rattle.text.specs.Listed.{text_room}
use Rattle.rules.proofs.Numbers.{refusal_by_number, refusal_says_no, outcome_by_number}
use Rattle.rules.specs.Numbers.{number_of_outcome}
use Rattle.rules.specs.declared.refusal.Refusal.{Refusal}
use Rattle.trace_writer.specs.Writing.{recorded_by}
use Rattle.trace_writer.proofs.record_start.Kinds as record-start-k
use Rattle.trace_writer.proofs.record_start.Reads as record-start
use Rattle.trace_writer.proofs.record_cycle.Kinds as record-cycle-k
use Rattle.trace_writer.proofs.record_cycle.Reads as record-cycle
use Rattle.run.proofs.run.Kinds as run-k
use Rattle.run.proofs.run.Reads as run
use Rattle.board_bytes.proofs.cycle.Kinds as cycle-k
use Rattle.board_bytes.proofs.cycle.Reads as cycle
use Rattle.text.proofs.listing.list.Kinds as list-k
use Rattle.text.proofs.listing.list.Reads as list

-- two answers to one call, each with what stands in the lent places after it
abbrev pub Two : (n : ℕ) (ps : List (ParamKind n)) (r : ResultKind n) → Out n ps r
    → ((κs : Lfts n) (a b : Dens κs ps) → Type 0)
    → ((κs : Lfts n) (a b : Dens κs ps) (x y : (res_t r κs).Denot) (e f : AtExit (ended_of n ps r) κs) → Type 0) → Type 0
Two n ps r Learnt Alike Same =
    (κs : Lfts n) (a b : Dens κs ps) (x y : (res_t r κs).Denot) (e f : AtExit (ended_of n ps r) κs)
    → Alike κs a b → Learnt κs a x e → Learnt κs b y f → Same κs a b x y e f

-- plain arguments, and the answer alone
abbrev pub One : (n : ℕ) (ps : List (ParamKind n)) (r : ResultKind n) → Out n ps r → Type 0
One n ps r Learnt = Two n ps r Learnt (λ κs a b. a ≡ b) (λ κs a b x y e f. x ≡ y)

-- By value

pub power_on_only : One 0 power-on-k.ps power-on-k.r power-on.Learnt
power_on_only κs a b x y e f s p q = cc

pub step_only : One 0 step-k.ps step-k.r step.Learnt
step_only κs a b x y e f s p q = cc

pub act_only : One 0 act-k.ps act-k.r act.Learnt
act_only κs a b x y e f s p q = cc

pub place_of_only : One 0 place-of-k.ps place-of-k.r place_of.Learnt
place_of_only κs a b x y e f s p q = cc

pub letter_only : One 0 letter-k.ps letter-k.r letter.Learnt
letter_only κs a b x y e f s p q = cc

pub number_only : One 0 number-k.ps number-k.r number.Learnt
number_only κs a b x y e f s p q = cc

-- A lent trace

pub refusal_only : Two 1 refusal-k.ps refusal-k.r refusal.Learnt
    (λ κs a b. a.0.now ≡ b.0.now)
    (λ κs a b x y e f. x ≡ y)
refusal_only κs a b x y e f s p q =
    let number : number_of_outcome x ≡ number_of_outcome y = cc in
    outcome_by_number x y number

pub count_only : Two 1 count-k.ps count-k.r count.Learnt
    (λ κs a b. a.0.now ≡ b.0.now)
    (λ κs a b x y e f. x ≡ y)
count_only κs a b x y e f s p q = cc

pub decode_only : Two 1 decode-k.ps decode-k.r decode.Learnt
    (λ κs a b. a.0.now ≡ b.0.now)
    (λ κs a b x y e f. x ≡ y)
decode_only κs a b x y e f s p q = cc

pub record_refusal_only : Two 1 record-refusal-k.ps record-refusal-k.r record-refusal.Learnt
    (λ κs a b. (a.0.now ≡ b.0.now) × (a.1.0 ≡ b.1.0))
    (λ κs a b x y e f. x ≡ y)
record_refusal_only κs a b x y e f s p q =
    let number : number_of_outcome x ≡ number_of_outcome y = cc in
    outcome_by_number x y number

-- A part of it: its bytes, and its place where the trace stands in one place

pub part_only : Two 1 part-k.ps part-k.r part.Learnt
    (λ κs a b. (a.0.now ≡ b.0.now) × (a.1.0 ≡ b.1.0))
    (λ κs a b x y e f. (x.now ≡ y.now) × (a.0.ref_ptr ≡ b.0.ref_ptr → x.ref_ptr ≡ y.ref_ptr))
part_only κs a b x y e f s p q = (cc, λ same. cc)

-- A lent buffer: the answer, and the buffer whole

pub run_only : Two 2 run-k.ps run-k.r run.Learnt
    (λ κs a b. (a.0.now ≡ b.0.now) × (a.1.0.now ≡ b.1.0.now))
    (λ κs a b x y e f. (x ≡ y) × (e.1.0.now ≡ f.1.0.now))
run_only κs a b x y e f s p q =
    let number : number_of_outcome x ≡ number_of_outcome y = cc in
    (outcome_by_number x y number, cc)

-- a length and the room that it is there for
length_told : (room : Type 0) (x y : Option ℕ) → unwrap_or x 0 ≡ unwrap_or y 0 → IsSome x ↔ room → IsSome y ↔ room → x ≡ y
length_told room None None n p q = refl
length_told room None (Some m) n p q = absurd (false≢true (p.1 (q.0 refl)))
length_told room (Some k) None n p q = absurd (false≢true (q.1 (p.0 refl)))
length_told room (Some k) (Some m) n p q = ap Some n

pub list_only : Two 2 list-k.ps list-k.r list.Learnt
    (λ κs a b. (a.0.now ≡ b.0.now) × (a.1.0.now ≡ b.1.0.now))
    (λ κs a b x y e f. (x ≡ y) × (e.1.0.now ≡ f.1.0.now))
list_only κs a b x y e f s p q =
    let count : unwrap_or x 0 ≡ unwrap_or y 0 = cc in
    let room = subst (λ (l : List ℕ). IsSome x ↔ text_room ≤ length l) s.1 p.1.1 in
    (length_told (text_room ≤ length b.1.0.now) x y count room q.1.1, cc)

-- the number and the count, of which each is told
both_told : (count : ℕ) (x y : Result ℕ Refusal) → (recorded_by count x).number ≡ (recorded_by count y).number
    → (recorded_by count x).count ≡ (recorded_by count y).count → x ≡ y
both_told count (Ok m) (Ok n) number counted = ap Ok counted
both_told count (Ok m) (Err s) number counted = absurd (refusal_says_no s (sym number))
both_told count (Err r) (Ok n) number counted = absurd (refusal_says_no r number)
both_told count (Err r) (Err s) number counted = ap Err (refusal_by_number r s number)

pub record_start_only : Two 1 record-start-k.ps record-start-k.r record-start.Learnt
    (λ κs a b. a.0.now ≡ b.0.now)
    (λ κs a b x y e f. (x ≡ y) × (e.0.now ≡ f.0.now))
record_start_only κs a b x y e f s p q =
    let number : (recorded_by 0 x).number ≡ (recorded_by 0 y).number = cc in
    let counted : (recorded_by 0 x).count ≡ (recorded_by 0 y).count = cc in
    (both_told 0 x y number counted, cc)

-- with the count, and the cycle
pub record_cycle_only : Two 1 record-cycle-k.ps record-cycle-k.r record-cycle.Learnt
    (λ κs a b. (a.0.now ≡ b.0.now) × (a.1 ≡ b.1))
    (λ κs a b x y e f. (x ≡ y) × (e.0.now ≡ f.0.now))
record_cycle_only κs a b x y e f s p q =
    let count = a.1.0 in
    let number : (recorded_by count x).number ≡ (recorded_by count y).number = cc in
    let counted : (recorded_by count x).count ≡ (recorded_by count y).count = cc in
    (both_told count x y number counted, cc)

-- Two lent buffers: the units of a board and the packed answer, with the count, the cycle and its selects

pub cycle_only : Two 2 cycle-k.ps cycle-k.r cycle.Learnt
    (λ κs a b. (a.0.now ≡ b.0.now) × (a.1.0.now ≡ b.1.0.now) × (a.1.1 ≡ b.1.1))
    (λ κs a b x y e f. (x ≡ y) × (e.0.now ≡ f.0.now) × (e.1.0.now ≡ f.1.0.now))
cycle_only κs a b x y e f s p q =
    let number : number_of_outcome x ≡ number_of_outcome y = cc in
    (outcome_by_number x y number, cc, cc)
