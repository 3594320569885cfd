-- No public call asks anything of its caller: what it requires is had at every argument. Without this a promise could be kept by asking for
-- what nobody has. Assumes nothing.
use mathlib.Core.List.{List}
use Prim.Native.Nat.{ℕ}
use seplogic.Ra.Ura.{Ura}
use base.Logic.{SProp, ent, emp, id⊢}
use prog.Memory.{Memory}
use prog.Routine.{Routine}
use types.Logic.{Logic}
use contract.Lifetimes.{Lfts}
use contract.Monad.{Fun}
use borrow.Fn.Kinds.{ParamKind, In, Dens}
use denote.Triple.Clauses.{Ended, Clauses}
use denote.Triple.Entry.{Args}
use Rattle.rules.proofs.Unit.power_on.Kinds as power-on-k
use Rattle.rules.proofs.Unit.power_on.Reads as power-on
use Rattle.unit_step.proofs.step.step.Kinds as step-k
use Rattle.unit_step.proofs.step.step.Reads as step
use Rattle.unit_decide.proofs.act.Kinds as act-k
use Rattle.unit_decide.proofs.act.Reads as act
use Rattle.unit_decide.proofs.place_of.Kinds as place-of-k
use Rattle.unit_decide.proofs.place_of.Reads as place_of
use Rattle.rules_answers.proofs.letter.Kinds as letter-k
use Rattle.rules_answers.proofs.letter.Reads as letter
use Rattle.rules_answers.proofs.number.Kinds as number-k
use Rattle.rules_answers.proofs.number.Reads as number
use Rattle.trace_header.proofs.refusal.Kinds as refusal-k
use Rattle.trace_header.proofs.refusal.Reads as refusal
use Rattle.trace_records.proofs.count.Kinds as count-k
use Rattle.trace_records.proofs.count.Reads as count
use Rattle.trace_records.proofs.record_refusal.Kinds as record-refusal-k
use Rattle.trace_records.proofs.record_refusal.Reads as record-refusal
use Rattle.trace_records.proofs.part.Kinds as part-k
use Rattle.trace_records.proofs.part.Reads as part
use Rattle.trace_records.proofs.decode.Kinds as decode-k
use Rattle.trace_records.proofs.decode.Reads as decode
use Rattle.trace_writer.proofs.record_start.Kinds as record-start-k
use Rattle.trace_writer.proofs.record_start.Reads as record-start
use Rattle.trace_writer.proofs.record_cycle.Kinds as record-cycle-k
use Rattle.trace_writer.proofs.record_cycle.Reads as record-cycle
use Rattle.run.proofs.run.Kinds as run-k
use Rattle.run.proofs.run.Reads as run
use Rattle.text.proofs.listing.list.Kinds as list-k
use Rattle.text.proofs.listing.list.Reads as list
use Rattle.board_step.proofs.step_board.Kinds as step-board-k
use Rattle.board_step.proofs.step_board.Reads as step-board
use Rattle.board_bytes.proofs.cycle.Kinds as cycle-k
use Rattle.board_bytes.proofs.cycle.Reads as cycle
use Rattle.distantarm.proofs.distantarm_board_cycle.Kinds as distantarm-board-cycle-k
use Rattle.distantarm.proofs.distantarm_board_cycle.Reads as distantarm-board-cycle
use Rattle.unit_lent.proofs.step_by_lending.Kinds as step-by-lending-k
use Rattle.unit_lent.proofs.step_by_lending.Reads as step-by-lending
use Rattle.trace_reader.proofs.read_at.Kinds as read-at-k
use Rattle.trace_reader.proofs.read_at.Reads as read_at
use Rattle.trace_reader.proofs.shown_at.Kinds as shown-at-k
use Rattle.trace_reader.proofs.shown_at.Reads as shown-at
use Rattle.distantarm.proofs.distantarm_power_on.Kinds as distantarm-power-on-k
use Rattle.distantarm.proofs.distantarm_power_on.Reads as distantarm-power-on
use Rattle.distantarm.proofs.distantarm_cycle.Kinds as distantarm-cycle-k
use Rattle.distantarm.proofs.distantarm_cycle.Reads as distantarm-cycle
use Rattle.distantarm.proofs.distantarm_record_start.Kinds as distantarm-record-start-k
use Rattle.distantarm.proofs.distantarm_record_start.Reads as distantarm-record-start
use Rattle.distantarm.proofs.distantarm_record.Kinds as distantarm-record-k
use Rattle.distantarm.proofs.distantarm_record.Reads as distantarm-record
use Rattle.distantarm.proofs.distantarm_list.Kinds as distantarm-list-k
use Rattle.distantarm.proofs.distantarm_list.Reads as distantarm-list
use Rattle.unit_lent.specs.contracts.step_in_place as step-in-place
use Rattle.trace_reader.specs.contracts.start as start
use Rattle.trace_reader.specs.contracts.next as next
use Rattle.trace_reader.specs.contracts.shown as shown

abbrev pub Free : (n : ℕ) (ps : List (ParamKind n)) → In n ps → Type 0
Free n ps Asked = (κs : Lfts n) (a : Dens κs ps) → Asked κs a

pub power_on_free : Free 0 power-on-k.ps power-on.Asked
power_on_free κs a = tt

pub step_free : Free 0 step-k.ps step.Asked
step_free κs a = tt

pub act_free : Free 0 act-k.ps act.Asked
act_free κs a = tt

pub place_of_free : Free 0 place-of-k.ps place_of.Asked
place_of_free κs a = tt

pub letter_free : Free 0 letter-k.ps letter.Asked
letter_free κs a = tt

pub number_free : Free 0 number-k.ps number.Asked
number_free κs a = tt

pub refusal_free : Free 1 refusal-k.ps refusal.Asked
refusal_free κs a = tt

pub count_free : Free 1 count-k.ps count.Asked
count_free κs a = tt

pub record_refusal_free : Free 1 record-refusal-k.ps record-refusal.Asked
record_refusal_free κs a = tt

pub part_free : Free 1 part-k.ps part.Asked
part_free κs a = tt

pub decode_free : Free 1 decode-k.ps decode.Asked
decode_free κs a = tt

pub record_start_free : Free 1 record-start-k.ps record-start.Asked
record_start_free κs a = tt

pub record_cycle_free : Free 1 record-cycle-k.ps record-cycle.Asked
record_cycle_free κs a = tt

pub run_free : Free 2 run-k.ps run.Asked
run_free κs a = tt

pub list_free : Free 2 list-k.ps list.Asked
list_free κs a = tt

pub step_by_lending_free : Free 0 step-by-lending-k.ps step-by-lending.Asked
step_by_lending_free κs a = tt

pub read_at_free : Free 1 read-at-k.ps read_at.Asked
read_at_free κs a = tt

pub shown_at_free : Free 1 shown-at-k.ps shown-at.Asked
shown_at_free κs a = tt

pub distantarm_power_on_free : Free 1 distantarm-power-on-k.ps distantarm-power-on.Asked
distantarm_power_on_free κs a = tt

pub distantarm_cycle_free : Free 2 distantarm-cycle-k.ps distantarm-cycle.Asked
distantarm_cycle_free κs a = tt

pub step_board_free : Free 0 step-board-k.ps step-board.Asked
step_board_free κs a = tt

pub cycle_free : Free 2 cycle-k.ps cycle.Asked
cycle_free κs a = tt

pub distantarm_board_cycle_free : Free 2 distantarm-board-cycle-k.ps distantarm-board-cycle.Asked
distantarm_board_cycle_free κs a = tt

pub distantarm_record_start_free : Free 2 distantarm-record-start-k.ps distantarm-record-start.Asked
distantarm_record_start_free κs a = tt

pub distantarm_record_free : Free 2 distantarm-record-k.ps distantarm-record.Asked
distantarm_record_free κs a = tt

pub distantarm_list_free : Free 2 distantarm-list-k.ps distantarm-list.Asked
distantarm_list_free κs a = tt

-- of those that are proved by hand: what is required follows from nothing
module _ {M : Type 1} (𝓤 : Ura M) where
  abbrev pub FreeBy : (T : Ended) → Clauses 𝓤 T → Type 1
  FreeBy T c = (κs : Lfts T.signature.lifetimes) (a : Args T.signature κs) (g : (c κs a).ghost) → ent 𝓤 (emp 𝓤) ((c κs a).requires g)

module _ {M : Type 1} {𝓤 : Ura M} (𝓛 : Logic 𝓤) (mem : Memory → SProp 𝓤) (run : Routine → Fun 𝓤) where
  pub step_in_place_free : FreeBy 𝓤 step-in-place.ended (step-in-place.clauses 𝓛 mem run)
  step_in_place_free κs a g = id⊢ 𝓤 (emp 𝓤)

  pub start_free : FreeBy 𝓤 start.ended (start.clauses 𝓛 mem run)
  start_free κs a g = id⊢ 𝓤 (emp 𝓤)

  pub next_free : FreeBy 𝓤 next.ended (next.clauses 𝓛 mem run)
  next_free κs a g = id⊢ 𝓤 (emp 𝓤)

  pub shown_free : FreeBy 𝓤 shown.ended (shown.clauses 𝓛 mem run)
  shown_free κs a g = id⊢ 𝓤 (emp 𝓤)
