-- Document 01, "Which cycle is what": the reset line, and then "The status decides, in 002's table 2.1".
use Rattle.std.specs.Prelude.{Bool, true, false, cond, ◌&&◌, ℕ, ◌%◌, ◌^◌, eqb, leb}
use Rattle.rules.specs.Flags.{has}
use Rattle.rules.specs.Masks.{MSEN}
use Rattle.rules.specs.Bus.{cpu}
use Rattle.rules.specs.PowerOn.{quiet}
use Rattle.rules.specs.Replies.{spoken, plain}
use Rattle.rules.specs.Registers.{with_notes}
use Rattle.rules.specs.Memory.{memory}
use Rattle.rules.specs.Commands.{restarted, commanded}
use Rattle.rules.specs.declared.Cycle.{Cycle}
use Rattle.rules.specs.declared.Decision.{Decision}
use Rattle.rules.specs.declared.Descriptor.{Descriptor}
use Rattle.rules.specs.declared.Purpose.{Purpose}
use Rattle.rules.specs.declared.Registers.{Registers}
use Rattle.rules.specs.declared.Change.TheVariants as change
use Rattle.rules.specs.declared.Kind.TheVariants as kind
use Rattle.rules.specs.declared.Purpose.TheVariants as purpose

-- "1. Reset line on: VTR, DSCR and all notes cleared; MR becomes %80 if select is on, else 0. The rest stays."
unfoldable pub reset_by : (select : Bool) → Registers → Decision
reset_by select r = plain kind.Reset (restarted r (cond select 128 0)) change.Keep

-- "If MSEN is set, the unit drives line 8 + ID: high if request stands, else low. The data byte is 2^ID or 0."
unfoldable pub acknowledge_byte : Registers → ℕ
acknowledge_byte r = cond (has r.control.mr MSEN && r.notes.request) (2 ^ (r.control.mr % 8)) 0

-- "Then all four notes are cleared, with MSEN set or not."
unfoldable pub quieted : Registers → Registers
quieted r = with_notes r quiet

-- "2. Status 4, CPU: acknowledge."
unfoldable pub acknowledged : Registers → Decision
acknowledged r = record {
  answer = spoken kind.Acknowledge false (has r.control.mr MSEN) (acknowledge_byte r);
  registers = quieted r;
  change = change.Keep;
}

-- "5. All else is ignored: nothing driven, nothing changed."
unfoldable pub ignored : Registers → Decision
ignored r = plain kind.Ignored r change.Keep

-- the status codes: 4, 3, "%8 to %D"
unfoldable pub purpose_of : (status : ℕ) → Purpose
purpose_of status =
    cond (eqb status 4) purpose.Acknowledge
    (cond (eqb status 3) purpose.Command
    (cond (leb 8 status && leb status 13) purpose.Memory
    purpose.Other))

-- "2. Status 4, CPU: acknowledge. 3. Status 3, CPU, select on: command. 4. Status %8 to %D: memory cycle, CPU or DMA. 5. All else is
-- ignored"
abbrev pub by_purpose : Purpose → (cpu selected : Bool) → Registers → Descriptor → Cycle → Decision
by_purpose purpose.Acknowledge true selected r d c = acknowledged r
by_purpose purpose.Acknowledge false selected r d c = ignored r
by_purpose purpose.Command cpu true r d c = commanded r d c
by_purpose purpose.Command cpu false r d c = ignored r
by_purpose purpose.Memory cpu selected r d c = memory r d c
by_purpose purpose.Other cpu selected r d c = ignored r

-- a cycle with the reset line off
unfoldable pub by_status : Registers → Descriptor → Cycle → Decision
by_status r d c = by_purpose (purpose_of c.status) (cpu c) (cpu c && c.select) r d c
