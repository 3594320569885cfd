-- Document 01, "Commands": what is decided in a selected command, refusals 3 and 4 with it.
use Rattle.std.specs.Prelude.{Bool, true, false, cond, ℕ, ◌%◌}
use Rattle.rules.specs.Flags.{without, flag_if}
use Rattle.rules.specs.Masks.{CPUI, DMAI, SWW, FATL}
use Rattle.rules.specs.PowerOn.{quiet}
use Rattle.rules.specs.Replies.{spoken, plain, refused}
use Rattle.rules.specs.Registers.{with_control, with_vtr, with_notes}
use Rattle.rules.specs.Codes.{command_of}
use Rattle.rules.specs.Entry.{byte_of, index_of, moved, written_by}
use Rattle.rules.specs.declared.Action.{Action}
use Rattle.rules.specs.declared.Action.TheVariants.{SoftwareReset, ClearVtr, ClearSww, ClearFatl, SetCpui, SetDmai}
use Rattle.rules.specs.declared.Change.{Change}
use Rattle.rules.specs.declared.Command.{Command}
use Rattle.rules.specs.declared.Command.TheVariants.{Mr, Sar, Dscr, Show, Entry, Act, Unlisted}
use Rattle.rules.specs.declared.Control.{Control}
use Rattle.rules.specs.declared.Cycle.{Cycle}
use Rattle.rules.specs.declared.Decision.{Decision}
use Rattle.rules.specs.declared.Descriptor.{Descriptor}
use Rattle.rules.specs.declared.Part.{Part}
use Rattle.rules.specs.declared.Register.{Register}
use Rattle.rules.specs.declared.Register.TheVariants.{Vtr, Vsn, Voff, Bcsr, Isn, Ioff}
use Rattle.rules.specs.declared.Registers.{Registers}
use Rattle.rules.specs.declared.Change.TheVariants as change
use Rattle.rules.specs.declared.Kind.TheVariants as kind

-- "a read drives the byte read as it stood before any stepping; a write takes the cycle's data byte and drives none"
unfoldable pub replied : (read : Bool) → (byte : ℕ) → Registers → Change → Decision
replied read b r h = record { answer = spoken kind.Command r.notes.request read (flag_if read b); registers = r; change = h }

-- MR, SAR or DSCR: a read shows the old byte and leaves all, a write has the registers k for its result
unfoldable pub programmed : Registers → Cycle → (old : ℕ) → Control → Decision
programmed r c old k = replied c.read old (with_control r (cond c.read r.control k)) change.Keep

-- "read-only %02 VTR, %03 VSN, %04 VOFF, %05 BCSR, %06 ISN, %07 IOFF"
abbrev pub register_of : Registers → Register → ℕ
register_of r Vtr = r.faults.vtr
register_of r Vsn = r.faults.vsn
register_of r Voff = r.faults.voff
register_of r Bcsr = r.faults.bcsr
register_of r Isn = r.fetched.isn
register_of r Ioff = r.fetched.ioff

-- "All eight work on the descriptor at SAR": d is that descriptor
unfoldable pub entry : Registers → Descriptor → Part → Cycle → Decision
entry r d p c =
    let i : ℕ = index_of p r.control.dscr in
    replied c.read (byte_of d i) (with_control r (moved r.control p c)) (written_by c.read d i c.byte)

-- "clears MR, VTR, DSCR and the notes", MR to what is said; "The rest stays."
unfoldable pub restarted : Registers → (mr : ℕ) → Registers
restarted r mr =
    with_notes (with_vtr (with_control r (record { mr = mr; sar = r.control.sar; dscr = 0 })) 0) quiet

-- the set and clear commands, which "ignore that byte". "Software reset clears MR, VTR, DSCR and the notes."
unfoldable pub acted : Registers → Action → Decision
acted r SoftwareReset = plain kind.Command (restarted r 0) change.Keep
acted r ClearVtr = plain kind.Command (with_vtr r 0) change.Keep
acted r ClearSww = plain kind.Command (with_vtr r (without r.faults.vtr SWW)) change.Keep
acted r ClearFatl = plain kind.Command (with_vtr r (without r.faults.vtr FATL)) change.Keep
acted r SetCpui = plain kind.Command r (change.Raise CPUI)
acted r SetDmai = plain kind.Command r (change.Raise DMAI)

-- "SAR (low six bits kept)", "DSCR (low two bits kept)". "3: selected command with a code not listed"; "4: write to a read-only
-- register, or read of a set or clear command"
unfoldable pub executed : Command → (read : Bool) → Registers → Descriptor → Cycle → Decision
executed Mr read r d c =
    programmed r c r.control.mr (record { mr = c.byte; sar = r.control.sar; dscr = r.control.dscr })
executed Sar read r d c =
    programmed r c r.control.sar (record { mr = r.control.mr; sar = c.byte % 64; dscr = r.control.dscr })
executed Dscr read r d c =
    programmed r c r.control.dscr (record { mr = r.control.mr; sar = r.control.sar; dscr = c.byte % 4 })
executed (Show g) true r d c = replied true (register_of r g) r change.Keep
executed (Show g) false r d c = refused 4 r
executed (Entry p) read r d c = entry r d p c
executed (Act a) true r d c = refused 4 r
executed (Act a) false r d c = acted r a
executed Unlisted read r d c = refused 3 r

-- a selected command; its code is the byte of the address phase
unfoldable pub commanded : Registers → Descriptor → Cycle → Decision
commanded r d c = executed (command_of c.offset) c.read r d c
