-- Document 01, "Commands": what each command code stands for.
use Rattle.std.specs.Prelude.{Bool, cond, List, [], ◌∷◌, ℕ, eqb, leb}
use Rattle.rules.specs.declared.Command.{Command}
use Rattle.rules.specs.declared.Command.TheVariants.{Mr, Sar, Dscr, Show, Entry, Act, Unlisted}
use Rattle.rules.specs.declared.Action.TheVariants.{SoftwareReset, ClearVtr, ClearSww, ClearFatl, SetCpui, SetDmai}
use Rattle.rules.specs.declared.Register.TheVariants.{Vtr, Vsn, Voff, Bcsr, Isn, Ioff}
use Rattle.rules.specs.declared.Part.TheVariants.{Base, Limit, Attributes, Whole}

-- "Codes %00 MR, %01 SAR, then read-only %02 VTR, %03 VSN, %04 VOFF, %05 BCSR, %06 ISN, %07 IOFF. %08 base, %09 limit,
-- %0A attributes, %0B whole descriptor; %0C to %0F the same four with SAR stepped." "Codes of software reset [%10], clear VTR [%11],
-- clear SWW [%13], clear FATL [%14], set all CPUI [%15], set all DMAI [%16] and DSCR [%20] are those of 002, sections 6.2.17 to 6.2.23."
abbrev pub codes : List (ℕ × Command)
codes =
    (0, Mr) ∷
    (1, Sar) ∷
    (2, Show Vtr) ∷
    (3, Show Vsn) ∷
    (4, Show Voff) ∷
    (5, Show Bcsr) ∷
    (6, Show Isn) ∷
    (7, Show Ioff) ∷
    (8, Entry Base) ∷
    (9, Entry Limit) ∷
    (10, Entry Attributes) ∷
    (11, Entry Whole) ∷
    (12, Entry Base) ∷
    (13, Entry Limit) ∷
    (14, Entry Attributes) ∷
    (15, Entry Whole) ∷
    (16, Act SoftwareReset) ∷
    (17, Act ClearVtr) ∷
    (19, Act ClearSww) ∷
    (20, Act ClearFatl) ∷
    (21, Act SetCpui) ∷
    (22, Act SetDmai) ∷
    (32, Dscr) ∷
    []

abbrev pub look_up : ℕ → List (ℕ × Command) → Command
look_up n [] = Unlisted
look_up n (row ∷ rows) = cond (eqb n row.0) row.1 (look_up n rows)

unfoldable pub command_of : (code : ℕ) → Command
command_of code = look_up code codes

-- "%0C to %0F": of the codes that work on a descriptor, the stepping forms
abbrev pub steps : (code : ℕ) → Bool
steps code = leb 12 code
