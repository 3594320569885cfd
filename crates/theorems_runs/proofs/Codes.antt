-- Which command a code stands for, told by its number: antt computes the codes up to the last in the table, and past it none is listed.
-- Assumes nothing.
use mathlib.Core.Path.{◌≡◌, refl, sym, ◌∙◌, ap}
use mathlib.Core.Bool.{Bool, true, false, ◌||◌, beq, and-false}
use mathlib.Core.List.{List, [], ◌∷◌}
use Prim.Native.Nat.{ℕ, ◌<◌, ◌≤◌}
use native.Mathlib.Omega.{arith}
use lib.Dec.{eqb, leb, ltb}
use borrow.Author.Tests.{ltb-true, ltb-false, leb-true, ne_eqb, lt-leb}
use Rattle.rules.specs.Codes.{command_of, codes, look_up}
use Rattle.rules.specs.declared.Action.{Action}
use Rattle.rules.specs.declared.Action.TheVariants.{SoftwareReset, ClearVtr, ClearSww, ClearFatl, SetCpui, SetDmai}
use Rattle.rules.specs.declared.Command.{Command}
use Rattle.rules.specs.declared.Command.TheVariants.{Mr, Sar, Dscr, Show, Entry, Act, Unlisted}
use Rattle.rules.specs.declared.Part.TheVariants.{Base, Limit, Attributes, Whole}
use Rattle.theorems_runs.specs.Cycles.{read_only, on_descriptor, sets_and_clears, set_or_clear, listed}
use Rattle.theorems_runs.specs.Sequences.{among, all}
use Rattle.theorems_runs.proofs.Tests.{each, at, same, and_l, and_r}

abbrev pub is_show : Command → Bool
is_show Mr = false
is_show Sar = false
is_show Dscr = false
is_show (Show g) = true
is_show (Entry p) = false
is_show (Act a) = false
is_show Unlisted = false

abbrev pub is_entry : Command → Bool
is_entry Mr = false
is_entry Sar = false
is_entry Dscr = false
is_entry (Show g) = false
is_entry (Entry p) = true
is_entry (Act a) = false
is_entry Unlisted = false

abbrev pub is_act : Command → Bool
is_act Mr = false
is_act Sar = false
is_act Dscr = false
is_act (Show g) = false
is_act (Entry p) = false
is_act (Act a) = true
is_act Unlisted = false

abbrev pub is_listed : Command → Bool
is_listed Mr = true
is_listed Sar = true
is_listed Dscr = true
is_listed (Show g) = true
is_listed (Entry p) = true
is_listed (Act a) = true
is_listed Unlisted = false

abbrev pub is_mr : Command → Bool
is_mr Mr = true
is_mr Sar = false
is_mr Dscr = false
is_mr (Show g) = false
is_mr (Entry p) = false
is_mr (Act a) = false
is_mr Unlisted = false

-- the code of a set or clear command
abbrev pub code_of : Action → ℕ
code_of SoftwareReset = 0x10
code_of ClearVtr = 0x11
code_of ClearSww = 0x13
code_of ClearFatl = 0x14
code_of SetCpui = 0x15
code_of SetDmai = 0x16

-- the set or clear command with this code
abbrev pub is_act_of : (code : ℕ) → Command → Bool
is_act_of k Mr = false
is_act_of k Sar = false
is_act_of k Dscr = false
is_act_of k (Show g) = false
is_act_of k (Entry p) = false
is_act_of k (Act a) = eqb (code_of a) k
is_act_of k Unlisted = false

abbrev pub is_software_reset : Command → Bool
is_software_reset = is_act_of 0x10

-- a command on one byte of a descriptor, whatever DSCR is
abbrev pub is_at_byte : (index : ℕ) → Command → Bool
is_at_byte k Mr = false
is_at_byte k Sar = false
is_at_byte k Dscr = false
is_at_byte k (Show g) = false
is_at_byte k (Entry Base) = false
is_at_byte k (Entry Limit) = eqb 2 k
is_at_byte k (Entry Attributes) = eqb 3 k
is_at_byte k (Entry Whole) = false
is_at_byte k (Act a) = false
is_at_byte k Unlisted = false

-- no row of the table has a code above %20
past : (n : ℕ) → 0x20 < n → (rows : List (ℕ × Command)) → all (λ (row : ℕ × Command). leb row.0 0x20) rows ≡ true → look_up n rows ≡ Unlisted
past n h [] e = refl
past n h (row ∷ rows) e =
    let small : row.0 ≤ 0x20 = leb-true _ _ (and_l (leb row.0 0x20) _ e) in
    rw (ne_eqb n row.0 (λ q. omega arith)) (past n h rows (and_r (leb row.0 0x20) _ e))

unlisted_past : (n : ℕ) → 0x20 < n → command_of n ≡ Unlisted
unfolding command_of
unlisted_past n h = past n h codes refl

-- a list of codes up to %20 has none above it
pub past_list : (l : List ℕ) → all (λ k. leb k 0x20) l ≡ true → (n : ℕ) → 0x20 < n → among n l ≡ false
past_list [] e n h = refl
past_list (k ∷ l) e n h =
    let small : k ≤ 0x20 = leb-true _ _ (and_l (leb k 0x20) _ e) in
    rw (ne_eqb n k (λ q. omega arith)) (past_list l (and_r (leb k 0x20) _ e) n h)

-- a test of the command is a test of its number, where the two agree up to %20 and the second fails past it
pub by_number : (p : Command → Bool) (q : ℕ → Bool) → each 0x21 (λ n. beq (p (command_of n)) (q n)) ≡ true
    → p Unlisted ≡ false → ((n : ℕ) → 0x20 < n → q n ≡ false) → (n : ℕ) → p (command_of n) ≡ q n
by_number p q e none far n = go (ltb n 0x21) refl
  where
    go : (t : Bool) → ltb n 0x21 ≡ t → p (command_of n) ≡ q n
    go true h = same _ _ (at 0x21 (λ n. beq (p (command_of n)) (q n)) e n (ltb-true n 0x21 h))
    go false h =
        let l : 0x20 < n = ltb-false n 0x21 h in
        ap p (unlisted_past n l) ∙ none ∙ sym (far n l)

pub show-codes : (n : ℕ) → is_show (command_of n) ≡ read_only n
unfolding command_of
show-codes = by_number is_show read_only refl refl λ n h. simp (lt-leb n 0x07 (omega arith), and-false)

pub entry-codes : (n : ℕ) → is_entry (command_of n) ≡ on_descriptor n
unfolding command_of
entry-codes = by_number is_entry on_descriptor refl refl λ n h. simp (lt-leb n 0x0F (omega arith), and-false)

pub act-codes : (n : ℕ) → is_act (command_of n) ≡ set_or_clear n
unfolding command_of
act-codes = by_number is_act set_or_clear refl refl (past_list sets_and_clears refl)

pub listed-codes : (n : ℕ) → is_listed (command_of n) ≡ listed n
unfolding command_of
listed-codes =
    by_number is_listed listed refl refl λ n h.
    simp (lt-leb n 0x11 (omega arith), lt-leb n 0x16 (omega arith), ne_eqb n 0x20 (λ e. omega arith), and-false)

pub software_reset_code : (n : ℕ) → is_software_reset (command_of n) ≡ eqb n 0x10
unfolding command_of
software_reset_code = by_number is_software_reset (λ n. eqb n 0x10) refl refl λ n h. ne_eqb n 0x10 (λ e. omega arith)

pub clear_vtr_code : (n : ℕ) → is_act_of 0x11 (command_of n) ≡ eqb n 0x11
unfolding command_of
clear_vtr_code = by_number (is_act_of 0x11) (λ n. eqb n 0x11) refl refl λ n h. ne_eqb n 0x11 (λ e. omega arith)

pub cpui_code : (n : ℕ) → is_act_of 0x15 (command_of n) ≡ eqb n 0x15
unfolding command_of
cpui_code = by_number (is_act_of 0x15) (λ n. eqb n 0x15) refl refl λ n h. ne_eqb n 0x15 (λ e. omega arith)

pub dmai_code : (n : ℕ) → is_act_of 0x16 (command_of n) ≡ eqb n 0x16
unfolding command_of
dmai_code = by_number (is_act_of 0x16) (λ n. eqb n 0x16) refl refl λ n h. ne_eqb n 0x16 (λ e. omega arith)

pub limit-codes : (n : ℕ) → is_at_byte 2 (command_of n) ≡ (eqb n 0x09 || eqb n 0x0D)
unfolding command_of
limit-codes =
    by_number (is_at_byte 2) (λ n. eqb n 0x09 || eqb n 0x0D) refl refl λ n h.
    simp (ne_eqb n 0x09 (λ e. omega arith), ne_eqb n 0x0D (λ e. omega arith))

pub attributes-codes : (n : ℕ) → is_at_byte 3 (command_of n) ≡ (eqb n 0x0A || eqb n 0x0E)
unfolding command_of
attributes-codes =
    by_number (is_at_byte 3) (λ n. eqb n 0x0A || eqb n 0x0E) refl refl λ n h.
    simp (ne_eqb n 0x0A (λ e. omega arith), ne_eqb n 0x0E (λ e. omega arith))

pub mr_code : (n : ℕ) → is_mr (command_of n) ≡ eqb n 0x00
unfolding command_of
mr_code = by_number is_mr (λ n. eqb n 0x00) refl refl λ n h. ne_eqb n 0x00 (λ e. omega arith)
