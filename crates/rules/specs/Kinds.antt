-- Document 01, "The trace": the letter of each kind of answer, and the number of a refusal.
use Rattle.std.proofs.Math.Option.{Option, none, some}
use Rattle.std.specs.Prelude.{ℕ}
use Rattle.rules.specs.declared.Kind.{Kind}
use Rattle.rules.specs.declared.Kind.TheVariants.{Reset, Acknowledge, Command, Aborted, Translated, Passed, Ignored}
use Rattle.rules.specs.declared.Kind.TheVariants.{Refused}

-- "R reset, A acknowledge, C command, F aborted fetch, T translated, P passed with TRNS clear, I anything else, X [..] if refused"
abbrev pub letter_of : Kind → ℕ
letter_of Reset = 82
letter_of Acknowledge = 65
letter_of Command = 67
letter_of Aborted = 70
letter_of Translated = 84
letter_of Passed = 80
letter_of Ignored = 73
letter_of (Refused n) = 88

-- "with the refusal number joined to it"; 0 where nothing was refused
abbrev pub number_of : Kind → ℕ
number_of Reset = 0
number_of Acknowledge = 0
number_of Command = 0
number_of Aborted = 0
number_of Translated = 0
number_of Passed = 0
number_of Ignored = 0
number_of (Refused n) = n

-- the number that a kind gives, if it is a refusal
abbrev pub number_in : Kind → Option ℕ
number_in Reset = none
number_in Acknowledge = none
number_in Command = none
number_in Aborted = none
number_in Translated = none
number_in Passed = none
number_in Ignored = none
number_in (Refused n) = some n
