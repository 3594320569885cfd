-- Document 01, "Numbers that say no", with those of tickets 1 and 3 and of lent buffers: the number of each refusal.
use Rattle.std.specs.Prelude.{ℕ, Result, Ok, Err}
use Rattle.rules.specs.declared.refusal.Refusal.{Refusal}
use Rattle.rules.specs.declared.refusal.Refusal.TheVariants.{OutOfRange, Damaged, Unlisted, WrongWay, NoTrace, OtherVersion, TooMany, WrongLength}
use Rattle.rules.specs.declared.refusal.Refusal.TheVariants.{PastTheCount, NoRoomToRecord, WrongCount, TwoDrive, SeveralRead, NoRoom}

abbrev pub refusal_number : Refusal → ℕ
refusal_number OutOfRange = 1
refusal_number Damaged = 2
refusal_number Unlisted = 3
refusal_number WrongWay = 4
refusal_number NoTrace = 5
refusal_number OtherVersion = 6
refusal_number TooMany = 7
refusal_number WrongLength = 8
refusal_number PastTheCount = 9
refusal_number NoRoomToRecord = 10
refusal_number WrongCount = 11
refusal_number TwoDrive = 12
refusal_number SeveralRead = 13
refusal_number NoRoom = 255

-- the number of an outcome: 0 where nothing says no
abbrev pub number_of_outcome : {A : Type 0} → Result A Refusal → ℕ
number_of_outcome (Ok x) = 0
number_of_outcome (Err e) = refusal_number e
