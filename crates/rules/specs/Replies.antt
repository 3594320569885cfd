-- What the unit answers, and what is decided where nothing more is to be said: the rules make answers here and nowhere else.
use Rattle.std.specs.Prelude.{Bool, false, ℕ}
use Rattle.rules.specs.declared.Address.{Address}
use Rattle.rules.specs.declared.Answer.{Answer}
use Rattle.rules.specs.declared.Change.{Change}
use Rattle.rules.specs.declared.Decision.{Decision}
use Rattle.rules.specs.declared.Kind.{Kind}
use Rattle.rules.specs.declared.Registers.{Registers}
use Rattle.rules.specs.declared.Change.TheVariants as change
use Rattle.rules.specs.declared.Kind.TheVariants as kind

-- "An address or data byte that isn't driven is marked so and has the value 0."
abbrev pub off : Address
off = record { driven = false; block = 0 }

-- what a memory cycle answers: no data byte
unfoldable pub seen : Kind → Address → (sup trap : Bool) → (distance : ℕ) → Answer
seen k l sup trap n = record { kind = k; address = l; sup = sup; trap = trap; drives = false; byte = 0; distance = n }

-- what any other cycle answers: no address, SUP off, and no distance
abbrev pub spoken : Kind → (trap drives : Bool) → (byte : ℕ) → Answer
spoken k trap drives b = record { kind = k; address = off; sup = false; trap = trap; drives = drives; byte = b; distance = 0 }

-- nothing driven, SUP off; the trap line shows the request as it stands in the registers r
unfoldable pub plain : Kind → Registers → Change → Decision
plain k r h = record { answer = spoken k r.notes.request false 0; registers = r; change = h }

-- "address and data not driven, SUP off, trap line as the request stood; unit unchanged"
unfoldable pub refused : ℕ → Registers → Decision
refused n r = plain (kind.Refused n) r change.Keep
