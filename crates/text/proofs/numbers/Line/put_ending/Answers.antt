-- What its calls put, one after the other.
use Rattle.text.proofs.Puts.{and_then}
use Rattle.text.specs.Fields.{ending}
use Rattle.text.proofs.numbers.Line.put_ending.Goals as goal

pub returns : goal.returns
unfolding ending
returns c = rw (← c.from.ensures) (and_then c.put_decimal.ensures.put c.put.ensures)
