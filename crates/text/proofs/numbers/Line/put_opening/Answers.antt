-- What its calls put, one after the other.
use Rattle.text.proofs.Puts.{and_then}
use Rattle.text.specs.Fields.{opening}
use Rattle.text.proofs.numbers.Line.put_opening.Goals as goal

pub returns : goal.returns
unfolding opening
returns c = and_then c.put_decimal.ensures.put (and_then c.put.ensures (and_then c.put_kind.ensures c.put-2.ensures))
