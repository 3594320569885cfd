-- What its calls put, one after the other.
use Rattle.text.proofs.Puts.{and_then}
use Rattle.text.specs.Fields.{head_text}
use Rattle.text.proofs.numbers.Line.put_head.Goals as goal

pub returns : goal.returns
unfolding head_text
returns c = and_then c.put_mark.ensures (and_then c.put_decimal.ensures.put c.put.ensures)
