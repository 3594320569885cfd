-- What its calls put, one after the other.
use Rattle.text.proofs.Puts.{and_then}
use Rattle.text.specs.Fields.{signals}
use Rattle.text.proofs.numbers.Line.put_signals.Goals as goal

pub returns : goal.returns
unfolding signals
returns c =
    simp (← c.bit_text.ensures, ← c.bit_text-2.ensures)
    (and_then c.put.ensures
    (and_then c.put-2.ensures
    (and_then c.put-3.ensures (and_then c.put-4.ensures (and_then c.put_byte.ensures c.put-5.ensures)))))
