-- What its calls put, one after the other.
use Rattle.text.proofs.Puts.{and_then}
use Rattle.text.specs.Lines.{line_of}
use Rattle.text.proofs.numbers.Line.put_line.Goals as goal

pub returns : goal.returns
unfolding line_of
returns c =
    and_then c.put_opening.ensures
    (and_then c.put_address.ensures (and_then c.put.ensures (and_then c.put_signals.ensures c.put_ending.ensures)))
