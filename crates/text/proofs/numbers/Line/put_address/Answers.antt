-- What its calls put, one after the other.
use Rattle.text.proofs.Puts.{and_then, address_bytes}
use Rattle.text.proofs.numbers.Line.put_address.Goals as goal

pub returns : goal.returns
returns c = rw (← address_bytes c.args.driven c.args.high c.args.low) (and_then c.put_byte.ensures c.put_byte-2.ensures)
