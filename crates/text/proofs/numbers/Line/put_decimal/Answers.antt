-- What the digits say.
use Rattle.std.proofs.Common.{arith}
use Rattle.text.proofs.Decimal.{decimal-value}
use Rattle.text.proofs.numbers.Line.put_decimal.Goals as goal

pub returns-clause-n_value : goal.returns-clause-n_value
returns-clause-n_value c = decimal-value c.args.n (omega arith)
