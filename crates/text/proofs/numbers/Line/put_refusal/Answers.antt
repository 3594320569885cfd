-- What its calls put, one after the other; a number has less room than a count.
use Rattle.std.proofs.Common.{arith}
use Rattle.text.proofs.Puts.{and_then}
use Rattle.text.specs.Fields.{refusal_text}
use Rattle.text.proofs.numbers.Line.put_refusal.Goals as goal

pub returns : goal.returns
unfolding refusal_text
returns c =
    let all = and_then c.put_kind.ensures c.put.ensures in
    record { put = all.put; within = omega (arith, all.within); long = all.long; same = all.same }
