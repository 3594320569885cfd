-- Where no read failed, what was read is the whole input, or fills the buffer.
use Rattle.std.proofs.Common.{rules, ap, is_ok}
use Rattle.mmurun.proofs.Input.{whole_written}
use Rattle.mmurun.proofs.whole.Goals as goal

pub returns : goal.returns
returns g c =
    whole_written c.read_full-taken.new.buffer c.read_full-taken.result.count (search rules) c.read_full-taken.ensures.bound
    _ _ _ _ _ c.read_full-taken.ensures.bytes (c.read_full-taken.ensures.end (ap is_ok c.in_ok-taken.was)) c.show-written.ensures.written
