-- The part that is written is the text of the trace.
use Rattle.text.proofs.Whole.{listed}
use Rattle.mmurun.proofs.show.Goals as goal

pub write_text-requires : goal.write_text-requires
write_text-requires g c =
    let text = rw (← c.unwrap_or-n.ensures) at c.list.ensures.listed in
    let counts = rw (← c.unwrap_or-n.ensures) at c.list.ensures.counts in
    (listed c.args.trace.now c.args.text.now c.list.new.out c.unwrap_or-n.result c.requires text counts.0).0
