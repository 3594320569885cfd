use Rattle.std.proofs.Common.{arith}
use Rattle.unit_stores.proofs.Stores.{put_mid_sets}
use Rattle.unit_stores.proofs.store.Goals as goal

pub returns : goal.returns
returns g c = put_mid_sets c.args.at _ c.args.out.now c.args.bytes _ c.copy_from_slice.ensures.after (omega arith) (omega arith)
