-- `run` with a wrong count: the number of records, and that all of them are refused. Assumes nothing.
use mathlib.Core.Path.{ap, ◌∙◌}
use Rattle.std.specs.Prelude.{min}
use Rattle.std.proofs.Common.{ℕ, length}
use Rattle.board_run.specs.BoardRun.{most}
use Rattle.board_run.proofs.Ends.{cycles_are}
use Rattle.board_run.proofs.Turns.{refused_all}
use Rattle.board_run.proofs.run.Goals as goal

pub returns-then-wrong : goal.returns-then-wrong
returns-then-wrong c = (
  c.min-cycles.ensures
      ∙ ap (λ (k : ℕ). min k most) c.min.ensures
      ∙ cycles_are (length c.args.records.now) (length c.args.out.now),
  c.refuse_to.ensures ∙ refused_all c.args.records.now c.args.out.now c.args.count c.min-cycles.result c.if-wrong.true,
)
