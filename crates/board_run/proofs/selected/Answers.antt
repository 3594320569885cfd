-- What `selected` answers. Assumes nothing.
use mathlib.Core.Path.{◌≡◌, sym, ap, ◌∙◌}
use mathlib.Core.Bool.{not}
use Rattle.std.proofs.Common.{ℕ, ◌*◌, ◌%◌, ◌^◌, arith}
use lib.Count.{ones, count_trailing_zeros}
use lib.Dec.{eqb, ltb}
use Rattle.std.specs.Bool.{then_some}
use Rattle.std.specs.Prelude.{is_some, unwrap_or}
use Rattle.std.specs.Prelude.{Option as Optional}
use Rattle.board_run.proofs.Selects.{low, place, some_is, several_is, first_is}
use Rattle.board_run.proofs.selected.Goals as goal

pub returns : goal.returns
returns c =
    let n : ℕ = c.args.count in
    let left : ℕ = c.args.selects in
    let live : c.from.result % (1 * 2 ^ n % 4294967296) ≡ low n left =
    ap (λ (k : ℕ). c.from.result % k) (place n c.requires) ∙ ap (λ (k : ℕ). k % 2 ^ n) c.from.ensures in
    let told : c.then_some.result ≡ then_some (not (eqb (low n left) 0)) (count_trailing_zeros 32 (low n left)) =
    c.then_some.ensures ∙ ap (λ (l : ℕ). then_some (not (eqb l 0)) (count_trailing_zeros 32 l)) live in (
      ap (λ (o : Optional ℕ). is_some o) told ∙ some_is n left (count_trailing_zeros 32 (low n left)),
      ap (λ (l : ℕ). ltb 1 (ones l)) live ∙ sym (several_is n left),
      ap (λ (o : Optional ℕ). unwrap_or o n) told ∙ first_is n 32 left (omega arith),
    )
