use Rattle.sc_image.specs.Prelude.{is_argument}
use Rattle.std.proofs.Common.{arith, length, refl, ◌≡◌, ◌∙◌}
use Rattle.sc_gate.proofs.Kept.{all_cleared, at_argument, below_arguments, next_all_kept, past_arguments}
use Rattle.sc_gate.proofs.clear.keep.Goals as goal

pub returns : goal.returns
returns c =
    let keeps = is_argument c.args.count in
    let all = c.args.regs.now in
    let long : length all ≡ 32 = omega arith in
    let first = c.clear.ensures keeps all long (below_arguments c.args.count) refl in
    let kept = next_all_kept keeps 10 c.args.count all c.clear.new.regs (omega arith)
    (at_argument c.args.count) first in
    c.clear-2.ensures keeps all long (past_arguments c.args.count) kept ∙ all_cleared keeps 32 all long
