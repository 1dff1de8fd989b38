use Rattle.std.proofs.Common.{ap, ◌∙◌}
use Rattle.sc_opt.specs.Prelude.{assigned_at, constant_at, constant_by}
use Rattle.sc_opt.proofs.Knowing.{one_more}
use Rattle.sc_opt.proofs.known.known_constants.Goals as goal

pub loop-temp-preserved : goal.loop-temp-preserved
loop-temp-preserved c = c.in_ok-push.ensures.ok ∙ one_more (assigned_at c.args.facts.now) c.loop-temp.temp
    c.loop-temp.constants c.constant_by-constant.result c.loop-temp.invariant
    (c.constant_by-constant.ensures
    ∙ ap (λ known. constant_by (constant_at c.loop-temp.constants) known.assigned) c.facts_at.ensures)
