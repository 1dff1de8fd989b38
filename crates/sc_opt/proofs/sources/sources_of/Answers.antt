use Rattle.std.proofs.Common.{◌∙◌}
use Rattle.sc_opt.specs.Prelude.{assigned_at}
use Rattle.sc_opt.proofs.Sourcing.{one_more}
use Rattle.sc_opt.proofs.sources.sources_of.Goals as goal

pub loop-temp-preserved : goal.loop-temp-preserved
loop-temp-preserved c = c.in_ok-push.ensures.ok ∙ one_more (assigned_at c.args.facts.now) c.loop-temp.temp
    c.loop-temp.sources c.source_by-source.result c.loop-temp.invariant c.source_by-source.ensures
