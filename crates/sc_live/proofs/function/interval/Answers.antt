use Rattle.sc_live.proofs.Common.{ap, interval_at, ◌∙◌}
use Rattle.sc_live.proofs.Spans.{interval_known}
use Rattle.sc_live.proofs.function.interval.Goals as goal

pub returns : goal.returns
returns c temps points h within =
    c.interval_at.ensures
    ∙ ap (λ known. interval_at c.args.temp c.args.walk.now.points known) c.known.ensures
    ∙ interval_known c.args.temp c.args.walk.now temps points h within
