use Rattle.sc_live.proofs.Common.{not, rules, ◌==◌}
use Rattle.std.proofs.lemmas.Fn.{filter_same}
use Rattle.sc_live.proofs.LiveSets.{removed}
use Rattle.sc_live.proofs.live.LiveSet.remove.Goals as goal

pub returns : goal.returns
returns c t = rw (← c.self.view_is) (removed c.args.temp t _ _
    (filter_same _ (λ x. not (x == c.args.temp)) _ (λ x b f' k. search rules) _ _ c.retain.ensures.filtered))
