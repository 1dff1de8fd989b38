use Rattle.sc_top.proofs.TaggedRuns.{explained_are_tagged}
use Rattle.sc_top.proofs.laws.explained_are_tagged.Goals as goal

pub returns : goal.returns
returns c = explained_are_tagged c.tags_agree.ensures
