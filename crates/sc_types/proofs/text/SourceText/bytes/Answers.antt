use Rattle.sc_types.proofs.Sources.{source_kept}
use Rattle.sc_types.proofs.text.SourceText.bytes.Goals as goal

pub returns-clause-source : goal.returns-clause-source
returns-clause-source c = rw (← c.self.view_is) (source_kept c.self.inside.bytes c.self.inside.starts
    c.self.inside.program c.self.invariant)
