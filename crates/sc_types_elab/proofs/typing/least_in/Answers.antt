use Rattle.sc_types_elab.proofs.Common.{[]}
use Rattle.sc_types_elab.proofs.Phases.{section-noted}
use Rattle.sc_types_elab.proofs.typing.least_in.Goals as goal

pub returns : goal.returns
returns c =
    section-noted c.args.section.now [] c.in_ok-scope.scope.callees c.in_ok-scope.ensures.calls c.as_slice.result.now
    c.as_slice.ensures c.args.least c.note_decls.new.lines c.in_ok-note_decls.ensures
