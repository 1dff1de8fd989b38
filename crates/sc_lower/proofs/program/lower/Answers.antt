use Rattle.sc_lower.proofs.Common.{lowered_program, ◌∙◌, ◌≡◌}
use Rattle.sc_lower.proofs.Lowering.{code_keeps, program_is, program_of}
use Rattle.sc_lower.proofs.program.lower.Goals as goal

pub new-requires : goal.new-requires
new-requires c =
    program_of c.args.program.now c.tree-program.ensures.typed c.tree-program.result.now c.in_ok-interfaces.interfaces
    c.in_ok-sections.sections c.tree-program.ensures.tree c.in_ok-interfaces.ensures c.in_ok-sections.ensures

pub returns : goal.returns
returns c =
    let code : c.new.result ≡ lowered_program c.args.program.now =
    c.new.ensures ∙
    program_is c.args.program.now c.tree-program.ensures.typed c.tree-program.result.now c.in_ok-interfaces.interfaces
    c.in_ok-sections.sections c.tree-program.ensures.tree c.in_ok-interfaces.ensures c.in_ok-sections.ensures in
    let kept = code_keeps c.args.program.now c.tree-program.ensures.typed c.new.result code in
    record { code = code; meaning = kept.0; rules = kept.1; branches = kept.2 }
