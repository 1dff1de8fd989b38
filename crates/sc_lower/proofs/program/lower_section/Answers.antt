use Rattle.sc_lower.proofs.Lowering.{functions_of}
use Rattle.sc_lower.proofs.program.lower_section.Goals as goal

pub lower_functions-requires : goal.lower_functions-requires
lower_functions-requires c =
    functions_of c.args.interfaces.now c.args.comp c.args.section.now.structs c.args.section.now.functions
    c.requires c.as_slice-structs.result.now c.as_slice-functions.result.now
    c.as_slice-structs.ensures c.as_slice-functions.ensures
