use Rattle.std.specs.Result.{IfErr}
use Rattle.sc_top.proofs.Common.{Err, ap, rules, subst}
use Rattle.sc_chain.specs.Prelude.{IsImageFault}
use Rattle.sc_top.proofs.Outputs.{compiling_another}
use Rattle.sc_top.proofs.account.image_explained.Goals as goal

pub explain_failure-requires : goal.explain_failure-requires
explain_failure-requires c = search (rules, c.explain_image.ensures.fault, c.program.ensures.program)

pub returns-in-Err-CompileFault-clause-cause : goal.returns-in-Err-CompileFault-clause-cause
returns-in-Err-CompileFault-clause-cause c =
    compiling_another c.program.result.now c.args.source.now.program c.args.image _ c.program.ensures.program
    c.explain_failure.ensures
