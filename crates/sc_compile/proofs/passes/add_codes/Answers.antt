use Rattle.sc_compile.proofs.Common.{EmitsFrom, all_done, all_more, code_from}
use Rattle.sc_compile.proofs.Emitting.{one_more_code}
use Rattle.sc_compile.proofs.passes.add_codes.Goals as goal

pub loop-function-preserved : goal.loop-function-preserved
loop-function-preserved c = record {
  codes = one_more_code (code_from c.args.interfaces.now c.args.comp c.args.structs.now) c.args.codes.now
      c.args.functions.now c.loop-function.function-index c.function-item.result c.in_ok-compile_function.field-0
      c.loop-function.codes c.push.new.self c.loop-function-test.true c.function-item.is
      c.in_ok-compile_function.ensures.code c.in_ok-push.ensures.ok c.loop-function.invariant.codes;
  emitted = all_more (EmitsFrom c.args.interfaces.now c.args.comp c.args.structs.now) c.args.functions.now
      c.loop-function.function-index c.function-item.result c.loop-function-test.true c.function-item.is
      c.loop-function.invariant.emitted c.in_ok-compile_function.ensures.emitted;
}

pub returns-clause-emitted : goal.returns-clause-emitted
returns-clause-emitted c =
    all_done (EmitsFrom c.args.interfaces.now c.args.comp c.args.structs.now) c.args.functions.now
    c.loop-function.function-index c.loop-function-test.false c.loop-function.invariant.emitted
