use Rattle.sc_opt.proofs.Made.{fewer, first_pass, later_pass}
use Rattle.sc_opt.proofs.program.optimise_function.Goals as goal

pub loop-weight-init : goal.loop-weight-init
loop-weight-init c = record {
  made = first_pass c.args.f.now c.in_ok-passed.passed c.weight-before.result c.weight-weight.result
      c.in_ok-passed.ensures c.weight-before.ensures c.weight-weight.ensures;
  counted = c.weight-weight.ensures;
  fewer = fewer c.args.f.now c.in_ok-passed.passed c.weight-before.result c.weight-weight.result
      c.in_ok-passed.ensures c.weight-before.ensures c.weight-weight.ensures;
}

pub loop-weight-preserved : goal.loop-weight-preserved
loop-weight-preserved c = record {
  made = later_pass c.args.f.now c.loop-weight.passed c.in_ok-passed-2.passed c.loop-weight.before c.loop-weight.weight
      c.weight-weight-in-loop-weight.result c.loop-weight.invariant.made c.loop-weight-test.true
      c.in_ok-passed-2.ensures c.loop-weight.invariant.counted c.weight-weight-in-loop-weight.ensures;
  counted = c.weight-weight-in-loop-weight.ensures;
  fewer = fewer c.loop-weight.passed c.in_ok-passed-2.passed c.loop-weight.weight
      c.weight-weight-in-loop-weight.result c.in_ok-passed-2.ensures c.loop-weight.invariant.counted
      c.weight-weight-in-loop-weight.ensures;
}
