use Rattle.sc_emit_select.proofs.Common.{IfOk-weaker, arith, code_of, code_of_lines, false, function_lines, plan_of}
use Rattle.sc_emit_select.proofs.Common.{uses_heap, ◌≡◌}
use Rattle.sc_emit_select.proofs.Links.{far_code, near_code}
use Rattle.sc_emit_select.proofs.function.chosen.Goals as goal

pub returns-then-len-lt-BRANCH_REACH-clause-lines : goal.returns-then-len-lt-BRANCH_REACH-clause-lines
returns-then-len-lt-BRANCH_REACH-clause-lines c =
    near_code c.args.f.now c.args.places.now c.args.frame.now c.in_ok-lines.lines c.in_ok-lines.ensures.lines
    (omega (arith, c.if-len-lt-BRANCH_REACH.true, c.len.ensures))

pub returns-clause-lines : goal.returns-clause-lines
returns-clause-lines c =
    IfOk-weaker c.planned-2.result
    (λ lines. lines ≡ function_lines c.args.frame.now c.args.places.now (plan_of c.args.f.now false) c.args.f.now)
    (λ lines. code_of_lines (uses_heap c.args.f.now.body) lines ≡
    code_of c.args.f.now c.args.places.now c.args.frame.now)
    (λ lines is. far_code c.args.f.now c.args.places.now c.args.frame.now c.in_ok-lines.lines lines
    c.in_ok-lines.ensures.lines is (omega (arith, c.if-len-lt-BRANCH_REACH.false, c.len.ensures)))
    c.planned-2.ensures.lines
