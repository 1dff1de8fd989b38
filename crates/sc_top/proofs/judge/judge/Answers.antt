use Rattle.sc_top.proofs.Common.{IsAccountFor, IsCauseIn, IsWellTyped, Judge, List, accounted_intake, arith, drop}
use Rattle.sc_top.proofs.Common.{length}
use Rattle.sc_top.proofs.Common.{length-drop, refl, rules, subst, sym, take_rest, ℕ, ◌≤◌}
use Rattle.sc_top.proofs.Committed.{judged_by}
use Rattle.sc_top.proofs.Outputs.{judge_cause}
use Rattle.sc_top.proofs.judge.judge.Goals as goal

pub accounted-requires-clause-short : goal.accounted-requires-clause-short
accounted-requires-clause-short c = λ no.
    let short = c.requires.short no in
    let cut = length-drop c.in_ok-read.read.rest c.args.bytes.now in
    subst (λ (rest : List ℕ). length rest ≤ 1048576) (sym (take_rest c.args.bytes.now c.in_ok-read.read.rest))
    (omega (arith, short, cut))

pub returns-in_err-found-clause-cause : goal.returns-in_err-found-clause-cause
returns-in_err-found-clause-cause c =
    let options = c.args.options.now in
    let cause = judge_cause options c.args.bytes.now c.in_ok-read.read _
    (take_rest c.args.bytes.now c.in_ok-read.read.rest) c.in_ok-read.ensures.read _ c.in_err-found.ensures.cause in
    search (rules, cause)

pub returns-clause-ok : goal.returns-clause-ok
returns-clause-ok c =
    let options = c.args.options.now in
    judged_by c.first_violations.ensures.violation c.first_violations.ensures.replaced options
    c.args.bytes.now c.in_ok-verdict.field-0 c.in_ok-read.read c.in_ok-found.found c.in_ok-read.ensures.read
    (subst (λ (b : List ℕ). IsAccountFor options.run options.image b c.in_ok-found.found)
    (take_rest c.args.bytes.now c.in_ok-read.read.rest) c.in_ok-found.ensures.account)
    (subst IsWellTyped c.program.ensures.program c.tree-tree.ensures.typed)
    c.in_ok-found.ensures.allowed c.in_ok-verdict.ensures

pub returns-in_err-verdict-clause-cause : goal.returns-in_err-verdict-clause-cause
returns-in_err-verdict-clause-cause c = search (rules, c.from_residual-in_err-verdict.ensures)
