use Rattle.sc_run.proofs.Common.{IfOk-weaker, [], ap, arith, exit_of, length, refl, rules, sym, ◌++◌, ◌∙◌, ◌∷◌, ◌≡◌}
use Rattle.sc_run.proofs.Looping.{nothing_waits, taken, work_as}
use Rattle.sc_run.proofs.leaves.leave.Goals as goal

pub returns-in-None : goal.returns-in-None
returns-in-None c =
    let none : length c.args.run.now.work.items ≡ 0 = search (rules, arith) in
    let left : length c.pop.new.self.items ≡ 0 = search (rules, arith) in
    IfOk-weaker c.finish.result _ _ (λ step h. nothing_waits c.args.run.now.work.items c.pop.new.self.items none left
    h) c.finish.ensures

pub returns-in-Some-Rest : goal.returns-in-Some-Rest
returns-in-Some-Rest c = taken (exit_of c.args.exit) c.in-Some-Rest.ensures.items c.in-Some-Rest.field-0-is
    (omega arith) c.leave_before_rest.ensures (λ n s. refl)

pub returns-in-Some-First : goal.returns-in-Some-First
returns-in-Some-First c = IfOk-weaker c.leave_first.result _ _
    (λ step h. taken (exit_of c.args.exit) c.in-Some-First.ensures.items c.in-Some-First.field-0-is (omega arith) h
    (λ n s. refl)) c.leave_first.ensures

pub returns-in-Some-Again : goal.returns-in-Some-Again
returns-in-Some-Again c = IfOk-weaker c.leave_before_round.result _ _
    (λ step h. taken (exit_of c.args.exit) c.in-Some-Again.ensures.items c.in-Some-Again.field-0-is (omega arith) h
    (λ n s. refl)) c.leave_before_round.ensures

pub returns-in-Some-Body : goal.returns-in-Some-Body
returns-in-Some-Body c = IfOk-weaker c.leave_body.result _ _
    (λ step h. taken (exit_of c.args.exit) c.in-Some-Body.ensures.items c.in-Some-Body.field-0-is (omega arith) h
    (λ n s. refl)) c.leave_body.ensures

pub returns-in-Some-Caller : goal.returns-in-Some-Caller
returns-in-Some-Caller c = IfOk-weaker c.return_to.result _ _ (λ step h. work_as
    (sym (c.in-Some-Caller.ensures.items ∙ ap (λ w. c.pop.new.self.items ++ w ∷ []) c.in-Some-Caller.field-0-is)) h)
    c.return_to.ensures
