use Rattle.sc_run.proofs.Common.{IfOk-weaker, option_copied, refl, rolls-Assign, rolls-AssignCall, rolls-Break}
use Rattle.sc_run.proofs.Common.{rolls-Call, rolls-Continue, rolls-Empty, rolls-For, rolls-Free, rolls-If, rolls-Malloc}
use Rattle.sc_run.proofs.Common.{rolls-Return, rolls-ReturnCall, rolls-ReturnValue, rolls-While, sym, ◌∙◌, arith}
use Rattle.sc_run.proofs.Looping.{steps_later}
use Rattle.sc_run.proofs.Stating.{stmt_as}
use Rattle.sc_core.specs.declared.stmt.TypedStmtKind.TheOpen as layer
use Rattle.sc_run.proofs.steps.statement.Goals as goal

pub returns-in-Empty : goal.returns-in-Empty
returns-in-Empty c = stmt_as c.args.stmt.now layer.Empty (c.in-Empty.is ∙ sym rolls-Empty) (omega arith)
    (steps_later {cost = 2} (omega arith) (λ n s. refl))

pub returns-in-Break : goal.returns-in-Break
returns-in-Break c = stmt_as c.args.stmt.now layer.Break (c.in-Break.is ∙ sym rolls-Break) (omega arith)
    (steps_later {cost = 2} (omega arith) (λ n s. refl))

pub returns-in-Continue : goal.returns-in-Continue
returns-in-Continue c =
    stmt_as c.args.stmt.now layer.Continue (c.in-Continue.is ∙ sym rolls-Continue) (omega arith)
    (steps_later {cost = 2} (omega arith) (λ n s. refl))

pub returns-in-Return : goal.returns-in-Return
returns-in-Return c =
    stmt_as c.args.stmt.now layer.Return (c.in-Return.is ∙ sym rolls-Return) (omega arith)
    (steps_later {cost = 2} (omega arith) (λ n s. refl))

pub returns-in-Assign : goal.returns-in-Assign
returns-in-Assign c = stmt_as c.args.stmt.now (layer.Assign c.get.result.now c.get-in-Assign.result.now)
    (rw (c.get.ensures.value, c.get-in-Assign.ensures) (c.in-Assign.is ∙ sym (rolls-Assign _ _))) (omega arith)
    c.assigned.ensures

pub returns-in-AssignCall : goal.returns-in-AssignCall
returns-in-AssignCall c = IfOk-weaker c.call_made.result _ _ (λ step h. stmt_as c.args.stmt.now
    (layer.AssignCall c.get-in-AssignCall.result.now c.get-call.result.now)
    (rw (c.get-in-AssignCall.ensures.value, c.get-call.ensures) (c.in-AssignCall.is ∙ sym (rolls-AssignCall _ _)))
    (omega arith) h)
    c.call_made.ensures

pub returns-in-Call : goal.returns-in-Call
returns-in-Call c = IfOk-weaker c.call_made-in-Call.result _ _ (λ step h. stmt_as c.args.stmt.now
    (layer.Call c.get-call-in-Call.result.now) (rw c.get-call-in-Call.ensures (c.in-Call.is ∙ sym (rolls-Call _)))
    (omega arith) h) c.call_made-in-Call.ensures

pub returns-in-Malloc : goal.returns-in-Malloc
returns-in-Malloc c = IfOk-weaker c.malloc.result _ _ (λ step h. stmt_as c.args.stmt.now
    (layer.Malloc c.get-in-Malloc.result.now c.in-Malloc.count c.in-Malloc.cells)
    (rw c.get-in-Malloc.ensures.value (c.in-Malloc.is ∙ sym (rolls-Malloc _ _ _))) (omega arith) h) c.malloc.ensures

pub returns-in-Free : goal.returns-in-Free
returns-in-Free c = stmt_as c.args.stmt.now (layer.Free c.get-in-Free.result.now)
    (rw c.get-in-Free.ensures (c.in-Free.is ∙ sym (rolls-Free _)))
    (omega arith) c.free.ensures

pub returns-in-ReturnCall : goal.returns-in-ReturnCall
returns-in-ReturnCall c = IfOk-weaker c.call_made-in-ReturnCall.result _ _ (λ step h. stmt_as c.args.stmt.now
    (layer.ReturnCall c.get-call-in-ReturnCall.result.now)
    (rw c.get-call-in-ReturnCall.ensures (c.in-ReturnCall.is ∙ sym (rolls-ReturnCall _))) (omega arith)
    h) c.call_made-in-ReturnCall.ensures

pub returns-in-ReturnValue : goal.returns-in-ReturnValue
returns-in-ReturnValue c = stmt_as c.args.stmt.now (layer.ReturnValue c.get-in-ReturnValue.result.now)
    (rw c.get-in-ReturnValue.ensures (c.in-ReturnValue.is ∙ sym (rolls-ReturnValue _))) (omega arith)
    c.returned_value.ensures

pub returns-in-If : goal.returns-in-If
returns-in-If c = stmt_as c.args.stmt.now
    (layer.If c.get-in-If.result.now c.as_slice.result.now c.as_slice-in-If.result.now)
    (rw (c.get-in-If.ensures, c.as_slice.ensures, c.as_slice-in-If.ensures) (c.in-If.is ∙ sym (rolls-If _ _ _)))
    (omega arith)
    c.branch-program.ensures

pub returns-in-While : goal.returns-in-While
returns-in-While c = IfOk-weaker c.while_loop.result _ _ (λ step h. stmt_as c.args.stmt.now
    (layer.While c.get-in-While.result.now c.as_slice-body.result.now)
    (rw (c.get-in-While.ensures, c.as_slice-body.ensures) (c.in-While.is ∙ sym (rolls-While _ _))) (omega arith) h)
    c.while_loop.ensures

pub returns-in-For : goal.returns-in-For
returns-in-For c = IfOk-weaker c.first_part.result _ _ (λ step h. stmt_as c.args.stmt.now
    (layer.For c.in-For.first c.get-in-For.result.now (option_copied c.part_of.result) c.as_slice-in-For.result.now)
    (rw (c.get-in-For.ensures, c.part_of.ensures, c.as_slice-in-For.ensures) (c.in-For.is ∙ sym (rolls-For _ _ _ _)))
    (omega arith) h)
    c.first_part.ensures
