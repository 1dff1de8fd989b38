use Rattle.sc_run.proofs.Common.{rolls-AssignCall, rolls-Call, sym, ◌∙◌}
use Rattle.sc_run.proofs.Stating.{stmt_is}
use Rattle.sc_core.specs.declared.stmt.TypedStmtKind.TheOpen as layer
use Rattle.sc_run.proofs.rounds.call_in.Goals as goal

pub returns-in-AssignCall-clause-call : goal.returns-in-AssignCall-clause-call
returns-in-AssignCall-clause-call c =
    record {
      acts = λ f n s. stmt_is c.args.program.now f c.args.stmt.now (layer.AssignCall c.get-in-AssignCall.result.now
          c.get.result.now) (rw (c.get-in-AssignCall.ensures.value, c.get.ensures)
          (c.in-AssignCall.is ∙ sym (rolls-AssignCall _ _))) n s;
    }

pub returns-in-Call-clause-call : goal.returns-in-Call-clause-call
returns-in-Call-clause-call c =
    record {
      acts = λ f n s. stmt_is c.args.program.now f c.args.stmt.now (layer.Call c.get-in-Call.result.now)
          (rw c.get-in-Call.ensures (c.in-Call.is ∙ sym (rolls-Call _))) n s;
    }
