use Rattle.sc_run_value.proofs.Common.{c_arith, here_of, memory_of, sym, ways}
use Rattle.sc_run_value.proofs.Operands.{holds_by}
use Rattle.sc_run_value.proofs.at_once.holds.Goals as goal

pub returns-in-Some : goal.returns-in-Some
returns-in-Some c =
    let s = c.args.scope.now in
    holds_by (ways c_arith s.structs.now (here_of s) s.params c.args.cond.now)
    (memory_of c.args.blocks.now s.comp.now) c.in-Some.value c.is_true.result c.is_true.ensures c.in-Some.ensures

pub returns-in-Ok : goal.returns-in-Ok
returns-in-Ok c =
    let s = c.args.scope.now in
    holds_by (ways c_arith s.structs.now (here_of s) s.params c.args.cond.now)
    (memory_of c.args.blocks.now s.comp.now) c.in-Ok.value c.is_true-in-Ok.result c.is_true-in-Ok.ensures
    (sym c.in-Ok.ensures)
