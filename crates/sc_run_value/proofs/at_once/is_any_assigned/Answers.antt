use Rattle.sc_run_value.proofs.Common.{c_arith, here_of, memory_of, sym, ways}
use Rattle.sc_run_value.proofs.Operands.{assigned_by}
use Rattle.sc_run_value.proofs.at_once.is_any_assigned.Goals as goal

pub returns-in-Some : goal.returns-in-Some
returns-in-Some c =
    let s = c.args.scope.now in
    assigned_by s.comp.now (ways c_arith s.structs.now (here_of s) s.params c.args.place.now) c.in-Some.found
    (memory_of c.args.blocks.now) (memory_of c.is_put.new.blocks)
    (ways c_arith s.structs.now (here_of s) s.params c.args.value.now) c.is_put.result c.in-Some.ensures
    c.is_put.ensures

pub returns-in-Ok : goal.returns-in-Ok
returns-in-Ok c =
    let s = c.args.scope.now in
    assigned_by s.comp.now (ways c_arith s.structs.now (here_of s) s.params c.args.place.now) c.in-Ok.found
    (memory_of c.args.blocks.now) (memory_of c.is_put-in-Ok.new.blocks)
    (ways c_arith s.structs.now (here_of s) s.params c.args.value.now) c.is_put-in-Ok.result (sym c.in-Ok.ensures)
    c.is_put-in-Ok.ensures
