use Rattle.sc_run_value.proofs.Common.{c_arith, here_of, memory_of, sym, ways}
use Rattle.sc_run_value.proofs.Operands.{put_by}
use Rattle.sc_run_value.proofs.at_once.is_put.Goals as goal

pub returns-in-Some : goal.returns-in-Some
returns-in-Some c =
    let s = c.args.scope.now in
    put_by s.comp.now (ways c_arith s.structs.now (here_of s) s.params c.args.place.now) c.args.value
    (memory_of c.args.blocks.now) (memory_of c.is_stored.new.blocks) c.is_stored.result c.in-Some.found
    c.in-Some.ensures c.is_stored.ensures

pub returns-in-Ok : goal.returns-in-Ok
returns-in-Ok c =
    let s = c.args.scope.now in
    put_by s.comp.now (ways c_arith s.structs.now (here_of s) s.params c.args.place.now) c.args.value
    (memory_of c.args.blocks.now) (memory_of c.is_stored-in-Ok.new.blocks) c.is_stored-in-Ok.result c.in-Ok.found
    (sym c.in-Ok.ensures) c.is_stored-in-Ok.ensures
