use Rattle.sc_run_value.proofs.Common.{Ptr, Word, c_arith, here_of, memory_of, ways}
use Rattle.sc_run_value.proofs.Operands.{assigned_by, put_by}
use Rattle.sc_run_value.proofs.plans.is_assigned_by.Goals as goal

pub returns : goal.returns
returns c =
    let s = c.args.scope.now in
    let place = ways c_arith s.structs.now (here_of s) s.params c.args.assignment.now.place.now in
    let value = ways c_arith s.structs.now (here_of s) s.params c.args.assignment.now.value.now in
    let before = memory_of c.args.blocks.now in
    let after = memory_of c.is_stored.new.blocks in
    assigned_by s.comp.now place (Word c.in-Some.found.1) before after value c.is_stored.result
    (c.requires.plan.gives (before s.comp.now) _ c.in-Some.ensures.word)
    (put_by s.comp.now place (Word c.in-Some.found.1) before after c.is_stored.result (Ptr c.in-Some.found.0)
    (c.requires.target.found (before s.comp.now) _ c.in-Some.ensures.place) c.is_stored.ensures)
