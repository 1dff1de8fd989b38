use Rattle.sc_run_value.proofs.Common.{Word, c_arith, here_of, memory_of, refl, ways}
use Rattle.sc_run_value.proofs.Operands.{holds_by}
use Rattle.sc_run_value.proofs.plans.holds_by.Goals as goal

pub returns-in-Some : goal.returns-in-Some
returns-in-Some c =
    let s = c.args.scope.now in
    holds_by (ways c_arith s.structs.now (here_of s) s.params c.args.cond.now)
    (memory_of c.args.blocks.now s.comp.now) (Word c.in-Some.word) _ refl c.in-Some.ensures
