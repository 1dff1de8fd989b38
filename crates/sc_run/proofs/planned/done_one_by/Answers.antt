use Rattle.sc_run.proofs.Common.{kept_by, length, refl, arith}
use Rattle.std.proofs.lemmas.Option.{slice_get_read}
use Rattle.sc_run.proofs.Ahead.{one_more, stays_so, unchanged}
use Rattle.sc_run.proofs.planned.done_one_by.Goals as goal

pub is_done_by-requires : goal.is_done_by-requires
is_done_by-requires c = c.requires.planned c.index-stmts-0.result (slice_get_read c.args.stmts.now
    (length c.args.stmts.now) 0 c.index-stmts-0.result refl (omega (arith, c.requires.one)) c.index-stmts-0.is)

pub returns-then-is_done_by-clause-passes : goal.returns-then-is_done_by-clause-passes
returns-then-is_done_by-clause-passes c = one_more c.args.program.now c.args.frame.now c.args.stmts.now 0
    (kept_by c.args.machine.now) (omega (arith, c.requires.one)) c.index-stmts-0.is stays_so c.if-is_done_by.ensures

pub returns-clause-passes : goal.returns-clause-passes
returns-clause-passes c = unchanged c.if-is_done_by.ensures
