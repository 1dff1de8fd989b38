use Rattle.sc_run.proofs.Common.{exit_of}
use Rattle.std.proofs.lemmas.Option.{IfSome_then}
use Rattle.sc_run.proofs.Ahead.{first_leaves}
use Rattle.sc_run.proofs.plain.exit_at_once.Goals as goal

pub returns-in-len1-up : goal.returns-in-len1-up
returns-in-len1-up c =
    IfSome_then c.exit_by.result c.exit_by.ensures (λ exit h. first_leaves c.args.program.now c.args.frame.now
    c.args.stmts.now (exit_of exit) c.in-len1-up.len_at_least c.stmt-item.is h)
