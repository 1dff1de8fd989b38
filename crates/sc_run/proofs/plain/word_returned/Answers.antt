use Rattle.sc_run.proofs.Common.{Return, Some, Word}
use Rattle.std.proofs.lemmas.Option.{IfSome_then}
use Rattle.sc_run.proofs.Ahead.{first_leaves}
use Rattle.sc_run.proofs.plain.word_returned.Goals as goal

pub returns-in-len1-up : goal.returns-in-len1-up
returns-in-len1-up c =
    IfSome_then c.word_by.result c.word_by.ensures (λ word h. first_leaves c.args.program.now c.args.frame.now
    c.args.stmts.now (Return (Some (Word word))) c.in-len1-up.len_at_least c.stmt-item.is h)
