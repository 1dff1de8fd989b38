use Rattle.sc_run.proofs.Common.{rolls-ReturnValue, sym, ◌∙◌}
use Rattle.sc_run.proofs.Ahead.{value_leaves}
use Rattle.sc_run.proofs.plain.word_by.Goals as goal

pub returns-in-Some-Word : goal.returns-in-Some-Word
returns-in-Some-Word c = value_leaves c.args.program.now c.args.frame.now c.args.stmt.now c.get.result.now
    (rw c.get.ensures (c.in-ReturnValue.is ∙ sym (rolls-ReturnValue _)))
    (sym (rw c.in-Some-Word.field-0-is at c.in-Some-Word.ensures))
