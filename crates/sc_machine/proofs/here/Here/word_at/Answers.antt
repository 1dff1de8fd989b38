use Rattle.sc_machine.proofs.Common.{◌∙◌}
use Rattle.sc_machine.proofs.Words.{looked_within, looked_word}
use Rattle.sc_machine.proofs.here.Here.word_at.Goals as goal

pub returns-clause-word : goal.returns-clause-word
returns-clause-word c =
    rw (← c.self.view_is) (c.copied.ensures ∙ c.at.ensures ∙ looked_word c.self.invariant.1 c.args.address
    c.word_number.result c.word_number.ensures.word c.word_number.ensures.before c.word_number.ensures.between)

pub returns-clause-within : goal.returns-clause-within
returns-clause-within c =
    looked_within c.self.invariant.1 c.args.address c.word_number.result c.self.invariant.0 c.word_number.ensures.word
    c.word_number.ensures.before c.word_number.ensures.between c.copied.result (c.copied.ensures ∙ c.at.ensures)
