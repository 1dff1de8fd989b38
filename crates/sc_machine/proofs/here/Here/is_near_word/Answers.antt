use Rattle.sc_machine.proofs.Words.{data_there, looked_near_word}
use Rattle.std.proofs.lemmas.Bool.{ltb-true}
use Rattle.sc_machine.proofs.here.Here.is_near_word.Goals as goal

pub returns-clause-whole : goal.returns-clause-whole
returns-clause-whole c sure =
    (looked_near_word c.self.invariant.1 c.args.address c.word_number.result c.word_number.ensures.word
    c.word_number.ensures.before c.word_number.ensures.between (ltb-true _ _ sure)).0

pub returns-clause-data : goal.returns-clause-data
returns-clause-data c sure =
    rw (← c.self.view_is) (looked_near_word c.self.invariant.1 c.args.address c.word_number.result
    c.word_number.ensures.word c.word_number.ensures.before c.word_number.ensures.between (ltb-true _ _ sure)).1

pub returns-clause-there : goal.returns-clause-there
returns-clause-there c sure =
    rw (← c.self.view_is) (data_there c.self.inside.program.now c.self.inside.comp c.args.address 4
    c.self.invariant.0 (looked_near_word c.self.invariant.1 c.args.address c.word_number.result
    c.word_number.ensures.word c.word_number.ensures.before c.word_number.ensures.between (ltb-true _ _ sure)).1)
