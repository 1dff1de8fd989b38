use Rattle.rv_code.proofs.OneEach.{decoded-word}
use Rattle.rv_code.proofs.encoding.encode.Goals as goal

pub returns-clause-has_word : goal.returns-clause-has_word
returns-clause-has_word c = record { instr = c.word_by_form.ensures.in_range; word = c.word_by_form.ensures.word }

pub returns-clause-read_back : goal.returns-clause-read_back
returns-clause-read_back c = decoded-word c.args.instr c.word_by_form.result (returns-clause-has_word c)
