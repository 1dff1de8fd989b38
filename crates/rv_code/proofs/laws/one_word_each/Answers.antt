use Rattle.rv_code.proofs.OneEach.{HasWord-decoded, decoded-word, one_instr, word-below}
use Rattle.rv_code.proofs.laws.one_word_each.Goals as goal

pub returns-clause-exact : goal.returns-clause-exact
returns-clause-exact c = λ w i below. (HasWord-decoded w i below, decoded-word i w)

pub returns-clause-one_instr : goal.returns-clause-one_instr
returns-clause-one_instr c = one_instr

pub returns-clause-below : goal.returns-clause-below
returns-clause-below c = word-below
