use Rattle.sc_word.proofs.OnAllWords.{operators_are_instructions}
use Rattle.sc_word.proofs.agreement.operators_are_instructions.Goals as goal

pub returns : goal.returns
returns c = operators_are_instructions
