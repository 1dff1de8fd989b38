use Rattle.sc_top.proofs.Common.{limit_of}
use Rattle.sc_top.proofs.Asked.{asked_few, input_within}
use Rattle.sc_top.proofs.top.answer.Goals as goal

pub output-requires-clause-bounded : goal.output-requires-clause-bounded
output-requires-clause-bounded g c = asked_few _ c.in_ok-command.command c.in_ok-command.ensures.ok

pub output-requires-clause-within : goal.output-requires-clause-within
output-requires-clause-within g c =
    input_within (limit_of c.in_ok-command.command) _ _ c.in_ok-bytes.bytes c.in_ok-bytes.ensures.input
