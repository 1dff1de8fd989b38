use Rattle.sc_lex.proofs.Spans.{are_spans}
use Rattle.sc_lex.proofs.cut.slices_in_order.Goals as goal

pub returns : goal.returns
returns c = λ bytes tokens. are_spans bytes tokens
