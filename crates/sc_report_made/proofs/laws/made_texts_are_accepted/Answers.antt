use Rattle.sc_report_made.proofs.Accepted.{accepted_from}
use Rattle.sc_report_made.proofs.Read.{made_texts_are_read}
use Rattle.sc_report_made.proofs.laws.made_texts_are_accepted.Goals as goal

-- src/laws.rt:6:1
pub returns : goal.returns
returns c = accepted_from made_texts_are_read
