use Rattle.sc_types.proofs.Sources.{source_kept}
use Rattle.sc_types.proofs.text.SourceText.read.Goals as goal

pub returns-clause-source : goal.returns-clause-source
returns-clause-source c =
    source_kept c.in_ok-bytes.bytes c.in_ok-starts.starts c.in_ok-program.program
    (rw c.in_ok-bytes.ensures (record {
      accepted = c.in_ok-program.ensures.accepted;
      starts_are = c.in_ok-starts.ensures.starts;
    }))
