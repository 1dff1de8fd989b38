use Rattle.sc_back_replay_laws.proofs.Replays.{texts_perform}
use Rattle.sc_back_replay_laws.proofs.laws.texts_perform.Goals as goal

-- src/laws.rt:7:1
pub returns : goal.returns
returns c = texts_perform
