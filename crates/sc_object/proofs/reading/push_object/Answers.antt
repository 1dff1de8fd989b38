use Rattle.sc_object.proofs.reading.push_object.Goals as goal

pub returns-in_ok-push-in-Ok-clause-read : goal.returns-in_ok-push-in-Ok-clause-read
returns-in_ok-push-in-Ok-clause-read c = record {
  object = c.in-Ok.parts;
  read = c.in-Ok.ensures;
  added = c.in_ok-push-in-Ok.ensures.ok;
}
