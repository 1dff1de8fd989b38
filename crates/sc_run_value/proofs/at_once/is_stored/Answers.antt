use Rattle.sc_run_value.proofs.at_once.is_stored.Goals as goal

pub returns-in-Ok : goal.returns-in-Ok
returns-in-Ok c = record { is = c.in-Ok.ensures.value; others = c.store.ensures.others }
