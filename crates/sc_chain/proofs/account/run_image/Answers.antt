use Rattle.sc_chain.proofs.Common.{length, map, rules, subst, sym, word_of, ◌∙◌, ◌≤◌}
use Rattle.sc_chain.proofs.ChainMachine.{few_events}
use Rattle.sc_chain.proofs.account.run_image.Goals as goal

pub returns : goal.returns
returns c = record {
  formed = c.parts-parts.ensures.well_formed;
  trace = c.into_trace.ensures ∙ search (
    rules,
    c.run-stop.ensures,
    c.load.ensures,
    c.map_err.ensures,
    c.in_ok-machine.ensures,
    c.in_ok-machine.was,
  );
  stop = search (
    rules,
    c.run-stop.ensures,
    c.load.ensures,
    c.map_err.ensures,
    c.in_ok-machine.ensures,
    c.in_ok-machine.was,
  );
  active = c.active-active.ensures ∙ search (
    rules,
    c.run-stop.ensures,
    c.load.ensures,
    c.map_err.ensures,
    c.in_ok-machine.ensures,
    c.in_ok-machine.was,
  );
  taken = search (
    rules,
    c.steps_taken-taken.ensures,
    c.run-stop.ensures,
    c.load.ensures,
    c.map_err.ensures,
    c.in_ok-machine.ensures,
    c.in_ok-machine.was,
  );
  few = subst (λ trace. length trace ≤ c.args.events)
      (sym (c.into_trace.ensures ∙ search (
        rules,
        c.run-stop.ensures,
        c.load.ensures,
        c.map_err.ensures,
        c.in_ok-machine.ensures,
        c.in_ok-machine.was,
      )))
      (few_events c.args.image (map word_of c.args.inputs.now) c.args.steps c.args.events
      c.parts-parts.ensures.well_formed);
}
