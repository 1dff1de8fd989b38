use Rattle.sc_top.proofs.Common.{All, IsKnown, machine_run, rules, subst, sym, ◌≡◌}
use Rattle.sc_top.proofs.Known.{text_printed}
use Rattle.sc_top.proofs.machine.machine_text.Goals as goal

pub run_text-requires : goal.run_text-requires
run_text-requires c =
    let same : c.trace.result.now ≡ (machine_run c.args.options.now c.args.image).state.trace =
    search (
      rules,
      c.trace.ensures,
      c.run-stop.ensures,
      c.load.ensures,
      c.map_err.ensures,
      c.in_ok-machine.ensures,
      c.in_ok-machine.was,
    ) in
    subst (All (IsKnown c.args.names.now)) (sym same) c.requires

pub returns : goal.returns
returns c =
    let trace : c.trace.result.now ≡ (machine_run c.args.options.now c.args.image).state.trace =
    search (
      rules,
      c.trace.ensures,
      c.run-stop.ensures,
      c.load.ensures,
      c.map_err.ensures,
      c.in_ok-machine.ensures,
      c.in_ok-machine.was,
    ) in
    let stop : c.run-stop.result ≡ (machine_run c.args.options.now c.args.image).stop =
    search (
      rules,
      c.trace.ensures,
      c.run-stop.ensures,
      c.load.ensures,
      c.map_err.ensures,
      c.in_ok-machine.ensures,
      c.in_ok-machine.was,
    ) in
    text_printed c.run_text.result c.args.names.now c.args.options.now c.args.image c.trace.result.now c.run-stop.result
    trace stop c.run_text.ensures
