use Rattle.sc_top.proofs.Common.{All, IsKnown, ap, map, rules, subst, sym, word_of, ◌∙◌, ◌≡◌}
use Rattle.sc_top.proofs.Known.{called_once, tag_printed}
use Rattle.sc_top.specs.Tagged.{ranges_of, tag_run}
use Rattle.sc_image.specs.Prelude.{RunOf}
use Rattle.sc_store.specs.Store.{bytes_in}
use Rattle.sc_tags.specs.Prelude.{Tagged}
use Rattle.sc_top.proofs.tags.tag_text.Goals as goal

pub run_text-requires : goal.run_text-requires
run_text-requires c =
    let same : c.trace.result.now ≡ (tag_run c.args.options.now c.args.range c.args.image).state.core.trace =
    search (
      rules,
      c.in_ok-ranges.ensures,
      c.as_slice.ensures,
      c.trace.ensures,
      c.run-stop.ensures,
      c.load.ensures,
      c.map_err.ensures,
      c.in_ok-machine.ensures,
      c.in_ok-machine.was,
    ) in
    subst (All (IsKnown c.args.names.now)) (sym same) c.requires.known

pub returns : goal.returns
returns c =
    let old = c.in_ok-machine.machine in
    let image : old.machine.image ≡ c.args.image =
    search (rules, c.load.ensures, c.map_err.ensures, c.in_ok-machine.ensures, c.in_ok-machine.was) in
    let ranges : old.ranges ≡ ranges_of c.args.range =
    search (
      rules,
      c.in_ok-ranges.ensures,
      c.as_slice.ensures,
      c.load.ensures,
      c.map_err.ensures,
      c.in_ok-machine.ensures,
      c.in_ok-machine.was,
    ) in
    let inputs : old.machine.inputs ≡ map word_of c.args.options.now.inputs =
    search (
      rules,
      c.as_slice.ensures,
      c.as_slice-inputs.ensures,
      c.load.ensures,
      c.map_err.ensures,
      c.in_ok-machine.ensures,
      c.in_ok-machine.was,
    ) in
    let events : old.machine.events ≡ c.args.options.now.events =
    search (rules, c.load.ensures, c.map_err.ensures, c.in_ok-machine.ensures, c.in_ok-machine.was) in
    let ran = called_once bytes_in old c.run-stop.new.self c.args.image (ranges_of c.args.range)
    (map word_of c.args.options.now.inputs) c.args.options.now.steps c.args.options.now.events c.run-stop.ensures.run
    image ranges inputs events
    (search (rules, c.load.ensures, c.map_err.ensures, c.in_ok-machine.ensures, c.in_ok-machine.was)) in
    tag_printed c.run_text.result c.args.names.now c.args.options.now c.args.range c.args.image c.trace.result.now
    c.run-stop.result (c.trace.ensures ∙ ap (λ (run : RunOf Tagged). run.state.core.trace) ran)
    (c.run-stop.ensures.answer ∙ ap (λ (run : RunOf Tagged). run.stop) ran) c.run_text.ensures
