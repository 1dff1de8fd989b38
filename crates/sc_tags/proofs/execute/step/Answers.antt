use Rattle.sc_tags.proofs.Common.{sym, ◌∙◌}
use Rattle.sc_machine.specs.Prelude.{word_of}
use Rattle.sc_tags.proofs.Leaving.{fetched_none, fetched_some, step_executes, step_illegal, step_nowhere}
use Rattle.sc_tags.specs.TagHart.{bytes_of, tagged_in}
use Rattle.std.proofs.Common.{map}
use Rattle.sc_tags.proofs.execute.step.Goals as goal

pub returns-then-not-are_code-clause-outcome : goal.returns-then-not-are_code-clause-outcome
returns-then-not-are_code-clause-outcome g c =
    let memory = bytes_of g.S.Store.bytes c.args.memory.now in
    sym (step_nowhere c.args.tags.now.image c.args.tags.now.ranges (map word_of c.args.inputs.now)
    (tagged_in memory c.args.hart.now)
    (fetched_none c.args.tags.now _ _ memory c.requires.ready.here
    (sym c.are_code.ensures.is ∙ c.if-not-are_code.true)))

pub returns-in_default-clause-outcome : goal.returns-in_default-clause-outcome
returns-in_default-clause-outcome g c =
    let memory = bytes_of g.S.Store.bytes c.args.memory.now in
    sym (step_illegal c.args.tags.now.image c.args.tags.now.ranges (map word_of c.args.inputs.now)
    (tagged_in memory c.args.hart.now) c.loaded.result
    (rw c.loaded.ensures
    (fetched_some c.args.tags.now _ _ memory c.requires.ready.here
    (sym c.are_code.ensures.is ∙ c.if-not-are_code.false)))
    (sym c.in_default.ensures.same))

pub returns-clause-outcome : goal.returns-clause-outcome
returns-clause-outcome g c =
    let memory = bytes_of g.S.Store.bytes c.args.memory.now in
    c.execute.ensures.outcome ∙
    sym (step_executes c.args.tags.now.image c.args.tags.now.ranges (map word_of c.args.inputs.now)
    (tagged_in memory c.args.hart.now) c.loaded.result c.in-Some.instr
    (rw c.loaded.ensures
    (fetched_some c.args.tags.now _ _ memory c.requires.ready.here
    (sym c.are_code.ensures.is ∙ c.if-not-are_code.false)))
    (sym c.in-Some.ensures.same))
