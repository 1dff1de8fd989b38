use Rattle.sc_machine.proofs.Common.{map, state_in, step_executes, step_illegal, step_nowhere, sym, word_of, ◌∙◌}
use Rattle.sc_machine.proofs.execute.step.Goals as goal

pub returns-in_default-clause-outcome : goal.returns-in_default-clause-outcome
returns-in_default-clause-outcome g c =
    sym (step_nowhere c.args.here.now.image (map word_of c.args.inputs.now)
    (state_in (g.S.Store.bytes c.args.memory.now) c.args.hart.now)
    (rw c.requires.ready.here at (sym c.in_default.ensures.word)))

pub returns-in_default-decode-clause-outcome : goal.returns-in_default-decode-clause-outcome
returns-in_default-decode-clause-outcome g c =
    sym (step_illegal _ (map word_of c.args.inputs.now)
    (state_in (g.S.Store.bytes c.args.memory.now) c.args.hart.now) c.in-Some.word
    (rw c.requires.ready.here at (sym c.in-Some.ensures.word)) (sym c.in_default-decode.ensures.same))

pub returns-then-execute_quick-clause-outcome : goal.returns-then-execute_quick-clause-outcome
returns-then-execute_quick-clause-outcome g c =
    let inputs = map word_of c.args.inputs.now in
    let state = state_in (g.S.Store.bytes c.args.memory.now) c.args.hart.now in
    (rw c.requires.ready.here at (c.execute_quick.ensures.goes c.if-execute_quick.true inputs state)) ∙
    sym (step_executes c.args.here.now.image inputs state c.in-Some.word c.in-Some-decode.instr
    (rw c.requires.ready.here at (sym c.in-Some.ensures.word)) (sym c.in-Some-decode.ensures.same))

pub returns-in-Ok-clause-outcome : goal.returns-in-Ok-clause-outcome
returns-in-Ok-clause-outcome g c =
    let inputs = map word_of c.args.inputs.now in
    let state = state_in (g.S.Store.bytes c.args.memory.now) c.args.hart.now in
    (rw (
      c.execute_quick.ensures.stays c.if-execute_quick.false,
      c.execute_quick.ensures.memory
          c.if-execute_quick.false,
    )
    at c.in-Ok.ensures.outcome) ∙
    sym (step_executes c.args.here.now.image inputs state c.in-Some.word c.in-Some-decode.instr
    (rw c.requires.ready.here at (sym c.in-Some.ensures.word)) (sym c.in-Some-decode.ensures.same))

pub returns-in-Err-clause-outcome : goal.returns-in-Err-clause-outcome
returns-in-Err-clause-outcome g c =
    let inputs = map word_of c.args.inputs.now in
    let state = state_in (g.S.Store.bytes c.args.memory.now) c.args.hart.now in
    (rw (
      c.execute_quick.ensures.stays c.if-execute_quick.false,
      c.execute_quick.ensures.memory
          c.if-execute_quick.false,
    )
    at c.in-Err.ensures.outcome) ∙
    sym (step_executes c.args.here.now.image inputs state c.in-Some.word c.in-Some-decode.instr
    (rw c.requires.ready.here at (sym c.in-Some.ensures.word)) (sym c.in-Some-decode.ensures.same))
