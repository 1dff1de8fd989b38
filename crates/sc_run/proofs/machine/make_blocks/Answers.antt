use Rattle.sc_run.proofs.Common.{TypedLocal, TypedParam, [], ap, arith, cells_of, length, length-map, memory_of, sym}
use Rattle.sc_run.proofs.Common.{take, ◌++◌, ◌+◌, ◌∙◌}
use Rattle.sc_run.proofs.Making.{local_sizes, one_more, param_sizes}
use Rattle.sc_run.proofs.Counts.{few_locals, few_params, small_local, small_param}
use Rattle.sc_run.proofs.Numbers.{numbers_beginning, numbers_begun}
use Rattle.sc_run.proofs.machine.make_blocks.Goals as goal

pub make_block-requires-clause-few : goal.make_block-requires-clause-few
make_block-requires-clause-few c =
    let callee = c.args.callee.now in
    numbers_beginning callee.comp.now (take c.loop-at.at (param_sizes callee.structs.now callee.function.now))
    c.args.args.now c.loop-at.invariant (few_params c.requires.variables c.loop-at.at) c.requires.numbers

pub make_block-requires-clause-small : goal.make_block-requires-clause-small
make_block-requires-clause-small c =
    let structs = c.args.callee.now.structs.now in
    small_param c.requires.variables c.loop-at.at {q = c.index-params-at.result}
    (rw c.as_slice-params.ensures at c.loop-at-test.true)
    (rw c.as_slice-params.ensures at c.index-params-at.is)
    (c.cells_of-count.ensures ∙ ap (λ (p : TypedParam). cells_of structs p.ty) (sym c.index-params-at.is))

pub returns-in_err-make_block-clause-numbers : goal.returns-in_err-make_block-clause-numbers
returns-in_err-make_block-clause-numbers c = λ turns numbers.
    let callee = c.args.callee.now in
    numbers_begun callee.comp.now (take c.loop-at.at (param_sizes callee.structs.now callee.function.now))
    c.args.args.now (c.in_err-make_block.ensures.err ∙ c.loop-at.invariant) turns
    (few_params c.requires.variables c.loop-at.at) numbers

pub make_block-requires-in-loop-at-2-clause-few : goal.make_block-requires-in-loop-at-2-clause-few
make_block-requires-in-loop-at-2-clause-few c =
    let callee = c.args.callee.now in
    numbers_beginning callee.comp.now (param_sizes callee.structs.now callee.function.now ++
    take c.loop-at-2.at (local_sizes callee.structs.now callee.function.now))
    c.args.args.now c.loop-at-2.invariant (few_locals c.requires.variables c.loop-at-2.at) c.requires.numbers

pub make_block-requires-in-loop-at-2-clause-small : goal.make_block-requires-in-loop-at-2-clause-small
make_block-requires-in-loop-at-2-clause-small c =
    let structs = c.args.callee.now.structs.now in
    small_local c.requires.variables c.loop-at-2.at {l = c.index-locals-at.result}
    (rw c.as_slice-locals.ensures at c.loop-at-2-test.true)
    (rw c.as_slice-locals.ensures at c.index-locals-at.is)
    (c.cells_of-count-in-loop-at-2.ensures ∙ ap (λ (l : TypedLocal). cells_of structs l.ty)
    (sym c.index-locals-at.is))

pub returns-in_err-make_block-2-clause-numbers : goal.returns-in_err-make_block-2-clause-numbers
returns-in_err-make_block-2-clause-numbers c = λ turns numbers.
    let callee = c.args.callee.now in
    numbers_begun callee.comp.now (param_sizes callee.structs.now callee.function.now ++
    take c.loop-at-2.at (local_sizes callee.structs.now callee.function.now))
    c.args.args.now (c.in_err-make_block-2.ensures.err ∙ c.loop-at-2.invariant) turns
    (few_locals c.requires.variables c.loop-at-2.at) numbers

pub returns-clause-numbers : goal.returns-clause-numbers
returns-clause-numbers c = λ turns numbers.
    let callee = c.args.callee.now in
    numbers_begun callee.comp.now (param_sizes callee.structs.now callee.function.now ++
    take c.loop-at-2.at (local_sizes callee.structs.now callee.function.now))
    c.args.args.now c.loop-at-2.invariant turns (few_locals c.requires.variables c.loop-at-2.at) numbers

pub loop-at-preserved : goal.loop-at-preserved
loop-at-preserved c =
    let structs = c.args.callee.now.structs.now in
    let params = c.args.callee.now.function.now.params in
    one_more {A = TypedParam} (λ p. cells_of structs p.ty) params c.loop-at.at c.index-params-at.result
    (rw c.as_slice-params.ensures at c.loop-at-test.true) (rw c.as_slice-params.ensures at c.index-params-at.is)
    c.args.callee.now.comp.now [] c.args.args.now (memory_of c.args.blocks.now) (omega arith)
    (c.cells_of-count.ensures ∙ ap (λ (p : TypedParam). cells_of structs p.ty)
    (sym c.index-params-at.is)) c.value_at.ensures c.loop-at.invariant c.in_ok-make_block.ensures.made

pub loop-at-2-preserved : goal.loop-at-2-preserved
loop-at-2-preserved c =
    let structs = c.args.callee.now.structs.now in
    let locals = c.args.callee.now.function.now.locals in
    one_more {A = TypedLocal} (λ l. cells_of structs l.ty) locals c.loop-at-2.at c.index-locals-at.result
    (rw c.as_slice-locals.ensures at c.loop-at-2-test.true) (rw c.as_slice-locals.ensures at c.index-locals-at.is)
    c.args.callee.now.comp.now (param_sizes structs c.args.callee.now.function.now) c.args.args.now
    (memory_of c.args.blocks.now)
    (ap (λ n. n + c.loop-at-2.at) (ap (length {A = TypedParam}) c.as_slice-params.ensures ∙ sym
    (length-map c.args.callee.now.function.now.params (λ (p : TypedParam). cells_of structs p.ty))))
    (c.cells_of-count-in-loop-at-2.ensures ∙ ap (λ (l : TypedLocal). cells_of structs l.ty)
    (sym c.index-locals-at.is)) c.value_at-arg.ensures c.loop-at-2.invariant c.in_ok-make_block-2.ensures.made
