use Rattle.sc_run.proofs.Common.{[], ap, global_block, memory_of, struct_zeros, subst, with_blocks, ◌++◌, ◌∙◌, ◌∷◌, ◌≡◌}
use Rattle.sc_run.proofs.Counts.{few_globals, small_global}
use Rattle.sc_run.proofs.Making.{global_more}
use Rattle.sc_run.proofs.globals.make_globals.Goals as goal

pub make_global-requires-clause-few : goal.make_global-requires-clause-few
make_global-requires-clause-few c = few_globals c.requires.globals c.args.comp c.loop-global.global-index
    (memory_of c.args.blocks.now) c.requires.none c.loop-global.invariant

pub make_global-requires-clause-small : goal.make_global-requires-clause-small
make_global-requires-clause-small c =
    small_global c.requires.globals c.loop-global.global-index {g = c.global-item.result}
    (rw c.as_slice-global-items.ensures at c.loop-global-test.true)
    (rw c.as_slice-global-items.ensures at c.global-item.is)
    (c.as_slice-in-loop-global.ensures.value ∙ c.in_ok-zeros.ensures ∙ ap (struct_zeros []) c.as_slice.ensures)

pub loop-global-preserved : goal.loop-global-preserved
loop-global-preserved c =
    let now = memory_of c.loop-global.blocks in
    let later = memory_of c.make_global.new.blocks in
    let comp = c.args.comp in
    let global = c.global-item.result in
    let zeros : c.as_slice-in-loop-global.result.now ≡ struct_zeros [] c.args.section.now.structs =
    c.as_slice-in-loop-global.ensures.value ∙ c.in_ok-zeros.ensures ∙ ap (struct_zeros []) c.as_slice.ensures in
    global_more (struct_zeros [] c.args.section.now.structs) c.args.section.now.globals c.loop-global.global-index comp
    (memory_of c.args.blocks.now)
    (rw c.as_slice-global-items.ensures at c.loop-global-test.true)
    (rw c.as_slice-global-items.ensures at c.global-item.is) c.loop-global.invariant (subst
    (λ z. later ≡ with_blocks comp (now comp ++ global_block z global ∷ []) now) zeros c.in_ok-make_global.ensures)
