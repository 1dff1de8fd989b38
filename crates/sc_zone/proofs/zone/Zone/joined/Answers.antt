-- The tables have the gaps on both sides.
use Rattle.sc_zone.proofs.Common.{ap, arith, slice_index, ◌∙◌}
use Rattle.sc_zone.proofs.Tables.{before_fits, block_fits, side_after, side_before}
use Rattle.sc_zone.proofs.zone.Zone.joined.Goals as goal

pub overflow_add-block : goal.overflow_add-block
overflow_add-block c =
    let fits = block_fits c.self.inside.blocks.items c.self.inside.gaps.words.items c.self.inside.gaps_before.items
    c.self.invariant.0 c.args.self.now c.self.view_is c.args.block.place c.args.block.words c.requires in
    omega (arith, fits.1)

pub overflow_sub-result : goal.overflow_sub-result
overflow_sub-result c =
    let fits = before_fits c.self.inside.blocks.items c.self.inside.gaps.words.items c.self.inside.gaps_before.items
    c.self.invariant.0 c.args.self.now c.self.view_is c.args.block.place c.args.block.words c.requires in
    let is = c.number_at-before.ensures ∙ ap (λ l. slice_index l c.args.block.place) c.deref.ensures.value in
    omega (arith, fits, is)

pub overflow_add-result : goal.overflow_add-result
overflow_add-result c =
    let fits = before_fits c.self.inside.blocks.items c.self.inside.gaps.words.items c.self.inside.gaps_before.items
    c.self.invariant.0 c.args.self.now c.self.view_is c.args.block.place c.args.block.words c.requires in
    let ends = block_fits c.self.inside.blocks.items c.self.inside.gaps.words.items c.self.inside.gaps_before.items
    c.self.invariant.0 c.args.self.now c.self.view_is c.args.block.place c.args.block.words c.requires in
    let is = c.number_at-before.ensures ∙ ap (λ l. slice_index l c.args.block.place) c.deref.ensures.value in
    omega (arith, fits, ends.1, is)

pub overflow_add-result-2 : goal.overflow_add-result-2
overflow_add-result-2 c =
    let fits = before_fits c.self.inside.blocks.items c.self.inside.gaps.words.items c.self.inside.gaps_before.items
    c.self.invariant.0 c.args.self.now c.self.view_is c.args.block.place c.args.block.words c.requires in
    let ends = block_fits c.self.inside.blocks.items c.self.inside.gaps.words.items c.self.inside.gaps_before.items
    c.self.invariant.0 c.args.self.now c.self.view_is c.args.block.place c.args.block.words c.requires in
    let is = c.number_at-before.ensures ∙ ap (λ l. slice_index l c.args.block.place) c.deref.ensures.value in
    omega (arith, fits, ends.1, is, c.get-after.ensures)

pub returns-clause-place : goal.returns-clause-place
returns-clause-place c =
    let at = side_before c.self.inside.blocks.items c.self.inside.gaps.words.items c.self.inside.gaps_before.items
    c.self.invariant.0 c.args.self.now c.self.view_is c.args.block.place c.args.block.words c.requires in
    let fits = before_fits c.self.inside.blocks.items c.self.inside.gaps.words.items c.self.inside.gaps_before.items
    c.self.invariant.0 c.args.self.now c.self.view_is c.args.block.place c.args.block.words c.requires in
    let is = c.number_at-before.ensures ∙ ap (λ l. slice_index l c.args.block.place) c.deref.ensures.value in
    omega (arith, at, fits, is)

pub returns-clause-words : goal.returns-clause-words
returns-clause-words c =
    let at = side_before c.self.inside.blocks.items c.self.inside.gaps.words.items c.self.inside.gaps_before.items
    c.self.invariant.0 c.args.self.now c.self.view_is c.args.block.place c.args.block.words c.requires in
    let after = side_after c.self.inside.blocks.items c.self.inside.gaps.words.items c.self.inside.gaps_before.items
    c.self.invariant.0 c.args.self.now c.self.view_is c.args.block.place c.args.block.words c.requires in
    let is = c.number_at-before.ensures ∙ ap (λ l. slice_index l c.args.block.place) c.deref.ensures.value in
    omega (arith, at, after, is, c.get-after.ensures)
