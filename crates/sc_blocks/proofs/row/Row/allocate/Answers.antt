use Rattle.sc_blocks.proofs.Common.{ap, sym, with_words, ◌∙◌}
use Rattle.std.specs.Prelude.{is_some}
use Rattle.sc_blocks.proofs.Allocating.{allocated_keeps, allocated_makes, allocated_none, place_now}
use Rattle.sc_blocks.proofs.row.Row.allocate.Goals as goal

pub invariant_of-self-then-some : goal.invariant_of-self-then-some
invariant_of-self-then-some c = allocated_keeps c.self.inside.slots.items c.self.inside.heap c.self.inside.made
    c.self.invariant.0 c.self.invariant.1 c.self.invariant.2 c.allocate.new.self c.args.words _
    (sym c.in_ok-some.ensures.there ∙ c.if-some.true) c.in_ok-some.ensures.made

pub returns-then-some-clause-there : goal.returns-then-some-clause-there
returns-then-some-clause-there c = c.in_ok-some.ensures.there ∙ ap is_some
    (place_now c.self.inside.slots.items c.self.inside.heap c.self.inside.made c.self.invariant.0
    c.self.invariant.1 c.self.invariant.2 c.args.words c.args.self.now c.self.view_is)

pub returns-then-some-clause-made : goal.returns-then-some-clause-made
returns-then-some-clause-made c = allocated_makes c.self.inside.slots.items c.self.inside.heap c.self.inside.made
    c.self.invariant.0 c.self.invariant.1 c.self.invariant.2 c.allocate.new.self c.args.words _
    (sym c.in_ok-some.ensures.there ∙ c.if-some.true) c.in_ok-some.ensures.made ∙
    (λ i. with_words c.args.words (place_now c.self.inside.slots.items c.self.inside.heap c.self.inside.made
    c.self.invariant.0
    c.self.invariant.1 c.self.invariant.2 c.args.words c.args.self.now c.self.view_is i)
    (c.self.view_is i))

pub returns-else-some-clause-there : goal.returns-else-some-clause-there
returns-else-some-clause-there c = c.in_ok-some.ensures.there ∙ ap is_some
    (place_now c.self.inside.slots.items c.self.inside.heap c.self.inside.made c.self.invariant.0
    c.self.invariant.1 c.self.invariant.2 c.args.words c.args.self.now c.self.view_is)

pub returns-else-some-clause-made : goal.returns-else-some-clause-made
returns-else-some-clause-made c = allocated_none c.self.inside.slots.items c.self.inside.heap c.self.inside.made
    c.self.invariant.0 c.self.invariant.1 c.self.invariant.2 c.allocate.new.self c.args.words _
    (sym c.in_ok-some.ensures.there ∙ c.if-some.false) c.in_ok-some.ensures.made ∙
    (λ i. with_words c.args.words (place_now c.self.inside.slots.items c.self.inside.heap c.self.inside.made
    c.self.invariant.0
    c.self.invariant.1 c.self.invariant.2 c.args.words c.args.self.now c.self.view_is i)
    (c.self.view_is i))
