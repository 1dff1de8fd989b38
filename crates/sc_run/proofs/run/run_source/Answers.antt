use Rattle.sc_run.proofs.Common.{EntryAt, Main, Some, ap, arith, globals_of, map, subst, sym, ◌∙◌}
use Rattle.sc_word.specs.Prelude.{word_of}
use Rattle.sc_run.proofs.Counts.{numbers_at_first, numbers_started, sections_small}
use Rattle.sc_run.proofs.Whole.{gone_through, over_at_once, seen_at_first}
use Rattle.sc_run.specs.Numbers.{HaveSmallGlobals}
use Rattle.sc_run.proofs.Lasting.{lasts_after, lasts_at_first}
use Rattle.sc_run.proofs.run.run_source.Goals as goal

pub first_blocks-requires : goal.first_blocks-requires
first_blocks-requires c =
    subst HaveSmallGlobals (sym (c.as_slice.ensures ∙ ap (λ p. p.sections) c.tree-tree.ensures.tree))
    (sections_small c.args.program.now c.tree-tree.ensures.typed)

pub begin-requires-clause-numbers : goal.begin-requires-clause-numbers
begin-requires-clause-numbers c =
    numbers_at_first c.args.program.now c.tree-tree.ensures.typed (omega arith) (c.in_ok-globals.ensures ∙
    ap globals_of (c.as_slice.ensures ∙ ap (λ p. p.sections) c.tree-tree.ensures.tree))

pub invariant_of-machine : goal.invariant_of-machine
invariant_of-machine c = record {
  numbers = numbers_started c.tree-tree.ensures.typed c.tree-tree.ensures.tree c.as_slice.ensures
      c.in_ok-globals.ensures (omega arith);
}

pub invariant_of-machine-2 : goal.invariant_of-machine-2
invariant_of-machine-2 c = record {
  numbers = numbers_started c.tree-tree.ensures.typed c.tree-tree.ensures.tree c.as_slice.ensures
      c.in_ok-globals.ensures (omega arith);
}

pub returns-in-Stop : goal.returns-in-Stop
returns-in-Stop c =
    let program = c.args.program.now in
    let inputs = map word_of c.args.inputs.now in
    over_at_once program inputs c.args.turns c.args.events
    (seen_at_first program inputs c.args.turns c.args.events (c.in_ok-globals.ensures ∙
    ap globals_of (c.as_slice.ensures ∙ ap (λ p. p.sections) c.tree-tree.ensures.tree)) c.new.ensures)
    (subst (λ p. EntryAt program p.interfaces.main Main (Some c.in-Some.callee)) c.tree-tree.ensures.tree
    c.in-Some.ensures.found) c.in_ok-frame.ensures (rw c.new-work.ensures.items at c.start.ensures) c.in-Stop.is
    c.behaviour-in-Stop.ensures

pub returns-in_ok-end-in-Go : goal.returns-in_ok-end-in-Go
returns-in_ok-end-in-Go c =
    let program = c.args.program.now in
    let inputs = map word_of c.args.inputs.now in
    gone_through program inputs c.args.turns c.args.events
    (seen_at_first program inputs c.args.turns c.args.events (c.in_ok-globals.ensures ∙
    ap globals_of (c.as_slice.ensures ∙ ap (λ p. p.sections) c.tree-tree.ensures.tree)) c.new.ensures)
    (subst (λ p. EntryAt program p.interfaces.main Main (Some c.in-Some.callee)) c.tree-tree.ensures.tree
    c.in-Some.ensures.found) c.in_ok-frame.ensures (rw c.new-work.ensures.items at c.start.ensures)
    c.run_on.new.run.machine.trace _ c.in-Go.is c.in_ok-end-in-Go.ensures c.behaviour-in-Go.ensures

pub run_on-requires-clause-numbers : goal.run_on-requires-clause-numbers
run_on-requires-clause-numbers c =
    let last = lasts_at_first c.args.program.now c.tree-tree.ensures.typed (c.in_ok-globals.ensures ∙
    ap globals_of (c.as_slice.ensures ∙ ap (λ p. p.sections) c.tree-tree.ensures.tree)) (omega arith)
    c.in-Some.ensures.variables c.in_ok-frame.ensures in
    lasts_after ((rw c.new-work.ensures.items at c.start.ensures).falls last.light tt) c.in-Go.is last
