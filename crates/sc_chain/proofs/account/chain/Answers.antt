use Rattle.sc_chain.proofs.Common.{All, ap, is_listed, length, map, subst, sym, word_of, ◌<◌, ◌∙◌}
use Rattle.sc_chain.proofs.ChainFollowing.{runs}
use Rattle.sc_chain.proofs.ChainLoop.{at_first, at_last, at_next, fewer_next, known_next, sections_are}
use Rattle.sc_chain.proofs.account.chain.Goals as goal

pub loop-run-init : goal.loop-run-init
loop-run-init c =
    at_first c.args.source.now c.args.given.now (map word_of c.args.inputs.now) c.args.steps c.args.trace.now
    (sections_are c.args.source.now c.program-program.result.now c.program-program.ensures.program
    c.tree-tree.ensures.typed)
    c.requires.known c.requires.scripted c.in_ok-run.run' c.in_ok-run.ensures c.new-links.result c.new-links.ensures
    c.in_ok-comps.comps c.in_ok-comps.ensures

pub performed_run-requires-in-Some-clause-known : goal.performed_run-requires-in-Some-clause-known
performed_run-requires-in-Some-clause-known c =
    subst (All (λ comp. comp < length c.args.source.now.program.interfaces.comps)) (sym c.as_slice.ensures)
    (known_next c.args.source.now c.args.given.now (map word_of c.args.inputs.now) c.args.steps c.args.trace.now
    (sections_are c.args.source.now c.program-program.result.now c.program-program.ensures.program
    c.tree-tree.ensures.typed)
    c.loop-run.run c.loop-run.links c.loop-run.comps c.loop-run.invariant c.tree-tree.result.now.interfaces
    (ap (λ tree. tree.interfaces) (c.tree-tree.ensures.tree ∙ c.program-program.ensures.program))
    c.in_ok-link.field-0 c.in_ok-link.ensures c.in-Some.link c.in-Some.is c.push-in-Some.new.self
    c.in_ok-push-2.ensures.ok c.push.new.self c.in_ok-push.ensures.ok)

pub loop-run-smaller : goal.loop-run-smaller
loop-run-smaller c =
    fewer_next c.args.source.now c.args.given.now (map word_of c.args.inputs.now) c.args.steps c.args.trace.now
    (sections_are c.args.source.now c.program-program.result.now c.program-program.ensures.program
    c.tree-tree.ensures.typed)
    c.loop-run.run c.loop-run.links c.loop-run.comps c.loop-run.invariant c.tree-tree.result.now.interfaces
    (ap (λ tree. tree.interfaces) (c.tree-tree.ensures.tree ∙ c.program-program.ensures.program))
    c.in_ok-link.field-0 c.in_ok-link.ensures c.in-Some.link c.in-Some.is c.push-in-Some.new.self
    c.in_ok-push-2.ensures.ok c.push.new.self c.in_ok-push.ensures.ok

pub loop-run-preserved : goal.loop-run-preserved
loop-run-preserved c =
    at_next c.args.source.now c.args.given.now (map word_of c.args.inputs.now) c.args.steps c.args.trace.now
    (sections_are c.args.source.now c.program-program.result.now c.program-program.ensures.program
    c.tree-tree.ensures.typed)
    c.loop-run.run c.loop-run.links c.loop-run.comps c.loop-run.invariant c.tree-tree.result.now.interfaces
    (ap (λ tree. tree.interfaces) (c.tree-tree.ensures.tree ∙ c.program-program.ensures.program))
    c.in_ok-link.field-0 c.in_ok-link.ensures c.in-Some.link c.in-Some.is c.push-in-Some.new.self
    c.in_ok-push-2.ensures.ok c.push.new.self c.in_ok-push.ensures.ok c.in_ok-run-2.run'
    (c.in_ok-run-2.ensures ∙
    ap (λ cs. runs c.args.source.now (map word_of c.args.inputs.now) c.args.steps c.args.trace.now (is_listed cs))
    c.as_slice.ensures)

pub returns : goal.returns
returns c =
    at_last c.args.source.now c.args.given.now (map word_of c.args.inputs.now) c.args.steps c.args.trace.now
    (sections_are c.args.source.now c.program-program.result.now c.program-program.ensures.program
    c.tree-tree.ensures.typed)
    c.loop-run.run c.loop-run.links c.loop-run.comps c.loop-run.invariant c.tree-tree.result.now.interfaces
    (ap (λ tree. tree.interfaces) (c.tree-tree.ensures.tree ∙ c.program-program.ensures.program))
    c.in_ok-link.field-0 c.in_ok-link.ensures c.requires.known c.in_default.is c.program-program.ensures.source
    c.one_program.ensures c.requires.allowed c.requires.few c.have_words.ensures
