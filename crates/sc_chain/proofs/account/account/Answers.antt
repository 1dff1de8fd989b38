use Rattle.sc_chain.proofs.Common.{All, CompSet, EmitsOrIsBlamed, HasWords, IsChainWith, ap, ap₂, arith, is_listed}
use Rattle.sc_chain.proofs.Common.{length, map, scripted_meaning, subst, sym, word_of, ◌<◌, ◌∙◌}
use Rattle.sc_chain.specs.Prelude.{performing_comps, trapped_in}
use Rattle.sc_core_laws.specs.Prelude.{IsSubset}
use Rattle.sc_chain.proofs.ChainTrace.{accounted, emitted_allowed, emitted_scripted, inputs_are_words}
use Rattle.sc_chain.proofs.Trapped.{account_trapped, all_known}
use Rattle.sc_chain.proofs.Lengths.{within_limit}
use Rattle.sc_chain.proofs.account.account.Goals as goal

pub chain-requires-clause-allowed : goal.chain-requires-clause-allowed
chain-requires-clause-allowed c =
    emitted_allowed c.args.source.now c.args.inputs.now c.args.limits.steps c.args.limits.events c.args.image
    c.args.given c.requires.robust c.as_slice-emitted.result.now
    (c.as_slice-emitted.ensures ∙ c.in_ok-observed.ensures.trace)

pub chain-requires-clause-known : goal.chain-requires-clause-known
chain-requires-clause-known c =
    subst (All (λ comp. comp < length c.args.source.now.program.interfaces.comps)) (sym c.as_slice.ensures)
    c.requires.known

pub chain-requires-clause-scripted : goal.chain-requires-clause-scripted
chain-requires-clause-scripted c =
    subst (λ comps. (set : CompSet) → IsSubset (is_listed comps) set →
    EmitsOrIsBlamed (length c.args.source.now.program.sections) set c.as_slice-emitted.result.now
    (scripted_meaning c.args.source.now.program set c.as_slice-emitted.result.now (map word_of c.args.inputs.now)
    c.args.limits.steps (length c.as_slice-emitted.result.now))) (sym c.as_slice.ensures)
    (emitted_scripted c.args.source.now c.args.inputs.now c.args.limits.steps c.args.limits.events c.args.image
    c.args.given c.requires.robust c.as_slice-emitted.result.now
    (c.as_slice-emitted.ensures ∙ c.in_ok-observed.ensures.trace))

pub trapped-requires-clause-allowed : goal.trapped-requires-clause-allowed
trapped-requires-clause-allowed c =
    emitted_allowed c.args.source.now c.args.inputs.now c.args.limits.steps c.args.limits.events c.args.image
    c.args.given c.requires.robust c.in_ok-observed.observed.trace c.in_ok-observed.ensures.trace

pub trapped-requires-clause-known : goal.trapped-requires-clause-known
trapped-requires-clause-known c =
    subst (All (λ comp. comp < length c.args.source.now.program.interfaces.comps))
    (sym (c.as_slice-4.ensures ∙ c.in_ok-comps.ensures ∙
    ap₂ performing_comps c.as_slice-2.ensures c.as_slice-3.ensures))
    (all_known c.args.source.now (map word_of c.args.inputs.now) c.args.limits.steps c.as_slice-emitted.result.now
    c.args.given c.requires.known c.in_ok-links.links
    (subst (λ cs. IsChainWith c.args.source.now (map word_of c.args.inputs.now) c.args.limits.steps
    c.as_slice-emitted.result.now cs c.in_ok-links.links) c.as_slice.ensures c.in_ok-links.ensures))

pub returns-clause-account : goal.returns-clause-account
returns-clause-account c =
    accounted c.args.source.now c.args.inputs.now c.args.limits.steps c.args.limits.events c.args.image
    c.args.given c.requires.robust c.in_ok-observed.observed.trace c.as_slice-emitted.result.now
    c.as_slice-emitted.ensures c.in_ok-observed.ensures.trace c.in_ok-observed.observed.stop
    c.in_ok-observed.ensures.stop c.as_slice.result.now c.as_slice.ensures c.in_ok-links.links c.in_ok-links.ensures
    c.in_ok-trapped.trapped
    (account_trapped c.finds_origin.ensures c.one_program.ensures c.args.source.now c.program.ensures.source
    c.args.image (map word_of c.args.inputs.now) (inputs_are_words c.args.inputs.now) c.args.limits.steps
    c.args.limits.events c.args.given c.requires.known c.requires.robust c.in_ok-observed.observed
    c.in_ok-observed.ensures
    (let few = c.in_ok-observed.ensures.few in let most = c.requires.few in omega (arith, few, most))
    (subst (All HasWords) c.as_slice-emitted.ensures c.have_words.ensures) c.in_ok-links.links
    (subst (λ t. IsChainWith c.args.source.now (map word_of c.args.inputs.now) c.args.limits.steps t c.args.given
    c.in_ok-links.links) c.as_slice-emitted.ensures
    (subst (λ cs. IsChainWith c.args.source.now (map word_of c.args.inputs.now) c.args.limits.steps
    c.as_slice-emitted.result.now cs c.in_ok-links.links) c.as_slice.ensures c.in_ok-links.ensures))
    c.in_ok-comps.comps
    (c.in_ok-comps.ensures ∙ ap₂ performing_comps c.as_slice-2.ensures c.as_slice-3.ensures)
    c.in_ok-trapped.trapped
    (c.in_ok-trapped.ensures ∙ ap (λ cs. trapped_in c.args.source.now.program (is_listed cs)
    (map word_of c.args.inputs.now) c.in_ok-observed.observed) c.as_slice-4.ensures))
    (within_limit c.args.source.now c.in_ok-observed.observed.trace c.program.ensures.source
    (emitted_allowed c.args.source.now c.args.inputs.now c.args.limits.steps c.args.limits.events c.args.image
    c.args.given c.requires.robust c.in_ok-observed.observed.trace c.in_ok-observed.ensures.trace)
    (let few = c.in_ok-observed.ensures.few in let most = c.requires.few in omega (arith, few, most))
    (subst (All HasWords) c.as_slice-emitted.ensures c.have_words.ensures))

pub returns-clause-allowed : goal.returns-clause-allowed
returns-clause-allowed c =
    emitted_allowed c.args.source.now c.args.inputs.now c.args.limits.steps c.args.limits.events c.args.image
    c.args.given c.requires.robust c.in_ok-observed.observed.trace c.in_ok-observed.ensures.trace
