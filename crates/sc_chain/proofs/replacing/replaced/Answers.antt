use Rattle.sc_chain.proofs.Common.{Accepts, List, ProgramTree, subst, sym, ℕ, ◌∙◌}
use Rattle.sc_chain.proofs.Recomposed.{is_scripted, is_replaced}
use Rattle.sc_chain.proofs.replacing.replaced.Goals as goal

pub returns-in_err-text-clause-scripted : goal.returns-in_err-text-clause-scripted
returns-in_err-text-clause-scripted c =
    is_scripted c.args.source.now c.args.trace.now c.args.comps.now c.program.ensures.source c.requires.allowed
    c.requires.few c.have_words.ensures c.requires.known

pub read_accepted-requires : goal.read_accepted-requires
read_accepted-requires c =
    subst (λ (bytes : List ℕ). (program : ProgramTree) × Accepts bytes program)
    (sym (c.as_bytes.ensures ∙ c.in_ok-text.ensures))
    (let made = is_scripted c.args.source.now c.args.trace.now c.args.comps.now c.program.ensures.source
    c.requires.allowed c.requires.few c.have_words.ensures c.requires.known in (made.0, made.1.accepted))

pub returns-in_err-new-clause-scripted : goal.returns-in_err-new-clause-scripted
returns-in_err-new-clause-scripted c =
    is_scripted c.args.source.now c.args.trace.now c.args.comps.now c.program.ensures.source c.requires.allowed
    c.requires.few c.have_words.ensures c.requires.known

pub returns-clause-scripted : goal.returns-clause-scripted
returns-clause-scripted c =
    is_scripted c.args.source.now c.args.trace.now c.args.comps.now c.program.ensures.source c.requires.allowed
    c.requires.few c.have_words.ensures c.requires.known

pub returns-clause-replaced : goal.returns-clause-replaced
returns-clause-replaced c =
    is_replaced c.one_program.ensures c.args.source.now c.args.trace.now c.args.comps.now c.in_ok-new.new
    c.program.ensures.source c.requires.allowed c.requires.few c.have_words.ensures c.requires.known
    c.in_ok-new.ensures.source
    (c.in_ok-new.ensures.bytes ∙ (c.as_bytes.ensures ∙ c.in_ok-text.ensures))
