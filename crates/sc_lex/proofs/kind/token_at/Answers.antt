use Rattle.sc_lex.proofs.Prefixes.{found_at, none_at, directive_forbidden}
use Rattle.sc_lex.proofs.kind.token_at.Goals as goal

pub returns-then-is_name_byte-clause-found : goal.returns-then-is_name_byte-clause-found
returns-then-is_name_byte-clause-found c = found_at c.word_at.result c.args.text.now c.args.directives
    c.word_at.ensures.found

pub returns-then-is_name_byte-clause-none : goal.returns-then-is_name_byte-clause-none
returns-then-is_name_byte-clause-none c = none_at c.word_at.result c.args.text.now c.args.directives
    c.word_at.ensures.none

pub returns-then-text-ne35-clause-found : goal.returns-then-text-ne35-clause-found
returns-then-text-ne35-clause-found c = found_at c.mark_at.result c.args.text.now c.args.directives
    c.mark_at.ensures.found

pub returns-then-text-ne35-clause-none : goal.returns-then-text-ne35-clause-none
returns-then-text-ne35-clause-none c = none_at c.mark_at.result c.args.text.now c.args.directives c.mark_at.ensures.none

pub returns-then-directives-clause-none : goal.returns-then-directives-clause-none
returns-then-directives-clause-none c = none_at c.directive_at.result c.args.text.now c.args.directives
    c.directive_at.ensures.none

pub returns-else-directives-clause-none : goal.returns-else-directives-clause-none
returns-else-directives-clause-none c = λ kind len t.
    directive_forbidden c.args.text.now c.if-text-ne35.false kind len (rw c.if-directives.false at t)
