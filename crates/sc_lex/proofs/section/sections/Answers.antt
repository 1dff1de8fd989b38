use Rattle.sc_lex.proofs.Splits.{progress_start, progress_on, progress_joined, progress_good}
use Rattle.sc_lex.proofs.section.sections.Goals as goal

pub loop-at-init : goal.loop-at-init
loop-at-init c =
    rw c.new-sections.ensures (progress_start c.args.text.now c.next_heading-first.result c.line_after-line.result
    c.next_heading-first.ensures.within.1 c.next_heading-first.ensures.heading c.next_heading-first.ensures.none
    c.line_after-line.ensures)

pub loop-at-preserved : goal.loop-at-preserved
loop-at-preserved c =
    rw (c.line_after-line-in-loop-at.ensures, c.in_ok-push.ensures.ok)
    (progress_on c.args.text.now c.next_heading-first.result c.loop-at.at c.next_heading-end.result c.loop-at.line
    c.loop-at.sections c.in-Some.section c.loop-at.invariant c.in-Some.ensures.found
    c.next_heading-end.ensures.heading)

pub returns-clause-joined : goal.returns-clause-joined
returns-clause-joined c =
    progress_joined c.args.text.now c.next_heading-first.result c.loop-at.at c.loop-at.line c.loop-at.sections
    c.loop-at.invariant c.loop-at-test.false

pub returns-clause-good : goal.returns-clause-good
returns-clause-good c =
    progress_good c.args.text.now c.next_heading-first.result c.loop-at.at c.loop-at.line c.loop-at.sections
    c.loop-at.invariant c.loop-at-test.false
