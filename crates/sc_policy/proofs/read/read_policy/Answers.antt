use Rattle.sc_policy.proofs.Common.{Some, ap, subst, sym, ◌+◌, ◌∙◌}
use Rattle.sc_policy.proofs.Seen.{IsSeen, bad_end, bad_line, bad_number, next_is, read_to_the_end, see_more}
use Rattle.sc_policy.proofs.Seen.{unclosed_so}
use Rattle.sc_policy.proofs.read.read_policy.Goals as goal

pub returns-in_default-2-clause-bad : goal.returns-in_default-2-clause-bad
returns-in_default-2-clause-bad c =
    let line = c.in-Some.ensures in
    bad_number c.args.bytes.now c.loop-end.line (bad_line c.args.bytes.now c.loop-end.at c.in-Some.end
    c.loop-end.progress c.loop-end.line c.loop-end.invariant
    (next_is c.args.bytes.now c.loop-end.at c.in-Some.end line.within line.newline line.line)
    (sym c.in_ok-next.ensures ∙ c.in_default-2.is))

pub returns-in-Closed-clause-read : goal.returns-in-Closed-clause-read
returns-in-Closed-clause-read c =
    let line = c.in-Some.ensures in
    read_to_the_end c.args.bytes.now c.loop-end.at c.in-Some.end c.loop-end.progress c.in-Closed.policy
    c.loop-end.line c.loop-end.invariant
    (next_is c.args.bytes.now c.loop-end.at c.in-Some.end line.within line.newline line.line)
    (sym c.in_ok-next.ensures ∙ c.in-Some-2.is ∙ ap (λ p. Some p) c.in-Closed.is)

pub loop-end-preserved : goal.loop-end-preserved
loop-end-preserved c =
    let line = c.in-Some.ensures in
    subst (λ n. IsSeen c.args.bytes.now (c.in-Some.end + 1) c.in-Some-2.next n) (sym c.saturating_add-line.ensures)
    (see_more c.args.bytes.now c.loop-end.at c.in-Some.end c.loop-end.progress c.in-Some-2.next c.loop-end.line
    c.loop-end.invariant (next_is c.args.bytes.now c.loop-end.at c.in-Some.end line.within line.newline line.line)
    (sym c.in_ok-next.ensures ∙ c.in-Some-2.is) (unclosed_so c.in-Some-2.next c.in_default-next.not-Closed))

pub returns-clause-bad : goal.returns-clause-bad
returns-clause-bad c = bad_number c.args.bytes.now c.loop-end.line (bad_end c.args.bytes.now c.loop-end.at
    c.loop-end.progress c.loop-end.line c.loop-end.invariant c.in_default.ensures.none)
