use Rattle.std.proofs.Common.{◌+◌, ◌++◌, length, ap, ◌∙◌, None, Some, if◌then◌else◌}
use Rattle.sc_base.proofs.Lists.{drop-step}
use Rattle.sc_script.specs.Row.{row_of}
use Rattle.sc_script.proofs.Steps.{passed, ended}
use Rattle.sc_script.proofs.rows.part.Goals as goal

pub returns-then-not-branch : goal.returns-then-not-branch
returns-then-not-branch c =
    let here =
    drop-step c.args.trace.now c.loop-event.event-index c.event-item.result c.loop-event-test.true
    c.event-item.is in
    ended c.args.main c.args.comp c.args.trace.now c.add_row.new.script _ (c.loop-event.event-index + 1)
    (c.in_ok-goes_on.ensures ∙ ap (λ on. if on then Some c.goes_on.new.self else None) c.if-not-branch.true)
    (passed c.args.main c.args.comp c.args.trace.now c.loop-event.script c.add_row.new.script c.loop-event.walk
    c.loop-event.event-index c.event-item.result c.loop-event.invariant.0 here
    (c.in_ok-add_row.ensures ∙
    ap (λ entry. c.loop-event.script ++ row_of c.args.comp (length c.loop-event.script) entry c.event-item.result)
    c.entry.ensures))
