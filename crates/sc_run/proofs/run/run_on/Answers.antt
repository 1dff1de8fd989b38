use Rattle.sc_run.proofs.Common.{Standing, does_now, kept_by, subst, sym, ◌≤◌}
use Rattle.sc_run.proofs.Lasting.{another_suffices, lasts_after, less_after}
use Rattle.sc_run.proofs.Whole.{since_step, since_stop, since_events}
use Rattle.sc_run.specs.Weights.{NumbersLast, now_weight}
use Rattle.sc_run.proofs.run.run_on.Goals as goal

pub proceed-requires : goal.proceed-requires
proceed-requires c = another_suffices c.loop-now.now c.loop-now.invariant.numbers

pub returns : goal.returns
returns c =
    since_events c.args.program.now c.args.first (kept_by c.args.run.now.machine) c.args.run.now.frame c.loop-now.now
    (kept_by c.loop-now.run.machine) c.loop-now.run.work.items c.loop-now.run.frame c.loop-now.invariant.since
    c.args.events (subst (λ n. c.args.events ≤ n) c.len.ensures c.loop-now-test.false)

pub returns-in-Ok-Stop : goal.returns-in-Ok-Stop
returns-in-Ok-Stop c =
    since_stop c.args.program.now c.args.first (kept_by c.args.run.now.machine) c.args.run.now.frame c.loop-now.now
    (kept_by c.loop-now.run.machine) c.loop-now.run.work.items c.loop-now.run.frame c.loop-now.invariant.since
    c.in-Ok-Stop.field-0 (kept_by c.proceed.new.run.machine) c.proceed.new.run.work.items c.proceed.new.run.frame
    c.in-Ok-Stop.ensures c.args.events c.in-Ok-Stop.field-0-is

pub loop-now-preserved : goal.loop-now-preserved
loop-now-preserved c = record {
  since = since_step c.args.program.now c.args.first (kept_by c.args.run.now.machine) c.args.run.now.frame
      c.loop-now.now (kept_by c.loop-now.run.machine) c.loop-now.run.work.items c.loop-now.run.frame
      c.loop-now.invariant.since c.in-Ok-Go.field-0 (kept_by c.proceed.new.run.machine) c.proceed.new.run.work.items
      c.proceed.new.run.frame c.in-Ok-Go.ensures c.in-Ok-Go.field-0-is;
  numbers = lasts_after
      (c.in-Ok-Go.ensures.falls c.loop-now.invariant.numbers.light c.loop-now.invariant.numbers.waiting)
      c.in-Ok-Go.field-0-is c.loop-now.invariant.numbers;
}

pub loop-now-smaller : goal.loop-now-smaller
loop-now-smaller c = less_after
    (c.in-Ok-Go.ensures.falls c.loop-now.invariant.numbers.light c.loop-now.invariant.numbers.waiting)
    c.in-Ok-Go.field-0-is

pub loop-now-init : goal.loop-now-init
loop-now-init c = record {
  since = λ whole h. subst
      (λ ws. Standing c.args.program.now whole (kept_by c.args.run.now.machine) ws c.args.run.now.frame
      (does_now c.args.program.now c.args.run.now.frame c.args.first)) (sym c.requires.nothing_waits) h;
  numbers = subst (λ ws. NumbersLast (now_weight c.args.first) (kept_by c.args.run.now.machine) ws)
      (sym c.requires.nothing_waits)
      c.requires.numbers;
}
