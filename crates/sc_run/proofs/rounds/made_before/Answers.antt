use Rattle.sc_run.proofs.Common.{Rest, arith, refl, rules, unless_done, ◌∙◌}
use Rattle.std.specs.Prelude.{vec_len}
use Rattle.sc_run.proofs.Leading.{none_taken, before_rest, is_all, is_step, last_out, one_taken}
use Rattle.sc_run.proofs.Looping.{steps_wait}
use Rattle.sc_run.proofs.rounds.made_before.Goals as goal

pub returns-then-done : goal.returns-then-done
returns-then-done c =
    let done = is_all (unless_done c.in-Ok.done c.made_at_once.new.run.taken)
    (none_taken c.made_at_once.new.run.taken c.if-done.true) c.in-Ok.ensures in
    record {
      waiting = last_out c.args.run.now.work.items (Rest c.args.rest) (vec_len c.made_at_once.new.run.work)
          (done.waiting ∙ c.in_ok-push.ensures.items) c.pop.ensures.rest (search (rules, arith));
      frame = done.frame;
      fewer = done.fewer;
      leads = before_rest c.args.rest c.in_ok-push.ensures.items done.leads;
    }

pub returns-else-done : goal.returns-else-done
returns-else-done c = steps_wait (Rest c.args.rest) c.in_ok-push.ensures.items (omega arith) (λ n s. refl)
    (is_step (unless_done c.in-Ok.done c.made_at_once.new.run.taken) _ _ _ _ _
    (one_taken c.made_at_once.new.run.taken c.if-done.false) c.in-Ok.ensures)
