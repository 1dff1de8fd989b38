use Rattle.sc_run.proofs.Common.{Body, IfOk-weaker, Some, ap, arith, ended_so, in_round, kept_by, left_at, loop_acts}
use Rattle.sc_run.proofs.Common.{next_acts, refl, rules, subst, sym, unless_done, ◌∙◌, Passes}
use Rattle.std.specs.Prelude.{vec_len}
use Rattle.sc_run.proofs.Ahead.{steps_after, unchanged}
use Rattle.sc_run.proofs.Leading.{none_taken, another_round, before_round, is_all, is_step, last_out}
use Rattle.sc_run.proofs.Leading.{one_taken, steps_there, then_steps}
use Rattle.sc_run.proofs.Looping.{steps_later}
use Rattle.sc_run.proofs.rounds.rounds.Goals as goal

pub returns-then-not-done : goal.returns-then-not-done
returns-then-not-done c = is_step (unless_done c.in-Ok.done c.done_from.new.run.taken) _ _ _ _ _
    (one_taken c.done_from.new.run.taken c.if-not-done.true ∙ ap (λ x. Some x)
    (sym c.last_step.ensures)) c.in-Ok.ensures

pub returns-then-not-is_next_done : goal.returns-then-not-is_next_done
returns-then-not-is_next_done c = then_steps (λ f. ended_so)
    (is_all (unless_done c.in-Ok.done c.done_from.new.run.taken)
    (none_taken c.done_from.new.run.taken c.if-not-done.false) c.in-Ok.ensures)
    (steps_after (unchanged c.if-not-is_next_done.ensures) (steps_later (omega arith) (λ n s. refl)))

pub returns-in-None : goal.returns-in-None
returns-in-None c =
    let program = c.args.program.now in
    let l = c.args.whole.now in
    let done = is_all (unless_done c.in-Ok.done c.done_from.new.run.taken)
    (none_taken c.done_from.new.run.taken c.if-not-done.false) c.in-Ok.ensures in
    IfOk-weaker c.begin_round.result _ _ (λ step h. done.leads.leads _ _ _ _ ((before_round program
    c.args.run.now.frame l c.requires.waits.0 c.requires.waits.1
    (subst (λ f. Passes (kept_by c.done_from.new.run.machine) (kept_by c.is_next_done.new.machine)
    (λ n s. next_acts program n f l tt s) ended_so) done.frame c.if-not-is_next_done.ensures)
    (subst (λ f. Passes (kept_by c.is_next_done.new.machine) (kept_by c.done_rounds.new.machine)
    (λ n s. loop_acts program n f l tt s) (λ n s. loop_acts program n f l tt s)) done.frame
    c.in-None.ensures.passes)).leads _ _ _ _ (steps_there (λ f n s. loop_acts program n f l tt s)
    (last_out c.requires.waits.0 (Body l) (vec_len c.done_from.new.run.work) (done.waiting ∙ c.requires.waits.1)
    c.pop.ensures.rest (search (rules, arith))) done.frame h))) c.begin_round.ensures

pub rounds_by-requires-clause-waits : goal.rounds_by-requires-clause-waits
rounds_by-requires-clause-waits c =
    let done = is_all (unless_done c.in-Ok.done c.done_from.new.run.taken)
    (none_taken c.done_from.new.run.taken c.if-not-done.false) c.in-Ok.ensures in
    (c.requires.waits.0, done.waiting ∙ c.requires.waits.1)

pub returns-in-Some : goal.returns-in-Some
returns-in-Some c =
    let program = c.args.program.now in
    let l = c.args.whole.now in
    let done = is_all (unless_done c.in-Ok.done c.done_from.new.run.taken)
    (none_taken c.done_from.new.run.taken c.if-not-done.false) c.in-Ok.ensures in
    IfOk-weaker c.rounds_by.result _ _ (λ step h. done.leads.leads _ _ _ _ ((another_round program
    c.args.run.now.frame l c.requires.waits.0 c.requires.waits.1
    (subst (λ f. Passes (kept_by c.done_from.new.run.machine) (kept_by c.is_next_done.new.machine)
    (λ n s. next_acts program n f l tt s) ended_so) done.frame c.if-not-is_next_done.ensures) c.in-Some.place
    (subst (λ f. Passes (kept_by c.is_next_done.new.machine) (kept_by c.done_rounds.new.machine)
    (λ n s. loop_acts program n f l tt s) (in_round program f l (Some c.in-Some.place))) done.frame
    c.in-Some.ensures.passes) c.in-Some.ensures.less c.in-Some.ensures.taken).leads _ _ _ _
    (steps_there (λ f. left_at program f l.body.now (Some c.in-Some.place)) done.waiting done.frame h)))
    c.rounds_by.ensures
