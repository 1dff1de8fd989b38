use Rattle.sc_run.proofs.Common.{IfOk-weaker, ap, arith, block_acts, drop, drop-step, drop_all, ended_so, refl, sym}
use Rattle.sc_run.proofs.Common.{unless_done, ◌∷◌, ◌∙◌, ◌+◌, ◌-◌, ◌≡◌, length, take}
use Rattle.std.proofs.lemmas.List.{drop-drop}
use Rattle.sc_run.proofs.Ahead.{no_part, none_in, passes_as, rest_at, stays_so, steps_after, then_passes}
use Rattle.sc_run.proofs.Leading.{none_taken, and_past, first_call, is_all, is_step, last_call, leads_here, onward}
use Rattle.sc_run.proofs.Leading.{reaches_from}
use Rattle.sc_run.proofs.Leading.{one_more_at, one_taken, then_either, then_reaches, then_steps, was_taken}
use Rattle.sc_run.proofs.Looping.{steps_later, steps_weaken}
use Rattle.sc_run.proofs.Weighing.{block_split, not_empty, place_less, some_in_block}
use Rattle.sc_run.specs.Weights.{block_nodes}
use Rattle.sc_run.proofs.rounds.done_with_calls.Goals as goal

pub loop-at-init : goal.loop-at-init
loop-at-init c = record { waiting = refl; frame = refl; fewer = omega arith; leads = leads_here (omega arith) }

pub returns-in_default : goal.returns-in_default
returns-in_default c =
    let stmts = c.args.stmts.now in
    let at = c.loop-at.at in
    was_taken (unless_done c.keep_statements.result c.keep_statements.new.taken) _ _ _ _ _ c.keep_statements.ensures
    (then_steps (λ f n s. block_acts c.args.program.now n f (drop at stmts) tt s) c.loop-at.invariant
    (steps_later (omega (arith, ap (λ xs. block_nodes xs) (rest_at at stmts)))
    (λ n s. ap (λ xs. block_acts c.args.program.now n c.loop-at.run.frame xs tt s) (sym (rest_at at stmts)))))

pub returns-then-is_empty : goal.returns-then-is_empty
returns-then-is_empty c =
    let stmts = c.args.stmts.now in
    let at = c.loop-at.at in
    IfOk-weaker c.made_at_once.result _ _ (λ done h. then_either (unless_done done c.made_at_once.new.run.taken) _ _
    (λ f n s. block_acts c.args.program.now n f (drop at stmts) tt s) (λ f. ended_so) c.loop-at.invariant
    (onward (unless_done done c.made_at_once.new.run.taken) _ _ _ _ _ (omega arith)
    (last_call c.args.program.now c.loop-at.run.frame (drop at stmts)
    c.in-Some.ensures.call c.in-Some.ensures.line
    (drop-step stmts at c.index-stmts-at.result c.loop-at-test.true c.index-stmts-at.is ∙
    ap (λ xs. c.index-stmts-at.result ∷ xs) (sym (rest_at (at + 1) stmts) ∙
    none_in _ c.is_empty.ensures c.if-is_empty.true))) h)) c.made_at_once.ensures

pub returns-then-not-done : goal.returns-then-not-done
returns-then-not-done c =
    let stmts = c.args.stmts.now in
    let at = c.loop-at.at in
    then_steps (λ f n s. block_acts c.args.program.now n f (drop at stmts) tt s) c.loop-at.invariant
    ((first_call c.args.program.now c.loop-at.run.frame (drop at stmts) _ c.in-Some.ensures.call
    c.in-Some.ensures.line (drop-step stmts at c.index-stmts-at.result c.loop-at-test.true c.index-stmts-at.is ∙
    ap (λ xs. c.index-stmts-at.result ∷ xs) (sym (rest_at (at + 1) stmts)))).leads _ _ _ _
    (is_step (unless_done c.in-Ok.done c.made_before.new.run.taken) _ _ _ _ _
    (one_taken c.made_before.new.run.taken c.if-not-done.true) c.in-Ok.ensures))

pub returns-in-None : goal.returns-in-None
returns-in-None c =
    let stmts = c.args.stmts.now in
    let at = c.loop-at.at in
    let rest = take (length stmts - (at + 1)) (drop (at + 1) stmts) in
    let program = c.args.program.now in
    and_past (λ f n s. block_acts program n f rest tt s) (λ f. ended_so) (omega arith)
    (then_reaches (λ f n s. block_acts program n f (drop at stmts) tt s) (λ f n s. block_acts program n f rest tt s)
    c.loop-at.invariant (reaches_from (omega arith) (first_call program c.loop-at.run.frame (drop at stmts) rest
    c.in-Some.ensures.call c.in-Some.ensures.line
    (drop-step stmts at c.index-stmts-at.result c.loop-at-test.true c.index-stmts-at.is ∙
    ap (λ xs. c.index-stmts-at.result ∷ xs) (sym (rest_at (at + 1) stmts))))
    (is_all (unless_done c.in-Ok.done c.made_before.new.run.taken)
    (none_taken c.made_before.new.run.taken c.if-not-done.false) c.in-Ok.ensures))) refl refl c.in-None.ensures.passes

pub returns-then-not-is_empty : goal.returns-then-not-is_empty
returns-then-not-is_empty c =
    let stmts = c.args.stmts.now in
    let at = c.loop-at.at in
    let rest = take (length stmts - (at + 1)) (drop (at + 1) stmts) in
    let program = c.args.program.now in
    let place = c.in-Some-done_first.place in
    IfOk-weaker c.left_for_later.result _ _ (λ done h.
    then_either (unless_done done c.left_for_later.new.run.taken) _ _ (λ f n s. block_acts program n f rest tt s)
    (λ f. ended_so)
    (then_reaches (λ f n s. block_acts program n f (drop at stmts) tt s) (λ f n s. block_acts program n f rest tt s)
    c.loop-at.invariant (reaches_from (omega arith) (first_call program c.loop-at.run.frame (drop at stmts) rest
    c.in-Some.ensures.call c.in-Some.ensures.line
    (drop-step stmts at c.index-stmts-at.result c.loop-at-test.true c.index-stmts-at.is ∙
    ap (λ xs. c.index-stmts-at.result ∷ xs) (sym (rest_at (at + 1) stmts))))
    (is_all (unless_done c.in-Ok.done c.made_before.new.run.taken)
    (none_taken c.made_before.new.run.taken c.if-not-done.false) c.in-Ok.ensures)))
    (onward (unless_done done c.left_for_later.new.run.taken) _ _ _ _ _
    c.in-Some-done_first.ensures.passes.fewer
    (record {
      leads = λ step last ws g k. steps_after c.in-Some-done_first.ensures.passes (steps_weaken (omega (
        arith,
        place_less rest place
            c.in-Some-done_first.ensures.less (some_in_block place.part.now (not_empty place.part.now
            c.is_empty-in-Some-done_first.ensures c.if-not-is_empty.true)),
      )) k);
    }) h)) c.left_for_later.ensures

pub loop-at-preserved : goal.loop-at-preserved
loop-at-preserved c =
    let stmts = c.args.stmts.now in
    let at = c.loop-at.at in
    let rest = take (length stmts - (at + 1)) (drop (at + 1) stmts) in
    let program = c.args.program.now in
    let place = c.in-Some-done_first.place in
    let later = at + (1 + place.count) in
    let left : drop place.count rest ≡ drop later stmts = ap (λ xs. drop place.count xs) (rest_at (at + 1) stmts) ∙
    drop-drop place.count (at + 1) stmts ∙ ap (λ k. drop k stmts) (one_more_at at place.count) in
    and_past (λ f n s. block_acts program n f rest tt s) (λ f n s. block_acts program n f (drop later stmts) tt s)
    (omega (arith, block_split place.count rest, ap (λ xs. block_nodes xs) left))
    (then_reaches (λ f n s. block_acts program n f (drop at stmts) tt s) (λ f n s. block_acts program n f rest tt s)
    c.loop-at.invariant (reaches_from (omega arith) (first_call program c.loop-at.run.frame (drop at stmts) rest
    c.in-Some.ensures.call c.in-Some.ensures.line
    (drop-step stmts at c.index-stmts-at.result c.loop-at-test.true c.index-stmts-at.is ∙
    ap (λ xs. c.index-stmts-at.result ∷ xs) (sym (rest_at (at + 1) stmts))))
    (is_all (unless_done c.in-Ok.done c.made_before.new.run.taken)
    (none_taken c.made_before.new.run.taken c.if-not-done.false) c.in-Ok.ensures))) refl refl
    (then_passes c.in-Some-done_first.ensures.passes (passes_as (λ n s. no_part program c.made_before.new.run.frame
    rest place
    (none_in place.part.now c.is_empty-in-Some-done_first.ensures c.if-not-is_empty.false) n s ∙
    ap (λ xs. block_acts program n c.made_before.new.run.frame xs tt s) left) stays_so))

pub returns : goal.returns
returns c =
    let stmts = c.args.stmts.now in
    let at = c.loop-at.at in
    and_past (λ f n s. block_acts c.args.program.now n f (drop at stmts) tt s) (λ f. ended_so) (omega arith)
    c.loop-at.invariant refl refl (passes_as
    (λ n s. ap (λ xs. block_acts c.args.program.now n c.loop-at.run.frame xs tt s)
    (drop_all at stmts c.loop-at-test.false)) stays_so)
