use Rattle.sc_machine.proofs.Common.{None, Ok, ap, arith, length, map, refl, run_out, run_stopped, state_in, stopped, subst}
use Rattle.sc_machine.proofs.Common.{suc, sym, word_of, ◌+◌, ◌-◌, ◌<◌, ◌∙◌, ◌≡◌}
use Rattle.sc_machine.specs.declared.hart.Hart.{Hart}
use Rattle.sc_machine.proofs.Runs.{begun, gone, goes_on, halts_taken, left_is, none_taken, out_taken, room_left, trapped}
use Rattle.sc_machine.proofs.run.run.Goals as goal

pub loop-taken-init : goal.loop-taken-init
loop-taken-init g c = record {
  image = c.of-here.ensures.image;
  comp = c.of-here.ensures.comp;
  early = rw c.deref.ensures.value at (sym c.in_default.ensures);
  ready = rw c.focus.ensures c.requires.ready;
  stands = rw c.focus.ensures (begun _ _ _ _);
}

pub returns-in-Some-clause-run : goal.returns-in-Some-clause-run
returns-in-Some-clause-run g c =
    rw c.focus.ensures
    (sym (run_stopped _ (map word_of c.args.inputs.now) _ _
    (state_in (g.S.Store.bytes c.args.memory.now) c.args.hart.now) _
    (rw c.deref.ensures.value at (sym c.in-Some.ensures))))

pub returns-in-Some-clause-taken : goal.returns-in-Some-clause-taken
returns-in-Some-clause-taken g c =
    none_taken _ (map word_of c.args.inputs.now) _ _ _
    (λ n. run_stopped _ (map word_of c.args.inputs.now) _ n
    (state_in (g.S.Store.bytes c.args.memory.now) c.args.hart.now) _
    (rw c.deref.ensures.value at (sym c.in-Some.ensures))) c.args.steps

pub step-requires-clause-ready : goal.step-requires-clause-ready
step-requires-clause-ready g c =
    let left : length c.loop-taken.hart.trace.items < c.args.events =
    room_left _ _ c.loop-taken.invariant.early in
    record {
      here = c.loop-taken.invariant.comp;
      sound = rw c.loop-taken.invariant.image c.loop-taken.invariant.ready.sound;
      room = record {
        trace = omega (arith, c.loop-taken.invariant.ready.room.trace);
        cross = omega (arith, c.loop-taken.invariant.ready.room.cross);
      };
    }

pub returns-in-Err-clause-run : goal.returns-in-Err-clause-run
returns-in-Err-clause-run g c =
    let left : c.args.steps - c.loop-taken.taken ≡ suc (c.args.steps - (c.loop-taken.taken + 1)) = omega arith in
    rw (c.in-Err.ensures.leaves.trap, c.in-Err.ensures.memory)
    (sym (trapped _ (map word_of c.args.inputs.now) _ (state_in (g.S.Store.bytes c.loop-taken.memory) c.loop-taken.hart)
    _ _ _ left c.loop-taken.invariant.early
    (rw c.loop-taken.invariant.image at c.in-Err.ensures.outcome)) ∙
    left_is _ _ _ _ _ _ c.loop-taken.invariant.stands _ (omega arith))

pub returns-in-Err-clause-taken : goal.returns-in-Err-clause-taken
returns-in-Err-clause-taken g c =
    halts_taken _ (map word_of c.args.inputs.now) _ _ _ _ c.loop-taken.invariant.stands c.loop-taken.invariant.early _
    (λ n. trapped _ (map word_of c.args.inputs.now) _ (state_in (g.S.Store.bytes c.loop-taken.memory) c.loop-taken.hart)
    (suc n) n _ refl c.loop-taken.invariant.early
    (rw c.loop-taken.invariant.image at c.in-Err.ensures.outcome)) _ (omega arith)

pub returns-clause-run : goal.returns-clause-run
returns-clause-run g c =
    let none : c.args.steps - c.loop-taken.taken ≡ 0 = omega arith in
    sym (run_out _ (map word_of c.args.inputs.now) _ (state_in (g.S.Store.bytes c.loop-taken.memory) c.loop-taken.hart)
    c.loop-taken.invariant.early) ∙
    (rw none at (left_is _ _ _ _ _ _ c.loop-taken.invariant.stands c.args.steps (omega arith)))

pub returns-clause-taken : goal.returns-clause-taken
returns-clause-taken g c =
    let all : c.loop-taken.taken ≡ c.args.steps = omega arith in
    out_taken _ (map word_of c.args.inputs.now) _ _ _ _ (rw all at c.loop-taken.invariant.stands)

pub loop-taken-preserved-then-not-loud : goal.loop-taken-preserved-then-not-loud
loop-taken-preserved-then-not-loud g c =
    let quiet : c.step.new.hart ≡ record c.loop-taken.hart { core = c.step.new.hart.core } =
    c.step.ensures.quiet (c.in-Ok.is ∙ ap Ok c.if-not-loud.true) in
    record {
      image = c.loop-taken.invariant.image;
      comp = c.loop-taken.invariant.comp ∙ sym (ap (λ (hart : Hart). hart.active) quiet);
      early = subst (λ (hart : Hart). stopped c.args.events hart.trace.items ≡ None) (sym quiet)
          c.loop-taken.invariant.early;
      ready = record {
        room = c.in-Ok.ensures.leaves.stays.room c.args.events c.loop-taken.invariant.ready.room;
        sound = rw c.loop-taken.invariant.image at c.in-Ok.ensures.leaves.stays.sound;
        backed = rw (← c.loop-taken.invariant.image) c.step.ensures.backed;
      };
      stands = goes_on _ (map word_of c.args.inputs.now) _ _ _ _ c.loop-taken.invariant.stands
          c.loop-taken.invariant.early _ (rw c.loop-taken.invariant.image at c.in-Ok.ensures.outcome);
    }

pub loop-taken-preserved : goal.loop-taken-preserved
loop-taken-preserved g c =
    record {
      image = c.follow.ensures.image ∙ c.loop-taken.invariant.image;
      comp = c.follow.ensures.comp;
      early = rw c.deref-in-loop-taken.ensures.value at (sym c.in_default-stopped.ensures);
      ready = record {
        room = c.in-Ok.ensures.leaves.stays.room c.args.events c.loop-taken.invariant.ready.room;
        sound = rw c.loop-taken.invariant.image at c.in-Ok.ensures.leaves.stays.sound;
        backed = rw (c.follow.ensures.memory, ← c.loop-taken.invariant.image) c.step.ensures.backed;
      };
      stands = rw c.follow.ensures.memory
          (goes_on _ (map word_of c.args.inputs.now) _ _ _ _ c.loop-taken.invariant.stands
          c.loop-taken.invariant.early _ (rw c.loop-taken.invariant.image at c.in-Ok.ensures.outcome));
    }

pub returns-in-Some-stopped-clause-run : goal.returns-in-Some-stopped-clause-run
returns-in-Some-stopped-clause-run g c =
    let left : c.args.steps - c.loop-taken.taken ≡ suc (c.args.steps - (c.loop-taken.taken + 1)) = omega arith in
    rw c.follow.ensures.memory
    (sym (run_stopped _ (map word_of c.args.inputs.now) _ (c.args.steps - (c.loop-taken.taken + 1))
    (state_in (g.S.Store.bytes c.step.new.memory) c.step.new.hart) _
    (rw c.deref-in-loop-taken.ensures.value at (sym c.in-Some-stopped.ensures))) ∙
    sym (gone _ (map word_of c.args.inputs.now) _
    (state_in (g.S.Store.bytes c.loop-taken.memory) c.loop-taken.hart) _ _ _ left c.loop-taken.invariant.early
    (rw c.loop-taken.invariant.image at c.in-Ok.ensures.outcome)) ∙
    left_is _ _ _ _ _ _ c.loop-taken.invariant.stands _ (omega arith))

pub returns-in-Some-stopped-clause-taken : goal.returns-in-Some-stopped-clause-taken
returns-in-Some-stopped-clause-taken g c =
    halts_taken _ (map word_of c.args.inputs.now) _ _ _ _ c.loop-taken.invariant.stands c.loop-taken.invariant.early _
    (λ n. gone _ (map word_of c.args.inputs.now) _
    (state_in (g.S.Store.bytes c.loop-taken.memory) c.loop-taken.hart) (suc n) n _ refl c.loop-taken.invariant.early
    (rw c.loop-taken.invariant.image at c.in-Ok.ensures.outcome) ∙
    run_stopped _ (map word_of c.args.inputs.now) _ n
    (state_in (g.S.Store.bytes c.step.new.memory) c.step.new.hart) _
    (rw c.deref-in-loop-taken.ensures.value at (sym c.in-Some-stopped.ensures))) _ (omega arith)

pub returns-in-Some-stopped-clause-ready : goal.returns-in-Some-stopped-clause-ready
returns-in-Some-stopped-clause-ready g c = record {
  room = c.in-Ok.ensures.leaves.stays.room c.args.events c.loop-taken.invariant.ready.room;
  sound = rw c.loop-taken.invariant.image at c.in-Ok.ensures.leaves.stays.sound;
  backed = rw (c.follow.ensures.memory, ← c.loop-taken.invariant.image) c.step.ensures.backed;
}
