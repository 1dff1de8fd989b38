use Rattle.sc_tags.specs.Prelude.{first_bytes}
use Rattle.sc_tags.proofs.Common.{ap, arith, is_some, length, suc, sym, ◌-◌, ◌+◌, ◌<◌, ◌∙◌, ◌≡◌}
use Rattle.sc_machine.proofs.Runs.{room_left}
use Rattle.sc_machine.specs.Prelude.{word_of}
use Rattle.sc_tags.proofs.TagRuns.{run_ends, run_gone, run_stops, run_trapped}
use Rattle.sc_tags.specs.TagHart.{bytes_of, tagged_in}
use Rattle.std.proofs.Common.{map}
use Rattle.sc_tags.proofs.machine.run.Goals as goal

pub returns-in-Some-clause-run : goal.returns-in-Some-clause-run
returns-in-Some-clause-run g c =
    let loaded = c.args.loaded.now in
    rw c.focus.ensures
    (sym (run_stops loaded.program loaded.ranges (map word_of loaded.inputs) loaded.events c.args.steps
    (tagged_in (bytes_of g.S.Store.bytes c.args.memory.now) c.args.hart.now) _
    (rw c.deref.ensures.value at (sym c.in-Some.ensures))))

pub returns-in-Some-clause-ready : goal.returns-in-Some-clause-ready
returns-in-Some-clause-ready g c = record {
  room = c.requires.ready.room;
  sound = c.requires.ready.sound;
  owned = λ a. ap (λ m. is_some (m a)) c.focus.ensures ∙ c.requires.ready.owned a;
}

pub step-requires-clause-ready : goal.step-requires-clause-ready
step-requires-clause-ready g c =
    let left : length c.loop.hart.trace.items < c.args.loaded.now.events = room_left _ _ c.loop.invariant.early in
    record {
      here = c.loop.invariant.comp;
      sound = rw c.loop.invariant.image c.loop.invariant.ready.sound;
      room = record {
        trace = omega (arith, left, c.loop.invariant.ready.room.trace);
        cross = omega (arith, left, c.loop.invariant.ready.room.cross);
      };
    }

pub returns-in-Err-clause-run : goal.returns-in-Err-clause-run
returns-in-Err-clause-run g c =
    let loaded = c.args.loaded.now in
    let left : c.args.steps - c.loop.counter ≡ suc (c.args.steps - (c.loop.counter + 1)) = omega arith in
    rw (c.in-Err.ensures.leaves.trap, c.in-Err.ensures.memory)
    (sym (run_trapped loaded.program loaded.ranges (map word_of loaded.inputs) loaded.events
    (c.args.steps - c.loop.counter) (c.args.steps - (c.loop.counter + 1))
    (tagged_in (bytes_of g.S.Store.bytes c.loop.memory) c.loop.hart) _ left c.loop.invariant.early
    (rw (c.loop.invariant.image, c.loop.invariant.ranges, c.as_slice-in-loop.ensures) at c.in-Err.ensures.outcome)) ∙
    c.loop.invariant.same)

pub returns-clause-run : goal.returns-clause-run
returns-clause-run g c =
    let loaded = c.args.loaded.now in
    let none : c.args.steps - c.loop.counter ≡ 0 = omega arith in
    sym (run_ends loaded.program loaded.ranges (map word_of loaded.inputs) loaded.events
    (c.args.steps - c.loop.counter) (tagged_in (bytes_of g.S.Store.bytes c.loop.memory) c.loop.hart) none
    c.loop.invariant.early) ∙
    c.loop.invariant.same

pub loop-preserved : goal.loop-preserved
loop-preserved g c =
    let loaded = c.args.loaded.now in
    let left : c.args.steps - c.loop.counter ≡ suc (c.args.steps - (c.loop.counter + 1)) = omega arith in
    record {
      image = c.follow.ensures.image ∙ c.loop.invariant.image;
      comp = c.follow.ensures.comp;
      ranges = c.follow.ensures.ranges ∙ c.loop.invariant.ranges;
      early = rw c.deref-in-loop.ensures.value at (sym c.in_default-stopped.ensures);
      ready = record {
        room = c.in_default-step.ensures.leaves.stays.room loaded.events c.loop.invariant.ready.room;
        sound = rw c.loop.invariant.image at c.in_default-step.ensures.leaves.stays.sound;
        owned = λ a. ap (λ m. is_some (m a)) c.follow.ensures.memory ∙ c.step.ensures.owned a ∙
            ap (λ image. is_some (first_bytes image a)) c.loop.invariant.image;
      };
      same = rw c.follow.ensures.memory
          (sym (run_gone loaded.program loaded.ranges (map word_of loaded.inputs) loaded.events
          (c.args.steps - c.loop.counter) (c.args.steps - (c.loop.counter + 1))
          (tagged_in (bytes_of g.S.Store.bytes c.loop.memory) c.loop.hart) _ left c.loop.invariant.early
          (rw (c.loop.invariant.image, c.loop.invariant.ranges, c.as_slice-in-loop.ensures) at
          c.in_default-step.ensures.outcome)) ∙
          c.loop.invariant.same);
    }

pub returns-in-Some-stopped-clause-run : goal.returns-in-Some-stopped-clause-run
returns-in-Some-stopped-clause-run g c =
    let loaded = c.args.loaded.now in
    let left : c.args.steps - c.loop.counter ≡ suc (c.args.steps - (c.loop.counter + 1)) = omega arith in
    rw c.follow.ensures.memory
    (sym (run_stops loaded.program loaded.ranges (map word_of loaded.inputs) loaded.events
    (c.args.steps - (c.loop.counter + 1))
    (tagged_in (bytes_of g.S.Store.bytes c.step.new.memory) c.step.new.hart) _
    (rw c.deref-in-loop.ensures.value at (sym c.in-Some-stopped.ensures))) ∙
    sym (run_gone loaded.program loaded.ranges (map word_of loaded.inputs) loaded.events
    (c.args.steps - c.loop.counter) (c.args.steps - (c.loop.counter + 1))
    (tagged_in (bytes_of g.S.Store.bytes c.loop.memory) c.loop.hart) _ left c.loop.invariant.early
    (rw (c.loop.invariant.image, c.loop.invariant.ranges, c.as_slice-in-loop.ensures) at
    c.in_default-step.ensures.outcome)) ∙
    c.loop.invariant.same)

pub returns-in-Some-stopped-clause-ready : goal.returns-in-Some-stopped-clause-ready
returns-in-Some-stopped-clause-ready g c = record {
  room = c.in_default-step.ensures.leaves.stays.room c.args.loaded.now.events c.loop.invariant.ready.room;
  sound = rw c.loop.invariant.image at c.in_default-step.ensures.leaves.stays.sound;
  owned = λ a. ap (λ m. is_some (m a)) c.follow.ensures.memory ∙ c.step.ensures.owned a ∙
      ap (λ image. is_some (first_bytes image a)) c.loop.invariant.image;
}
