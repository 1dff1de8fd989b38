use Rattle.sc_machine.proofs.Common.{All, All-nil, Crossing, Waiting, arith, length, refl, subst, sym, ◌<◌}
use Rattle.sc_machine.proofs.loading.start_hart.Goals as goal
use Rattle.sc_image.proofs.Reached.{length-stack_tops}

pub returns-clause-sound : goal.returns-clause-sound
returns-clause-sound c =
    let waits = λ (call : Crossing). call.caller < length c.args.image.now.comps in
    record {
      place = record {
        formed = c.parts-parts.ensures.well_formed;
        within = rw c.parts-parts.ensures.parts c.parts-parts.ensures.well_formed.main;
      };
      callers = subst (λ (w : Waiting). All waits w.calls) (sym c.cross.view_is)
          (subst (All waits) (sym c.in-Ok.ensures.calls) (All-nil waits));
      saved = rw (c.in_ok-stack_tops.ensures, c.as_slice-comps.ensures, c.parts-parts.ensures.parts)
          (length-stack_tops 0 c.args.image.now.comps);
      zones = rw (c.in_ok-new.ensures.there, c.as_slice-comps.ensures, c.parts-parts.ensures.parts) refl;
      input = omega arith;
    }
