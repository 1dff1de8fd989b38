use Rattle.sc_machine.proofs.Common.{All, All-head, All-tail, Crossing, arith, crossing_of, length, length-append}
use Rattle.sc_machine.proofs.Common.{length-set, subst, ◌<◌, ◌∙◌}
use Rattle.sc_machine.proofs.returning.leave.Goals as goal

pub returns-clause-stays : goal.returns-clause-stays
returns-clause-stays c =
    let waits = λ (call : Crossing). call.caller < length c.args.here.now.image.comps in
    let latest : Crossing = crossing_of c.in-Some.call in
    let all = subst (All waits) c.in-Some.ensures.latest c.requires.ready.sound.callers in
    record {
      sound = record {
        place = record {
          formed = c.requires.ready.sound.place.formed;
          within = All-head waits latest c.ret.new.self.calls all;
        };
        callers = rw c.emit-2.ensures.cross (All-tail waits latest c.ret.new.self.calls all);
        saved = length-set c.emit-2.new.self.saved.items c.number.result c.in-Some.call.saved ∙
            rw c.emit-2.ensures.saved c.requires.ready.sound.saved;
        zones = rw c.emit-2.ensures.zones c.requires.ready.sound.zones;
        input = rw (c.emit-2.ensures.input, c.emit-2.ensures.trace)
            (simp length-append (omega (arith, c.requires.ready.sound.input)));
      };
      room = λ events has. record {
        trace = omega (arith, has.trace, c.emit-2.ensures.room);
        cross = rw (c.emit-2.ensures.cross, c.emit-2.ensures.trace)
            (simp length-append (omega (arith, has.cross, c.in-Some.ensures.room)));
      };
    }
