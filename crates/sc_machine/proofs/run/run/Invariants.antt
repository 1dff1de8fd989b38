use Rattle.sc_machine.proofs.Common.{CanRun, None, map, state_in, stopped, word_of, ◌≡◌}
use Rattle.sc_machine.proofs.Runs.{Stands}
use Rattle.sc_machine.proofs.run.run.Given as goal

abbrev pub invariant-loop-taken : goal.invariant-loop-taken
invariant-loop-taken g l = record {
  image : l.here.image ≡ l.program;
  comp : l.here.comp ≡ l.hart.active;
  early : stopped l.events l.hart.trace.items ≡ None;
  ready : CanRun l.program l.events l.hart (g.S.Store.bytes l.memory);
  stands : Stands l.program (map word_of l.inputs) l.events (state_in (g.S.Store.bytes l.fn.memory) l.fn.hart)
      l.taken (state_in (g.S.Store.bytes l.memory) l.hart);
}
