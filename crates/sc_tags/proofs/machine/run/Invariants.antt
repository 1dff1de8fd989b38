use Rattle.sc_machine.specs.Prelude.{word_of}
use Rattle.sc_tags.specs.Prelude.{tag_run}
use Rattle.sc_tags.specs.TagHart.{CanRunTagged, bytes_of, tagged_in}
use Rattle.sc_tags.proofs.Common.{None, stopped, ◌-◌, ◌≡◌}
use Rattle.std.proofs.Common.{map}
use Rattle.sc_tags.proofs.machine.run.Given as goal

abbrev pub invariant-loop : goal.invariant-loop
invariant-loop g l = record {
  image : l.tags.image ≡ l.loaded.program;
  comp : l.tags.comp ≡ l.hart.active;
  ranges : l.tags.ranges ≡ l.loaded.ranges;
  early : stopped l.loaded.events l.hart.trace.items ≡ None;
  ready : CanRunTagged l.loaded.program l.loaded.events l.hart (bytes_of g.S.Store.bytes l.memory);
  same : tag_run l.loaded.program l.loaded.ranges (map word_of l.loaded.inputs) l.loaded.events (l.steps - l.counter)
      (tagged_in (bytes_of g.S.Store.bytes l.memory) l.hart) ≡
      tag_run l.loaded.program l.loaded.ranges (map word_of l.loaded.inputs) l.loaded.events l.steps
      (tagged_in (bytes_of g.S.Store.bytes l.fn.memory) l.fn.hart);
}
