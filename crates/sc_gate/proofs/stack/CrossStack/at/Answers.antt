use Rattle.std.proofs.Common.{ap, ◌∙◌}
use Rattle.sc_gate.proofs.Levels.{call_got}
use Rattle.sc_gate.specs.Waiting.{Waiting, call_at, crossing_of}
use Rattle.std.specs.List.{slice_get}
use Rattle.std.specs.Option.{option_map}
use Rattle.sc_gate.proofs.stack.CrossStack.at.Goals as goal

pub returns : goal.returns
returns c = ap (option_map crossing_of) (c.copied.ensures ∙ c.at.ensures) ∙
    ap (λ xs. option_map crossing_of (slice_get xs c.args.level)) c.deref.ensures.value ∙
    call_got crossing_of c.self.inside.entries.items c.args.level ∙
    ap (λ (s : Waiting). call_at s.calls c.args.level) c.self.view_is
