use Rattle.sc_types_elab_stmt.proofs.Common.{all_go, ap, called, goes_in, sym, visible, ◌∙◌}
use Rattle.std.specs.Option.{option_copied}
use Rattle.sc_types_elab_stmt.proofs.Ruled.{ok_map, args_go}
use Rattle.sc_types_elab_stmt.proofs.rules.Place.call_holds.Goals as goal

pub returns-in-Some : goal.returns-in-Some
returns-in-Some c scope suits =
    ok_map _ _ c.all_go.result (λ holds is. args_go (visible c.args.self.now.section.now c.args.self.now.function.now)
    scope ((called c.args.self.now.section.now.callees).signature c.args.call.now.name) c.params.result.now
    c.args.call.now.args holds (is ∙ (λ i. all_go
    (goes_in (visible c.args.self.now.section.now c.args.self.now.function.now) scope) c.params.result.now
    (c.as_slice.ensures i))) c.in-Some.signature.now
    (ap (called c.args.self.now.section.now.callees).signature (sym c.name.ensures.value) ∙
    sym c.signature.ensures ∙ ap option_copied c.in-Some.is) c.params.ensures) (c.all_go.ensures scope suits)
