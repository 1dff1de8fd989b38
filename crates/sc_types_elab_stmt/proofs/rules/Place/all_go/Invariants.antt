use Rattle.sc_types_elab_stmt.proofs.Common.{Scope, Suits, all_go, drop, goes_in, visible, ◌≡◌}
use Rattle.sc_types_elab_stmt.proofs.rules.Place.all_go.Given as goal

abbrev pub invariant-loop-i : goal.invariant-loop-i
invariant-loop-i l =
    (scope : Scope) → Suits (visible l.self.section.now l.self.function.now) scope →
    all_go (goes_in (visible l.self.section.now l.self.function.now) scope) (drop l.i l.params)
    (drop l.i l.args) ≡ all_go (goes_in (visible l.self.section.now l.self.function.now) scope) l.params l.args
