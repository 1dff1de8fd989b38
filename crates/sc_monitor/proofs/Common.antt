-- The names that several proofs of this crate cite, passed on from one place. Declares nothing.
pub use Rattle.std.proofs.Common.{Bool, List, None, Option, Some, [], ap, arith, cond, drop, false, length, position}
pub use Rattle.std.proofs.Common.{refl}
pub use Rattle.std.proofs.Common.{slice_get, subst, suc, sym, take, true, zero, ℕ, ◌&&◌, ◌+◌, ◌<◌, ◌==◌, ◌∙◌, ◌∷◌, ◌≡◌}
pub use Rattle.std.proofs.Common.{if◌then◌else◌, zero-add}
pub use Rattle.std.proofs.Common.{slice_index}
pub use Rattle.std.proofs.lemmas.List.Quantifiers.{position-Some}
pub use Rattle.std.specs.List.{find}
pub use Rattle.std.specs.Option.{option_map, option_map_or}
pub use Rattle.sc_policy.specs.Prelude.{places_from, places_of}
pub use Rattle.sc_monitor.specs.Places.{matches_at}
pub use Rattle.sc_base.proofs.Lists.{drop-step, position-cons}
pub use Rattle.sc_event.specs.Prelude.{performer}
pub use Rattle.sc_event.specs.declared.event.Event.{Event}
pub use Rattle.sc_event.specs.declared.interface.Interfaces.{Interfaces}
pub use Rattle.sc_core.specs.declared.explanation.Explanation.{Explanation}
pub use Rattle.sc_core.specs.declared.explanation.Link.{Link}
pub use Rattle.sc_policy.specs.declared.policy.Policy.{Policy}
pub use Rattle.sc_policy.specs.declared.policy.Rule.{Rule}
pub use Rattle.sc_monitor.specs.Prelude.{IsViolation, NamesNoEvent, after_move, by_goal, by_rule, goal_of}
pub use Rattle.sc_monitor.specs.Prelude.{is_compromised}
pub use Rattle.sc_monitor.specs.Prelude.{matches, move_at, rule_for, verdict, verdict_from}
pub use Rattle.sc_monitor.specs.declared.judging.Move.{Move}
pub use Rattle.sc_monitor.specs.declared.judging.Move.TheVariants.{Goes, Breaks}
pub use Rattle.sc_monitor.specs.declared.verdict.Verdict.{Verdict}
pub use Rattle.sc_monitor.specs.declared.verdict.Verdict.TheVariants.{Holds, Violated}
