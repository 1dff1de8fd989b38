-- What this crate's contracts, its proofs and the crates above cite, passed on from one place. Declares nothing.
pub use Rattle.sc_monitor.specs.Laws.{IsViolation, NamesNoEvent}
pub use Rattle.sc_monitor.specs.Matching.{argument, compares, is_comp, is_who, matches, passes, passes_arg}
pub use Rattle.sc_monitor.specs.Verdict.{after_move, by_goal, by_rule, goal_of, is_compromised, move_at, rule_for}
pub use Rattle.sc_monitor.specs.Places.{matches_at}
pub use Rattle.sc_monitor.specs.Verdict.{verdict, verdict_from}
